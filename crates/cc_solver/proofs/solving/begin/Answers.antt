use Rattle.std.proofs.Common.{◌≡◌, ℕ, ◌+◌, length, take, Some, Err, List, [], ◌∷◌, ◌++◌, sym, ap, ◌∙◌, subst, arith, slice_index_or}
use Rattle.std.specs.Prelude.{slice_get, Contains, Result}
use Rattle.std.proofs.lemmas.Option.{slice_get-get_or}
use Rattle.cc_solver.specs.declared.rules.Pair.{Pair}
use Rattle.cc_solver.specs.declared.rules.Edge.{Edge}
use Rattle.cc_solver.specs.Solving.{Begins}
use Rattle.cc_solver.proofs.Linked
use Rattle.cc_solver.proofs.solving.begin.Goals as goal
use Rattle.std.proofs.Common.{zero, suc, add-one, take-append-drop, drop}
use Rattle.std.proofs.lemmas.List.{take_all}
use Rattle.std.proofs.lemmas.List.Elements.{Contains-append_left}
use Rattle.std.proofs.lemmas.Option.{slice_get_within, get_or_from_slice_get}
use Rattle.std.proofs.lemmas.Result.{err_from_is_err_and}
use Rattle.cc_solver.proofs.Begun
use Rattle.cc_solver.proofs.Counted

take_next : {X : Type 0} (xs : List X) (k : ℕ) (x : X) → slice_get xs k ≡ Some x → take (k + 1) xs ≡ take k xs ++ x ∷ []
take_next {X = X} xs k x at = rw add-one (go xs k x at)
  where
    go : (ys : List X) (j : ℕ) (y : X) → slice_get ys j ≡ Some y → take (suc j) ys ≡ take j ys ++ y ∷ []
    go [] j y a = absurd (let e = a in cc)
    go (z ∷ ys) zero y a = ap (λ w. w ∷ []) (let e : z ≡ y = (let q = a in cc) in e)
    go (z ∷ ys) (suc j) y a = ap (λ ws. z ∷ ws) (go ys j y a)

contains_at : {X : Type 0} (xs : List X) (k : ℕ) (x : X) → slice_get xs k ≡ Some x → Contains xs x
contains_at xs k x at = (k, slice_get_within xs k x at, get_or_from_slice_get xs k x x at)

contains_take : {X : Type 0} (xs : List X) (k : ℕ) (x : X) → Contains (take k xs) x → Contains xs x
contains_take xs k x is = subst (λ ys. Contains ys x) (take-append-drop k xs) (Contains-append_left (take k xs) (drop k xs) x is)

error_is : {X : Type 0} {Y : Type 0} (r : Result X Y) (x y e : Y) → r ≡ Err x → x ≡ y → r ≡ Err e → y ≡ e
error_is r x y e a b c = let d : x ≡ e = cc in sym b ∙ d

pub loop-edge-init : goal.loop-edge-init
loop-edge-init c =
    let p = c.in_ok-new.ensures in
    let f = c.in_ok-new-2.ensures in
    let e = c.in_ok-new-3.ensures in
    record {
      state = record {
        fresh_length = f.holders ∙ sym p.holders;
        edges_length = e.holders ∙ sym p.holders;
        pending = λ h t is. absurd (let z = f.none h t in omega arith);
        inside = λ h t is. absurd (let z = f.none h t in omega arith);
        work_within = λ h is. absurd (let lt = is.1 in let n = ap (λ (xs : List ℕ). length xs) c.new-4.ensures.items in omega arith);
        edges_within = λ x y is. absurd (let z = e.none x y in omega arith);
        counted = sym p.count;
        limited = omega arith;
        told_is = sym (Counted.none_told _ c.args.limits.counters p.none p.count);
        told_limited = omega arith;
      };
      long = p.holders;
      begins = Begun.begins_none _ p.none e.none;
    }

pub add-requires : goal.add-requires
add-requires c =
    let i = c.loop-edge.edge-index in
    let items = c.args.joins.now in
    let edge : Edge = slice_index_or items i (record { from = 0; to = 0 }) in
    let at = slice_get-get_or items i (record { from = 0; to = 0 }) c.loop-edge-test.true in
    let within = c.requires.joins edge (contains_at items i edge at) in
    let inv = c.loop-edge.invariant in
    omega (arith, within.0, inv.long, inv.state.edges_length)

pub loop-edge-preserved : goal.loop-edge-preserved
loop-edge-preserved c =
    let i = c.loop-edge.edge-index in
    let items = c.args.joins.now in
    let edge : Edge = slice_index_or items i (record { from = 0; to = 0 }) in
    let at = slice_get-get_or items i (record { from = 0; to = 0 }) c.loop-edge-test.true in
    let within = c.requires.joins edge (contains_at items i edge at) in
    let inv = c.loop-edge.invariant in
    let s = c.loop-edge.state in
    let e = c.in_ok-add.ensures in
    record {
      state = Linked.edges_state c.args.limits s c.add.new.self edge.from edge.to e.at e.others c.add.ensures.holders inv.state (omega (arith, within.1, inv.long));
      long = inv.long;
      begins = rw (take_next items i edge at) (Begun.begins_edge s c.add.new.self (take i items) edge inv.begins e.at e.others);
    }

pub loop-pair-init : goal.loop-pair-init
loop-pair-init c =
    let items = c.args.joins.now in
    let whole : take c.loop-edge.edge-index items ≡ items = take_all c.loop-edge.edge-index items c.loop-edge-test.false in
    record {
      state = c.loop-edge.invariant.state;
      long = c.loop-edge.invariant.long;
      begins = subst (λ xs. Begins [] xs c.loop-edge.state) whole c.loop-edge.invariant.begins;
    }

pub add_pair-requires-clause-holder : goal.add_pair-requires-clause-holder
add_pair-requires-clause-holder c =
    let i = c.loop-pair.pair-index in
    let items = c.args.given.now in
    let pair : Pair = slice_index_or items i (record { holder = 0; target = 0 }) in
    let at = slice_get-get_or items i (record { holder = 0; target = 0 }) c.loop-pair-test.true in
    let here = contains_at items i pair at in
    let within = c.requires.given pair here in
    let inv = c.loop-pair.invariant in
    omega (arith, within, inv.long)

pub loop-pair-preserved : goal.loop-pair-preserved
loop-pair-preserved c =
    let i = c.loop-pair.pair-index in
    let items = c.args.given.now in
    let pair : Pair = slice_index_or items i (record { holder = 0; target = 0 }) in
    let at = slice_get-get_or items i (record { holder = 0; target = 0 }) c.loop-pair-test.true in
    let here = contains_at items i pair at in
    let within = c.requires.given pair here in
    let inv = c.loop-pair.invariant in
    let e = c.in_ok-add_pair.ensures in
    record {
      state = e.state;
      long = e.grows.same_length ∙ inv.long;
      begins = rw (take_next items i pair at) (Begun.begins_pair c.loop-pair.state c.add_pair.new.state (take i items) c.args.joins.now pair inv.begins e.grows e.got e.edges);
    }

pub returns-in_err-add_pair-clause-many : goal.returns-in_err-add_pair-clause-many
returns-in_err-add_pair-clause-many c = λ is.
    let i = c.loop-pair.pair-index in
    let items = c.args.given.now in
    let pair : Pair = slice_index_or items i (record { holder = 0; target = 0 }) in
    let at = slice_get-get_or items i (record { holder = 0; target = 0 }) c.loop-pair-test.true in
    let here = contains_at items i pair at in
    let within = c.requires.given pair here in
    let inv = c.loop-pair.invariant in
    let p = err_from_is_err_and c.from_residual-in_err-add_pair.result c.from_residual-in_err-add_pair.ensures.1 in
    let x = c.in_err-add_pair.ensures.many (ap Err (error_is _ p.0 _ _ p.1 p.2 is)) in
    Begun.many_given c.args.limits c.loop-pair.state c.add_pair.new.state items (take i items) c.args.joins.now pair (λ y k. contains_take items i y k) here inv.begins x

pub returns-clause-begins : goal.returns-clause-begins
returns-clause-begins c =
    let items = c.args.given.now in
    let whole : take c.loop-pair.pair-index items ≡ items = take_all c.loop-pair.pair-index items c.loop-pair-test.false in
    subst (λ xs. Begins xs c.args.joins.now c.loop-pair.state) whole c.loop-pair.invariant.begins
