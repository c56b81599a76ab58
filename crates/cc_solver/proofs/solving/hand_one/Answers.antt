use Rattle.std.proofs.Common.{◌≡◌, ℕ, ◌+◌, inr, ⊎_elim, length, take, Some, Err, List, [], ◌∷◌, ◌++◌, sym, ap, ◌∙◌, subst, arith, slice_index_or, zero, suc, add-one}
use Rattle.std.specs.Prelude.{slice_get, Contains}
use Rattle.std.proofs.lemmas.Option.{slice_get-get_or, slice_get_within, get_or_from_slice_get}
use Rattle.std.proofs.lemmas.Result.{err_from_is_err_and}
use Rattle.cc_solver.specs.declared.rules.Pair.{Pair}
use Rattle.cc_solver.specs.Least.{Least, Hands}
use Rattle.cc_solver.proofs.Solved
use Rattle.cc_solver.proofs.solving.hand_one.Goals as goal
use Rattle.std.proofs.lemmas.List.{take_all}

take_next : (pairs : List Pair) (k : ℕ) (c : Pair) → slice_get pairs k ≡ Some c → take (k + 1) pairs ≡ take k pairs ++ c ∷ []
take_next pairs k c at = rw add-one (go pairs k c at)
  where
    go : (xs : List Pair) (j : ℕ) (x : Pair) → slice_get xs j ≡ Some x → take (suc j) xs ≡ take j xs ++ x ∷ []
    go [] j x a = absurd (let e = a in cc)
    go (y ∷ xs) zero x a = ap (λ z. z ∷ []) (let e : y ≡ x = (let q = a in cc) in e)
    go (y ∷ xs) (suc j) x a = ap (λ zs. y ∷ zs) (go xs j x a)

contains_at : (pairs : List Pair) (k : ℕ) (c : Pair) → slice_get pairs k ≡ Some c → Contains pairs c
contains_at pairs k c at = (k, slice_get_within pairs k c at, get_or_from_slice_get pairs k c c at)

Contains_nil : (pairs : List Pair) → pairs ≡ [] → (x : Pair) → Contains pairs x → ⊥
Contains_nil pairs e x is = absurd (let h = is.1 in let n = ap (λ (xs : List Pair). length xs) e in omega arith)

pub loop-pair-init : goal.loop-pair-init
loop-pair-init g c = record {
  state = c.requires.state;
  keeps = Solved.keeps_refl c.args.state.now;
  all = λ pair is. absurd (let h = is.1 in omega arith);
  on = λ given joins h delta next v. v;
}

pub add_pair-requires-clause-holder : goal.add_pair-requires-clause-holder
add_pair-requires-clause-holder g c =
    let i = c.loop-pair.pair-index in
    let items = c.deref-pair-items.result.now in
    let pair : Pair = slice_index_or items i (record { holder = 0; target = 0 }) in
    let at = slice_get-get_or items i (record { holder = 0; target = 0 }) c.loop-pair-test.true in
    let gives : g.R.Rules.gives c.args.rules.now c.args.holder c.args.target pair.holder pair.target = ⊎_elim
    (λ none. absurd (Contains_nil c.clear.new.self.items c.clear.ensures.items pair none))
    (λ a. a)
    ((c.in_ok-pairs.ensures pair).0 (subst (λ xs. Contains xs pair) c.deref-pair-items.ensures.value (contains_at items i pair at))) in
    let within = c.requires.gives c.args.holder c.args.target pair.holder pair.target gives in
    omega (arith, within, c.loop-pair.invariant.keeps.same_length)

pub loop-pair-preserved : goal.loop-pair-preserved
loop-pair-preserved g c =
    let i = c.loop-pair.pair-index in
    let items = c.deref-pair-items.result.now in
    let pair : Pair = slice_index_or items i (record { holder = 0; target = 0 }) in
    let at = slice_get-get_or items i (record { holder = 0; target = 0 }) c.loop-pair-test.true in
    let gives : g.R.Rules.gives c.args.rules.now c.args.holder c.args.target pair.holder pair.target = ⊎_elim
    (λ none. absurd (Contains_nil c.clear.new.self.items c.clear.ensures.items pair none))
    (λ a. a)
    ((c.in_ok-pairs.ensures pair).0 (subst (λ xs. Contains xs pair) c.deref-pair-items.ensures.value (contains_at items i pair at))) in
    let e = c.in_ok-add_pair.ensures in
    record {
      state = e.state;
      keeps = Solved.keeps_grows c.args.state.now c.loop-pair.state c.add_pair.new.state pair.holder (λ t. t ≡ pair.target) c.loop-pair.invariant.keeps e.grows e.edges;
      all = Solved.all_pairs_on items i pair c.loop-pair.state c.add_pair.new.state (take_next items i pair at) c.loop-pair.invariant.all e.grows e.got;
      on = λ given joins h delta next v.
          Solved.solves_grows given joins (g.R.Rules.adds c.args.rules.now) (g.R.Rules.gives c.args.rules.now) c.loop-pair.state c.add_pair.new.state _ _ pair.holder (λ t. t ≡ pair.target)
          (c.loop-pair.invariant.on given joins h delta next v) e.grows e.edges
          (λ t same. subst (Least given joins (g.R.Rules.adds c.args.rules.now) (g.R.Rules.gives c.args.rules.now) pair.holder) (sym same) (Hands (v.sound c.args.holder c.args.target c.requires.pair) gives));
    }

pub returns-in_err-add_pair-clause-many : goal.returns-in_err-add_pair-clause-many
returns-in_err-add_pair-clause-many g c =
    let i = c.loop-pair.pair-index in
    let items = c.deref-pair-items.result.now in
    let pair : Pair = slice_index_or items i (record { holder = 0; target = 0 }) in
    let at = slice_get-get_or items i (record { holder = 0; target = 0 }) c.loop-pair-test.true in
    let gives : g.R.Rules.gives c.args.rules.now c.args.holder c.args.target pair.holder pair.target = ⊎_elim
    (λ none. absurd (Contains_nil c.clear.new.self.items c.clear.ensures.items pair none))
    (λ a. a)
    ((c.in_ok-pairs.ensures pair).0 (subst (λ xs. Contains xs pair) c.deref-pair-items.ensures.value (contains_at items i pair at))) in
    λ is given joins h delta next v.
    let now = c.loop-pair.invariant.on given joins h delta next v in
    Solved.more_than given joins (g.R.Rules.adds c.args.rules.now) (g.R.Rules.gives c.args.rules.now) c.args.limits c.loop-pair.state c.add_pair.new.state pair.holder (λ t. t ≡ pair.target) now.sound
    (λ t same. subst (Least given joins (g.R.Rules.adds c.args.rules.now) (g.R.Rules.gives c.args.rules.now) pair.holder) (sym same) (Hands (v.sound c.args.holder c.args.target c.requires.pair) gives))
    (let p = err_from_is_err_and c.from_residual-in_err-add_pair.result c.from_residual-in_err-add_pair.ensures.1 in c.in_err-add_pair.ensures.many (ap Err (sym p.2) ∙ sym p.1 ∙ is))

pub returns-clause-all : goal.returns-clause-all
returns-clause-all g c =
    let items = c.deref-pair-items.result.now in
    let whole : take c.loop-pair.pair-index items ≡ items = take_all c.loop-pair.pair-index items c.loop-pair-test.false in
    λ x y gives. c.loop-pair.invariant.all (record { holder = x; target = y })
    (subst (λ xs. Contains xs (record { holder = x; target = y })) (sym whole) (subst (λ xs. Contains xs (record { holder = x; target = y })) (sym c.deref-pair-items.ensures.value) ((c.in_ok-pairs.ensures (record { holder = x; target = y })).1 (inr gives))))
