use Rattle.std.proofs.Common.{◌≡◌, ℕ, ◌+◌, inr, ⊎_elim, length, take, Some, Err, List, [], ◌∷◌, ◌++◌, sym, ap, ◌∙◌, subst, arith, slice_index_or, zero, suc, add-one}
use Rattle.std.specs.Prelude.{slice_get, Contains}
use Rattle.std.proofs.lemmas.Option.{slice_get-get_or, slice_get_within, get_or_from_slice_get}
use Rattle.std.proofs.lemmas.Result.{err_from_is_err_and}
use Rattle.cc_solver.specs.declared.rules.Edge.{Edge}
use Rattle.cc_solver.specs.Solving.{Has}
use Rattle.cc_solver.proofs.Solved
use Rattle.cc_solver.proofs.solving.trigger_one.Goals as goal
use Rattle.std.proofs.lemmas.List.{take_all}

take_next : (edges : List Edge) (k : ℕ) (c : Edge) → slice_get edges k ≡ Some c → take (k + 1) edges ≡ take k edges ++ c ∷ []
take_next edges k c at = rw add-one (go edges k c at)
  where
    go : (xs : List Edge) (j : ℕ) (x : Edge) → slice_get xs j ≡ Some x → take (suc j) xs ≡ take j xs ++ x ∷ []
    go [] j x a = absurd (let e = a in cc)
    go (y ∷ xs) zero x a = ap (λ z. z ∷ []) (let e : y ≡ x = (let q = a in cc) in e)
    go (y ∷ xs) (suc j) x a = ap (λ zs. y ∷ zs) (go xs j x a)

contains_at : (edges : List Edge) (k : ℕ) (c : Edge) → slice_get edges k ≡ Some c → Contains edges c
contains_at edges k c at = (k, slice_get_within edges k c at, get_or_from_slice_get edges k c c at)

Contains_nil : (edges : List Edge) → edges ≡ [] → (x : Edge) → Contains edges x → ⊥
Contains_nil edges e x is = absurd (let h = is.1 in let n = ap (λ (xs : List Edge). length xs) e in omega arith)

pub loop-edge-init : goal.loop-edge-init
loop-edge-init g c = record {
  state = c.requires.state;
  keeps = Solved.keeps_refl c.args.state.now;
  all = λ edge is. absurd (let h = is.1 in omega arith);
  on = λ given joins h delta next v. v;
}

pub add_edge-requires-clause-from : goal.add_edge-requires-clause-from
add_edge-requires-clause-from g c =
    let i = c.loop-edge.edge-index in
    let items = c.deref-edge-items.result.now in
    let edge : Edge = slice_index_or items i (record { from = 0; to = 0 }) in
    let at = slice_get-get_or items i (record { from = 0; to = 0 }) c.loop-edge-test.true in
    let more : take (i + 1) items ≡ take i items ++ edge ∷ [] = take_next items i edge at in
    let adds : g.R.Rules.adds c.args.rules.now c.args.holder c.args.target edge.from edge.to = ⊎_elim
    (λ none. absurd (Contains_nil c.clear.new.self.items c.clear.ensures.items edge none))
    (λ a. a)
    ((c.in_ok-edges.ensures edge).0 (subst (λ xs. Contains xs edge) c.deref-edge-items.ensures.value (contains_at items i edge at))) in
    let within = c.requires.adds c.args.holder c.args.target edge.from edge.to adds in
    omega (arith, within.0, c.loop-edge.invariant.keeps.same_length)

pub add_edge-requires-clause-to : goal.add_edge-requires-clause-to
add_edge-requires-clause-to g c =
    let i = c.loop-edge.edge-index in
    let items = c.deref-edge-items.result.now in
    let edge : Edge = slice_index_or items i (record { from = 0; to = 0 }) in
    let at = slice_get-get_or items i (record { from = 0; to = 0 }) c.loop-edge-test.true in
    let more : take (i + 1) items ≡ take i items ++ edge ∷ [] = take_next items i edge at in
    let adds : g.R.Rules.adds c.args.rules.now c.args.holder c.args.target edge.from edge.to = ⊎_elim
    (λ none. absurd (Contains_nil c.clear.new.self.items c.clear.ensures.items edge none))
    (λ a. a)
    ((c.in_ok-edges.ensures edge).0 (subst (λ xs. Contains xs edge) c.deref-edge-items.ensures.value (contains_at items i edge at))) in
    let within = c.requires.adds c.args.holder c.args.target edge.from edge.to adds in
    omega (arith, within.1, c.loop-edge.invariant.keeps.same_length)

pub loop-edge-preserved : goal.loop-edge-preserved
loop-edge-preserved g c =
    let i = c.loop-edge.edge-index in
    let items = c.deref-edge-items.result.now in
    let edge : Edge = slice_index_or items i (record { from = 0; to = 0 }) in
    let at = slice_get-get_or items i (record { from = 0; to = 0 }) c.loop-edge-test.true in
    let more : take (i + 1) items ≡ take i items ++ edge ∷ [] = take_next items i edge at in
    let adds : g.R.Rules.adds c.args.rules.now c.args.holder c.args.target edge.from edge.to = ⊎_elim
    (λ none. absurd (Contains_nil c.clear.new.self.items c.clear.ensures.items edge none))
    (λ a. a)
    ((c.in_ok-edges.ensures edge).0 (subst (λ xs. Contains xs edge) c.deref-edge-items.ensures.value (contains_at items i edge at))) in
    let within = c.requires.adds c.args.holder c.args.target edge.from edge.to adds in
    let links = c.in_ok-add_edge.ensures.links in
    record {
      state = c.in_ok-add_edge.ensures.state;
      keeps = Solved.keeps_links c.args.state.now c.loop-edge.state c.add_edge.new.state edge.from edge.to c.loop-edge.invariant.keeps links;
      all = Solved.all_on items i edge c.loop-edge.state c.add_edge.new.state more c.loop-edge.invariant.all links;
      on = λ given joins h delta next v.
          Solved.solves_links given joins (g.R.Rules.adds c.args.rules.now) (g.R.Rules.gives c.args.rules.now) c.loop-edge.state c.add_edge.new.state _ _ edge.from edge.to
          (c.loop-edge.invariant.on given joins h delta next v) links (inr (c.args.holder, c.args.target, v.sound c.args.holder c.args.target c.requires.pair, adds));
    }

pub returns-in_err-add_edge-clause-many : goal.returns-in_err-add_edge-clause-many
returns-in_err-add_edge-clause-many g c =
    let i = c.loop-edge.edge-index in
    let items = c.deref-edge-items.result.now in
    let edge : Edge = slice_index_or items i (record { from = 0; to = 0 }) in
    let at = slice_get-get_or items i (record { from = 0; to = 0 }) c.loop-edge-test.true in
    let more : take (i + 1) items ≡ take i items ++ edge ∷ [] = take_next items i edge at in
    let adds : g.R.Rules.adds c.args.rules.now c.args.holder c.args.target edge.from edge.to = ⊎_elim
    (λ none. absurd (Contains_nil c.clear.new.self.items c.clear.ensures.items edge none))
    (λ a. a)
    ((c.in_ok-edges.ensures edge).0 (subst (λ xs. Contains xs edge) c.deref-edge-items.ensures.value (contains_at items i edge at))) in
    let within = c.requires.adds c.args.holder c.args.target edge.from edge.to adds in
    λ is given joins h delta next v.
    let now = c.loop-edge.invariant.on given joins h delta next v in
    let e = Solved.along given joins (g.R.Rules.adds c.args.rules.now) (g.R.Rules.gives c.args.rules.now) edge.from edge.to in
    Solved.more_than given joins (g.R.Rules.adds c.args.rules.now) (g.R.Rules.gives c.args.rules.now) c.args.limits c.loop-edge.state c.add_edge.new.state edge.to (Has c.loop-edge.state.pairs edge.from) now.sound
    (λ t src. e t (inr (c.args.holder, c.args.target, v.sound c.args.holder c.args.target c.requires.pair, adds)) (now.sound edge.from t src))
    (let p = err_from_is_err_and c.from_residual-in_err-add_edge.result c.from_residual-in_err-add_edge.ensures.1 in c.in_err-add_edge.ensures.many (ap Err (sym p.2) ∙ sym p.1 ∙ is))

pub returns-clause-all : goal.returns-clause-all
returns-clause-all g c =
    let items = c.deref-edge-items.result.now in
    let whole : take c.loop-edge.edge-index items ≡ items = take_all c.loop-edge.edge-index items c.loop-edge-test.false in
    λ x y adds. c.loop-edge.invariant.all (record { from = x; to = y })
    (subst (λ xs. Contains xs (record { from = x; to = y })) (sym whole) (subst (λ xs. Contains xs (record { from = x; to = y })) (sym c.deref-edge-items.ensures.value) ((c.in_ok-edges.ensures (record { from = x; to = y })).1 (inr adds))))
