-- The first state.
use Rattle.std.proofs.Common.{◌≡◌, ◌≢◌, ℕ, ⊎_elim, List, [], ◌∷◌, ◌++◌, sym, ap, ◌∙◌, subst, arith}
use Rattle.std.specs.Prelude.{Contains}
use Rattle.std.proofs.lemmas.List.Elements.{Contains-push, Contains-push_cases, Contains-append_left}
use Rattle.cc_blocks.specs.declared.table.Rows.{Rows}
use Rattle.cc_blocks.specs.Pairs.{pair_bit}
use Rattle.cc_solver.specs.declared.rules.Pair.{Pair}
use Rattle.cc_solver.specs.declared.rules.Edge.{Edge}
use Rattle.cc_solver.specs.declared.state.State.{State}
use Rattle.cc_solver.specs.declared.state.Limits.{Limits}
use Rattle.cc_solver.specs.Least.{HasMore}
use Rattle.cc_solver.specs.Solving.{Has, Grows, Exceeds, Begins}
use Rattle.cc_solver.proofs.Counted.{has_more}
use Rattle.cc_solver.proofs.Linked

contains_none : {X : Type 0} (x : X) → Contains [] x → ⊥
contains_none x is = let h = is.1 in omega arith

pub begins_none : (s : State) → ((h t : ℕ) → pair_bit s.pairs.rows.items h t ≡ 0) → ((h t : ℕ) → pair_bit s.edges.rows.items h t ≡ 0) → Begins [] [] s
begins_none s no_pair no_edge = record {
  given_is = λ h t is. absurd (contains_none (record { holder = h; target = t }) is);
  is_given = λ h t is. absurd (let z = no_pair h t in omega arith);
  joins_is = λ g h is. absurd (contains_none (record { from = g; to = h }) is);
  is_join = λ g h is. absurd (let z = no_edge g h in omega arith);
  all_fresh = λ h t is. absurd (let z = no_pair h t in omega arith);
}

pub begins_edge : (s : State) (edges : Rows) (joins : List Edge) (e : Edge) → Begins [] joins s → pair_bit edges.rows.items e.from e.to ≡ 1 → ((h t : ℕ) → (h ≡ e.from → t ≢ e.to) → pair_bit edges.rows.items h t ≡ pair_bit s.edges.rows.items h t) → Begins [] (joins ++ e ∷ []) (record s { edges = edges })
begins_edge s edges joins e b at others = record {
  given_is = b.given_is;
  is_given = b.is_given;
  joins_is = λ g h is. ⊎_elim
      (λ old. Linked.edges_kept s.edges edges e.from e.to at others g h (b.joins_is g h old))
      (λ new. subst (λ (x : Edge). Has edges x.from x.to) new at)
      (Contains-push_cases joins e (record { from = g; to = h }) is);
  is_join = λ g h is. ⊎_elim
      (λ old. Contains-append_left joins (e ∷ []) (record { from = g; to = h }) (b.is_join g h old))
      (λ new. subst (Contains (joins ++ e ∷ [])) (ap (λ x. record { from = x; to = e.to }) (sym new.0) ∙ ap (λ y. record { from = g; to = y }) (sym new.1)) (Contains-push joins e))
      (Linked.edges_only s.edges edges e.from e.to at others g h is);
  all_fresh = b.all_fresh;
}

pub begins_pair : (s s' : State) (given : List Pair) (joins : List Edge) (p : Pair) → Begins given joins s → Grows s s' p.holder (λ t. t ≡ p.target) → Has s'.pairs p.holder p.target → s'.edges.rows.items ≡ s.edges.rows.items → Begins (given ++ p ∷ []) joins s'
begins_pair s s' given joins p b l got same = record {
  given_is = λ h t is. ⊎_elim
      (λ old. l.kept h t (b.given_is h t old))
      (λ new. subst (λ (x : Pair). Has s'.pairs x.holder x.target) new got)
      (Contains-push_cases given p (record { holder = h; target = t }) is);
  is_given = λ h t is. ⊎_elim
      (λ old. Contains-append_left given (p ∷ []) (record { holder = h; target = t }) (b.is_given h t old))
      (λ new. subst (Contains (given ++ p ∷ [])) (ap (λ x. record { holder = x; target = p.target }) (sym new.0) ∙ ap (λ y. record { holder = h; target = y }) (sym new.1)) (Contains-push given p))
      (l.only h t is);
  joins_is = λ g h is. ap (λ xs. pair_bit xs g h) same ∙ b.joins_is g h is;
  is_join = λ g h is. b.is_join g h (ap (λ xs. pair_bit xs g h) (sym same) ∙ is);
  all_fresh = λ h t is. ⊎_elim (λ old. l.fresh_kept h t (b.all_fresh h t old)) (λ f. f) (l.news h t is);
}

pub many_given : (limits : Limits) (s s' : State) (given part : List Pair) (joins : List Edge) (p : Pair) → ((x : Pair) → Contains part x → Contains given x) → Contains given p → Begins part joins s → Exceeds limits s s' p.holder (λ t. t ≡ p.target) → HasMore limits (λ h t. Contains given (record { holder = h; target = t }))
many_given limits s s' given part joins p inside here b x = has_more limits s'.pairs.rows.items _ x.many (λ h t is. ⊎_elim
    (λ old. inside (record { holder = h; target = t }) (b.is_given h t old))
    (λ new. subst (Contains given) (ap (λ y. record { holder = y; target = p.target }) (sym new.0) ∙ ap (λ y. record { holder = h; target = y }) (sym new.1)) here)
    (x.only h t is))
