-- The solver's rows are the facts.
use Rattle.std.proofs.Common.{ℕ, ◌+◌, ◌-◌, ◌<◌, ◌≡◌, inl, inr, ⊎_elim, List, [], ◌∷◌, ◌++◌, length, replicate, refl, sym, ◌∙◌, subst, arith}
use Rattle.std.specs.Prelude.{Contains}
use Rattle.std.proofs.lemmas.Bool.{cases_lt}
use Rattle.std.proofs.lemmas.List.Elements.{Contains-push_cases}
use Rattle.cc_points_base.specs.Parts.{slots_in}
use Rattle.cc_points_base.specs.declared.view.View.{View}
use Rattle.cc_points_base.specs.declared.constraint.Constraint.TheVariants.{Has, Joins, Watches}
use Rattle.cc_points_base.specs.declared.constraint.Watch.{Watch}
use Rattle.cc_points_base.specs.Layouts.{layout_of, slot, place}
use Rattle.cc_points_base.specs.Facts.{PartOf, Fact, MayBe, MayHold, Derives, IsPointsTo, IsWithin}
use Rattle.cc_solver.specs.declared.rules.Pair.{Pair}
use Rattle.cc_solver.specs.declared.rules.Edge.{Edge}
use Rattle.cc_solver.specs.declared.state.Limits.{Limits}
use Rattle.cc_solver.specs.Least.{Least, HasMore}
use Rattle.cc_points_solve.specs.Problems.{givens, all_joins, row_of, tabled}
use Rattle.cc_points_solve.specs.Watching.{AddsEdge, GivesPair}
use Rattle.cc_points_solve.specs.Law.{holder_of, target_of, holders_of, IsFactWithin, HasMoreFacts}
use Rattle.cc_points_solve.specs.Solving.{asked_by}
use Rattle.cc_points_solve.proofs.Lists.{none, cons_cases}
use Rattle.cc_points_solve.proofs.Sorted.{givens_has, givens_only, joins_has, joins_only, table_has, table_only}
use Rattle.cc_points_solve.proofs.Ranges.{all_within, edge_within, pair_within}
use Rattle.cc_points_solve.proofs.Numbers.{value_is, slot_is}
use Rattle.cc_points_solve.proofs.Knowing.{Knows}
use Rattle.cc_points_solve.proofs.Covered.{covered, part}
use Rattle.cc_points_solve.proofs.Right.{is_fact, is_part_of}

module _ (P : View) (given : List Pair) (joins : List Edge) (table : List (List Watch))
    (e_given : given ≡ givens (asked_by P) []) (e_joins : joins ≡ all_joins (asked_by P) []) (e_table : table ≡ tabled (asked_by P) (replicate (holders_of (layout_of P)) [])) where
  abbrev Adds : ℕ → ℕ → ℕ → ℕ → Type 0
  Adds p q g h = AddsEdge P (layout_of P) (row_of table p) q (record { from = g; to = h })

  abbrev Gives : ℕ → ℕ → ℕ → ℕ → Type 0
  Gives p q h t = GivesPair P (row_of table p) q (record { holder = h; target = t })

  pub given_only : (p : Pair) → Contains given p → Contains (asked_by P) (Has p.holder p.target)
  given_only p is = ⊎_elim (λ never. absurd (none p never)) (λ y. y) (givens_only (asked_by P) [] p (subst (λ xs. Contains xs p) e_given is))

  pub edge_only : (e : Edge) → Contains joins e → Contains (asked_by P) (Joins e.from e.to)
  edge_only e is = ⊎_elim (λ never. absurd (none e never)) (λ y. y) (joins_only (asked_by P) [] e (subst (λ xs. Contains xs e) e_joins is))

  pub watch_only : (p : ℕ) (w : Watch) → Contains (row_of table p) w → Contains (asked_by P) (Watches p w)
  watch_only p w is = table_only (asked_by P) (holders_of (layout_of P)) p w (subst (λ xs. Contains (row_of xs p) w) e_table is)

  pub given_within : (p : Pair) → Contains given p → p.holder < holders_of (layout_of P)
  given_within p is = all_within P (Has p.holder p.target) (given_only p is)

  pub joins_within : (e : Edge) → Contains joins e → (e.from < holders_of (layout_of P)) × (e.to < holders_of (layout_of P))
  joins_within e is = all_within P (Joins e.from e.to) (edge_only e is)

  pub adds_within : (p q g h : ℕ) → Adds p q g h → (g < holders_of (layout_of P)) × (h < holders_of (layout_of P))
  adds_within p q g h a = edge_within (layout_of P) P a.0 q g h (all_within P (Watches p a.0) (watch_only p a.0 a.1)).1 a.2

  pub gives_within : (p q h t : ℕ) → Gives p q h t → h < holders_of (layout_of P)
  gives_within p q h t a = pair_within (layout_of P) P a.0 q h t (all_within P (Watches p a.0) (watch_only p a.0 a.1)).1 a.2

  pub knows : Knows P (layout_of P) (holders_of (layout_of P)) (asked_by P) given joins Adds Gives
  knows = record {
    given_has = λ h t is. subst (λ xs. Contains xs (record { holder = h; target = t })) (sym e_given) (givens_has (asked_by P) [] (record { holder = h; target = t }) (inr is));
    given_only = λ h t is. given_only (record { holder = h; target = t }) is;
    joins_has = λ g h is. subst (λ xs. Contains xs (record { from = g; to = h })) (sym e_joins) (joins_has (asked_by P) [] (record { from = g; to = h }) (inr is));
    joins_only = λ g h is. edge_only (record { from = g; to = h }) is;
    adds_has = λ p q g h w is e. (w, subst (λ xs. Contains (row_of xs p) w) (sym e_table) (table_has (asked_by P) (holders_of (layout_of P)) p w (all_within P (Watches p w) is).0 is), e);
    adds_only = λ p q g h a. (a.0, watch_only p a.0 a.1, a.2);
    gives_has = λ p q h t w is e. (w, subst (λ xs. Contains (row_of xs p) w) (sym e_table) (table_has (asked_by P) (holders_of (layout_of P)) p w (all_within P (Watches p w) is).0 is), e);
    gives_only = λ p q h t a. (a.0, watch_only p a.0 a.1, a.2);
  }

  -- each derived fact is a pair
  pub derived : (earlier facts : List Fact) → ((f : Fact) → Contains earlier f → Least given joins Adds Gives (holder_of (layout_of P) f) (target_of f)) → Derives P earlier facts →
      (f : Fact) → Contains facts f → Least given joins Adds Gives (holder_of (layout_of P) f) (target_of f)
  derived earlier [] ok d f is = absurd (none f is)
  derived earlier (x ∷ facts) ok d f is =
      let now = covered P given joins Adds Gives knows (Contains earlier) ok x d.0 in
      ⊎_elim
      (λ e. subst (λ y. Least given joins Adds Gives (holder_of (layout_of P) y) (target_of y)) e now)
      (λ more. derived (earlier ++ x ∷ []) facts (λ g c. ⊎_elim (ok g) (λ e. subst (λ y. Least given joins Adds Gives (holder_of (layout_of P) y) (target_of y)) e now) (Contains-push_cases earlier x g c)) d.1 f more)
      (cons_cases x facts f is)

  module _ (within : IsWithin P) (facts : List Fact) (is : IsPointsTo P facts) where
    pub to_pair : (f : Fact) → Contains facts f → Least given joins Adds Gives (holder_of (layout_of P) f) (target_of f)
    to_pair f c = derived [] facts (λ g never. absurd (none g never)) is.derived f c

    pub to_fact : (f : Fact) → IsFactWithin P f → Least given joins Adds Gives (holder_of (layout_of P) f) (target_of f) → Contains facts f
    to_fact f w l = is_fact P (Contains facts) within is.closed given joins Adds Gives knows f w l

    pub from_part : (n q : ℕ) → PartOf P (Contains facts) n q → Least given joins Adds Gives (place (layout_of P) n) q
    from_part n q p = part P given joins Adds Gives knows (Contains facts) to_pair n q p

    pub to_part : (n q : ℕ) → n < length P.nodes → Least given joins Adds Gives (place (layout_of P) n) q → PartOf P (Contains facts) n q
    to_part n q lt l = is_part_of P (Contains facts) within is.closed given joins Adds Gives knows n q lt l

    -- a pair of a holder that counts is a fact
    pair_fact : (h t : ℕ) → h < length P.nodes + slots_in P → Least given joins Adds Gives h t → (f : Fact) × IsFactWithin P f × Contains facts f × (holder_of (layout_of P) f ≡ h) × (target_of f ≡ t)
    pair_fact h t lt l = elim (cases_lt h (length P.nodes)) [
      | inl low ↦ (let e = value_is (layout_of P) h low in (MayBe h t, low, to_fact (MayBe h t) low (subst (λ x. Least given joins Adds Gives x t) (sym e) l), e, refl))
      | inr ge ↦
          (let s = h - length P.nodes in
          let low : s < slots_in P = omega (arith, lt, ge) in
          let e : slot (layout_of P) s ≡ h = slot_is (layout_of P) s low ∙ omega (arith, ge) in
          (MayHold s t, low, to_fact (MayHold s t) low (subst (λ x. Least given joins Adds Gives x t) (sym e) l), e, refl))
    ]

    pub more_facts : (limits : Limits) → limits.counters ≡ length P.nodes + slots_in P → HasMore limits (Least given joins Adds Gives) → HasMoreFacts P facts limits.most
    more_facts limits e more = (more.0, more.1, λ h t bit. let x = more.2 h t bit in pair_fact h t (omega (arith, x.0, e)) x.1)

    pub more_pairs : (limits : Limits) → limits.counters ≡ length P.nodes + slots_in P → HasMoreFacts P facts limits.most → HasMore limits (Least given joins Adds Gives)
    more_pairs limits e more = (
      more.0,
      more.1,
      λ h t bit. let x = more.2 h t bit in
          (subst (λ y. y < limits.counters) x.3 (counts limits e x.0 x.1), subst (λ y. Least given joins Adds Gives y t) x.3 (subst (Least given joins Adds Gives (holder_of (layout_of P) x.0)) x.4 (to_pair x.0 x.2))),
    )
      where
        counts : (limits : Limits) → limits.counters ≡ length P.nodes + slots_in P → (f : Fact) → IsFactWithin P f → holder_of (layout_of P) f < limits.counters
        counts limits e (MayBe n t) low = omega (arith, value_is (layout_of P) n low, e)
        counts limits e (MayHold s t) low = omega (arith, slot_is (layout_of P) s low, e)
