-- What the solver's answers say of the facts.
use Rattle.std.proofs.Common.{ℕ, ◌+◌, ◌<◌, ◌≡◌, List, [], replicate, sym, ap, ◌∙◌, subst}
use Rattle.std.specs.Prelude.{Contains, ◌↔◌}
use Rattle.cc_blocks.specs.declared.row.Row.{Row}
use Rattle.cc_blocks.specs.Pairs.{pair_bit}
use Rattle.cc_points_base.specs.declared.view.View.{View}
use Rattle.cc_points_base.specs.declared.layout.Layout.{Layout}
use Rattle.cc_points_base.specs.declared.constraint.Watch.{Watch}
use Rattle.cc_points_base.specs.Layouts.{layout_of, place}
use Rattle.cc_solver.specs.declared.rules.Pair.{Pair}
use Rattle.cc_solver.specs.declared.rules.Edge.{Edge}
use Rattle.cc_solver.specs.declared.state.Limits.{Limits}
use Rattle.cc_solver.specs.Least.{Least, HasMore}
use Rattle.cc_points_solve.specs.Problems.{givens, all_joins, row_of, tabled}
use Rattle.cc_points_solve.specs.Watching.{AddsEdge, GivesPair}
use Rattle.cc_points_solve.specs.Law.{holder_of, target_of, holders_of, FactsExist, TellsFacts, TellsParts, FitFacts, AreTooMany}
use Rattle.cc_points_solve.specs.Solving.{asked_by}
use Rattle.cc_points_solve.proofs.Known
use Rattle.cc_points_solve.proofs.Exists.{facts_exist}

abbrev Adds : View → Layout → List (List Watch) → ℕ → ℕ → ℕ → ℕ → Type 0
Adds P L table p q g h = AddsEdge P L (row_of table p) q (record { from = g; to = h })

abbrev Gives : View → List (List Watch) → ℕ → ℕ → ℕ → ℕ → Type 0
Gives P table p q h t = GivesPair P (row_of table p) q (record { holder = h; target = t })

module _ (P : View) (L : Layout) (given : List Pair) (joins : List Edge) (table : List (List Watch)) (e_layout : L ≡ layout_of P)
    (e_given : given ≡ givens (asked_by P) []) (e_joins : joins ≡ all_joins (asked_by P) []) (e_table : table ≡ tabled (asked_by P) (replicate (holders_of (layout_of P)) [])) where
  pub adds_within : (p q g h : ℕ) → Adds P L table p q g h → (g < holders_of (layout_of P)) × (h < holders_of (layout_of P))
  adds_within p q g h a = Known.adds_within P given joins table e_given e_joins e_table p q g h (subst (λ M. Adds P M table p q g h) e_layout a)

  pub gives_within : (p q h t : ℕ) → Gives P table p q h t → h < holders_of (layout_of P)
  gives_within = Known.gives_within P given joins table e_given e_joins e_table

  pub given_within : (p : Pair) → Contains given p → p.holder < holders_of (layout_of P)
  given_within = Known.given_within P given joins table e_given e_joins e_table

  pub joins_within : (e : Edge) → Contains joins e → (e.from < holders_of (layout_of P)) × (e.to < holders_of (layout_of P))
  joins_within = Known.joins_within P given joins table e_given e_joins e_table

  pub tells : (rows : List Row) → ((h t : ℕ) → (pair_bit rows h t ≡ 1) ↔ Least given joins (Adds P L table) (Gives P table) h t) → TellsFacts P rows
  tells rows exact within facts is f lt =
      let exact' : (h t : ℕ) → (pair_bit rows h t ≡ 1) ↔ Least given joins (Adds P (layout_of P) table) (Gives P table) h t = subst (λ M. (h t : ℕ) → (pair_bit rows h t ≡ 1) ↔ Least given joins (Adds P M table) (Gives P table) h t) e_layout exact in
      let at = exact' (holder_of (layout_of P) f) (target_of f) in
      (λ c. at.1 (Known.to_pair P given joins table e_given e_joins e_table within facts is f c), λ bit. Known.to_fact P given joins table e_given e_joins e_table within facts is f lt (at.0 bit))

  pub exist : (rows : List Row) → ((h t : ℕ) → (pair_bit rows h t ≡ 1) ↔ Least given joins (Adds P L table) (Gives P table) h t) → FactsExist P
  exist rows exact within = facts_exist P given joins table e_given e_joins e_table rows
      (subst (λ M. (h t : ℕ) → (pair_bit rows h t ≡ 1) ↔ Least given joins (Adds P M table) (Gives P table) h t) e_layout exact) within

  pub tells_parts : (rows : List Row) → ((h t : ℕ) → (pair_bit rows h t ≡ 1) ↔ Least given joins (Adds P L table) (Gives P table) h t) → TellsParts P rows
  tells_parts rows exact within facts is n q lt =
      let exact' : (h t : ℕ) → (pair_bit rows h t ≡ 1) ↔ Least given joins (Adds P (layout_of P) table) (Gives P table) h t = subst (λ M. (h t : ℕ) → (pair_bit rows h t ≡ 1) ↔ Least given joins (Adds P M table) (Gives P table) h t) e_layout exact in
      let at = exact' (place (layout_of P) n) q in
      (λ p. at.1 (Known.from_part P given joins table e_given e_joins e_table within facts is n q p), λ bit. Known.to_part P given joins table e_given e_joins e_table within facts is n q lt (at.0 bit))

  pub many : (limits : Limits) → limits.counters ≡ L.nodes + L.slots → HasMore limits (Least given joins (Adds P L table) (Gives P table)) → AreTooMany P limits.most
  many limits e more within facts is =
      Known.more_facts P given joins table e_given e_joins e_table within facts is limits (e ∙ ap (λ (M : Layout). M.nodes + M.slots) e_layout)
      (subst (λ M. HasMore limits (Least given joins (Adds P M table) (Gives P table))) e_layout more)

  pub fit : (limits : Limits) → limits.counters ≡ L.nodes + L.slots → (HasMore limits (Least given joins (Adds P L table) (Gives P table)) → ⊥) → FitFacts P limits.most
  fit limits e never within facts is more =
      never (subst (λ M. HasMore limits (Least given joins (Adds P M table) (Gives P table))) (sym e_layout)
      (Known.more_pairs P given joins table e_given e_joins e_table within facts is limits (e ∙ ap (λ (M : Layout). M.nodes + M.slots) e_layout) more))
