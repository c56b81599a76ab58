-- The facts of a program are a list of derivations.
use Rattle.std.proofs.Common.{ℕ, zero, suc, ◌<◌, ◌≡◌, ◌⊎◌, inl, inr, ⊎_elim, List, [], ◌∷◌, ◌++◌, length, replicate, refl, sym, subst, arith}
use Rattle.std.specs.Prelude.{Contains, ◌↔◌}
use Rattle.std.proofs.lemmas.Bool.{cases_eq, cases_lt}
use Rattle.std.proofs.lemmas.List.Elements.{Contains-append_left, Contains-append_right}
use Rattle.cc_blocks.specs.declared.row.Row.{Row}
use Rattle.cc_blocks.specs.Pairs.{pair_bit}
use Rattle.cc_blocks.specs.Cells.{row_bit, AreAscending}
use Rattle.cc_blocks.specs.declared.cell.Cell.{Cell}
use Rattle.cc_blocks.proofs.Ranks.{row_bit-high}
use Rattle.cc_points_base.specs.Parts.{slots_in}
use Rattle.cc_points_base.specs.declared.view.View.{View}
use Rattle.cc_points_base.specs.declared.constraint.Watch.{Watch}
use Rattle.cc_points_base.specs.Layouts.{layout_of}
use Rattle.cc_points_base.specs.Facts.{Fact, MayBe, MayHold, Derives, IsPointsTo, IsWithin}
use Rattle.cc_solver.specs.declared.rules.Pair.{Pair}
use Rattle.cc_solver.specs.declared.rules.Edge.{Edge}
use Rattle.cc_solver.specs.Least.{Least}
use Rattle.cc_points_solve.specs.Problems.{givens, all_joins, row_of, tabled}
use Rattle.cc_points_solve.specs.Watching.{AddsEdge, GivesPair}
use Rattle.cc_points_solve.specs.Law.{holder_of, target_of, holders_of, IsFactWithin}
use Rattle.cc_points_solve.specs.Solving.{asked_by}
use Rattle.cc_points_solve.proofs.Lists.{none}
use Rattle.cc_points_solve.proofs.Existing.{IsDerived, derived_closed, fact_within, all_below, join}
use Rattle.cc_points_solve.proofs.Covered.{covered}
use Rattle.cc_points_solve.proofs.Right.{is_fact}
use Rattle.cc_points_solve.proofs.Known

abbrev Adds : View → List (List Watch) → ℕ → ℕ → ℕ → ℕ → Type 0
Adds P table p q g h = AddsEdge P (layout_of P) (row_of table p) q (record { from = g; to = h })

abbrev Gives : View → List (List Watch) → ℕ → ℕ → ℕ → ℕ → Type 0
Gives P table p q h t = GivesPair P (row_of table p) q (record { holder = h; target = t })

in_small : (cells : List Cell) (t : ℕ) → AreAscending 0 cells → row_bit cells t ≡ 1 → t < 4294967296
in_small cells t up is = elim (cases_lt t 4294967296) [
  | inl lt ↦ lt
  | inr ge ↦ absurd (let z = row_bit-high 0 cells t up ge in omega arith)
]

targets_small : (rows : List Row) (h t : ℕ) → pair_bit rows h t ≡ 1 → t < 4294967296
unfolding pair_bit
targets_small [] h t is = absurd (omega arith)
targets_small (r ∷ rows) zero t is = in_small r.cells.items t r.ascending is
targets_small (r ∷ rows) (suc h) t is = targets_small rows h t is

module _ (P : View) (given : List Pair) (joins : List Edge) (table : List (List Watch))
    (e_given : given ≡ givens (asked_by P) []) (e_joins : joins ≡ all_joins (asked_by P) []) (e_table : table ≡ tabled (asked_by P) (replicate (holders_of (layout_of P)) []))
    (within : IsWithin P) (rows : List Row) (most : ℕ) (small : (h t : ℕ) → pair_bit rows h t ≡ 1 → t < most)
    (exact : (h t : ℕ) → (pair_bit rows h t ≡ 1) ↔ Least given joins (Adds P table) (Gives P table) h t) where
  abbrev Bit : Fact → Type 0
  Bit f = pair_bit rows (holder_of (layout_of P) f) (target_of f) ≡ 1

  derived : (f : Fact) → IsFactWithin P f → Bit f → IsDerived P f
  derived f w bit = is_fact P (IsDerived P) within (derived_closed P) given joins (Adds P table) (Gives P table) (Known.knows P given joins table e_given e_joins e_table) f w ((exact (holder_of (layout_of P) f) (target_of f)).0 bit)

  -- one fact, if it is one
  one : (f : Fact) → IsFactWithin P f ⊎ (IsFactWithin P f → ⊥) → (l : List Fact) × Derives P [] l × (IsFactWithin P f → Bit f → Contains l f)
  one f (inr never) = ([], tt, λ w bit. absurd (never w))
  one f (inl w) = elim (cases_eq (pair_bit rows (holder_of (layout_of P) f) (target_of f)) 1) [
    | inl bit ↦ (let d = derived f w bit in (d.0, d.1, λ v b. d.2))
    | inr ne ↦ ([], tt, λ v b. absurd (ne b))
  ]

  or_not : (a b : ℕ) → (a < b) ⊎ (a < b → ⊥)
  or_not a b = ⊎_elim inl (λ ge. inr (λ lt. omega arith)) (cases_lt a b)

  abbrev IsValue : ℕ → ℕ → Fact → Type 0
  IsValue n t f = (f ≡ MayBe n t) × IsFactWithin P f × Bit f

  abbrev IsSlot : ℕ → ℕ → Fact → Type 0
  IsSlot s t f = (f ≡ MayHold s t) × IsFactWithin P f × Bit f

  value_one : (n t : ℕ) → (l : List Fact) × Derives P [] l × ((f : Fact) → IsValue n t f → Contains l f)
  value_one n t = let o = one (MayBe n t) (or_not n (length P.nodes)) in (o.0, o.1, λ f x. subst (Contains o.0) (sym x.0) (o.2 (subst (IsFactWithin P) x.0 x.1) (subst Bit x.0 x.2)))

  slot_one : (s t : ℕ) → (l : List Fact) × Derives P [] l × ((f : Fact) → IsSlot s t f → Contains l f)
  slot_one s t = let o = one (MayHold s t) (or_not s (slots_in P)) in (o.0, o.1, λ f x. subst (Contains o.0) (sym x.0) (o.2 (subst (IsFactWithin P) x.0 x.1) (subst Bit x.0 x.2)))

  abbrev IsValueOf : ℕ → Fact → Type 0
  IsValueOf n f = (t : ℕ) × (t < most) × IsValue n t f

  abbrev IsSlotOf : ℕ → Fact → Type 0
  IsSlotOf s f = (t : ℕ) × (t < most) × IsSlot s t f

  values : (l : List Fact) × Derives P [] l × ((n : ℕ) (f : Fact) → n < length P.nodes → IsValueOf n f → Contains l f)
  values = all_below P IsValueOf (λ n. let a = all_below P (IsValue n) (value_one n) most in (a.0, a.1, λ f x. a.2 x.0 f x.1 x.2)) (length P.nodes)

  slots : (l : List Fact) × Derives P [] l × ((s : ℕ) (f : Fact) → s < slots_in P → IsSlotOf s f → Contains l f)
  slots = all_below P IsSlotOf (λ s. let a = all_below P (IsSlot s) (slot_one s) most in (a.0, a.1, λ f x. a.2 x.0 f x.1 x.2)) (slots_in P)

  all : List Fact
  all = values.0 ++ slots.0

  has : (f : Fact) → IsFactWithin P f → Bit f → Contains (values.0 ++ slots.0) f
  has (MayBe n t) w bit = Contains-append_left values.0 slots.0 (MayBe n t) (values.2 n (MayBe n t) w (t, small _ t bit, (refl, w, bit)))
  has (MayHold s t) w bit = Contains-append_right values.0 slots.0 (MayHold s t) (slots.2 s (MayHold s t) w (t, small _ t bit, (refl, w, bit)))

  pub exists : (facts : List Fact) × IsPointsTo P facts
  exists =
      let d = join P values.0 slots.0 values.1 slots.1 in (
        values.0 ++ slots.0,
        record {
          derived = d;
          closed = λ f is. has f (fact_within P (Contains (values.0 ++ slots.0)) within f is)
              ((exact (holder_of (layout_of P) f) (target_of f)).1 (covered P given joins (Adds P table) (Gives P table) (Known.knows P given joins table e_given e_joins e_table) (Contains (values.0 ++ slots.0))
              (λ g c. Known.derived P given joins table e_given e_joins e_table [] (values.0 ++ slots.0) (λ x never. absurd (none x never)) d g c) f is));
        },
      )

-- with the bound that each target has
pub facts_exist : (P : View) (given : List Pair) (joins : List Edge) (table : List (List Watch)) (e_given : given ≡ givens (asked_by P) []) (e_joins : joins ≡ all_joins (asked_by P) []) (e_table : table ≡ tabled (asked_by P) (replicate (holders_of (layout_of P)) [])) (rows : List Row) →
    ((h t : ℕ) → (pair_bit rows h t ≡ 1) ↔ Least given joins (Adds P table) (Gives P table) h t) → IsWithin P → (facts : List Fact) × IsPointsTo P facts
facts_exist P given joins table e_given e_joins e_table rows exact within = exists P given joins table e_given e_joins e_table within rows 4294967296 (targets_small rows) exact
