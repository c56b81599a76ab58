-- What the solver's table says of the facts, in the table that is kept.
use Rattle.std.proofs.Common.{ℕ, ◌+◌, ◌<◌, ◌≡◌, List, [], length, refl, sym, ap, ◌∙◌, subst, Ok, Err}
use Rattle.std.specs.Prelude.{Contains, ◌↔◌, Result}
use Rattle.cc_blocks.specs.declared.row.Row.{Row}
use Rattle.cc_blocks.specs.declared.table.Rows.{Rows}
use Rattle.cc_blocks.specs.Pairs.{pair_bit}
use Rattle.cc_facts.specs.declared.facts.Facts.{Facts}
use Rattle.cc_facts.specs.Told.{slot_holder, place_holder, parts_in}
use Rattle.cc_parts.specs.declared.parts.Parts.{Parts}
use Rattle.cc_parts.specs.PartTables.{count_of}
use Rattle.cc_program.specs.declared.program.Program.{Program}
use Rattle.cc_points_base.specs.declared.view.View.{View}
use Rattle.cc_points_base.specs.Facts.{Fact, MayBe, MayHold, IsWithin}
use Rattle.cc_points_base.specs.Layouts.{layout_of, place}
use Rattle.cc_points_base.specs.Parts.{slots_in}
use Rattle.cc_points_solve.specs.Law as law
use Rattle.cc_points_solve.proofs.Numbers.{value_is, slot_is, place_is}
use Rattle.cc_points_view.specs.Views.{view_of}
use Rattle.cc_points_view.proofs.Withins.{view_within}
use Rattle.cc_points.specs.Tables.{IsTableOf}
use Rattle.cc_points.specs.Solving as spec
use Rattle.cc_points.specs.declared.solving.PointsFault.{PointsFault}

module _ (P : View) (rows : Rows) (F : Facts) (is : IsTableOf P rows F) where
  parts_same : slots_in P ≡ parts_in F
  parts_same = ap (λ (parts : Parts). count_of parts.parts) (sym is.parts)

  holder_same : (f : Fact) → law.IsFactWithin P f → law.holder_of (layout_of P) f ≡ spec.holder_in F f
  holder_same (MayBe n t) lt = value_is (layout_of P) n lt
  holder_same (MayHold s t) lt = slot_is (layout_of P) s lt ∙ ap (λ k. k + s) (sym is.occurrences)

  place_same : (n : ℕ) → n < length P.nodes → place (layout_of P) n ≡ place_holder F n
  place_same n lt = place_is (layout_of P) n lt ∙ ap (λ k. k + slots_in P + n) (sym is.occurrences) ∙ ap (λ k. F.occurrences + k + n) parts_same

  bit_same : (h k t : ℕ) → h ≡ k → pair_bit rows.rows.items h t ≡ pair_bit F.rows.rows.items k t
  bit_same h k t e = ap (λ rs. pair_bit rs h t) (sym is.pairs) ∙ ap (λ i. pair_bit F.rows.rows.items i t) e

  pub kept : spec.IsFactTable P F
  kept = record { occurrences = is.occurrences; parts = is.parts; sites = is.sites; defined = is.defined }

  pub tells : IsWithin P → law.TellsFacts P rows.rows.items → spec.TellsFacts P F
  tells within told facts all f w =
      let at = told within facts all f w in
      let same = bit_same (law.holder_of (layout_of P) f) (spec.holder_in F f) (law.target_of f) (holder_same f w) in
      (λ c. sym same ∙ at.0 c, λ b. at.1 (same ∙ b))

  pub tells_parts : IsWithin P → law.TellsParts P rows.rows.items → spec.TellsParts P F
  tells_parts within told facts all n q lt =
      let at = told within facts all n q lt in
      let same = bit_same (place (layout_of P) n) (place_holder F n) q (place_same n lt) in
      (λ p. sym same ∙ at.0 p, λ b. at.1 (same ∙ b))

-- what is said of views that name what is there holds of those of programs
pub exists : (p : Program) → law.FactsExist (view_of p) → spec.FactsExist (view_of p)
exists p some = some (view_within p)

pub fits : (p : Program) → law.FitFacts (view_of p) 4194304 → spec.FitFacts (view_of p)
fits p fit = fit (view_within p)

pub too_many : (p : Program) → law.AreTooMany (view_of p) 4194304 → spec.AreTooMany (view_of p)
too_many p many = many (view_within p)

-- the same, where the view is that of a program
pub exists_at : (p : Program) (P : View) → P ≡ view_of p → law.FactsExist P → spec.FactsExist (view_of p)
exists_at p P e some = exists p (subst (λ (v : View). law.FactsExist v) e some)

pub told_at : (p : Program) (P : View) (rows : Rows) (F : Facts) → P ≡ view_of p → IsTableOf P rows F → law.TellsFacts P rows.rows.items → spec.TellsFacts (view_of p) F
told_at p P rows F e is told = subst (λ (v : View). spec.TellsFacts v F) e (tells P rows F is (subst (λ (v : View). IsWithin v) (sym e) (view_within p)) told)

pub parts_at : (p : Program) (P : View) (rows : Rows) (F : Facts) → P ≡ view_of p → IsTableOf P rows F → law.TellsParts P rows.rows.items → spec.TellsParts (view_of p) F
parts_at p P rows F e is told = subst (λ (v : View). spec.TellsParts v F) e (tells_parts P rows F is (subst (λ (v : View). IsWithin v) (sym e) (view_within p)) told)

pub fits_at : (p : Program) (P : View) → P ≡ view_of p → law.FitFacts P 4194304 → spec.FitFacts (view_of p)
fits_at p P e fit = fits p (subst (λ (v : View). law.FitFacts v 4194304) e fit)

pub many_at : (p : Program) (P : View) → P ≡ view_of p → law.AreTooMany P 4194304 → spec.AreTooMany (view_of p)
many_at p P e many = too_many p (subst (λ (v : View). law.AreTooMany v 4194304) e many)

fault_or : PointsFault → Result Facts PointsFault → PointsFault
fault_or d (Ok x) = d
fault_or d (Err x) = x

pub same_fault : (a b : PointsFault) (r s : Result Facts PointsFault) → r ≡ Err a → s ≡ Err b → r ≡ s → a ≡ b
unfolding fault_or
same_fault a b r s is_r is_s e = sym (ap (fault_or a) is_r) ∙ ap (fault_or a) e ∙ ap (fault_or a) is_s
