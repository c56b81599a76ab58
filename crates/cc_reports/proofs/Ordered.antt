-- The rows of a listing stand in the order in which verdicts are counted.
use Rattle.std.proofs.Common.{ℕ, ◌≡◌, ◌<◌, ◌≤◌, inl, inr, ⊎_elim, List, Option, Some, None, option_map, refl, sym, ap, ◌∙◌, subst, arith}
use Rattle.std.specs.Prelude.{◌⊎◌, slice_get, get_or}
use Rattle.std.specs.List.Sorted.{IsStrictlySortedBy}
use Rattle.std.specs.declared.cmp.Ordering.{Ordering}
use Rattle.std.specs.declared.cmp.Ordering.TheVariants.{Less}
use Rattle.std.specs.Ordering.{nat_cmp, ordering_then}
use Rattle.std.proofs.lemmas.Bool.Decides.{nat_tests}
use Rattle.std.proofs.lemmas.Map.Keys.{Less-from_sorted}
use Rattle.std.proofs.lemmas.Option.{get_or_from_slice_get, same_Some, none-some, slice_get-map, slice_get_within}
use Rattle.cc_graph.specs.declared.graph.Graph.{Graph}
use Rattle.cc_listing.specs.Answers.{IsListing}
use Rattle.cc_listing.specs.Couplings.{AreCouplings, call, coupling_of, function_at, parameter, returned}
use Rattle.cc_meaning.specs.declared.coupling.Coupling.{Coupling}
use Rattle.cc_meaning.specs.declared.coupling.Coupling.TheVariants as coupling
use Rattle.cc_program.specs.declared.function.FuncId.{FuncId}
use Rattle.cc_program.specs.declared.program.Program.{Program}
use Rattle.cc_rows.specs.declared.row.Row.{Row}
use Rattle.cc_rows.specs.declared.row.Row.TheVariants as row
use Rattle.cc_rows.specs.Order.{rank, row_cmp}
use Rattle.cc_score.specs.Groups.{definition_or, kind_of}
use Rattle.cc_score.specs.Order.{IsOrdered, Leads}
use Rattle.cc_reports.specs.Found.{IsListed}

-- the definition of a row; 0 for a call row
abbrev defined : Row → ℕ
defined (row.Call s g) = 0
defined (row.Shared d u x) = d
defined (row.Parameter d s k g u) = d
defined (row.Return d s g) = d

less_lt : (a b : ℕ) → nat_cmp a b ≡ Less → a < b
less_lt a b e = grind (arith, nat_tests)

then_le : (a b : ℕ) (rest : Ordering) → ordering_then (nat_cmp a b) rest ≡ Less → a ≤ b
then_le a b rest e = grind (arith, nat_tests)

abbrev RowLeads : Row → Row → Type 0
RowLeads a b = (rank a < rank b) ⊎ ((rank a ≡ rank b) × (defined a ≤ defined b))

row_leads : (a b : Row) → row_cmp a b ≡ Less → RowLeads a b
row_leads (row.Call s g) (row.Call s' g') e = inr (refl, omega arith)
row_leads (row.Call s g) (row.Shared d' u' x') e = inl (omega arith)
row_leads (row.Call s g) (row.Parameter d' s' k' g' u') e = inl (omega arith)
row_leads (row.Call s g) (row.Return d' s' g') e = inl (omega arith)
row_leads (row.Shared d u x) (row.Call s' g') e = inl (less_lt 1 0 e)
row_leads (row.Shared d u x) (row.Shared d' u' x') e = inr (refl, then_le d d' (ordering_then (nat_cmp u u') (nat_cmp x x')) e)
row_leads (row.Shared d u x) (row.Parameter d' s' k' g' u') e = inl (omega arith)
row_leads (row.Shared d u x) (row.Return d' s' g') e = inl (omega arith)
row_leads (row.Parameter d s k g u) (row.Call s' g') e = inl (less_lt 2 0 e)
row_leads (row.Parameter d s k g u) (row.Shared d' u' x') e = inl (less_lt 2 1 e)
row_leads (row.Parameter d s k g u) (row.Parameter d' s' k' g' u') e =
    inr (refl, then_le d d' (ordering_then (nat_cmp s s') (ordering_then (nat_cmp k k') (ordering_then (nat_cmp g g') (nat_cmp u u')))) e)
row_leads (row.Parameter d s k g u) (row.Return d' s' g') e = inl (omega arith)
row_leads (row.Return d s g) (row.Call s' g') e = inl (less_lt 3 0 e)
row_leads (row.Return d s g) (row.Shared d' u' x') e = inl (less_lt 3 1 e)
row_leads (row.Return d s g) (row.Parameter d' s' k' g' u') e = inl (less_lt 3 2 e)
row_leads (row.Return d s g) (row.Return d' s' g') e = inr (refl, then_le d d' (ordering_then (nat_cmp s s') (nat_cmp g g')) e)

-- what a coupling shares with its row
abbrev Fits : ℕ → ℕ → Coupling → Type 0
Fits kind d a = (kind_of a ≡ kind) × (definition_or a ≡ d)

fits_call : (s : ℕ) (g : Option FuncId) (a : Coupling) → call s g ≡ Some a → Fits 0 0 a
fits_call s (Some g) a e = subst (Fits 0 0) (same_Some (coupling.Call s g) a e) (refl, refl)
fits_call s None a e = absurd (none-some a e)

fits_parameter : (d s k : ℕ) (g : Option FuncId) (u : ℕ) (a : Coupling) → parameter d s k g u ≡ Some a → Fits 2 d a
fits_parameter d s k (Some g) u a e = subst (Fits 2 d) (same_Some (coupling.Parameter d s k g u) a e) (refl, refl)
fits_parameter d s k None u a e = absurd (none-some a e)

fits_returned : (d s : ℕ) (g : Option FuncId) (a : Coupling) → returned d s g ≡ Some a → Fits 3 d a
fits_returned d s (Some g) a e = subst (Fits 3 d) (same_Some (coupling.Return d s g) a e) (refl, refl)
fits_returned d s None a e = absurd (none-some a e)

fits : (P : Program) (r : Row) (a : Coupling) → coupling_of P r ≡ Some a → Fits (rank r) (defined r) a
fits P (row.Call s g) a e = fits_call s (function_at P g) a e
fits P (row.Shared d u x) a e = subst (Fits 1 d) (same_Some (coupling.Shared d u x) a e) (refl, refl)
fits P (row.Parameter d s k g u) a e = fits_parameter d s k (function_at P g) u a e
fits P (row.Return d s g) a e = fits_returned d s (function_at P g) a e

leads : (P : Program) (r r' : Row) (a b : Coupling) → coupling_of P r ≡ Some a → coupling_of P r' ≡ Some b → row_cmp r r' ≡ Less → Leads a b
leads P r r' a b is is' e =
    let f = fits P r a is in
    let g = fits P r' b is' in
    ⊎_elim
    (λ lt. inl (omega (arith, lt, f.0, g.0)))
    (λ w. inr (f.0 ∙ (w.0 ∙ sym g.0), omega (arith, w.1, f.1, g.1)))
    (row_leads r r' e)

from_map : {X Y : Type 0} (f : X → Y) (o : Option X) (y : Y) → option_map f o ≡ Some y → (x : X) × (o ≡ Some x) × (f x ≡ y)
from_map f (Some x) y e = (x, refl, same_Some (f x) y e)
from_map f None y e = absurd (none-some y e)

-- the row of a coupling
row_at : (P : Program) (rows : List Row) (cs : List Coupling) (i : ℕ) (a : Coupling) → AreCouplings P rows cs → slice_get cs i ≡ Some a
    → (r : Row) × (slice_get rows i ≡ Some r) × (coupling_of P r ≡ Some a)
row_at P rows cs i a are at = from_map (coupling_of P) (slice_get rows i) (Some a)
    (sym (slice_get-map (coupling_of P) rows i) ∙ (sym (ap (λ all. slice_get all i) are) ∙ (slice_get-map Some cs i ∙ ap (option_map Some) at)))

row_less : (rows : List Row) (i j : ℕ) (r r' : Row) → IsStrictlySortedBy row_cmp rows → i < j → slice_get rows i ≡ Some r → slice_get rows j ≡ Some r' → row_cmp r r' ≡ Less
row_less rows i j r r' sorted lt at at' =
    sym (ap (λ x. row_cmp x r') (get_or_from_slice_get rows i r r at)) ∙ (sym (ap (row_cmp (get_or rows i r)) (get_or_from_slice_get rows j r' r at'))
    ∙ Less-from_sorted row_cmp rows i j r sorted lt (slice_get_within rows j r' at'))

pub couplings_ordered : (P : Program) (rows : List Row) (cs : List Coupling) → IsStrictlySortedBy row_cmp rows → AreCouplings P rows cs → IsOrdered cs
couplings_ordered P rows cs sorted are i j a b lt at at' =
    let w = row_at P rows cs i a are at in
    let w' = row_at P rows cs j b are at' in
    leads P w.0 w'.0 a b w.2 w'.2 (row_less rows i j w.0 w'.0 sorted lt w.1 w'.1)

pub listing_ordered : (P : Program) (G : Graph) (cs : List Coupling) → IsListing P G cs → IsOrdered cs
listing_ordered P G cs h = let rows = h.2 in couplings_ordered P rows.0 cs rows.1.ascending rows.2

pub listed_ordered : (P : Program) (cs : List Coupling) → IsListed P cs → IsOrdered cs
listed_ordered P cs h = listing_ordered P h.0 cs h.2
