-- The order of rows is the one in which they compare.
use Rattle.std.proofs.Common.{ℕ, ◌≡◌, List, [], ◌∷◌, refl, sym, ◌∙◌}
use Rattle.std.specs.Prelude.{Contains}
use Rattle.std.specs.List.{AllByRecursion}
use Rattle.std.specs.List.Sorted.{IsStrictlySortedBy}
use Rattle.std.specs.declared.cmp.Ordering.{Ordering}
use Rattle.std.specs.declared.cmp.Ordering.TheVariants.{Less}
use Rattle.cc_rows.specs.contracts.row.RowOrd.TheImpl.{ghosts}
use Rattle.cc_rows.specs.Limits.{HasMore}
use Rattle.cc_rows.specs.Order.{row_cmp}
use Rattle.cc_rows.specs.declared.row.Row.{Row}
use Rattle.cc_rows.specs.declared.row.Row.TheVariants as row

compares : (a b : Row) → ghosts.cmp a b ≡ row_cmp a b
compares (row.Call s g) (row.Call s' g') = refl
compares (row.Shared d u x) (row.Shared d' u' x') = refl
compares (row.Parameter d s k g u) (row.Parameter d' s' k' g' u') = refl
compares (row.Return d s g) (row.Return d' s' g') = refl
compares a b = refl

all_as : (a : Row) (xs : List Row) → AllByRecursion (λ y. ghosts.cmp a y ≡ Less) xs → AllByRecursion (λ y. row_cmp a y ≡ Less) xs
all_as a [] h = h
all_as a (x ∷ xs) h = (sym (compares a x) ∙ h.0, all_as a xs h.1)

pub sorted_as : (xs : List Row) → IsStrictlySortedBy ghosts.cmp xs → IsStrictlySortedBy row_cmp xs
unfolding IsStrictlySortedBy
sorted_as [] s = s
sorted_as (x ∷ xs) s = (all_as x xs s.0, sorted_as xs s.1)

pub more_rows : (P : Row → Type 0) (most : ℕ) → HasMore ghosts.cmp P most → HasMore row_cmp P most
more_rows P most h = (h.0, sorted_as h.0 h.1, h.2, h.3)
