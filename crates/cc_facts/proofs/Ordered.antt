-- The targets of a holder in ascending order.
use Rattle.std.proofs.Common.{◌≡◌, ℕ, zero, suc, ◌+◌, ◌<◌, ◌≤◌, List, [], ◌∷◌, Option, Some, None, refl, sym, ap, ◌∙◌, subst, arith}
use Rattle.std.specs.Prelude.{slice_get, IfSome, IfNone}
use Rattle.cc_blocks.specs.declared.row.Row.{Row}
use Rattle.cc_blocks.specs.Cells.{row_bit, row_size, targets_below}
use Rattle.cc_blocks.specs.Pairs.{pair_bit, count_in}
use Rattle.cc_blocks.proofs.Tables.{pair_bit-row}
use Rattle.cc_facts.specs.Order.{IsNextIn, IsNthIn, below_in}

pub next_on : (r : Option ℕ) (rows : List Row) (h from : ℕ) (row : Row) → slice_get rows h ≡ Some row
    → IfSome r (λ t. (from ≤ t) × (row_bit row.cells.items t ≡ 1) × ((u : ℕ) → from ≤ u → u < t → row_bit row.cells.items u ≡ 0))
    → IfNone r ((u : ℕ) → from ≤ u → row_bit row.cells.items u ≡ 0) → IsNextIn rows h from r
next_on (Some t) rows h from row at some none = (some.0, pair_bit-row rows h row at t ∙ some.1, λ u le lt. pair_bit-row rows h row at u ∙ some.2 u le lt)
next_on None rows h from row at some none = λ u le. pair_bit-row rows h row at u ∙ none u le

pair_bit-none : (rows : List Row) (h t : ℕ) → slice_get rows h ≡ None → pair_bit rows h t ≡ 0
unfolding pair_bit
pair_bit-none [] h t at = refl
pair_bit-none (x ∷ rows) zero t at = absurd (let e = at in cc)
pair_bit-none (x ∷ rows) (suc h) t at = pair_bit-none rows h t at

pub next_none : (rows : List Row) (h from : ℕ) → slice_get rows h ≡ None → IsNextIn rows h from None
next_none rows h from at = λ u le. pair_bit-none rows h u at

pub nth_on : (r : Option ℕ) (rows : List Row) (h k : ℕ) (row : Row) → slice_get rows h ≡ Some row
    → IfSome r (λ t. (row_bit row.cells.items t ≡ 1) × (targets_below row.cells.items t ≡ k))
    → IfNone r (row_size row.cells.items ≤ k) → IsNthIn rows h k r
nth_on (Some t) rows h k row at some none = (pair_bit-row rows h row at t ∙ some.0, ap (λ o. below_in o t) at ∙ some.1)
nth_on None rows h k row at some none = subst (λ o. count_in o ≤ k) (sym at) none

pub nth_none : (rows : List Row) (h k : ℕ) → slice_get rows h ≡ None → IsNthIn rows h k None
nth_none rows h k at = subst (λ o. count_in o ≤ k) (sym at) (omega arith)
