-- Rows of several holders as the set of pairs of a holder and a target.
use Rattle.std.specs.Prelude.{ℕ, zero, suc, ◌+◌, ◌≤◌, List, [], ◌∷◌, Option, Some, None, Bool, false, slice_get}
use Rattle.cc_blocks.specs.declared.row.Row.{Row}
use Rattle.cc_blocks.specs.Cells.{row_bit, row_size, has_bit}

-- 1 where the row of the holder has the target
unfoldable pub pair_bit : List Row → ℕ → ℕ → ℕ
pair_bit [] holder target = 0
pair_bit (row ∷ rows) zero target = row_bit row.cells.items target
pair_bit (row ∷ rows) (suc holder) target = pair_bit rows holder target

-- how many pairs there are
unfoldable pub pair_count : List Row → ℕ
pair_count [] = 0
pair_count (row ∷ rows) = row_size row.cells.items + pair_count rows

-- whether a row has the target, if it is there
abbrev pub has_in : Option Row → ℕ → Bool
has_in (Some row) target = has_bit row.cells.items target
has_in None target = false

-- whether the row of the holder has the target
abbrev pub has_pair : List Row → ℕ → ℕ → Bool
has_pair rows holder target = has_in (slice_get rows holder) target

-- how many targets a row has, if it is there
abbrev pub count_in : Option Row → ℕ
count_in (Some row) = row_size row.cells.items
count_in None = 0

-- a table that has all pairs of another one has as many pairs or more
abbrev pub CountGrows : Type 0
CountGrows = (a b : List Row) → ((h t : ℕ) → pair_bit a h t ≤ pair_bit b h t) → pair_count a ≤ pair_count b
