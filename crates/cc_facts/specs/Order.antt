-- The targets of a holder in ascending order.
use Rattle.std.specs.Prelude.{ℕ, ◌≡◌, ◌<◌, ◌≤◌, List, Option, Some, None, slice_get, option_map}
use Rattle.cc_blocks.specs.declared.row.Row.{Row}
use Rattle.cc_blocks.specs.Cells.{targets_below}
use Rattle.cc_blocks.specs.Pairs.{pair_bit, count_in}
use Rattle.cc_facts.specs.declared.facts.Facts.{Facts}
use Rattle.cc_facts.specs.declared.target.Target.{Target}
use Rattle.cc_facts.specs.Told.{target_of}

-- the least target of the holder from a number on, if there is one
abbrev pub IsNextIn : List Row → ℕ → ℕ → Option ℕ → Type 0
IsNextIn rows h from (Some t) = (from ≤ t) × (pair_bit rows h t ≡ 1) × ((u : ℕ) → from ≤ u → u < t → pair_bit rows h u ≡ 0)
IsNextIn rows h from None = (u : ℕ) → from ≤ u → pair_bit rows h u ≡ 0

abbrev pub below_in : Option Row → ℕ → ℕ
below_in (Some row) t = targets_below row.cells.items t
below_in None t = 0

-- the target of the holder that so many others of it are below, if it has more than so many
abbrev pub IsNthIn : List Row → ℕ → ℕ → Option ℕ → Type 0
IsNthIn rows h k (Some t) = (pair_bit rows h t ≡ 1) × (below_in (slice_get rows h) t ≡ k)
IsNthIn rows h k None = count_in (slice_get rows h) ≤ k

-- the same as a target
abbrev pub IsTargetAt : Facts → List Row → ℕ → ℕ → Option Target → Type 0
IsTargetAt F rows h k r = (n : Option ℕ) × (r ≡ option_map (target_of F) n) × IsNthIn rows h k n
