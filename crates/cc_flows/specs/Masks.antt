-- Which of 512 definitions are of a slot, and which of them a point clears.
use Rattle.std.specs.Prelude.{ℕ, ◌≡◌, List, [], ◌∷◌, ◌++◌, Some, slice_get, slice_index_or, Contains}
use Rattle.cc_blocks.specs.declared.block.Block.{Block}
use Rattle.cc_flows.specs.Sweeping.{bit_at_point}
use Rattle.cc_flows.specs.declared.mask.Touch.{Touch}

-- the i-th definition is of the slot
abbrev pub IsOf : List Touch → ℕ → ℕ → Type 0
IsOf definitions s i = (d : Touch) × (slice_get definitions i ≡ Some d) × (d.slot ≡ s)

-- one of these slots has the number
abbrev pub IsWiped : List Block → List ℕ → ℕ → Type 0
IsWiped masks row i = (s : ℕ) × Contains row s × (bit_at_point masks s i ≡ 1)

-- the row of a point
abbrev pub row_of : List (List ℕ) → ℕ → List ℕ
row_of rows p = slice_index_or rows p []

abbrev pub points_of : List Touch → List ℕ → List ℕ
points_of [] out = out
points_of (d ∷ definitions) out = points_of definitions (out ++ d.point ∷ [])
