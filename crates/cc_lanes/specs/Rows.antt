-- Rows of pairs.
use Rattle.std.specs.Prelude.{ℕ, ◌≡◌, ◌<◌, ◌↔◌, List, [], ◌∷◌, ◌++◌, length, Contains, slice_set}
use Rattle.cc_flows.specs.Masks.{row_of}

-- a row number and an item
abbrev pub Pair : Type 0
Pair = ℕ × ℕ

-- the item is added to the row, if there is one of this number
abbrev pub put : ℕ → ℕ → List (List ℕ) → List (List ℕ)
put row item rows = slice_set rows row (row_of rows row ++ item ∷ [])

-- each row has the items that the pairs have with its number
abbrev pub Holds : List (List ℕ) → List Pair → Type 0
Holds rows pairs = (r x : ℕ) → Contains (row_of rows r) x ↔ ((r < length rows) × ((p : Pair) × Contains pairs p × (p.0 ≡ r) × (p.1 ≡ x)))
