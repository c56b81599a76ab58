-- Pairs of numbers, and tables of them.
use Rattle.std.specs.Prelude.{ℕ, ◌≡◌, ◌<◌, ◌↔◌, ◌&&◌, nat_lt, if◌then◌else◌, List, [], ◌∷◌, ◌++◌, Option, Some, None, slice_set, Contains}
use Rattle.cc_graph.specs.Linking.{row_of}

abbrev pub Pair : Type 0
Pair = ℕ × ℕ

-- with this pair, if both numbers are below n
abbrev pub joined_at : ℕ → ℕ → ℕ → List Pair → List Pair
joined_at n p q pairs = if nat_lt p n && nat_lt q n then pairs ++ (p, q) ∷ [] else pairs

-- the same, if both are there
abbrev pub joined : ℕ → Option ℕ → Option ℕ → List Pair → List Pair
joined n (Some p) (Some q) pairs = joined_at n p q pairs
joined n (Some p) None pairs = pairs
joined n None to pairs = pairs

-- it is the pair of these numbers, which are there and below n
abbrev pub IsJoin : ℕ → Option ℕ → Option ℕ → Pair → Type 0
IsJoin n from to x = (from ≡ Some x.0) × (to ≡ Some x.1) × (x.0 < n) × (x.1 < n)

-- the item is added to the row, if there is one of this number
abbrev pub put : ℕ → ℕ → List (List ℕ) → List (List ℕ)
put row item rows = slice_set rows row (row_of rows row ++ item ∷ [])

-- with the second number of each pair in the row of the first
abbrev pub tabled : List Pair → List (List ℕ) → List (List ℕ)
tabled [] rows = rows
tabled (x ∷ pairs) rows = tabled pairs (put x.0 x.1 rows)

-- each row has the second numbers of the pairs whose first number is its own
abbrev pub AreRows : List (List ℕ) → ℕ → List Pair → Type 0
AreRows rows count pairs = (r k : ℕ) → Contains (row_of rows r) k ↔ ((r < count) × Contains pairs (r, k))
