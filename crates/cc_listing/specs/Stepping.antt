-- Whether each point that comes next is a point.
use Rattle.std.specs.Prelude.{ℕ, Bool, true, ◌&&◌, nat_lt, List, [], ◌∷◌}

-- these numbers are below the count
abbrev pub are_below : ℕ → List ℕ → Bool
are_below count [] = true
are_below count (q ∷ row) = nat_lt q count && are_below count row

-- those of all rows are
abbrev pub all_below : ℕ → List (List ℕ) → Bool
all_below count [] = true
all_below count (row ∷ rows) = are_below count row && all_below count rows
