-- Lists of calls that fail.
use Rattle.std.specs.Prelude.{ℕ, List, [], ◌∷◌, Bool, true, false, cond, nat_eq}

-- the number stands in the list
abbrev pub is_listed : List ℕ → ℕ → Bool
is_listed [] n = false
is_listed (fail ∷ fails) n = cond (nat_eq fail n) true (is_listed fails n)
