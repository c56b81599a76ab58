-- Tables by number, as lists.
use Rattle.std.specs.Prelude.{ℕ, ◌-◌, nat_lt, if◌then◌else◌, List, [], ◌∷◌, ◌++◌, length, slice_set, replicate}

-- with x in each new place up to this number of them
abbrev pub grown : {X : Type 0} → List X → ℕ → X → List X
grown xs n x = xs ++ replicate (n - length xs) x

abbrev pub put_at : {X : Type 0} → List X → ℕ → X → List X
put_at xs n x = if nat_lt n (length xs) then slice_set xs n x else xs ++ x ∷ []

-- with x at this number, and with `other` in the new places before it
abbrev pub put_far : {X : Type 0} → List X → ℕ → X → X → List X
put_far xs n x other = put_at (grown xs n other) n x
