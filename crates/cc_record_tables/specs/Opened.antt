-- Places in a list of activations.
use Rattle.std.specs.Prelude.{ℕ, ◌+◌, ◌-◌, List, [], ◌∷◌, Bool, false, Option, Some, None, cond, length, nat_eq, slice_get}

-- the place of the activation among these, counted from n
abbrev pub place_from : ℕ → List ℕ → ℕ → Option ℕ
place_from n [] act = None
place_from n (one ∷ acts) act = cond (nat_eq one act) (Some n) (place_from (n + 1) acts act)

abbrev pub is_it : Option ℕ → ℕ → Bool
is_it (Some last) act = nat_eq last act
is_it None act = false

-- the activation stands last
abbrev pub is_last : List ℕ → ℕ → Bool
is_last acts act = is_it (slice_get acts (length acts - 1)) act
