-- More rows than a number.
use Rattle.std.specs.Prelude.{ℕ, ◌<◌, List, length, Contains}
use Rattle.std.specs.declared.cmp.Ordering.{Ordering}
use Rattle.std.specs.List.Sorted.{IsStrictlySortedBy}

-- more rows than the number are such: a list of them in ascending order, each once, is longer
abbrev pub HasMore : {X : Type 0} → (X → X → Ordering) → (X → Type 0) → ℕ → Type 0
HasMore {X} cmp IsRow most = (out : List X) × IsStrictlySortedBy cmp out × (most < length out) × ((x : X) → Contains out x → IsRow x)
