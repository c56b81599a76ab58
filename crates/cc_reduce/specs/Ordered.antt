-- The order in which tests add most.
use Rattle.std.specs.Prelude.{◌≡◌, ◌<◌, ◌≤◌, ◌⊎◌, ℕ, List, [], ◌∷◌, Bool, true, false, not, ◌&&◌, ◌||◌, cond, length, nat_eq, nat_lt, Option, Some, None, slice_get, take}
use Rattle.std.specs.List.Sorted.{IsStrictlyIncreasing}
use Rattle.cc_reduce.specs.declared.ordering.Gain.{Gain}
use Rattle.cc_reduce.specs.Rows.{at, has, covers, count_to}

-- each set has its numbers ascending
abbrev pub AreAscending : (sets : List (List ℕ)) → Type 0
AreAscending sets = (test : ℕ) (set : List ℕ) → slice_get sets test ≡ Some set → IsStrictlyIncreasing set

-- one of these tests is the test
abbrev pub is_among : List ℕ → (test : ℕ) → Bool
is_among [] test = false
is_among (one ∷ tests) test = nat_eq one test || is_among tests test

-- how many rows the test exercises that none of these tests does
abbrev pub added : (sets : List (List ℕ)) → (rows : ℕ) → (taken : List ℕ) → (test : ℕ) → ℕ
added sets rows taken test = count_to (λ row. has sets test row && not (covers sets taken row)) rows

-- how many rows these tests exercise
abbrev pub total : (sets : List (List ℕ)) → (rows : ℕ) → (taken : List ℕ) → ℕ
total sets rows taken = count_to (λ row. covers sets taken row) rows

-- Of the tests below `count` that are not taken it is the one that adds most, and of those that add as much the first.
pub record IsBest (adds : ℕ → ℕ) (is_taken : ℕ → Bool) (count test : ℕ) : Type 0 where
  pub within : test < count
  pub is_free : is_taken test ≡ false
  pub most : (other : ℕ) → other < count → is_taken other ≡ false → (adds other < adds test) ⊎ ((adds other ≡ adds test) × (test ≤ other))

-- Each test has a place, and at each place stands, of the tests that no earlier place has, the one that adds most to those
-- of the earlier places, and of those that add as much the first.
pub record IsOrder (sets : List (List ℕ)) (rows : ℕ) (order : List ℕ) : Type 0 where
  pub all : (test : ℕ) → test < length sets → is_among order test ≡ true
  pub each : (place test : ℕ) → slice_get order place ≡ Some test
      → IsBest (added sets rows (take place order)) (is_among (take place order)) (length sets) test

-- how many rows the test exercises that are not covered
abbrev pub uncovered : (sets : List (List ℕ)) → (covered : List Bool) → (test : ℕ) → ℕ
uncovered sets covered test = count_to (λ row. has sets test row && not (at covered row)) (length covered)

-- the greater gain, and the first where they are equal
abbrev pub better : Option Gain → Gain → Gain
better (Some gain) next = cond (nat_lt gain.added next.added) next gain
better None next = next
