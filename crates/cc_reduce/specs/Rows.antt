-- Rows of tests, and how many there are. Rows are the numbers below a count; no other number is one.
use Rattle.std.specs.Prelude.{ℕ, zero, suc, ◌+◌, List, [], ◌∷◌, Bool, false, ◌||◌, slice_get, slice_index_or}
use Rattle.cc_score.specs.Counts.{one_if}
use Rattle.cc_score.specs.Firsts.{exercises}

-- the run of the test of this number exercises the row
abbrev pub has : (sets : List (List ℕ)) → (test row : ℕ) → Bool
has sets test row = exercises (slice_get sets test) row

-- one of these tests exercises the row
abbrev pub covers : (sets : List (List ℕ)) → (tests : List ℕ) → (row : ℕ) → Bool
covers sets [] row = false
covers sets (test ∷ tests) row = has sets test row || covers sets tests row

-- the mark at this number; there is none past the end
abbrev pub at : List Bool → ℕ → Bool
at marks i = slice_index_or marks i false

-- how many of the first `count` rows pass the test
abbrev pub count_to : (test : ℕ → Bool) → (count : ℕ) → ℕ
count_to test zero = 0
count_to test (suc count) = count_to test count + one_if (test count)
