-- Which tests can be left out.
use Rattle.std.specs.Prelude.{ℕ, zero, suc, List, Bool, true, false, not, ◌&&◌, length, nat_eq, nat_lt, Option, Some, None, replicate, set, slice_get}
use Rattle.cc_score.specs.Any.{any_to}
use Rattle.cc_reduce.specs.Rows.{has, at}

-- another test that is kept so far exercises the row
abbrev pub others : (sets : List (List ℕ)) → (kept : List Bool) → (test row : ℕ) → Bool
others sets kept test row = any_to (λ other. not (nat_eq other test) && (at kept other && has sets other row)) (length sets)

-- the test exercises a row that no other test does that is kept so far
abbrev pub is_needed : (sets : List (List ℕ)) → (rows : ℕ) → (kept : List Bool) → (test : ℕ) → Bool
is_needed sets rows kept test = any_to (λ row. has sets test row && not (others sets kept test row)) rows

-- What is kept after the first `count` tests are looked at, the last of them first: each of them is kept where it is needed.
abbrev pub reduced_from : (sets : List (List ℕ)) → (rows : ℕ) → (count : ℕ) → (kept : List Bool) → List Bool
reduced_from sets rows zero kept = kept
reduced_from sets rows (suc count) kept = reduced_from sets rows count (set kept count (is_needed sets rows kept count))

-- which tests are kept, where at first all are
abbrev pub reduced : (sets : List (List ℕ)) → (rows : ℕ) → List Bool
reduced sets rows = reduced_from sets rows (length sets) (replicate (length sets) true)

-- no test before this one exercises the row, by the first test that does, and none that `later` knows of
abbrev pub is_new : Option (Option ℕ) → Option Bool → (test : ℕ) → Bool
is_new (Some (Some first)) (Some later) test = not (nat_lt first test) && not later
is_new (Some None) later test = false
is_new (Some (Some first)) None test = false
is_new None later test = false

abbrev pub is_new_at : (first : List (Option ℕ)) → (later : List Bool) → (test : ℕ) → Option ℕ → Bool
is_new_at first later test (Some row) = is_new (slice_get first row) (slice_get later row) test
is_new_at first later test None = false
