-- The first test whose run exercises a row.
use Rattle.std.specs.Prelude.{ℕ, zero, suc, List, [], ◌∷◌, ◌++◌, Bool, true, false, length, Option, Some, None, slice_get, nat_eq}
use Rattle.cc_score.specs.Any.{any_to}

abbrev pub is_row : Option ℕ → ℕ → Bool
is_row (Some one) row = nat_eq one row
is_row None row = false

-- one of the first `count` of these rows is the row
abbrev pub has_to : (rows : List ℕ) → (row count : ℕ) → Bool
has_to rows row count = any_to (λ i. is_row (slice_get rows i) row) count

-- these rows have the row
abbrev pub exercises : Option (List ℕ) → (row : ℕ) → Bool
exercises (Some rows) row = has_to rows row (length rows)
exercises None row = false

-- the test that marks a row, or else this one, if it exercises the row
abbrev pub or_test : Option ℕ → Bool → (test : ℕ) → Option ℕ
or_test (Some first) exercised test = Some first
or_test None true test = Some test
or_test None false test = None

-- the first of the first `count` tests whose run exercises the row
abbrev pub first_to : (exercised : List (List ℕ)) → (row count : ℕ) → Option ℕ
first_to exercised row zero = None
first_to exercised row (suc count) = or_test (first_to exercised row count) (exercises (slice_get exercised count) row) count

-- for each of the first `count` rows the first test whose run exercises it
abbrev pub marks_to : (exercised : List (List ℕ)) → (count : ℕ) → List (Option ℕ)
marks_to exercised zero = []
marks_to exercised (suc count) = marks_to exercised count ++ first_to exercised count (length exercised) ∷ []
