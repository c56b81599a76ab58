-- The table of the tests.
use Rattle.std.specs.Prelude.{ℕ, zero, suc, ◌+◌, List, [], ◌∷◌, ◌++◌, Option, Some, None, codes, cond, length, nat_eq, slice_get}
use Rattle.std.specs.Fmt.{decimal}
use Rattle.cc_program.specs.declared.program.Program.{Program}
use Rattle.cc_meaning.specs.declared.score.Scores.{Scores}
use Rattle.cc_meaning.specs.declared.test.Test.{Test}
use Rattle.cc_tables.specs.Records.{record_text}
use Rattle.cc_tables.specs.Ends.{end_text}

abbrev pub rows_or : Option (List ℕ) → List ℕ
rows_or (Some rows) = rows
rows_or None = []

-- the rows that a test's run exercises, by number
abbrev pub rows_of : Scores → ℕ → List ℕ
rows_of scores test = rows_or (slice_get scores.exercised test)

abbrev pub numbered_text : (test requirement ending : List ℕ) → Option ℕ → List ℕ
numbered_text test requirement ending (Some row) = record_text (test ∷ requirement ∷ decimal (row + 1) ∷ ending ∷ [])
numbered_text test requirement ending None = []

-- the records of the first `count` of the rows of a test and a requirement, which are printed from 1
abbrev pub rows_to : (test requirement : List ℕ) → (rows : List ℕ) → (ending : List ℕ) → (count : ℕ) → List ℕ
rows_to test requirement rows ending zero = []
rows_to test requirement rows ending (suc count) = rows_to test requirement rows ending count ++ numbered_text test requirement ending (slice_get rows count)

-- the records of a test and a requirement: one where there are no rows
abbrev pub rows_text : (test requirement : List ℕ) → (rows : List ℕ) → (ending : List ℕ) → List ℕ
rows_text test requirement rows ending =
    cond (nat_eq (length rows) 0) (record_text (test ∷ requirement ∷ codes "-" ∷ ending ∷ [])) (rows_to test requirement rows ending (length rows))

abbrev pub required_text : (test : List ℕ) → (rows : List ℕ) → (ending : List ℕ) → Option (List ℕ) → List ℕ
required_text test rows ending (Some requirement) = rows_text test requirement rows ending
required_text test rows ending None = []

-- the records of a test and the first `count` of its requirements
abbrev pub requirements_to : (test : List ℕ) → (requirements : List (List ℕ)) → (rows : List ℕ) → (ending : List ℕ) → (count : ℕ) → List ℕ
requirements_to test requirements rows ending zero = []
requirements_to test requirements rows ending (suc count) =
    requirements_to test requirements rows ending count ++ required_text test rows ending (slice_get requirements count)

-- the records of a test: `-` stands for a requirement where it has none
abbrev pub requirements_text : (test : List ℕ) → (requirements : List (List ℕ)) → (rows : List ℕ) → (ending : List ℕ) → List ℕ
requirements_text test requirements rows ending =
    cond (nat_eq (length requirements) 0) (rows_text test (codes "-") rows ending) (requirements_to test requirements rows ending (length requirements))

-- the records of the test of this number
abbrev pub test_text : Program → Scores → (number : ℕ) → Test → List ℕ
test_text p scores number test = requirements_text test.name test.requirements (rows_of scores number) (end_text p (slice_get scores.ends number))

abbrev pub numbered_test : Program → Scores → (number : ℕ) → Option Test → List ℕ
numbered_test p scores number (Some test) = test_text p scores number test
numbered_test p scores number None = []

-- the records of the first `count` tests
abbrev pub tests_to : Program → Scores → List Test → (count : ℕ) → List ℕ
tests_to p scores tests zero = []
tests_to p scores tests (suc count) = tests_to p scores tests count ++ numbered_test p scores count (slice_get tests count)

abbrev pub tests_header : List (List ℕ)
tests_header = codes "test" ∷ codes "requirement" ∷ codes "row" ∷ codes "end" ∷ []

-- the table of the tests
abbrev pub tests_text : Program → Scores → List Test → List ℕ
tests_text p scores tests = record_text tests_header ++ tests_to p scores tests (length tests)
