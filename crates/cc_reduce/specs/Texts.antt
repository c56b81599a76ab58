-- The texts of what is kept, and of the order.
use Rattle.std.specs.Prelude.{ℕ, zero, suc, ◌+◌, List, [], ◌∷◌, ◌++◌, Bool, cond, codes, length, Option, Some, None, slice_get, take}
use Rattle.std.specs.Fmt.{decimal}
use Rattle.cc_meaning.specs.declared.score.Scores.{Scores}
use Rattle.cc_meaning.specs.declared.test.Test.{Test}
use Rattle.cc_tables.specs.Records.{record_text}
use Rattle.cc_tables.specs.TestTable.{rows_of}
use Rattle.cc_reduce.specs.Ordered.{added, total}
use Rattle.cc_reduce.specs.Rows.{at, count_to}

abbrev pub name_or : Option Test → List ℕ
name_or (Some test) = test.name
name_or None = []

-- the name of the test of this number
abbrev pub name_of : List Test → (number : ℕ) → List ℕ
name_of tests number = name_or (slice_get tests number)

abbrev pub yes_or_no : Bool → List ℕ
yes_or_no is_kept = cond is_kept (codes "yes") (codes "no")

-- the record of a test: its name, whether it is kept, and how many rows it exercises
abbrev pub kept_text : Scores → (kept : List Bool) → List Test → (number : ℕ) → List ℕ
kept_text scores kept tests number =
    record_text (name_of tests number ∷ yes_or_no (at kept number) ∷ decimal (length (rows_of scores number)) ∷ [])

-- the records of the first `count` tests
abbrev pub kept_to : Scores → (kept : List Bool) → List Test → (count : ℕ) → List ℕ
kept_to scores kept tests zero = []
kept_to scores kept tests (suc count) = kept_to scores kept tests count ++ kept_text scores kept tests count

-- the line that says how many are kept
abbrev pub kept_line : (kept tests : ℕ) → List ℕ
kept_line kept tests = codes "kept " ++ (decimal kept ++ (codes " of " ++ (decimal tests ++ codes "\n")))

abbrev pub reduce_header : List (List ℕ)
reduce_header = codes "test" ∷ codes "kept" ∷ codes "rows" ∷ []

-- the table of what is kept, and below it the line
abbrev pub reduce_text : Scores → (kept : List Bool) → List Test → List ℕ
reduce_text scores kept tests =
    (record_text reduce_header ++ kept_to scores kept tests (length tests)) ++ kept_line (count_to (λ i. at kept i) (length tests)) (length tests)

-- the record of a test at a place, which is printed from 1: the name, how many rows it adds to those of the earlier places,
-- and how many there are with them
abbrev pub place_text : Scores → (order : List ℕ) → List Test → (place : ℕ) → Option ℕ → List ℕ
place_text scores order tests place (Some test) =
    record_text (decimal (place + 1) ∷ name_of tests test ∷ decimal (added scores.exercised (length scores.marks) (take place order) test)
    ∷ decimal (total scores.exercised (length scores.marks) (take (place + 1) order)) ∷ [])
place_text scores order tests place None = []

-- the records of the first `count` places
abbrev pub places_to : Scores → (order : List ℕ) → List Test → (count : ℕ) → List ℕ
places_to scores order tests zero = []
places_to scores order tests (suc count) = places_to scores order tests count ++ place_text scores order tests count (slice_get order count)

abbrev pub order_header : List (List ℕ)
order_header = codes "place" ∷ codes "test" ∷ codes "new" ∷ codes "total" ∷ []

-- the table of the order
abbrev pub order_text : Scores → (order : List ℕ) → List Test → List ℕ
order_text scores order tests = record_text order_header ++ places_to scores order tests (length order)
