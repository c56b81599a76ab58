-- The line of a generated project.
use Rattle.std.specs.Prelude.{ℕ, zero, suc, ◌+◌, List, ◌++◌, Bool, Option, codes, is_some}
use Rattle.std.specs.Fmt.{decimal}
use Rattle.cc_score.specs.Counts.{one_if}
use Rattle.cc_score.specs.Marks.{mark}

-- some test marks the row
abbrev pub is_covered : (marks : List (Option ℕ)) → (row : ℕ) → Bool
is_covered marks row = is_some (mark marks row)

-- how many of the first `count` rows some test marks
abbrev pub covered_to : (marks : List (Option ℕ)) → (count : ℕ) → ℕ
covered_to marks zero = 0
covered_to marks (suc count) = covered_to marks count + one_if (is_covered marks count)

-- the number of the project, which has as many components, and how many rows are listed and how many are covered
abbrev pub summary_line : (number rows covered : ℕ) → List ℕ
summary_line number rows covered =
    codes "generated " ++ (decimal number ++ (codes ": components " ++ (decimal number ++ (codes " rows " ++ (decimal rows
    ++ (codes " covered " ++ (decimal covered ++ codes "\n")))))))
