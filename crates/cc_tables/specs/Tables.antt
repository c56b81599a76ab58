-- The tables.
use Rattle.std.specs.Prelude.{ℕ, zero, suc, ◌+◌, List, [], ◌∷◌, ◌++◌, Bool, true, false, Option, Some, None, is_some, codes, length, slice_get}
use Rattle.std.specs.Fmt.{decimal}
use Rattle.cc_program.specs.declared.program.Program.{Program}
use Rattle.cc_meaning.specs.declared.coupling.Coupling.{Coupling}
use Rattle.cc_meaning.specs.declared.score.Scores.{Scores}
use Rattle.cc_meaning.specs.declared.score.RowReason.{RowReason}
use Rattle.cc_meaning.specs.declared.test.Test.{Test}
use Rattle.cc_tables.specs.Records.{record_text}
use Rattle.cc_tables.specs.Rows.{row_fields}

-- the fields of the first line
abbrev pub list_header : List (List ℕ)
list_header = codes "row" ∷ codes "kind" ∷ codes "from" ∷ codes "to" ∷ codes "definition" ∷ codes "use" ∷ codes "name" ∷ []

abbrev pub row_text : Program → ℕ → Option Coupling → List ℕ
row_text p number (Some row) = record_text (decimal number ∷ row_fields p row)
row_text p number None = []

-- the text of the first `count` rows, numbered from 1
abbrev pub rows_to : Program → List Coupling → (count : ℕ) → List ℕ
rows_to p rows zero = []
rows_to p rows (suc count) = rows_to p rows count ++ row_text p (count + 1) (slice_get rows count)

-- the table of the listed rows
abbrev pub list_text : Program → List Coupling → List ℕ
list_text p rows = record_text list_header ++ rows_to p rows (length rows)

-- the fields of the first line of a table of marks: a reason stands only where rows can be justified
abbrev pub score_header : (justifies : Bool) → List (List ℕ)
score_header false = list_header ++ codes "test" ∷ []
score_header true = list_header ++ codes "test" ∷ codes "reason" ∷ []

abbrev pub name_of : Option Test → List ℕ
name_of (Some test) = test.name
name_of None = codes "-"

-- the name of the test that marks a row, or `-`
abbrev pub mark_text : List Test → Option (Option ℕ) → List ℕ
mark_text tests (Some (Some test)) = name_of (slice_get tests test)
mark_text tests (Some None) = codes "-"
mark_text tests None = codes "-"

-- a row's reason, or `-`
abbrev pub reason_text : Option (Option RowReason) → List ℕ
reason_text (Some (Some reason)) = reason.reason
reason_text (Some None) = codes "-"
reason_text None = codes "-"

-- a row's reason, or `-`; none where rows cannot be justified
abbrev pub reason_at : Option (List (Option RowReason)) → ℕ → Option (List ℕ)
reason_at None row = None
reason_at (Some reasons) row = Some (reason_text (slice_get reasons row))

-- what a row says, with its mark and, where rows can be justified, its reason
abbrev pub scored_fields : Program → Coupling → (mark : List ℕ) → (reason : Option (List ℕ)) → List (List ℕ)
scored_fields p row mark None = row_fields p row ++ mark ∷ []
scored_fields p row mark (Some reason) = row_fields p row ++ mark ∷ reason ∷ []

abbrev pub scored_text : Program → (number : ℕ) → Option Coupling → (mark : List ℕ) → (reason : Option (List ℕ)) → List ℕ
scored_text p number (Some row) mark reason = record_text (decimal number ∷ scored_fields p row mark reason)
scored_text p number None mark reason = []

-- the text of the first `count` rows with their marks
abbrev pub scored_to : Program → List Coupling → Scores → List Test → Option (List (Option RowReason)) → (count : ℕ) → List ℕ
scored_to p rows scores tests reasons zero = []
scored_to p rows scores tests reasons (suc count) =
    scored_to p rows scores tests reasons count
    ++ scored_text p (count + 1) (slice_get rows count) (mark_text tests (slice_get scores.marks count)) (reason_at reasons count)

-- the table of the rows with their marks
abbrev pub score_text : Program → List Coupling → Scores → List Test → Option (List (Option RowReason)) → List ℕ
score_text p rows scores tests reasons = record_text (score_header (is_some reasons)) ++ scored_to p rows scores tests reasons (length rows)
