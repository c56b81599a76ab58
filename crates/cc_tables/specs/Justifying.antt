-- Which rows justifications speak of.
use Rattle.std.specs.Prelude.{ℕ, zero, suc, ◌+◌, List, [], ◌∷◌, ◌++◌, Option, Some, None, bytes_eq, cond, is_some, length, slice_get}
use Rattle.cc_program.specs.declared.program.Program.{Program}
use Rattle.cc_program.specs.Programs.{number_of}
use Rattle.cc_meaning.specs.declared.coupling.Coupling.{Coupling}
use Rattle.cc_meaning.specs.declared.score.Justified.{Justified}
use Rattle.cc_meaning.specs.declared.score.RowReason.{RowReason}
use Rattle.cc_tables.specs.Records.{record_text}
use Rattle.cc_tables.specs.Rows.{row_fields}

-- The text of a row is its line of the listing after the number and the comma; here it has the line feed too.
abbrev pub text_of : Program → Coupling → List ℕ
text_of p row = record_text (row_fields p row)

abbrev pub if_text : Program → Option Coupling → List (List ℕ)
if_text p (Some row) = text_of p row ∷ []
if_text p None = []

-- the texts of the first `count` rows
abbrev pub texts_to : Program → List Coupling → (count : ℕ) → List (List ℕ)
texts_to p rows zero = []
texts_to p rows (suc count) = texts_to p rows count ++ if_text p (slice_get rows count)

-- the line of a justification, with a line feed behind
abbrev pub line_of : Justified → List ℕ
line_of justified = justified.line ++ 10 ∷ []

abbrev pub if_line : Option Justified → List (List ℕ)
if_line (Some justified) = line_of justified ∷ []
if_line None = []

-- the lines of the first `count` justifications
abbrev pub lines_to : List Justified → (count : ℕ) → List (List ℕ)
lines_to list zero = []
lines_to list (suc count) = lines_to list count ++ if_line (slice_get list count)

-- the place of the first of these texts, counted from n, that is this one
abbrev pub place_from : ℕ → List (List ℕ) → List ℕ → Option ℕ
place_from n [] text = None
place_from n (one ∷ texts) text = cond (bytes_eq one text) (Some n) (place_from (n + 1) texts text)

-- the place of the first of these lines, counted from n, that is none of the texts
abbrev pub unknown_from : ℕ → (lines texts : List (List ℕ)) → Option ℕ
unknown_from n [] texts = None
unknown_from n (line ∷ lines) texts = cond (is_some (place_from 0 texts line)) (unknown_from (n + 1) lines texts) (Some n)

abbrev pub reason_with : ℕ → Option Justified → Option RowReason
reason_with place (Some justified) = Some (record { index = number_of place; reason = justified.reason })
reason_with place None = None

abbrev pub reason_at : List Justified → Option ℕ → Option RowReason
reason_at list (Some place) = reason_with place (slice_get list place)
reason_at list None = None

-- the reason of a row with this text: that of the first justification with its line
abbrev pub reason_of : (lines : List (List ℕ)) → List Justified → (text : List ℕ) → Option RowReason
reason_of lines list text = reason_at list (place_from 0 lines text)

abbrev pub if_reason : (lines : List (List ℕ)) → List Justified → Option (List ℕ) → List (Option RowReason)
if_reason lines list (Some text) = reason_of lines list text ∷ []
if_reason lines list None = []

-- the reasons of the first `count` rows, by their texts
abbrev pub reasons_to : (lines : List (List ℕ)) → List Justified → (texts : List (List ℕ)) → (count : ℕ) → List (Option RowReason)
reasons_to lines list texts zero = []
reasons_to lines list texts (suc count) = reasons_to lines list texts count ++ if_reason lines list (slice_get texts count)

abbrev pub all_texts : Program → List Coupling → List (List ℕ)
all_texts p rows = texts_to p rows (length rows)

abbrev pub all_lines : List Justified → List (List ℕ)
all_lines list = lines_to list (length list)

-- for each row the reason that the justifications give it
abbrev pub reasons : Program → List Coupling → List Justified → List (Option RowReason)
reasons p rows list = reasons_to (all_lines list) list (all_texts p rows) (length (all_texts p rows))

-- the first justification whose line is no row's text
abbrev pub first_unknown : Program → List Coupling → List Justified → Option ℕ
first_unknown p rows list = unknown_from 0 (all_lines list) (all_texts p rows)
