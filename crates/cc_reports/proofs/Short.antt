-- There are no more reasons than rows.
use Rattle.std.proofs.Common.{ℕ, zero, suc, ◌<◌, ◌≤◌, ◌^◌, List, Option, Some, None, length, length-append, arith}
use Rattle.std.specs.Prelude.{slice_get}
use Rattle.cc_meaning.specs.declared.coupling.Coupling.{Coupling}
use Rattle.cc_meaning.specs.declared.score.Justified.{Justified}
use Rattle.cc_program.specs.declared.program.Program.{Program}
use Rattle.cc_tables.specs.Justifying.{all_lines, all_texts, if_reason, if_text, reasons, reasons_to, texts_to}

one_text : (P : Program) (row : Option Coupling) → length (if_text P row) ≤ 1
one_text P (Some row) = omega arith
one_text P None = omega arith

texts_short : (P : Program) (rows : List Coupling) (count : ℕ) → length (texts_to P rows count) ≤ count
texts_short P rows zero = omega arith
texts_short P rows (suc count) =
    omega (arith, length-append (texts_to P rows count) (if_text P (slice_get rows count)), texts_short P rows count, one_text P (slice_get rows count))

one_reason : (lines : List (List ℕ)) (list : List Justified) (text : Option (List ℕ)) → length (if_reason lines list text) ≤ 1
one_reason lines list (Some text) = omega arith
one_reason lines list None = omega arith

reasons_short : (lines : List (List ℕ)) (list : List Justified) (texts : List (List ℕ)) (count : ℕ) → length (reasons_to lines list texts count) ≤ count
reasons_short lines list texts zero = omega arith
reasons_short lines list texts (suc count) =
    omega (arith, length-append (reasons_to lines list texts count) (if_reason lines list (slice_get texts count)), reasons_short lines list texts count, one_reason lines list (slice_get texts count))

pub few_reasons : (P : Program) (rows : List Coupling) (list : List Justified) → length rows < 2 ^ 32 → length (reasons P rows list) < 2 ^ 32
few_reasons P rows list few =
    omega (arith, few, texts_short P rows (length rows), reasons_short (all_lines list) list (all_texts P rows) (length (all_texts P rows)))
