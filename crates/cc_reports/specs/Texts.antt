-- The texts of the commands, from what is found of a program and its tests.
use Rattle.std.specs.Prelude.{◌≡◌, ℕ, List, ◌++◌, Bool, Option, is_some, length}
use Rattle.cc_meaning.specs.declared.coupling.Coupling.{Coupling}
use Rattle.cc_meaning.specs.declared.score.RowReason.{RowReason}
use Rattle.cc_meaning.specs.declared.score.Scores.{Scores}
use Rattle.cc_meaning.specs.declared.score.Verdicts.{Verdicts}
use Rattle.cc_meaning.specs.declared.test.Test.{Test}
use Rattle.cc_program.specs.declared.program.Program.{Program}
use Rattle.cc_reduce.specs.Ordered.{IsOrder}
use Rattle.cc_reduce.specs.Reduced.{reduced}
use Rattle.cc_reduce.specs.Texts.{order_text, reduce_text}
use Rattle.cc_score.specs.Counts.{verdicts}
use Rattle.cc_tables.specs.Pairs.{pairs_text}
use Rattle.cc_tables.specs.Tables.{score_text}
use Rattle.cc_tables.specs.TestTable.{tests_text}
use Rattle.cc_verdicts.specs.Lines.{are_met, verdict_lines}
use Rattle.cc_verdicts.specs.Summary.{covered_to, summary_line}
use Rattle.cc_reports.specs.declared.kinds.Report.{Report}
use Rattle.cc_reports.specs.declared.kinds.Report.TheVariants.{Score, Tests, Pairs, Reduce, Order, Summary}

-- the lines of the criteria: how many are justified stands in them where rows can be justified
abbrev pub lines_text : Option (List (Option RowReason)) → Verdicts → List ℕ
lines_text reasons v = verdict_lines v (is_some reasons)

-- the table of the rows with their marks, and the lines of the criteria
abbrev pub score_report : Program → List Test → List Coupling → Option (List (Option RowReason)) → Scores → Verdicts → List ℕ
score_report P tests rows reasons scores v = score_text P rows scores tests reasons ++ lines_text reasons v

-- the line of the generated project of this number, and the lines of the criteria
abbrev pub summary_report : (number : ℕ) → List Coupling → Option (List (Option RowReason)) → Scores → Verdicts → List ℕ
summary_report number rows reasons scores v =
    summary_line number (length rows) (covered_to scores.marks (length rows)) ++ lines_text reasons v

-- the table of the tests with those that are kept
abbrev pub reduce_report : List Test → List Coupling → Scores → List ℕ
reduce_report tests rows scores = reduce_text scores (reduced scores.exercised (length rows)) tests

-- the text is the table of the tests in the order in which each adds most
abbrev pub IsOrderText : List Test → List Coupling → Scores → List ℕ → Type 0
IsOrderText tests rows scores text = (order : List ℕ) × IsOrder scores.exercised (length rows) order × (text ≡ order_text scores order tests)

-- the text is what is asked for, where the verdicts are these
abbrev pub IsTextWith : Report → Program → List Test → List Coupling → Option (List (Option RowReason)) → Scores → Verdicts → List ℕ → Type 0
IsTextWith Score P tests rows reasons scores v text = text ≡ score_report P tests rows reasons scores v
IsTextWith Tests P tests rows reasons scores v text = text ≡ tests_text P scores tests
IsTextWith Pairs P tests rows reasons scores v text = text ≡ pairs_text P rows scores.marks
IsTextWith Reduce P tests rows reasons scores v text = text ≡ reduce_report tests rows scores
IsTextWith Order P tests rows reasons scores v text = IsOrderText tests rows scores text
IsTextWith (Summary number) P tests rows reasons scores v text = text ≡ summary_report number rows reasons scores v

-- the text is that of a report
abbrev pub IsText : Report → Program → List Test → List Coupling → Option (List (Option RowReason)) → Scores → List ℕ → Type 0
IsText what P tests rows reasons scores text = IsTextWith what P tests rows reasons scores (verdicts rows scores.marks reasons) text

-- each of the three criteria is met, with justifications or without
abbrev pub is_met : List Coupling → Option (List (Option RowReason)) → Scores → Bool
is_met rows reasons scores = are_met (verdicts rows scores.marks reasons)
