-- One more row, record or item.
use Rattle.std.proofs.Common.{◌≡◌, ℕ, suc, ◌+◌, List, ◌++◌, Option, Bool, length, ap, arith}
use Rattle.std.specs.Prelude.{slice_get}
use Rattle.cc_program.specs.declared.program.Program.{Program}
use Rattle.cc_meaning.specs.declared.coupling.Coupling.{Coupling}
use Rattle.cc_meaning.specs.declared.score.Justified.{Justified}
use Rattle.cc_meaning.specs.declared.score.RowReason.{RowReason}
use Rattle.cc_meaning.specs.declared.score.Scores.{Scores}
use Rattle.cc_meaning.specs.declared.test.Test.{Test}
use Rattle.cc_tables.specs.declared.pairs.Kind.{Kind}
use Rattle.cc_tables.specs.declared.pairs.Span.{Span}
use Rattle.cc_tables.specs.Tables as table
use Rattle.cc_tables.specs.TestTable as tests
use Rattle.cc_tables.specs.Pairs as pairs
use Rattle.cc_tables.specs.Justifying as just

pub rows_more : (p : Program) (rows : List Coupling) (count : ℕ) → table.rows_to p rows (count + 1) ≡ table.rows_to p rows count ++ table.row_text p (count + 1) (slice_get rows count)
rows_more p rows count = let e : count + 1 ≡ suc count = omega arith in ap (table.rows_to p rows) e

pub scored_more : (p : Program) (rows : List Coupling) (scores : Scores) (ts : List Test) (reasons : Option (List (Option RowReason))) (count : ℕ)
    → table.scored_to p rows scores ts reasons (count + 1) ≡ table.scored_to p rows scores ts reasons count
    ++ table.scored_text p (count + 1) (slice_get rows count) (table.mark_text ts (slice_get scores.marks count)) (table.reason_at reasons count)
scored_more p rows scores ts reasons count = let e : count + 1 ≡ suc count = omega arith in ap (table.scored_to p rows scores ts reasons) e

pub numbered_more : (test requirement : List ℕ) (rows : List ℕ) (ending : List ℕ) (count : ℕ) → tests.rows_to test requirement rows ending (count + 1) ≡ tests.rows_to test requirement rows ending count ++ tests.numbered_text test requirement ending (slice_get rows count)
numbered_more test requirement rows ending count = let e : count + 1 ≡ suc count = omega arith in ap (tests.rows_to test requirement rows ending) e

pub requirements_more : (test : List ℕ) (requirements : List (List ℕ)) (rows : List ℕ) (ending : List ℕ) (count : ℕ)
    → tests.requirements_to test requirements rows ending (count + 1) ≡ tests.requirements_to test requirements rows ending count ++ tests.required_text test rows ending (slice_get requirements count)
requirements_more test requirements rows ending count = let e : count + 1 ≡ suc count = omega arith in ap (tests.requirements_to test requirements rows ending) e

pub tests_more : (p : Program) (scores : Scores) (ts : List Test) (count : ℕ) → tests.tests_to p scores ts (count + 1) ≡ tests.tests_to p scores ts count ++ tests.numbered_test p scores count (slice_get ts count)
tests_more p scores ts count = let e : count + 1 ≡ suc count = omega arith in ap (tests.tests_to p scores ts) e

pub spans_more : (p : Program) (rows : List Coupling) (marks : List (Option ℕ)) (count : ℕ) → pairs.spans_to p rows marks (count + 1) ≡ pairs.spans_to p rows marks count ++ pairs.span_at p (slice_get rows count) (pairs.is_marked (slice_get marks count))
spans_more p rows marks count = let e : count + 1 ≡ suc count = omega arith in ap (pairs.spans_to p rows marks) e

pub leaving_more : (from : ℕ) (spans : List Span) (count : ℕ) → pairs.leaving_to from spans (count + 1) ≡ pairs.leaving_to from spans count ++ pairs.if_leaves from (slice_get spans count)
leaving_more from spans count = let e : count + 1 ≡ suc count = omega arith in ap (pairs.leaving_to from spans) e

pub reaching_more : (to : ℕ) (spans : List Span) (count : ℕ) → pairs.reaching_to to spans (count + 1) ≡ pairs.reaching_to to spans count ++ pairs.if_reaches to (slice_get spans count)
reaching_more to spans count = let e : count + 1 ≡ suc count = omega arith in ap (pairs.reaching_to to spans) e

pub count_more : (k : Kind) (covered : Bool) (spans : List Span) (count : ℕ) → pairs.count_to k covered spans (count + 1) ≡ pairs.count_to k covered spans count + pairs.if_counts k covered (slice_get spans count)
count_more k covered spans count = let e : count + 1 ≡ suc count = omega arith in ap (pairs.count_to k covered spans) e

pub from_more : (p : Program) (from : ℕ) (leaving : List Span) (count : ℕ) → pairs.pairs_from p from leaving (count + 1) ≡ pairs.pairs_from p from leaving count ++ pairs.pair_text p from count (pairs.reaching_to count leaving (length leaving))
from_more p from leaving count = let e : count + 1 ≡ suc count = omega arith in ap (pairs.pairs_from p from leaving) e

pub pairs_more : (p : Program) (spans : List Span) (count : ℕ) → pairs.pairs_to p spans (count + 1) ≡ pairs.pairs_to p spans count ++ pairs.all_from p spans count
pairs_more p spans count = let e : count + 1 ≡ suc count = omega arith in ap (pairs.pairs_to p spans) e

pub texts_more : (p : Program) (rows : List Coupling) (count : ℕ) → just.texts_to p rows (count + 1) ≡ just.texts_to p rows count ++ just.if_text p (slice_get rows count)
texts_more p rows count = let e : count + 1 ≡ suc count = omega arith in ap (just.texts_to p rows) e

pub lines_more : (list : List Justified) (count : ℕ) → just.lines_to list (count + 1) ≡ just.lines_to list count ++ just.if_line (slice_get list count)
lines_more list count = let e : count + 1 ≡ suc count = omega arith in ap (just.lines_to list) e

pub reasons_more : (lines : List (List ℕ)) (list : List Justified) (texts : List (List ℕ)) (count : ℕ) → just.reasons_to lines list texts (count + 1) ≡ just.reasons_to lines list texts count ++ just.if_reason lines list (slice_get texts count)
reasons_more lines list texts count = let e : count + 1 ≡ suc count = omega arith in ap (just.reasons_to lines list texts) e
