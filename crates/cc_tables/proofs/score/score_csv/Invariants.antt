use Rattle.std.proofs.Common.{◌≡◌, ◌++◌, is_some}
use Rattle.std.specs.Option.{option_copied}
use Rattle.cc_tables.specs.Records.{IsFresh, record_text, written}
use Rattle.cc_tables.specs.Tables.{score_header, scored_to}
use Rattle.cc_tables.proofs.score.score_csv.Given as goal

abbrev pub invariant-loop-i : goal.invariant-loop-i
invariant-loop-i l = IsFresh l.records × (written l.records ≡ record_text (score_header (is_some l.reasons)) ++ scored_to l.program l.listing l.scores l.tests (option_copied l.reasons) l.i)
