use Rattle.std.proofs.Common.{◌≡◌, ◌++◌}
use Rattle.cc_tables.specs.Records.{IsFresh, record_text, written}
use Rattle.cc_tables.specs.TestTable.{tests_header, tests_to}
use Rattle.cc_tables.proofs.tests.tests_csv.Given as goal

abbrev pub invariant-loop-i : goal.invariant-loop-i
invariant-loop-i l = IsFresh l.records × (written l.records ≡ record_text tests_header ++ tests_to l.program l.scores l.tests l.i)
