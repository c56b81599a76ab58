use Rattle.std.proofs.Common.{◌≡◌, ◌++◌}
use Rattle.cc_tables.specs.Records.{IsFresh, written}
use Rattle.cc_tables.specs.TestTable.{rows_to}
use Rattle.cc_tables.proofs.tests.put_rows.Given as goal

abbrev pub invariant-loop-row : goal.invariant-loop-row
invariant-loop-row l = IsFresh l.records × (written l.records ≡ written l.initial.records ++ rows_to l.test l.requirement l.rows l.ending l.row-index)
