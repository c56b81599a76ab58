use Rattle.std.proofs.Common.{◌≡◌, ◌++◌, string_bytes}
use Rattle.cc_tables.specs.Records.{IsFresh, written}
use Rattle.cc_tables.specs.TestTable.{requirements_to}
use Rattle.cc_tables.proofs.tests.put_test.Given as goal

abbrev pub invariant-loop-i : goal.invariant-loop-i
invariant-loop-i l = IsFresh l.records × (written l.records ≡ written l.initial.records ++ requirements_to l.test.name l.test.requirements l.rows (string_bytes l.ending) l.i)
