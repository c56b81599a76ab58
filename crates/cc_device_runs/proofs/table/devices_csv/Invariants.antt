use Rattle.std.proofs.Common.{◌≡◌, ◌++◌}
use Rattle.cc_tables.specs.Records.{IsFresh, record_text, written}
use Rattle.cc_device_runs.specs.Texts.{header, rows_to}
use Rattle.cc_device_runs.proofs.table.devices_csv.Given as goal

abbrev pub invariant-loop-i : goal.invariant-loop-i
invariant-loop-i l = IsFresh l.records × (written l.records ≡ record_text header ++ rows_to l.program l.devices l.rows l.marks l.tests l.i)
