use Rattle.std.proofs.Common.{◌≡◌, ◌++◌}
use Rattle.cc_tables.specs.Records.{IsFresh, record_text, written}
use Rattle.cc_tables.specs.Tables.{list_header, rows_to}
use Rattle.cc_tables.proofs.list.list_csv.Given as goal

abbrev pub invariant-loop-i : goal.invariant-loop-i
invariant-loop-i l = IsFresh l.records × (written l.records ≡ record_text list_header ++ rows_to l.program l.listing l.i)
