use Rattle.std.proofs.Common.{◌≡◌, drop}
use Rattle.cc_record_tables.specs.CellTable.{place_from}
use Rattle.cc_record_tables.proofs.cells.place.Given as goal

abbrev pub invariant-loop-i : goal.invariant-loop-i
invariant-loop-i l = place_from l.i (drop l.i l.rows) l.object ≡ place_from 0 l.rows l.object
