use Rattle.std.proofs.Common.{◌≡◌, drop}
use Rattle.cc_record_tables.specs.CellTable.{slot_in}
use Rattle.cc_record_tables.proofs.cells.slot_in.Given as goal

abbrev pub invariant-loop-row : goal.invariant-loop-row
invariant-loop-row l = slot_in (drop l.row-index l.rows) l.object l.index ≡ slot_in l.rows l.object l.index
