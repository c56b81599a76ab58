use Rattle.std.proofs.Common.{◌+◌, ◌-◌, vec_len}
use Rattle.cc_record_tables.specs.CellTable.{SameSlots}
use Rattle.cc_record_tables.proofs.cells.make_places.Given as goal

abbrev pub invariant-loop-slots : goal.invariant-loop-slots
invariant-loop-slots l = SameSlots l.initial.slots.items l.slots.items

abbrev pub decreases-loop-slots : goal.decreases-loop-slots
decreases-loop-slots l = l.index + 1 - vec_len l.slots
