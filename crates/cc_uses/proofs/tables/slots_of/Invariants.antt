use Rattle.std.proofs.Common.{◌≡◌, ◌++◌, map, drop}
use Rattle.cc_uses.specs.Tabling as spec
use Rattle.cc_uses.proofs.tables.slots_of.Given as goal

abbrev pub invariant-loop-part : goal.invariant-loop-part
invariant-loop-part l = l.all ++ map (spec.slot_of l.program l.taken l.parts) (drop l.part-index l.part-items) ≡ spec.slots_of l.program l.taken l.parts
