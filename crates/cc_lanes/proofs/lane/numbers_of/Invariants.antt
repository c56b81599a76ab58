use Rattle.std.proofs.Common.{take}
use Rattle.cc_lanes.specs.Lanes.{AreNumbered}
use Rattle.cc_lanes.proofs.lane.numbers_of.Given as goal

abbrev pub invariant-loop-i : goal.invariant-loop-i
invariant-loop-i l = AreNumbered (take l.i l.lanes) l.out.items
