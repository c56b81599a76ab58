use Rattle.std.proofs.Common.{take}
use Rattle.cc_rows.specs.Gains.{Gains, Each}
use Rattle.cc_lanes.specs.Spreading.{IsSpread}
use Rattle.cc_lanes.proofs.laid.spread.Given as goal

abbrev pub invariant-loop-access : goal.invariant-loop-access
invariant-loop-access l = Gains l.initial.out.items l.out.items (Each (take l.access-index l.accesses) (IsSpread l.tables l.lanes l.whose))
