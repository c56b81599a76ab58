use Rattle.std.proofs.Common.{take}
use Rattle.cc_rows.specs.Gains.{Gains, Each}
use Rattle.cc_lanes.specs.Spreading.{IsInto}
use Rattle.cc_lanes.proofs.laid.put_into_all.Given as goal

abbrev pub invariant-loop-number : goal.invariant-loop-number
invariant-loop-number l = Gains l.initial.out.items l.out.items (Each (take l.number-index l.numbers) (IsInto l.tables l.lanes.pairs.items l.whose l.access))
