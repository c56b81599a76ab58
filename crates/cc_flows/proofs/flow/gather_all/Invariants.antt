use Rattle.std.proofs.Common.{take}
use Rattle.cc_rows.specs.Gains.{Gains, Each}
use Rattle.cc_flows.specs.Flows.{IsRead}
use Rattle.cc_flows.proofs.flow.gather_all.Given as goal

abbrev pub invariant-loop-read : goal.invariant-loop-read
invariant-loop-read l = Gains l.initial.found.items l.found.items (Each (take l.read-index l.reads) (IsRead l.definitions l.reach l.masks))
