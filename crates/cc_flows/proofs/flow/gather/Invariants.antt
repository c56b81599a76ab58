use Rattle.cc_rows.specs.Gains.{Gains}
use Rattle.cc_flows.proofs.Gaining.{IsBelow}
use Rattle.cc_flows.proofs.flow.gather.Given as goal

abbrev pub invariant-loop-i : goal.invariant-loop-i
invariant-loop-i l = Gains l.initial.found.items l.found.items (IsBelow l.definitions l.bits l.reader l.i)
