use Rattle.cc_flows.specs.Sweeping.{Begins}
use Rattle.cc_flows.proofs.sweeping.begin.Given as goal

abbrev pub invariant-loop-i : goal.invariant-loop-i
invariant-loop-i l = Begins l.next l.starts l.i l.initial.reach.items l.reach.items l.initial.dirty.items l.dirty.items
