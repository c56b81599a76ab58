use Rattle.cc_flows.specs.Sweeping.{Visits}
use Rattle.cc_flows.proofs.sweeping.visit_these.Given as goal

abbrev pub invariant-loop-point : goal.invariant-loop-point
invariant-loop-point l = Visits l.next l.clears l.initial.reach.items l.reach.items l.initial.dirty.items l.dirty.items
