use Rattle.cc_flows.proofs.Passing.{Visited}
use Rattle.cc_flows.proofs.sweeping.visit_all.Given as goal

abbrev pub invariant-loop-point : goal.invariant-loop-point
invariant-loop-point l = Visited l.next l.clears l.any l.point l.initial.reach.items l.reach.items l.initial.dirty.items l.dirty.items
