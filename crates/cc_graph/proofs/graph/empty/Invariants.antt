use Rattle.std.proofs.Common.{◌≡◌, [], replicate}
use Rattle.cc_graph.proofs.graph.empty.Given as goal

abbrev pub invariant-loop-point : goal.invariant-loop-point
invariant-loop-point l = l.next.items ≡ replicate l._point []
