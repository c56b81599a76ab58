use Rattle.std.proofs.Common.{◌≡◌, map, take}
use Rattle.cc_first.proofs.PathEdges.{call_edge}
use Rattle.cc_first.proofs.paths.live_functions.Given as goal

abbrev pub invariant-loop-call : goal.invariant-loop-call
invariant-loop-call l = l.edges.items ≡ map call_edge (take l.call-index l.program.calls.items)
