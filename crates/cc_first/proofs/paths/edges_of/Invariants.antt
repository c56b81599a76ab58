use Rattle.std.proofs.Common.{length}
use Rattle.std.specs.Prelude.{◌↔◌, Contains}
use Rattle.cc_base.specs.declared.reach.Edge.{Edge}
use Rattle.cc_first.proofs.PathEdges.{OfCalls, OfFunctions}
use Rattle.cc_first.proofs.paths.edges_of.Given as goal

abbrev pub invariant-loop-i : goal.invariant-loop-i
invariant-loop-i l = (edge : Edge) → Contains l.edges.items edge ↔ OfCalls (length l.program.functions.items) l.program.calls.items l.live l.i edge

abbrev pub invariant-loop-function : goal.invariant-loop-function
invariant-loop-function l = (edge : Edge) → Contains l.edges.items edge ↔ OfFunctions (length l.program.functions.items) l.program.calls.items l.live l.function edge
