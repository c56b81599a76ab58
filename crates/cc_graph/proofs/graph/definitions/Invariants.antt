use Rattle.std.proofs.Common.{◌≡◌, ◌++◌, map, drop}
use Rattle.cc_graph.specs.Graphs as spec
use Rattle.cc_graph.proofs.graph.definitions.Given as goal

abbrev pub invariant-loop-function : goal.invariant-loop-function
invariant-loop-function l = l.all ++ map (spec.definition_of l.program.arena) (drop l.function-index l.function-items) ≡ spec.definitions_of l.program
