use Rattle.std.proofs.Common.{◌≡◌, drop}
use Rattle.cc_graph.specs.Parts as spec
use Rattle.cc_graph.proofs.parts.name_inside.Given as goal

abbrev pub invariant-loop-placed : goal.invariant-loop-placed
invariant-loop-placed l = spec.name_inside (drop l.placed-index l.nodes) l.inner ≡ spec.name_inside l.nodes l.initial.inner
