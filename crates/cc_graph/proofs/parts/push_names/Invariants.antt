use Rattle.std.proofs.Common.{◌≡◌, drop}
use Rattle.cc_graph.specs.Parts.{with_names}
use Rattle.cc_graph.proofs.parts.push_names.Given as goal

abbrev pub invariant-loop-d : goal.invariant-loop-d
invariant-loop-d l = with_names l.arena l.rows (drop l.d-index l.declarators) l.parts ≡ with_names l.arena l.rows l.declarators l.initial.parts
