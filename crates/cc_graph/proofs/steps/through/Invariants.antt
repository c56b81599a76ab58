use Rattle.std.proofs.Common.{◌≡◌, drop}
use Rattle.cc_graph.specs.Linking.{all_linked}
use Rattle.cc_graph.specs.Succession as spec
use Rattle.cc_graph.proofs.steps.through.Given as goal

abbrev pub invariant-loop-part : goal.invariant-loop-part
invariant-loop-part l = all_linked l.rows (spec.through l.last (drop l.part-index l.parts) l.to) l.next.items ≡ all_linked l.rows (spec.through l.fn.from l.parts l.to) l.initial.next.items
