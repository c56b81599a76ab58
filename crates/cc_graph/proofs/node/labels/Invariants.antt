use Rattle.std.proofs.Common.{◌≡◌, drop}
use Rattle.cc_graph.specs.Linking.{all_linked}
use Rattle.cc_graph.specs.Succession as spec
use Rattle.cc_graph.proofs.node.labels.Given as goal

abbrev pub invariant-loop-item : goal.invariant-loop-item
invariant-loop-item l = all_linked l.rows (spec.labels l.arena l.e (drop l.item-index l.items)) l.next.items ≡ all_linked l.rows (spec.labels l.arena l.e l.items) l.initial.next.items
