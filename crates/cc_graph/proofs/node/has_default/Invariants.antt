use Rattle.std.proofs.Common.{◌≡◌, drop}
use Rattle.cc_graph.specs.Succession as spec
use Rattle.cc_graph.proofs.node.has_default.Given as goal

abbrev pub invariant-loop-item : goal.invariant-loop-item
invariant-loop-item l = spec.has_default l.arena (drop l.item-index l.items) ≡ spec.has_default l.arena l.items
