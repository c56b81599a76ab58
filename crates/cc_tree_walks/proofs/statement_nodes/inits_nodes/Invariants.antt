use Rattle.std.proofs.Common.{◌≡◌, ◌+◌, ◌-◌, ◌^◌, ◌<◌, min, drop, map}
use Rattle.cc_tree.specs.Views.{view_init}
use Rattle.cc_tree.specs.Nodes as spec
use Rattle.cc_tree_walks.proofs.statement_nodes.inits_nodes.Given as goal

abbrev pub invariant-loop-i : goal.invariant-loop-i
invariant-loop-i g l = record { told : min (l.nodes + spec.inits_nodes (map view_init (drop l.i-index l.is))) (2 ^ 64 - 1) ≡ min (spec.inits_nodes (map view_init l.is)) (2 ^ 64 - 1); fits : l.nodes < 2 ^ 64 }
