use Rattle.std.proofs.Common.{◌≡◌, ◌+◌, ◌-◌, ◌^◌, ◌<◌, min, drop}
use Rattle.cc_tree.specs.Views.{items_of}
use Rattle.cc_tree.specs.Nodes as spec
use Rattle.cc_tree_walks.proofs.statement_nodes.+statements.Given as goal

abbrev pub invariant-items_nodes-loop-i : goal.invariant-items_nodes-loop-i
invariant-items_nodes-loop-i g l = record { told : min (l.nodes + spec.items_nodes (items_of (drop l.i-index l.is))) (2 ^ 64 - 1) ≡ min (spec.items_nodes (items_of l.is)) (2 ^ 64 - 1); fits : l.nodes < 2 ^ 64 }
