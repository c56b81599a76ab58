use Rattle.std.proofs.Common.{◌≡◌, ◌+◌, ◌-◌, ◌^◌, ◌<◌, min, drop}
use Rattle.cc_tree.specs.Views.{values_of}
use Rattle.cc_tree.specs.Nodes as spec
use Rattle.cc_tree_walks.proofs.statement_nodes.+values.Given as goal

abbrev pub invariant-values_nodes-loop-v : goal.invariant-values_nodes-loop-v
invariant-values_nodes-loop-v g l = record { told : min (l.nodes + spec.values_nodes (values_of (drop l.v-index l.vs))) (2 ^ 64 - 1) ≡ min (spec.values_nodes (values_of l.vs)) (2 ^ 64 - 1); fits : l.nodes < 2 ^ 64 }
