use Rattle.std.proofs.Common.{◌≡◌, ◌+◌, ◌-◌, ◌^◌, ◌<◌, min, drop, map}
use Rattle.cc_tree.specs.Views.{view_external}
use Rattle.cc_tree.specs.Nodes as spec
use Rattle.cc_tree_walks.proofs.statement_nodes.externals_nodes.Given as goal

abbrev pub invariant-loop-x : goal.invariant-loop-x
invariant-loop-x g l = record { told : min (l.nodes + spec.file_nodes (map view_external (drop l.x-index l.xs))) (2 ^ 64 - 1) ≡ min (spec.file_nodes (map view_external l.xs)) (2 ^ 64 - 1); fits : l.nodes < 2 ^ 64 }
