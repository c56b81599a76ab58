use Rattle.std.proofs.Common.{◌≡◌, ◌+◌, ◌-◌, ◌^◌, ◌<◌, min, drop}
use Rattle.cc_tree.specs.Views.{exprs_of, types_of, specs_of, members_of, constants_of, declarators_of}
use Rattle.cc_tree.specs.Nodes as spec
use Rattle.cc_tree_walks.proofs.nodes.+nodes.Given as goal

abbrev pub invariant-exprs_nodes-loop-e : goal.invariant-exprs_nodes-loop-e
invariant-exprs_nodes-loop-e g l = record { told : min (l.nodes + spec.exprs_nodes (exprs_of (drop l.e-index l.es))) (2 ^ 64 - 1) ≡ min (spec.exprs_nodes (exprs_of l.es)) (2 ^ 64 - 1); fits : l.nodes < 2 ^ 64 }

abbrev pub invariant-types_nodes-loop-t : goal.invariant-types_nodes-loop-t
invariant-types_nodes-loop-t g l = record { told : min (l.nodes + spec.types_nodes (types_of (drop l.t-index l.ts))) (2 ^ 64 - 1) ≡ min (spec.types_nodes (types_of l.ts)) (2 ^ 64 - 1); fits : l.nodes < 2 ^ 64 }

abbrev pub invariant-specs_nodes-loop-s : goal.invariant-specs_nodes-loop-s
invariant-specs_nodes-loop-s g l = record { told : min (l.nodes + spec.specs_nodes (specs_of (drop l.s-index l.ss))) (2 ^ 64 - 1) ≡ min (spec.specs_nodes (specs_of l.ss)) (2 ^ 64 - 1); fits : l.nodes < 2 ^ 64 }

abbrev pub invariant-members_nodes-loop-m : goal.invariant-members_nodes-loop-m
invariant-members_nodes-loop-m g l = record { told : min (l.nodes + spec.members_nodes (members_of (drop l.m-index l.ms))) (2 ^ 64 - 1) ≡ min (spec.members_nodes (members_of l.ms)) (2 ^ 64 - 1); fits : l.nodes < 2 ^ 64 }

abbrev pub invariant-constants_nodes-loop-c : goal.invariant-constants_nodes-loop-c
invariant-constants_nodes-loop-c g l = record { told : min (l.nodes + spec.constants_nodes (constants_of (drop l.c-index l.cs))) (2 ^ 64 - 1) ≡ min (spec.constants_nodes (constants_of l.cs)) (2 ^ 64 - 1); fits : l.nodes < 2 ^ 64 }

abbrev pub invariant-declarators_nodes-loop-d : goal.invariant-declarators_nodes-loop-d
invariant-declarators_nodes-loop-d g l = record { told : min (l.nodes + spec.declarators_nodes (declarators_of (drop l.d-index l.ds))) (2 ^ 64 - 1) ≡ min (spec.declarators_nodes (declarators_of l.ds)) (2 ^ 64 - 1); fits : l.nodes < 2 ^ 64 }
