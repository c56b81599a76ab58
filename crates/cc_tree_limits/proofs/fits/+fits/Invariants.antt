use Rattle.std.proofs.Common.{◌≤◌, ◌↔◌, drop}
use Rattle.cc_tree.specs.Views.{exprs_of, types_of, specs_of, members_of, constants_of, declarators_of}
use Rattle.cc_tree.specs.Depth as spec
use Rattle.cc_tree_limits.proofs.fits.+fits.Given as goal

abbrev pub invariant-exprs_fit-loop-e : goal.invariant-exprs_fit-loop-e
invariant-exprs_fit-loop-e g l = (spec.exprs_depth (exprs_of (drop l.e-index l.es)) ≤ l.most) ↔ (spec.exprs_depth (exprs_of l.es) ≤ l.most)

abbrev pub invariant-types_fit-loop-t : goal.invariant-types_fit-loop-t
invariant-types_fit-loop-t g l = (spec.types_depth (types_of (drop l.t-index l.ts)) ≤ l.most) ↔ (spec.types_depth (types_of l.ts) ≤ l.most)

abbrev pub invariant-specs_fit-loop-s : goal.invariant-specs_fit-loop-s
invariant-specs_fit-loop-s g l = (spec.specs_depth (specs_of (drop l.s-index l.ss)) ≤ l.most) ↔ (spec.specs_depth (specs_of l.ss) ≤ l.most)

abbrev pub invariant-members_fit-loop-m : goal.invariant-members_fit-loop-m
invariant-members_fit-loop-m g l = (spec.members_depth (members_of (drop l.m-index l.ms)) ≤ l.most) ↔ (spec.members_depth (members_of l.ms) ≤ l.most)

abbrev pub invariant-constants_fit-loop-c : goal.invariant-constants_fit-loop-c
invariant-constants_fit-loop-c g l = (spec.constants_depth (constants_of (drop l.c-index l.cs)) ≤ l.most) ↔ (spec.constants_depth (constants_of l.cs) ≤ l.most)

abbrev pub invariant-declarators_fit-loop-d : goal.invariant-declarators_fit-loop-d
invariant-declarators_fit-loop-d g l = (spec.declarators_depth (declarators_of (drop l.d-index l.ds)) ≤ l.most) ↔ (spec.declarators_depth (declarators_of l.ds) ≤ l.most)
