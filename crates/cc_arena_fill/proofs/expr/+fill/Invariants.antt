-- What the rest puts, at what was put so far, is what all put.
use Rattle.std.proofs.Common.{◌≡◌, drop}
use Rattle.cc_tree.specs.Views.{constants_of, declarators_of, exprs_of, members_of, specs_of, types_of}
use Rattle.cc_arena_fill.specs.Filling as spec
use Rattle.cc_arena_fill.proofs.expr.+fill.Given as goal

abbrev pub invariant-fill_exprs-loop-e : goal.invariant-fill_exprs-loop-e
invariant-fill_exprs-loop-e l = spec.put_exprs (exprs_of (drop l.e-index l.es)) l.up l.arena ≡ spec.put_exprs (exprs_of l.es) l.up l.initial.arena

abbrev pub invariant-fill_types-loop-t : goal.invariant-fill_types-loop-t
invariant-fill_types-loop-t l = spec.put_types (types_of (drop l.t-index l.ts)) l.up l.arena ≡ spec.put_types (types_of l.ts) l.up l.initial.arena

abbrev pub invariant-fill_specs-loop-s : goal.invariant-fill_specs-loop-s
invariant-fill_specs-loop-s l = spec.put_specs (specs_of (drop l.s-index l.ss)) l.up l.arena ≡ spec.put_specs (specs_of l.ss) l.up l.initial.arena

abbrev pub invariant-fill_members-loop-m : goal.invariant-fill_members-loop-m
invariant-fill_members-loop-m l = spec.put_members (members_of (drop l.m-index l.ms)) l.up l.arena ≡ spec.put_members (members_of l.ms) l.up l.initial.arena

abbrev pub invariant-fill_constants-loop-c : goal.invariant-fill_constants-loop-c
invariant-fill_constants-loop-c l = spec.put_constants (constants_of (drop l.c-index l.cs)) l.up l.arena ≡ spec.put_constants (constants_of l.cs) l.up l.initial.arena

abbrev pub invariant-fill_declarators-loop-d : goal.invariant-fill_declarators-loop-d
invariant-fill_declarators-loop-d l = spec.put_declarators (declarators_of (drop l.d-index l.ds)) l.up l.arena ≡ spec.put_declarators (declarators_of l.ds) l.up l.initial.arena
