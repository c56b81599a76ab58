-- What was numbered, before what the rest gives, is what all give; and the rest has room.
use Rattle.std.proofs.Common.{◌≡◌, ◌+◌, map, drop}
use Rattle.cc_tree.specs.Nodes as nodes
use Rattle.cc_tree.specs.Views.{view, view_type, view_spec, view_member, view_constant, view_declarator, exprs_of, types_of, specs_of, members_of, constants_of, declarators_of}
use Rattle.cc_tree_notes.specs.Numbering as spec
use Rattle.cc_tree_notes.proofs.Turns.{then}
use Rattle.cc_tree_notes.proofs.expr.+number.Given as goal

abbrev pub invariant-number_exprs-loop-e : goal.invariant-number_exprs-loop-e
invariant-number_exprs-loop-e l = record {
  told : then (map view l.numbered) (spec.numbered_exprs (exprs_of (drop l.e-index l.es)) l.next) ≡ spec.numbered_exprs (exprs_of l.es) l.initial.next;
  room : l.next + nodes.exprs_nodes (exprs_of (drop l.e-index l.es)) ≡ l.initial.next + nodes.exprs_nodes (exprs_of l.es);
}

abbrev pub invariant-number_types-loop-t : goal.invariant-number_types-loop-t
invariant-number_types-loop-t l = record {
  told : then (map view_type l.numbered) (spec.numbered_types (types_of (drop l.t-index l.ts)) l.next) ≡ spec.numbered_types (types_of l.ts) l.initial.next;
  room : l.next + nodes.types_nodes (types_of (drop l.t-index l.ts)) ≡ l.initial.next + nodes.types_nodes (types_of l.ts);
}

abbrev pub invariant-number_specs-loop-s : goal.invariant-number_specs-loop-s
invariant-number_specs-loop-s l = record {
  told : then (map view_spec l.numbered) (spec.numbered_specs (specs_of (drop l.s-index l.ss)) l.next) ≡ spec.numbered_specs (specs_of l.ss) l.initial.next;
  room : l.next + nodes.specs_nodes (specs_of (drop l.s-index l.ss)) ≡ l.initial.next + nodes.specs_nodes (specs_of l.ss);
}

abbrev pub invariant-number_members-loop-m : goal.invariant-number_members-loop-m
invariant-number_members-loop-m l = record {
  told : then (map view_member l.numbered) (spec.numbered_members (members_of (drop l.m-index l.ms)) l.next) ≡ spec.numbered_members (members_of l.ms) l.initial.next;
  room : l.next + nodes.members_nodes (members_of (drop l.m-index l.ms)) ≡ l.initial.next + nodes.members_nodes (members_of l.ms);
}

abbrev pub invariant-number_constants-loop-c : goal.invariant-number_constants-loop-c
invariant-number_constants-loop-c l = record {
  told : then (map view_constant l.numbered) (spec.numbered_constants (constants_of (drop l.c-index l.cs)) l.next) ≡ spec.numbered_constants (constants_of l.cs) l.initial.next;
  room : l.next + nodes.constants_nodes (constants_of (drop l.c-index l.cs)) ≡ l.initial.next + nodes.constants_nodes (constants_of l.cs);
}

abbrev pub invariant-number_declarators-loop-d : goal.invariant-number_declarators-loop-d
invariant-number_declarators-loop-d l = record {
  told : then (map view_declarator l.numbered) (spec.numbered_declarators (declarators_of (drop l.d-index l.ds)) l.next) ≡ spec.numbered_declarators (declarators_of l.ds) l.initial.next;
  room : l.next + nodes.declarators_nodes (declarators_of (drop l.d-index l.ds)) ≡ l.initial.next + nodes.declarators_nodes (declarators_of l.ds);
}
