use Rattle.std.proofs.Common.{◌≡◌, drop}
use Rattle.cc_tree.specs.Views.{declarators_of}
use Rattle.cc_arena.specs.Arenas.{with_list}
use Rattle.cc_arena_fill.specs.Numbers as spec
use Rattle.cc_arena_fill.proofs.lists.list_declarators.Given as goal

abbrev pub invariant-loop-d : goal.invariant-loop-d
invariant-loop-d l = with_list (spec.declarator_numbers (declarators_of (drop l.d-index l.ds))) l.arena ≡ with_list (spec.declarator_numbers (declarators_of l.ds)) l.initial.arena
