use Rattle.std.proofs.Common.{◌≡◌, drop}
use Rattle.cc_tree.specs.Views.{constants_of}
use Rattle.cc_arena.specs.Arenas.{with_list}
use Rattle.cc_arena_fill.specs.Numbers as spec
use Rattle.cc_arena_fill.proofs.lists.list_constants.Given as goal

abbrev pub invariant-loop-c : goal.invariant-loop-c
invariant-loop-c l = with_list (spec.constant_numbers (constants_of (drop l.c-index l.cs))) l.arena ≡ with_list (spec.constant_numbers (constants_of l.cs)) l.initial.arena
