use Rattle.std.proofs.Common.{◌≡◌, drop, map}
use Rattle.cc_tree.specs.Views.{view_init}
use Rattle.cc_arena.specs.Arenas.{with_list}
use Rattle.cc_arena_fill.specs.Numbers as spec
use Rattle.cc_arena_fill.proofs.lists.list_inits.Given as goal

abbrev pub invariant-loop-i : goal.invariant-loop-i
invariant-loop-i l = with_list (spec.init_numbers (map view_init (drop l.i-index l.is))) l.arena ≡ with_list (spec.init_numbers (map view_init l.is)) l.initial.arena
