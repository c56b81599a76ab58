use Rattle.std.proofs.Common.{◌≡◌, drop}
use Rattle.cc_tree.specs.Views.{values_of}
use Rattle.cc_arena.specs.Arenas.{with_list}
use Rattle.cc_arena_fill.specs.Numbers as spec
use Rattle.cc_arena_fill.proofs.lists.list_values.Given as goal

abbrev pub invariant-loop-v : goal.invariant-loop-v
invariant-loop-v l = with_list (spec.value_numbers (values_of (drop l.v-index l.vs))) l.arena ≡ with_list (spec.value_numbers (values_of l.vs)) l.initial.arena
