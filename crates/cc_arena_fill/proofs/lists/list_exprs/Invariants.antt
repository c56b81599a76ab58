use Rattle.std.proofs.Common.{◌≡◌, drop}
use Rattle.cc_tree.specs.Views.{exprs_of}
use Rattle.cc_arena.specs.Arenas.{with_list}
use Rattle.cc_arena_fill.specs.Numbers as spec
use Rattle.cc_arena_fill.proofs.lists.list_exprs.Given as goal

abbrev pub invariant-loop-e : goal.invariant-loop-e
invariant-loop-e l = with_list (spec.numbers_of (exprs_of (drop l.e-index l.es))) l.arena ≡ with_list (spec.numbers_of (exprs_of l.es)) l.initial.arena
