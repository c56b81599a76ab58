use Rattle.std.proofs.Common.{◌≡◌, drop}
use Rattle.cc_arena.specs.Arenas.{with_bytes}
use Rattle.cc_arena_fill.specs.Numbers as spec
use Rattle.cc_arena_fill.proofs.lists.list_bytes.Given as goal

abbrev pub invariant-loop-s : goal.invariant-loop-s
invariant-loop-s l = with_bytes (spec.joined (drop l.s-index l.ss)) l.arena ≡ with_bytes (spec.joined l.ss) l.initial.arena
