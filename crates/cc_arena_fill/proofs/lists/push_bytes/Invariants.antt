use Rattle.std.proofs.Common.{◌≡◌, drop}
use Rattle.cc_arena.specs.Arenas.{with_bytes}
use Rattle.cc_arena_fill.proofs.lists.push_bytes.Given as goal

abbrev pub invariant-loop-byte : goal.invariant-loop-byte
invariant-loop-byte l = with_bytes (drop l.byte-index l.bytes) l.arena ≡ with_bytes l.bytes l.initial.arena
