use Rattle.std.proofs.Common.{◌≡◌, ◌≤◌, ◌+◌, ◌++◌, ◌⊎◌, length, take}
use Rattle.cc_io_memory.proofs.sink.fill.Given as goal

abbrev pub invariant-loop-byte : goal.invariant-loop-byte
invariant-loop-byte l = record {
  text : take l.«end» l.space.items ≡ take l.used l.initial.space.items ++ take l.byte-index l.bytes;
  room : length l.space.items ≡ length l.initial.space.items;
  place : l.«end» ≡ l.used + l.byte-index;
  fits : (l.byte-index ≡ 0) ⊎ (l.«end» ≤ length l.space.items);
}
