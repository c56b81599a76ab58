use Rattle.std.proofs.Common.{◌≤◌, ◌+◌, length}
use Rattle.cc_lex.specs.Reading.{IsRead}
use Rattle.cc_lex.proofs.reader.read.Given as goal

abbrev pub invariant-loop-z : goal.invariant-loop-z
invariant-loop-z l = record {
  read : IsRead l.bytes l.z l.starts l.spot l.tokens;
  within : length l.z ≤ length l.bytes;
  line : l.spot.line + length l.z ≤ 1 + length l.bytes;
  column : l.spot.column + length l.z ≤ 1 + length l.bytes;
}

abbrev pub decreases-loop-z : goal.decreases-loop-z
decreases-loop-z l = length l.z
