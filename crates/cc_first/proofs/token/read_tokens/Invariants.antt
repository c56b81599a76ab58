use Rattle.std.proofs.Common.{◌≤◌, ◌+◌, length}
use Rattle.cc_first.specs.Tokens.{IsReadTo}
use Rattle.cc_first.proofs.token.read_tokens.Given as goal

abbrev pub invariant-loop-rest : goal.invariant-loop-rest
invariant-loop-rest l = record {
  read : IsReadTo l.bytes l.tokens.items l.spot l.rest;
  within : length l.rest ≤ length l.bytes;
  line : l.spot.line + length l.rest ≤ 1 + length l.bytes;
  column : l.spot.column + length l.rest ≤ 1 + length l.bytes;
}

abbrev pub decreases-loop-rest : goal.decreases-loop-rest
decreases-loop-rest l = length l.rest
