use Rattle.std.proofs.Common.{◌≡◌, ◌+◌, length}
use Rattle.cc_lex.specs.Reading as spec
use Rattle.cc_lex.specs.Reading.{test_of}
use Rattle.cc_lex.proofs.run.block_len.Given as goal

abbrev pub invariant-loop-z : goal.invariant-loop-z
invariant-loop-z l = (spec.plus l.count (spec.block_len l.z) ≡ spec.block_len l.initial.z) × (l.count + length l.z ≡ length l.initial.z)

abbrev pub decreases-loop-z : goal.decreases-loop-z
decreases-loop-z l = length l.z
