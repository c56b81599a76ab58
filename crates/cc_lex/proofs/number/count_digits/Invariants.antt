use Rattle.std.proofs.Common.{◌≡◌, ◌+◌, length}
use Rattle.cc_lex.specs.Bytes.{count_front}
use Rattle.cc_lex.specs.Numbers.{is_digit_in}
use Rattle.cc_lex.proofs.number.count_digits.Given as goal

abbrev pub invariant-loop-z : goal.invariant-loop-z
invariant-loop-z l = (l.count + count_front (is_digit_in l.base) l.z ≡ count_front (is_digit_in l.base) l.initial.z) × (l.count + length l.z ≡ length l.initial.z)

abbrev pub decreases-loop-z : goal.decreases-loop-z
decreases-loop-z l = length l.z
