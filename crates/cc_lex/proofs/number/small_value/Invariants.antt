use Rattle.std.proofs.Common.{◌≡◌, ◌<◌, ◌^◌, length}
use Rattle.cc_lex.specs.Numbers.{value_from}
use Rattle.cc_lex.proofs.number.small_value.Given as goal

abbrev pub invariant-loop-z : goal.invariant-loop-z
invariant-loop-z l = (value_from l.base l.value l.z ≡ value_from l.base 0 l.initial.z) × (l.value < 2 ^ 64)

abbrev pub decreases-loop-z : goal.decreases-loop-z
decreases-loop-z l = length l.z
