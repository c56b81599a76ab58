use Rattle.std.proofs.Common.{◌≡◌, ◌+◌, length, false}
use Rattle.cc_lex.specs.Reading as spec
use Rattle.cc_lex.specs.Reading.{test_of}
use Rattle.cc_lex.proofs.run.closing.Given as goal

abbrev pub invariant-loop-z : goal.invariant-loop-z
invariant-loop-z l = (spec.plus l.count (spec.closing l.quote l.escaped l.z) ≡ spec.closing l.quote false l.initial.z) × (l.count + length l.z ≡ length l.initial.z)

abbrev pub decreases-loop-z : goal.decreases-loop-z
decreases-loop-z l = length l.z
