use Rattle.std.proofs.Common.{◌≡◌, ◌+◌, length}
use Rattle.cc_lex.specs.Reading as spec
use Rattle.cc_lex.specs.Reading.{test_of}
use Rattle.cc_lex.proofs.run.run.Given as goal

abbrev pub invariant-loop-z : goal.invariant-loop-z
invariant-loop-z l = (l.count + spec.run (test_of l.class) l.before l.z ≡ spec.run (test_of l.class) l.initial.before l.initial.z) × (l.count + length l.z ≡ length l.initial.z)

abbrev pub decreases-loop-z : goal.decreases-loop-z
decreases-loop-z l = length l.z
