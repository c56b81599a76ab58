use Rattle.std.proofs.Common.{◌≡◌, ◌+◌, length}
use Rattle.cc_prep.specs.Lines as spec
use Rattle.cc_prep.proofs.line.blank_count.Given as goal

abbrev pub invariant-loop-z : goal.invariant-loop-z
invariant-loop-z l = (l.count + spec.blank_count l.z ≡ spec.blank_count l.initial.z) × (l.count + length l.z ≡ length l.initial.z)

abbrev pub decreases-loop-z : goal.decreases-loop-z
decreases-loop-z l = length l.z
