use Rattle.std.proofs.Common.{◌≡◌, length}
use Rattle.cc_lex.specs.Pieces.{starts_after}
use Rattle.cc_lex.proofs.reader.starts_after.Given as goal

abbrev pub invariant-loop-z : goal.invariant-loop-z
invariant-loop-z l = starts_after l.starts l.z ≡ starts_after l.initial.starts l.initial.z

abbrev pub decreases-loop-z : goal.decreases-loop-z
decreases-loop-z l = length l.z
