use Rattle.std.proofs.Common.{◌≡◌, length}
use Rattle.cc_lex.specs.Pieces.{skip_blanks}
use Rattle.cc_lex.proofs.length.skip_blanks.Given as goal

abbrev pub invariant-loop-z : goal.invariant-loop-z
invariant-loop-z l = skip_blanks l.z ≡ skip_blanks l.initial.z

abbrev pub decreases-loop-z : goal.decreases-loop-z
decreases-loop-z l = length l.z
