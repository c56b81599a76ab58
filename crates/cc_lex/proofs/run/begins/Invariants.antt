use Rattle.std.proofs.Common.{◌≡◌, length}
use Rattle.cc_lex.specs.Pieces.{begins}
use Rattle.cc_lex.proofs.run.begins.Given as goal

abbrev pub invariant-loop-word : goal.invariant-loop-word
invariant-loop-word l = begins l.word l.z ≡ begins l.initial.word l.initial.z

abbrev pub decreases-loop-word : goal.decreases-loop-word
decreases-loop-word l = length l.word
