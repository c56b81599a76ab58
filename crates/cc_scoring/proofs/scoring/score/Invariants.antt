use Rattle.std.proofs.Common.{◌≡◌}
use Rattle.cc_scoring.proofs.scoring.score.Given as goal

abbrev pub ghosts-score_of : goal.ghosts-score_of
ghosts-score_of a = record { named = λ p. p ≡ a.program.now }
