use Rattle.std.proofs.Common.{◌≡◌}
use Rattle.cc_score.specs.Conflicts.{least_to}
use Rattle.cc_score.proofs.clashing.conflict.Given as goal

abbrev pub invariant-loop-row : goal.invariant-loop-row
invariant-loop-row l = l.least ≡ least_to l.scores.marks l.reasons l.row
