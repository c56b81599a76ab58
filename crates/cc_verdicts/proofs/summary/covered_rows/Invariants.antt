use Rattle.std.proofs.Common.{◌≡◌, ◌≤◌}
use Rattle.cc_verdicts.specs.Summary.{covered_to}
use Rattle.cc_verdicts.proofs.summary.covered_rows.Given as goal

abbrev pub invariant-loop-row : goal.invariant-loop-row
invariant-loop-row l = (l.covered ≡ covered_to l.scores.marks l.row) × (l.covered ≤ l.row)
