use Rattle.std.proofs.Common.{◌≡◌, ◌≤◌}
use Rattle.std.specs.Option.{option_copied}
use Rattle.cc_score.specs.Counts.{defs_to}
use Rattle.cc_score.proofs.criteria.defs_verdict.Given as goal

abbrev pub invariant-loop-i : goal.invariant-loop-i
invariant-loop-i l = (l.verdict ≡ defs_to l.listing l.scores.marks (option_copied l.reasons) l.i) × (l.verdict.covered ≤ l.i) × (l.verdict.justified ≤ l.i) × (l.verdict.listed ≤ l.i)
