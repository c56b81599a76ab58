-- One more row.
use Rattle.std.proofs.Common.{◌≡◌, ℕ, suc, ◌+◌, List, Option, ap, arith}
use Rattle.cc_score.specs.Counts.{one_if}
use Rattle.cc_verdicts.specs.Summary.{covered_to, is_covered}

pub covered_more : (marks : List (Option ℕ)) (count : ℕ) → covered_to marks (count + 1) ≡ covered_to marks count + one_if (is_covered marks count)
covered_more marks count = let e : count + 1 ≡ suc count = omega arith in ap (covered_to marks) e
