use Rattle.std.proofs.Common.{◌≡◌, ℕ, ◌<◌, ◌≤◌, false}
use Rattle.std.specs.Prelude.{is_some}
use Rattle.cc_score.specs.Marks.{mark}
use Rattle.cc_score.proofs.criteria.has_mark.Given as goal

abbrev pub invariant-loop-i : goal.invariant-loop-i
invariant-loop-i l = (row : ℕ) → l.fn.group.start ≤ row → row < l.i → is_some (mark l.scores.marks row) ≡ false
