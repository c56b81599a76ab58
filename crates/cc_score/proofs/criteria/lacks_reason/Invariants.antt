use Rattle.std.proofs.Common.{◌≡◌, ℕ, ◌<◌, ◌≤◌, false}
use Rattle.std.specs.Prelude.{not}
use Rattle.std.specs.Option.{option_copied}
use Rattle.cc_score.specs.Marks.{has_reason}
use Rattle.cc_score.proofs.criteria.lacks_reason.Given as goal

abbrev pub invariant-loop-i : goal.invariant-loop-i
invariant-loop-i l = (row : ℕ) → l.fn.group.start ≤ row → row < l.i → not (has_reason (option_copied l.reasons) row) ≡ false
