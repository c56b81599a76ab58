use Rattle.std.proofs.Common.{◌≡◌, ℕ, ◌-◌, ◌<◌, ◌≤◌, length, true, false}
use Rattle.std.specs.Prelude.{slice_get}
use Rattle.cc_score.specs.Groups.{stands_before}
use Rattle.cc_score.proofs.groups.count_before.Given as goal

abbrev pub invariant-loop-low : goal.invariant-loop-low
invariant-loop-low l = record {
  within : l.high ≤ length l.listing;
  below : (row : ℕ) → row < l.low → stands_before (slice_get l.listing row) l.kind l.wanted ≡ true;
  above : (row : ℕ) → l.high ≤ row → stands_before (slice_get l.listing row) l.kind l.wanted ≡ false;
}

abbrev pub decreases-loop-low : goal.decreases-loop-low
decreases-loop-low l = l.high - l.low
