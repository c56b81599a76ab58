use Rattle.std.proofs.Common.{◌≡◌, ◌≤◌, ◌+◌, length}
use Rattle.cc_base.specs.Spots as spots
use Rattle.cc_prep.proofs.mark.spot_behind.Given as goal

abbrev pub invariant-loop-z : goal.invariant-loop-z
invariant-loop-z l = record {
  same : spots.spot_behind l.spot l.z ≡ spots.spot_behind l.initial.spot l.initial.z;
  line : l.spot.line + length l.z ≤ l.initial.spot.line + length l.initial.z;
  column : l.spot.column + length l.z ≤ l.initial.spot.column + length l.initial.z;
}

abbrev pub decreases-loop-z : goal.decreases-loop-z
decreases-loop-z l = length l.z
