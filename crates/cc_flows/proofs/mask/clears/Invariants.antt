use Rattle.std.proofs.Common.{◌≡◌, length}
use Rattle.cc_flows.proofs.Masking.{AreClears}
use Rattle.cc_flows.proofs.mask.clears.Given as goal

abbrev pub invariant-loop-row : goal.invariant-loop-row
invariant-loop-row l = record {
  long : length l.clears.items ≡ l.row-index;
  exact : AreClears l.masks l.wipes l.clears.items l.row-index;
}
