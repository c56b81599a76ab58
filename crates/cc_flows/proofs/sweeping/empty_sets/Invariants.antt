use Rattle.std.proofs.Common.{◌≡◌, ℕ, length}
use Rattle.cc_flows.specs.Sweeping.{bit_at_point}
use Rattle.cc_flows.proofs.sweeping.empty_sets.Given as goal

abbrev pub invariant-loop-block : goal.invariant-loop-block
invariant-loop-block l = record {
  long : length l.blocks.items ≡ l._block;
  none : (p i : ℕ) → bit_at_point l.blocks.items p i ≡ 0;
}
