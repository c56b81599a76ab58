use Rattle.std.proofs.Common.{◌≡◌, ◌-◌, ◌≤◌, ◌<◌, ℕ}
use Rattle.cc_blocks.specs.Bits.{word_bit}
use Rattle.cc_blocks.proofs.block.Block.first_at_or_after.Given as goal

abbrev pub invariant-loop-from : goal.invariant-loop-from
invariant-loop-from l = record { on : l.start ≤ l.from; none : (k : ℕ) → l.start ≤ k → k < l.from → word_bit l.self.lanes k ≡ 0 }

abbrev pub decreases-loop-from : goal.decreases-loop-from
decreases-loop-from l = 512 - l.from
