use Rattle.std.proofs.Common.{◌≡◌, ◌+◌, ℕ, length}
use Rattle.cc_blocks.specs.Sweeping.{bit_at_point, room, Sweeps}
use Rattle.cc_blocks.proofs.sweeping.sweep.Given as goal

abbrev pub invariant-loop : goal.invariant-loop
invariant-loop l = record {
  long : length l.reach.items ≡ l.counter;
  none : (q i : ℕ) → bit_at_point l.reach.items q i ≡ 0;
}

abbrev pub invariant-loop-i : goal.invariant-loop-i
invariant-loop-i l = Sweeps l.next l.clears l.starts l.i l.reach.items l.work.items

abbrev pub invariant-loop-point : goal.invariant-loop-point
invariant-loop-point l = Sweeps l.next l.clears l.starts (length l.starts) l.reach.items l.work.items

abbrev pub decreases-loop-point : goal.decreases-loop-point
decreases-loop-point l = room l.reach.items + length l.work.items
