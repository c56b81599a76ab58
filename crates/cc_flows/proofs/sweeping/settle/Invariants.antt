use Rattle.std.proofs.Common.{◌≡◌, ◌+◌, ℕ, false, if◌then◌else◌}
use Rattle.cc_flows.specs.Sweeping.{Visits, IsDirty, room, dirty_count}
use Rattle.cc_flows.proofs.sweeping.settle.Given as goal

abbrev pub invariant-loop-busy : goal.invariant-loop-busy
invariant-loop-busy l = record {
  visits : Visits l.next l.clears l.initial.reach.items l.reach.items l.initial.dirty.items l.dirty.items;
  idle : l.busy ≡ false → (p : ℕ) → IsDirty l.dirty.items p → ⊥;
}

abbrev pub decreases-loop-busy : goal.decreases-loop-busy
decreases-loop-busy l = room l.reach.items + dirty_count l.dirty.items + (if l.busy then 1 else 0)
