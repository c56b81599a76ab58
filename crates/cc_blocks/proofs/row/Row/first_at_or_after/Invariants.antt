use Rattle.std.proofs.Common.{◌≡◌, ◌≤◌, ◌-◌, ◌/◌, ℕ, length, drop}
use Rattle.cc_blocks.specs.Cells.{row_bit, AreAscending}
use Rattle.cc_blocks.proofs.row.Row.first_at_or_after.Given as goal

abbrev pub invariant-loop-at : goal.invariant-loop-at
invariant-loop-at l = record {
  within : l.at ≤ length l.self.cells.items;
  up : AreAscending (l.start / 512) (drop l.at l.self.cells.items);
  rest : (t : ℕ) → l.start ≤ t → row_bit (drop l.at l.self.cells.items) t ≡ row_bit l.self.cells.items t;
}

abbrev pub decreases-loop-at : goal.decreases-loop-at
decreases-loop-at l = length l.self.cells.items - l.at
