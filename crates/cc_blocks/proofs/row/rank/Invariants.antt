use Rattle.std.proofs.Common.{◌-◌, ◌≤◌, length}
use Rattle.cc_blocks.specs.Cells.{rank_of}
use Rattle.cc_blocks.proofs.row.rank.Given as goal

abbrev pub invariant-loop-low : goal.invariant-loop-low
invariant-loop-low l = record { low : l.low ≤ rank_of l.cells l.number; high : rank_of l.cells l.number ≤ l.high; within : l.high ≤ length l.cells }

abbrev pub decreases-loop-low : goal.decreases-loop-low
decreases-loop-low l = l.high - l.low
