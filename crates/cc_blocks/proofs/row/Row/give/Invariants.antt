use Rattle.std.proofs.Common.{◌≤◌, ◌*◌, take}
use Rattle.cc_blocks.proofs.Edits.{Gives}
use Rattle.cc_blocks.proofs.row.Row.give.Given as goal

abbrev pub invariant-loop-cell : goal.invariant-loop-cell
invariant-loop-cell l = record {
  gives : Gives l.initial.self.cells.items l.self.cells.items l.initial.fresh.cells.items l.fresh.cells.items (take l.cell-index l.from.cells.items) l.added;
  bound : l.added ≤ 512 * l.cell-index;
}
