use Rattle.std.proofs.Common.{◌≡◌, ◌≤◌, ◌*◌, take}
use Rattle.cc_blocks.specs.Cells.{row_size}
use Rattle.cc_blocks.proofs.row.Row.count.Given as goal

abbrev pub invariant-loop-cell : goal.invariant-loop-cell
invariant-loop-cell l = record {
  counts : l.count ≡ row_size (take l.cell-index l.self.cells.items);
  bound : l.count ≤ 512 * l.cell-index;
}
