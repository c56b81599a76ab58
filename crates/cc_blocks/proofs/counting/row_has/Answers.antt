use Rattle.cc_blocks.specs.Cells.{row_bit}
use Rattle.cc_blocks.proofs.Places
use Rattle.cc_blocks.proofs.counting.row_has.Goals as goal

pub returns : goal.returns
returns c = Places.told c.has.result (row_bit c.args.row.now.cells.items c.args.target) c.has.ensures
