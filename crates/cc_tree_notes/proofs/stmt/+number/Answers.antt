-- Each loop over parts: a part is nearer to the end, and has room for its numbers.
use Rattle.std.proofs.Common.{arith}
use Rattle.cc_tree.proofs.Loops.{item_falls, rest_at}
use Rattle.cc_tree_notes.proofs.stmt.+number.Goals as goal

pub number_items-number_item-requires : goal.number_items-number_item-requires
number_items-number_item-requires t c =
    let rest = rw (rest_at c.args.is.now c.loop-i.i-index c.i-item.result c.loop-i-test.true c.i-item.is) at c.loop-i.invariant.room in
    (item_falls _ 2 0 1 c.args.is.now c.loop-i.i-index c.i-item.result t c.loop-i-test.true c.i-item.is c.decreases (omega arith), omega (arith, rest, c.requires))
