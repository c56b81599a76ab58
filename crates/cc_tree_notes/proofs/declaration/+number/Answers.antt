-- Each loop over parts: a part is nearer to the end, and has room for its numbers.
use Rattle.std.proofs.Common.{arith}
use Rattle.cc_tree.proofs.Loops.{item_falls, rest_at}
use Rattle.cc_tree_notes.proofs.declaration.+number.Goals as goal

pub number_values-number_value-requires : goal.number_values-number_value-requires
number_values-number_value-requires t c =
    let rest = rw (rest_at c.args.vs.now c.loop-v.v-index c.v-item.result c.loop-v-test.true c.v-item.is) at c.loop-v.invariant.room in
    (item_falls _ 2 0 1 c.args.vs.now c.loop-v.v-index c.v-item.result t c.loop-v-test.true c.v-item.is c.decreases (omega arith), omega (arith, rest, c.requires))
