use Rattle.std.proofs.Common.{◌≡◌, ◌*◌}
use Rattle.cc_blocks.specs.Bits.{ones_below}
use Rattle.cc_blocks.proofs.block.Block.count.Given as goal

abbrev pub invariant-loop-k : goal.invariant-loop-k
invariant-loop-k l = l.count ≡ ones_below l.self.lanes (64 * l.k)
