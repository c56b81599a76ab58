use Rattle.std.proofs.Common.{take}
use Rattle.cc_blocks.specs.Bits.{bit}
use Rattle.cc_blocks.specs.Sweeping.{Passes}
use Rattle.cc_blocks.proofs.sweeping.pass_all.Given as goal

abbrev pub invariant-loop-point : goal.invariant-loop-point
invariant-loop-point l = Passes l.initial.reach.items l.reach.items l.initial.work.items l.work.items (take l.point-index l.points) (bit l.block)
