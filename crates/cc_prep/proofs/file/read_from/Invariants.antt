use Rattle.std.proofs.Common.{◌-◌, length}
use Rattle.cc_prep.specs.Marks.{IsMark}
use Rattle.cc_prep.proofs.file.read_from.Given as goal

abbrev pub invariant-loop-mark : goal.invariant-loop-mark
invariant-loop-mark l = IsMark l.bytes l.mark

abbrev pub decreases-loop-mark : goal.decreases-loop-mark
decreases-loop-mark l = length l.bytes - l.mark.at
