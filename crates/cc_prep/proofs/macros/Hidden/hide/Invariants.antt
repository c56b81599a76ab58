use Rattle.std.proofs.Common.{◌+◌, ◌-◌, length}
use Rattle.cc_prep.proofs.macros.Hidden.hide.Given as goal

abbrev pub decreases-loop-self : goal.decreases-loop-self
decreases-loop-self l = l.number + 1 - length l.self-inside.marks.items
