use Rattle.std.proofs.Common.{take}
use Rattle.cc_base.specs.Search.{MarksAll}
use Rattle.cc_base.proofs.reach.mark_all.Given as goal

abbrev pub invariant-loop-point : goal.invariant-loop-point
invariant-loop-point l = MarksAll l.initial.marks.items l.marks.items l.initial.work.items l.work.items (take l.point-index l.row)
