use Rattle.std.proofs.Common.{◌+◌, length}
use Rattle.cc_base.specs.Search.{Explores, unmarked_count}
use Rattle.cc_base.proofs.reach.search.Given as goal

abbrev pub invariant-loop-point : goal.invariant-loop-point
invariant-loop-point l = Explores l.rows l.start l.marks.items l.work.items

abbrev pub decreases-loop-point : goal.decreases-loop-point
decreases-loop-point l = unmarked_count l.marks.items + length l.work.items
