use Rattle.cc_blocks.proofs.Places.{IsOnWay}
use Rattle.cc_blocks.proofs.row.Row.nth.Given as goal

abbrev pub invariant-loop-next : goal.invariant-loop-next
invariant-loop-next l = IsOnWay l.self.cells.items l.place l.left l.next

abbrev pub decreases-loop-next : goal.decreases-loop-next
decreases-loop-next l = l.left
