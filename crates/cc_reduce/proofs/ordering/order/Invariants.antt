use Rattle.std.proofs.Common.{length}
use Rattle.std.specs.Prelude.{not}
use Rattle.cc_reduce.specs.Rows.{at, count_to}
use Rattle.cc_reduce.proofs.Best.{IsTaken}
use Rattle.cc_reduce.proofs.ordering.order.Given as goal

abbrev pub invariant-loop-test : goal.invariant-loop-test
invariant-loop-test l = IsTaken l.scores.exercised (length l.listing) l.covered.items l.taken.items l.order

abbrev pub decreases-loop-test : goal.decreases-loop-test
decreases-loop-test l = count_to (λ t. not (at l.taken.items t)) (length l.taken.items)
