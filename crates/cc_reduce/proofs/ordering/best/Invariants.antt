use Rattle.cc_reduce.specs.Ordered.{uncovered}
use Rattle.cc_reduce.specs.Rows.{at}
use Rattle.cc_reduce.proofs.Best.{BestTo}
use Rattle.cc_reduce.proofs.ordering.best.Given as goal

abbrev pub invariant-loop-test : goal.invariant-loop-test
invariant-loop-test l = BestTo (uncovered l.scores.exercised l.covered) (at l.taken) l.test l.best
