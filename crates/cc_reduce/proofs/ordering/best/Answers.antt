use Rattle.cc_reduce.specs.Ordered.{uncovered}
use Rattle.cc_reduce.specs.Rows.{at}
use Rattle.cc_reduce.proofs.Best.{best_free, best_taken, gain_is}
use Rattle.cc_reduce.proofs.ordering.best.Goals as goal
use Rattle.cc_reduce.proofs.ordering.best.Goals.{then-not-taken-test, else-not-taken-test}

pub loop-test-preserved : goal.loop-test-preserved
loop-test-preserved c =
    let sets = c.args.scores.now.exercised in
    let covered = c.args.covered.now in
    let taken = c.args.taken.now in
    let test = c.loop-test.test in
    elim c.if-not-taken-test.branch [
      | then-not-taken-test w ↦
          rw w.best-is (rw w.better.ensures
          (best_free (uncovered sets covered) (at taken) test w.uncovered-added.result c.loop-test.best w.if-not-taken-test.true
          (gain_is sets covered test w.rows_of.result.now w.uncovered-added.result w.rows_of.ensures w.uncovered-added.ensures) c.loop-test.invariant))
      | else-not-taken-test w ↦ rw w.best-is (best_taken (uncovered sets covered) (at taken) test c.loop-test.best w.if-not-taken-test.false c.loop-test.invariant)
    ]
