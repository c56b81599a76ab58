use Rattle.cc_project.proofs.Firsts.{passed_up}
use Rattle.cc_project.proofs.Rounds.{test_fails, test_holds, tests_end}
use Rattle.cc_project.proofs.shape.check_tests.Goals as goal

pub returns-in_err-check_test-clause-err : goal.returns-in_err-check_test-clause-err
returns-in_err-check_test-clause-err c = passed_up c.from_residual.result c.in_err-check_test.field-0.0 _ c.from_residual.ensures.1
    (test_fails c.loop-i.i c.loop-i.names c.args.tests.now c.index-tests-i.result _ c.in_err-check_test.field-0.0
    c.loop-i-test.true c.index-tests-i.is c.loop-i.invariant c.in_err-check_test.ensures.err)

pub loop-i-preserved : goal.loop-i-preserved
loop-i-preserved c = test_holds c.loop-i.i c.loop-i.names c.check_test.new.names c.args.tests.now c.index-tests-i.result _
    c.loop-i-test.true c.index-tests-i.is c.loop-i.invariant c.in_ok-check_test.ensures.ok c.in_ok-check_test.ensures.names

pub returns-clause-ok : goal.returns-clause-ok
returns-clause-ok c = tests_end c.loop-i.i c.loop-i.names c.args.tests.now _ c.loop-i-test.false c.loop-i.invariant
