use Rattle.cc_project.proofs.Firsts.{passed_up}
use Rattle.cc_project.proofs.Rounds.{justification_fails, justification_holds, justifications_end}
use Rattle.cc_project.proofs.shape.check_justifications.Goals as goal

pub returns-in_err-check_justification-clause-err : goal.returns-in_err-check_justification-clause-err
returns-in_err-check_justification-clause-err c = passed_up c.from_residual.result c.in_err-check_justification.field-0.0 _ c.from_residual.ensures.1
    (justification_fails c.loop-i.i c.loop-i.lines c.args.items.now c.index-items-i.result _ c.in_err-check_justification.field-0.0
    c.loop-i-test.true c.index-items-i.is c.loop-i.invariant c.in_err-check_justification.ensures.err)

pub loop-i-preserved : goal.loop-i-preserved
loop-i-preserved c = justification_holds c.loop-i.i c.loop-i.lines c.check_justification.new.lines c.args.items.now c.index-items-i.result _
    c.loop-i-test.true c.index-items-i.is c.loop-i.invariant c.in_ok-check_justification.ensures.ok c.in_ok-check_justification.ensures.lines

pub returns-clause-ok : goal.returns-clause-ok
returns-clause-ok c = justifications_end c.loop-i.i c.loop-i.lines c.args.items.now _ c.loop-i-test.false c.loop-i.invariant
