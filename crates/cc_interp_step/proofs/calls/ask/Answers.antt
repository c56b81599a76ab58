use Rattle.std.proofs.Common.{◌≡◌, ap, ◌∙◌, ◌+◌, drop}
use Rattle.std.proofs.lemmas.Result.{IfOk-weaker}
use Rattle.cc_acts.specs.Steps.{push}
use Rattle.cc_interp_step.specs.Progress.{behind}
use Rattle.cc_interp_step.proofs.Behind.{goes_with, stops_with}
use Rattle.cc_interp_step.proofs.calls.ask.Goals as goal

pub returns-in-Err : goal.returns-in-Err
returns-in-Err c =
    let m = c.args.m.now in
    stops_with m.outbox c.answer.new.outbox _ c.in-Err.stop (push c.args.occ c.args.next m.frame (drop (c.args.count + 1) m.operands) m.callers) (rw c.in-Err.is at c.in_ok-stop.ensures)

pub returns-in-Ok : goal.returns-in-Ok
returns-in-Ok c =
    let m = c.args.m.now in
    IfOk-weaker c.push.result _ _
    (λ r same. same
    ∙ ap (λ ops. behind c.answer.new.outbox (push c.args.occ c.args.next m.frame ops m.callers c.in-Ok.value c.answer.new.state)) c.remove.ensures
    ∙ goes_with m.outbox c.answer.new.outbox _ c.in-Ok.value c.answer.new.state (push c.args.occ c.args.next m.frame (drop (c.args.count + 1) m.operands) m.callers) (rw c.in-Ok.is at c.in_ok-stop.ensures))
    c.push.ensures
