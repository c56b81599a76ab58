use Rattle.std.proofs.Common.{◌≡◌, ap, ◌∙◌}
use Rattle.std.proofs.lemmas.Result.{IfOk-weaker}
use Rattle.cc_acts.specs.Steps.{finish}
use Rattle.cc_interp_step.proofs.Behind.{goes_with, stops_with}
use Rattle.cc_interp_step.proofs.calls.leave.Goals as goal

pub returns-in-Some : goal.returns-in-Some
returns-in-Some c =
    stops_with c.args.m.now.outbox c.end_objects.new.outbox _ c.in-Some.stop (λ _. finish c.args.m.now.frame c.args.m.now.operands c.args.m.now.callers) (rw c.in-Some.is at c.in_ok-stop.ensures)

pub returns-in-None : goal.returns-in-None
returns-in-None c =
    IfOk-weaker c.finish.result _ _
    (λ r same. same ∙ goes_with c.args.m.now.outbox c.end_objects.new.outbox _ tt c.end_objects.new.state (λ _. finish c.args.m.now.frame c.args.m.now.operands c.args.m.now.callers) (rw c.in-None.is at c.in_ok-stop.ensures))
    c.finish.ensures
