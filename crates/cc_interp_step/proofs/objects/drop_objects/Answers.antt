use Rattle.std.proofs.Common.{◌≡◌, ap, ◌∙◌}
use Rattle.cc_acts.specs.Parts.{end_names}
use Rattle.cc_acts.specs.Steps.{goes}
use Rattle.cc_interp_step.proofs.Behind.{goes_with, stops_with}
use Rattle.cc_interp_step.proofs.objects.drop_objects.Goals as goal

pub returns-in-Some : goal.returns-in-Some
returns-in-Some c =
    stops_with c.args.m.now.outbox c.end_objects.new.outbox _ c.in-Some.stop (λ _. goes c.args.next c.args.m.now.frame c.args.m.now.operands c.args.m.now.callers) (rw c.in-Some.is at c.in_ok-stop.ensures)

pub returns-in-None : goal.returns-in-None
returns-in-None c =
    goes_with c.args.m.now.outbox c.end_objects.new.outbox _ tt c.end_objects.new.state (λ _. goes c.args.next c.args.m.now.frame c.args.m.now.operands c.args.m.now.callers) (rw c.in-None.is at c.in_ok-stop.ensures)
