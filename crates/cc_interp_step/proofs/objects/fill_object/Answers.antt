use Rattle.std.proofs.Common.{◌≡◌, ap, ◌∙◌, ◌-◌, drop, take, length}
use Rattle.cc_acts.specs.Parts.{fill_all}
use Rattle.cc_acts.specs.Steps.{goes}
use Rattle.cc_interp_step.specs.Progress.{behind}
use Rattle.cc_interp_step.proofs.Args.{args_are}
use Rattle.cc_interp_step.proofs.Behind.{goes_with, stops_with}
use Rattle.cc_interp_step.proofs.objects.fill_object.Goals as goal

pub returns-in-Some : goal.returns-in-Some
returns-in-Some c =
    let m = c.args.m.now in
    let args = args_are c.as_slice-all.result.now m.operands c.saturating_sub.result c.args.count c.as_slice-all.ensures c.saturating_sub.ensures in
    stops_with m.outbox c.fill_all.new.outbox _ c.in-Some.stop (λ _. goes c.args.next m.frame (drop c.args.count m.operands) m.callers) (
    (rw c.in-Some.is at c.in_ok-stop.ensures)
    ∙ ap (λ es. behind m.outbox (fill_all c.args.declarator m.frame.act c.args.p es 0 0 c.args.fillers.now m.state)) args
    )

pub returns-in-None : goal.returns-in-None
returns-in-None c =
    let m = c.args.m.now in
    let args = args_are c.as_slice-all.result.now m.operands c.saturating_sub.result c.args.count c.as_slice-all.ensures c.saturating_sub.ensures in
    ap (λ ops. behind c.fill_all.new.outbox (goes c.args.next m.frame ops m.callers c.fill_all.new.state)) c.remove.ensures
    ∙ goes_with m.outbox c.fill_all.new.outbox _ tt c.fill_all.new.state (λ _. goes c.args.next m.frame (drop c.args.count m.operands) m.callers) (
    (rw c.in-None.is at c.in_ok-stop.ensures)
    ∙ ap (λ es. behind m.outbox (fill_all c.args.declarator m.frame.act c.args.p es 0 0 c.args.fillers.now m.state)) args
    )
