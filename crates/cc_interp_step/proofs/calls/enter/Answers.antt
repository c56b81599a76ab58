use Rattle.std.proofs.Common.{◌≡◌, ap, ◌∙◌, sym, length, drop, take, ◌+◌, ◌-◌}
use Rattle.cc_acts.specs.declared.stop.Stop.TheVariants.{CellsOut}
use Rattle.cc_acts.specs.Parts.{enter}
use Rattle.cc_acts.specs.Steps.{site_of, goes, site_by}
use Rattle.cc_interp_step.specs.Progress.{behind}
use Rattle.cc_interp_step.proofs.Behind.{goes_with, stops_with}
use Rattle.cc_interp_step.proofs.Args.{args_are}
use Rattle.cc_interp_step.proofs.calls.enter.Goals as goal

pub returns-in-None : goal.returns-in-None
returns-in-None c =
    let m = c.args.m.now in
    let args = args_are c.as_slice-all.result.now m.operands c.saturating_sub.result c.args.formals c.as_slice-all.ensures c.saturating_sub.ensures in
    stops_with m.outbox c.enter_frame.new.outbox _ CellsOut (λ frame. goes c.args.next frame (drop (c.args.formals + 1) m.operands) m.callers) (
    (rw c.in-None.is at c.in_ok-enter_frame.ensures)
    ∙ ap (λ st. behind m.outbox (enter c.args.acts.now.formals st c.args.callee c.args.from c.args.names (take (length c.as_slice-all.result.now - c.saturating_sub.result) (drop c.saturating_sub.result c.as_slice-all.result.now)) m.state)) (c.site_by-site.ensures ∙ ap site_by c.top.ensures)
    ∙ ap (λ es. behind m.outbox (enter c.args.acts.now.formals (site_of m.callers) c.args.callee c.args.from c.args.names es m.state)) args
    )

pub returns-in-Some : goal.returns-in-Some
returns-in-Some c =
    let m = c.args.m.now in
    let args = args_are c.as_slice-all.result.now m.operands c.saturating_sub.result c.args.formals c.as_slice-all.ensures c.saturating_sub.ensures in
    ap (λ ops. behind c.enter_frame.new.outbox (goes c.args.next c.in-Some.frame ops m.callers c.enter_frame.new.state)) c.remove.ensures
    ∙ goes_with m.outbox c.enter_frame.new.outbox _ c.in-Some.frame c.enter_frame.new.state (λ frame. goes c.args.next frame (drop (c.args.formals + 1) m.operands) m.callers) (
    (rw c.in-Some.is at c.in_ok-enter_frame.ensures)
    ∙ ap (λ st. behind m.outbox (enter c.args.acts.now.formals st c.args.callee c.args.from c.args.names (take (length c.as_slice-all.result.now - c.saturating_sub.result) (drop c.saturating_sub.result c.as_slice-all.result.now)) m.state)) (c.site_by-site.ensures ∙ ap site_by c.top.ensures)
    ∙ ap (λ es. behind m.outbox (enter c.args.acts.now.formals (site_of m.callers) c.args.callee c.args.from c.args.names es m.state)) args
    )
