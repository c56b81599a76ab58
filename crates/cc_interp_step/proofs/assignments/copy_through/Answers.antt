use Rattle.std.proofs.Common.{◌≡◌, ap, ◌∙◌, sym, ◌+◌, ◌-◌, drop, take, length}
use Rattle.std.proofs.lemmas.Result.{IfOk-weaker}
use Rattle.cc_store.specs.declared.value.Value.TheVariants.{Unwritten}
use Rattle.cc_acts.specs.Parts as part
use Rattle.cc_acts.specs.Steps.{push}
use Rattle.cc_interp_step.specs.Progress.{behind, done}
use Rattle.cc_interp_step.proofs.Args.{args_are}
use Rattle.cc_interp_step.proofs.Behind.{goes_with, stops_with}
use Rattle.cc_interp_step.proofs.assignments.copy_through.Goals as goal

pub returns-in-Some : goal.returns-in-Some
returns-in-Some c =
    let m = c.args.m.now in
    let args = args_are c.as_slice-all.result.now m.operands c.saturating_sub.result c.args.count c.as_slice-all.ensures c.saturating_sub.ensures in
    stops_with m.outbox c.copy_cells.new.outbox _ c.in-Some.stop (λ _. push c.args.occ c.args.next m.frame (drop (c.args.count + 1) m.operands) m.callers Unwritten) (
    (rw c.in-Some.is at c.in_ok-stop.ensures)
    ∙ ap (λ es. behind m.outbox (part.copy c.args.lvalue m.frame.act c.args.count c.args.place.value es m.state)) args
    )

pub returns-in-None : goal.returns-in-None
returns-in-None c =
    let m = c.args.m.now in
    let args = args_are c.as_slice-all.result.now m.operands c.saturating_sub.result c.args.count c.as_slice-all.ensures c.saturating_sub.ensures in
    IfOk-weaker c.push.result _ _
    (λ r same. same
    ∙ ap (λ ops. behind c.copy_cells.new.outbox (push c.args.occ c.args.next m.frame ops m.callers Unwritten c.copy_cells.new.state)) c.remove.ensures
    ∙ goes_with m.outbox c.copy_cells.new.outbox _ tt c.copy_cells.new.state (λ _. push c.args.occ c.args.next m.frame (drop (c.args.count + 1) m.operands) m.callers Unwritten) (
    (rw c.in-None.is at c.in_ok-stop.ensures)
    ∙ ap (λ es. behind m.outbox (part.copy c.args.lvalue m.frame.act c.args.count c.args.place.value es m.state)) args
    ))
    c.push.ensures
