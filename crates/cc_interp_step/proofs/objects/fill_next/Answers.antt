use Rattle.std.proofs.Common.{◌≡◌, ◌+◌, ap, ◌∙◌, sym}
use Rattle.std.specs.Prelude.{slice_get}
use Rattle.cc_acts.specs.Runs.{◌>>◌, give}
use Rattle.cc_acts.specs.Values.{cell_on}
use Rattle.cc_acts.specs.Parts.{fill_operand}
use Rattle.cc_interp_step.specs.Fills.{filled_by}
use Rattle.cc_interp_step.specs.Progress.{behind}
use Rattle.cc_interp_step.proofs.Behind.{goes_with, stops_with}
use Rattle.cc_interp_step.proofs.objects.fill_next.Goals as goal

pub returns-in-Some : goal.returns-in-Some
returns-in-Some c =
    stops_with c.args.outbox.now c.fill_same.new.outbox _ c.in-Some.stop (λ _. give (record { k = c.args.at.k + c.in-Cells.count; i = c.args.at.i })) (rw c.in-Some.is at c.in_ok-stop-in-Cells.ensures)
    ∙ ap (λ f. behind c.args.outbox.now (filled_by c.args.occ c.args.act c.args.p c.args.operands.now c.args.at f c.args.state.now)) (sym c.in-Cells.is)

pub returns-in-None : goal.returns-in-None
returns-in-None c =
    goes_with c.args.outbox.now c.fill_same.new.outbox _ tt c.fill_same.new.state (λ _. give (record { k = c.args.at.k + c.in-Cells.count; i = c.args.at.i })) (rw c.in-None.is at c.in_ok-stop-in-Cells.ensures)
    ∙ ap (λ f. behind c.args.outbox.now (filled_by c.args.occ c.args.act c.args.p c.args.operands.now c.args.at f c.args.state.now)) (sym c.in-Cells.is)

pub returns-in-Some-2 : goal.returns-in-Some-2
returns-in-Some-2 c =
    let a = c.args in
    stops_with a.outbox.now c.fill_operand.new.outbox _ c.in-Some-2.stop (λ _. give (record { k = a.at.k + 1; i = a.at.i + 1 })) (rw c.in-Some-2.is at c.in_ok-stop-in-Operand.ensures)
    ∙ ap (λ q. behind a.outbox.now ((fill_operand a.occ a.act q c.in-Operand.to c.item_at-operand.result >> give (record { k = a.at.k + 1; i = a.at.i + 1 })) a.state.now)) c.cell_on.ensures
    ∙ ap (λ o. behind a.outbox.now ((fill_operand a.occ a.act (cell_on a.p a.at.k) c.in-Operand.to o >> give (record { k = a.at.k + 1; i = a.at.i + 1 })) a.state.now)) c.item_at-operand.ensures
    ∙ ap (λ f. behind a.outbox.now (filled_by a.occ a.act a.p a.operands.now a.at f a.state.now)) (sym c.in-Operand.is)

pub returns-in-None-2 : goal.returns-in-None-2
returns-in-None-2 c =
    let a = c.args in
    goes_with a.outbox.now c.fill_operand.new.outbox _ tt c.fill_operand.new.state (λ _. give (record { k = a.at.k + 1; i = a.at.i + 1 })) (rw c.in-None-2.is at c.in_ok-stop-in-Operand.ensures)
    ∙ ap (λ q. behind a.outbox.now ((fill_operand a.occ a.act q c.in-Operand.to c.item_at-operand.result >> give (record { k = a.at.k + 1; i = a.at.i + 1 })) a.state.now)) c.cell_on.ensures
    ∙ ap (λ o. behind a.outbox.now ((fill_operand a.occ a.act (cell_on a.p a.at.k) c.in-Operand.to o >> give (record { k = a.at.k + 1; i = a.at.i + 1 })) a.state.now)) c.item_at-operand.ensures
    ∙ ap (λ f. behind a.outbox.now (filled_by a.occ a.act a.p a.operands.now a.at f a.state.now)) (sym c.in-Operand.is)
