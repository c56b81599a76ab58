use Rattle.std.proofs.Common.{ap, ◌∙◌}
use Rattle.std.proofs.lemmas.Result.{err_from_is_err_and, IfOk-weaker, on_err_weaker}
use Rattle.cc_interp.specs.Tests.{make_lasting}
use Rattle.cc_interp.proofs.Whole.{not_made, not_filled, all_ran, none_begun, fill_begun, calls_begun}
use Rattle.cc_interp.proofs.run.run_from.Goals as goal

pub returns-in-Some-clause-ran : goal.returns-in-Some-clause-ran
returns-in-Some-clause-ran g c =
    let a = c.args in
    not_made a.acts.now a.calls.now a.m.now.state _ c.in-Some.stop _ ((rw c.in-Some.is at c.in_ok-stop.ensures) ∙ ap (λ os. make_lasting os a.m.now.state) c.as_slice-objects.ensures)

pub returns-in_err-stop-clause-err : goal.returns-in_err-stop-clause-err
returns-in_err-stop-clause-err g c =
    let a = c.args in
    let p = err_from_is_err_and c.from_residual.result c.from_residual.ensures.1 in
    rw p.1 (none_begun a.acts.now a.calls.now a.m.now.state _)

pub returns-in_err-stop-in-None-clause-err : goal.returns-in_err-stop-in-None-clause-err
returns-in_err-stop-in-None-clause-err g c =
    let a = c.args in
    let same = c.as_slice-objects.ensures in
    let made = (rw c.in-None.is at c.in_ok-stop.ensures) ∙ ap (λ os. make_lasting os a.m.now.state) same in
    let p = err_from_is_err_and c.from_residual-in_err-stop-in-None.result c.from_residual-in_err-stop-in-None.ensures.1 in
    rw p.1 (fill_begun a.acts.now a.calls.now a.m.now.state _ _ c.make_lasting.new.state made (rw same at c.in_err-stop-in-None.ensures.err))

pub returns-in-Some-2-clause-ran : goal.returns-in-Some-2-clause-ran
returns-in-Some-2-clause-ran g c =
    let a = c.args in
    let same = c.as_slice-objects.ensures in
    let made = (rw c.in-None.is at c.in_ok-stop.ensures) ∙ ap (λ os. make_lasting os a.m.now.state) same in
    not_filled a.acts.now a.calls.now a.m.now.state _ _ c.in-Some-2.stop c.make_lasting.new.state _ made (rw (c.in-Some-2.is, same) at c.in_ok-stop-in-None.ensures.ran)

pub returns-in-None-2-clause-ran : goal.returns-in-None-2-clause-ran
returns-in-None-2-clause-ran g c =
    let a = c.args in
    let same = c.as_slice-objects.ensures in
    let made = (rw c.in-None.is at c.in_ok-stop.ensures) ∙ ap (λ os. make_lasting os a.m.now.state) same in
    let filled = rw (c.in-None-2.is, same) at c.in_ok-stop-in-None.ensures.ran in
    IfOk-weaker c.run_calls.result _ _ (λ stop r. all_ran a.acts.now a.calls.now a.m.now.state _ _ _ stop c.make_lasting.new.state _ _ made filled r) c.run_calls.ensures.ran

pub returns-in-None-2-clause-err : goal.returns-in-None-2-clause-err
returns-in-None-2-clause-err g c =
    let a = c.args in
    let same = c.as_slice-objects.ensures in
    let made = (rw c.in-None.is at c.in_ok-stop.ensures) ∙ ap (λ os. make_lasting os a.m.now.state) same in
    let filled = rw (c.in-None-2.is, same) at c.in_ok-stop-in-None.ensures.ran in
    on_err_weaker c.run_calls.result (λ r. calls_begun a.acts.now a.calls.now a.m.now.state _ _ _ c.make_lasting.new.state _ made filled r) c.run_calls.ensures.err
