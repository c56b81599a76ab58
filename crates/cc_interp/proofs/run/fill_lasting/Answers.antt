use Rattle.std.proofs.Common.{◌≡◌, suc, ◌∷◌, ◌+◌, drop, ap, ◌∙◌, arith, reverse, None, Some, false}
use Rattle.std.specs.Prelude.{slice_index_or}
use Rattle.std.proofs.Math.Seq.{drop-cons}
use Rattle.std.proofs.lemmas.Result.{err_from_is_err_and}
use Rattle.cc_acts.specs.declared.acts.Lasting.{Lasting}
use Rattle.cc_interp_step.specs.Progress.{done}
use Rattle.cc_interp.proofs.Fills.{one_is, next_filled, stopped_filled, begun_filling}
use Rattle.cc_interp.proofs.run.fill_lasting.Goals as goal

abbrev nothing : Lasting
nothing = record { declarator = 0; cells = 0; from = 0; fillers = 0; is_fixed = false }

pub loop-object-preserved : goal.loop-object-preserved
loop-object-preserved g c =
    let l = c.loop-object in
    let a = c.args in
    let objects = a.objects.now in
    let o = slice_index_or objects l.object-index nothing in
    let os = drop (l.object-index + 1) objects in
    let rest : drop l.object-index objects ≡ o ∷ os = drop-cons objects l.object-index nothing c.loop-object-test.true ∙ ap (λ n. o ∷ drop n objects) (let e : suc l.object-index ≡ l.object-index + 1 = omega arith in e) in
    let h = one_is a.acts.now l.k o l.m.outbox c.fill_one.new.outbox None l.m.state c.fill_one.new.state l.invariant.empty (rw c.in-None.is at c.in_ok-stop.ensures) in
    next_filled _ _ _ a.acts.now objects l.k o os a.m.now.state l.m _ (reverse c.fill_one.new.outbox) (rw rest at l.invariant) h c.in_ok-flush.ensures.told c.in_ok-flush.ensures.empty

pub returns-in-Some-clause-ran : goal.returns-in-Some-clause-ran
returns-in-Some-clause-ran g c =
    let l = c.loop-object in
    let a = c.args in
    let objects = a.objects.now in
    let o = slice_index_or objects l.object-index nothing in
    let os = drop (l.object-index + 1) objects in
    let rest : drop l.object-index objects ≡ o ∷ os = drop-cons objects l.object-index nothing c.loop-object-test.true ∙ ap (λ n. o ∷ drop n objects) (let e : suc l.object-index ≡ l.object-index + 1 = omega arith in e) in
    let h = one_is a.acts.now l.k o l.m.outbox c.fill_one.new.outbox (Some c.in-Some.stop) l.m.state c.fill_one.new.state l.invariant.empty (rw c.in-Some.is at c.in_ok-stop.ensures) in
    stopped_filled _ _ _ a.acts.now objects l.k o os a.m.now.state _ l.m (reverse c.fill_one.new.outbox) c.in-Some.stop (rw rest at l.invariant) h c.in_ok-flush.ensures.told

pub returns-in_err-flush-clause-err : goal.returns-in_err-flush-clause-err
returns-in_err-flush-clause-err g c =
    let l = c.loop-object in
    let a = c.args in
    let objects = a.objects.now in
    let o = slice_index_or objects l.object-index nothing in
    let os = drop (l.object-index + 1) objects in
    let rest : drop l.object-index objects ≡ o ∷ os = drop-cons objects l.object-index nothing c.loop-object-test.true ∙ ap (λ n. o ∷ drop n objects) (let e : suc l.object-index ≡ l.object-index + 1 = omega arith in e) in
    let h = one_is a.acts.now l.k o l.m.outbox c.fill_one.new.outbox c.in_ok-stop.stop l.m.state c.fill_one.new.state l.invariant.empty c.in_ok-stop.ensures in
    let p = err_from_is_err_and c.from_residual-in_err-flush.result c.from_residual-in_err-flush.ensures.1 in
    rw p.1 (begun_filling _ _ _ a.acts.now objects l.k o os a.m.now.state l.m (reverse c.fill_one.new.outbox) (done c.in_ok-stop.stop c.fill_one.new.state) (rw rest at l.invariant) h c.in_err-flush.ensures.err)
