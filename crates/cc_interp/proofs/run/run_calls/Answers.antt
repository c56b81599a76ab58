use Rattle.std.proofs.Common.{◌≡◌, ℕ, suc, List, ◌∷◌, ◌+◌, ◌<◌, length, drop, ap, sym, ◌∙◌, arith, Some}
use Rattle.std.specs.Prelude.{slice_index_or}
use Rattle.std.proofs.Math.Seq.{drop-cons}
use Rattle.std.proofs.lemmas.Result.{err_from_is_err_and}
use Rattle.cc_meaning.specs.declared.test.TestCall.{TestCall}
use Rattle.cc_interp_step.specs.Progress.{config_of}
use Rattle.cc_interp.specs.Tests.{begin}
use Rattle.cc_interp.proofs.Calls.{called_none, next_call, stopped_call, begun_call, begun_calls}
use Rattle.cc_interp.proofs.run.run_calls.Goals as goal

-- the calls from this one on
next_is : (calls : List TestCall) (k : ℕ) (call : TestCall) → k < length calls → call ≡ slice_index_or calls k call → drop k calls ≡ call ∷ drop (k + 1) calls
next_is calls k call lt is =
    drop-cons calls k call lt
    ∙ ap (λ c. c ∷ drop (suc k) calls) (sym is)
    ∙ ap (λ n. call ∷ drop n calls) (let e : suc k ≡ k + 1 = omega arith in e)

pub loop-call-init : goal.loop-call-init
loop-call-init g c = called_none _ c.args.acts.now c.args.calls.now c.args.m.now c.requires.empty

pub returns-in_err-begin-clause-err : goal.returns-in_err-begin-clause-err
returns-in_err-begin-clause-err g c =
    let l = c.loop-call in
    let a = c.args in
    let p = err_from_is_err_and c.from_residual.result c.from_residual.ensures.1 in
    rw p.1 (begun_calls _ _ a.acts.now a.calls.now (drop l.call-index a.calls.now) a.m.now.state l.m l.invariant)

pub loop-call-preserved : goal.loop-call-preserved
loop-call-preserved g c =
    let l = c.loop-call in
    let a = c.args in
    let calls = a.calls.now in
    let call = c.call-item.result in
    let rest : drop l.call-index calls ≡ call ∷ drop (l.call-index + 1) calls = next_is calls l.call-index call c.loop-call-test.true c.call-item.is in
    let b : Some (config_of c.begin.new.m) ≡ begin a.acts.now call = rw c.in-true.is at c.in_ok-begin.ensures.config in
    next_call a.acts.now calls call (drop (l.call-index + 1) calls) a.m.now.state l.m c.begin.new.m b c.in_ok-begin.ensures.state _ _ _ _ (rw rest at l.invariant) (rw c.in-None.is at c.in_ok-stop-in-true.ensures.ran)

pub returns-in-Some-clause-ran : goal.returns-in-Some-clause-ran
returns-in-Some-clause-ran g c =
    let l = c.loop-call in
    let a = c.args in
    let calls = a.calls.now in
    let call = c.call-item.result in
    let rest : drop l.call-index calls ≡ call ∷ drop (l.call-index + 1) calls = next_is calls l.call-index call c.loop-call-test.true c.call-item.is in
    let b : Some (config_of c.begin.new.m) ≡ begin a.acts.now call = rw c.in-true.is at c.in_ok-begin.ensures.config in
    stopped_call a.acts.now calls call (drop (l.call-index + 1) calls) a.m.now.state l.m c.begin.new.m b c.in_ok-begin.ensures.state _ _ _ _ c.in-Some.stop (rw rest at l.invariant) (rw c.in-Some.is at c.in_ok-stop-in-true.ensures.ran)

pub returns-in_err-stop-in-true-clause-err : goal.returns-in_err-stop-in-true-clause-err
returns-in_err-stop-in-true-clause-err g c =
    let l = c.loop-call in
    let a = c.args in
    let calls = a.calls.now in
    let call = c.call-item.result in
    let rest : drop l.call-index calls ≡ call ∷ drop (l.call-index + 1) calls = next_is calls l.call-index call c.loop-call-test.true c.call-item.is in
    let b : Some (config_of c.begin.new.m) ≡ begin a.acts.now call = rw c.in-true.is at c.in_ok-begin.ensures.config in
    let p = err_from_is_err_and c.from_residual-in_err-stop-in-true.result c.from_residual-in_err-stop-in-true.ensures.1 in
    rw p.1 (begun_call a.acts.now calls call (drop (l.call-index + 1) calls) a.m.now.state l.m c.begin.new.m b c.in_ok-begin.ensures.state _ _ _ (rw rest at l.invariant) c.in_err-stop-in-true.ensures.err)
