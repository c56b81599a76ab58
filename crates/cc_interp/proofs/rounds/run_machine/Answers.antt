use Rattle.std.proofs.lemmas.Result.{err_from_is_err_and}
use Rattle.cc_interp_step.specs.declared.machine.Outcome.TheVariants.{Next}
use Rattle.cc_interp.proofs.Reach.{begins, goes_on, returned, stopped, begun, begun_at}
use Rattle.cc_interp.proofs.rounds.run_machine.Goals as goal

pub loop-round-init : goal.loop-round-init
loop-round-init g c = begins _ c.args.acts.now c.args.m.now c.requires.empty

pub loop-round-preserved : goal.loop-round-preserved
loop-round-preserved g c =
    rw c.in-Next.is at (goes_on (g.W.Watch.stands_for c.args.watch.now) (g.W.Watch.stands_for c.loop-round.watch) (g.W.Watch.stands_for c.flush.new.watch) c.args.acts.now c.in_ok-outcome.outcome c.args.m.now c.loop-round.m c.step.new.m c.flush.new.outbox c.loop-round.invariant c.in_ok-outcome.ensures.does c.in_ok-flush.ensures.told c.in_ok-flush.ensures.empty)

pub returns-in-Back-clause-ran : goal.returns-in-Back-clause-ran
returns-in-Back-clause-ran g c =
    returned _ _ c.args.acts.now c.args.m.now _ (rw c.in-Back.is at (goes_on (g.W.Watch.stands_for c.args.watch.now) (g.W.Watch.stands_for c.loop-round.watch) (g.W.Watch.stands_for c.flush.new.watch) c.args.acts.now c.in_ok-outcome.outcome c.args.m.now c.loop-round.m c.step.new.m c.flush.new.outbox c.loop-round.invariant c.in_ok-outcome.ensures.does c.in_ok-flush.ensures.told c.in_ok-flush.ensures.empty))

pub returns-in-Stopped-clause-ran : goal.returns-in-Stopped-clause-ran
returns-in-Stopped-clause-ran g c =
    stopped _ _ c.args.acts.now c.args.m.now c.in-Stopped.stop _ (rw c.in-Stopped.is at (goes_on (g.W.Watch.stands_for c.args.watch.now) (g.W.Watch.stands_for c.loop-round.watch) (g.W.Watch.stands_for c.flush.new.watch) c.args.acts.now c.in_ok-outcome.outcome c.args.m.now c.loop-round.m c.step.new.m c.flush.new.outbox c.loop-round.invariant c.in_ok-outcome.ensures.does c.in_ok-flush.ensures.told c.in_ok-flush.ensures.empty))

pub returns-in_err-outcome-clause-err : goal.returns-in_err-outcome-clause-err
returns-in_err-outcome-clause-err g c =
    let p = err_from_is_err_and c.from_residual.result c.from_residual.ensures.1 in
    rw p.1 (begun _ _ c.args.acts.now c.args.m.now c.loop-round.m Next c.loop-round.invariant)

pub returns-in_err-flush-clause-err : goal.returns-in_err-flush-clause-err
returns-in_err-flush-clause-err g c =
    let p = err_from_is_err_and c.from_residual-in_err-flush.result c.from_residual-in_err-flush.ensures.1 in
    rw p.1 (begun_at _ _ _ c.args.acts.now c.in_ok-outcome.outcome c.args.m.now c.loop-round.m c.step.new.m c.loop-round.invariant c.in_ok-outcome.ensures.does c.in_err-flush.ensures.err)

pub returns-clause-err : goal.returns-clause-err
returns-clause-err g c = begun _ _ c.args.acts.now c.args.m.now c.loop-round.m Next c.loop-round.invariant
