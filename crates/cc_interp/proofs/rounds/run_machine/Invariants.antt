use Rattle.cc_interp_step.specs.declared.machine.Outcome.TheVariants.{Next}
use Rattle.cc_interp.specs.Ran.{Reached}
use Rattle.cc_interp.proofs.rounds.run_machine.Given as goal

abbrev pub invariant-loop-round : goal.invariant-loop-round
invariant-loop-round g l = Reached (g.W.Watch.stands_for l.fn.watch) (g.W.Watch.stands_for l.watch) l.acts l.initial.m Next l.m
