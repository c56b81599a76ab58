use Rattle.std.proofs.Common.{drop}
use Rattle.cc_interp.specs.Tested.{Called}
use Rattle.cc_interp.proofs.run.run_calls.Given as goal

abbrev pub invariant-loop-call : goal.invariant-loop-call
invariant-loop-call g l = Called (g.W.Watch.stands_for l.fn.watch) (g.W.Watch.stands_for l.watch) l.acts l.calls (drop l.call-index l.calls) l.initial.m.state l.m
