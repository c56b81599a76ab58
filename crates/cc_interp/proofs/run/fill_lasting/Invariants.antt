use Rattle.std.proofs.Common.{drop}
use Rattle.cc_interp.specs.Tested.{Filled}
use Rattle.cc_interp.proofs.run.fill_lasting.Given as goal

abbrev pub invariant-loop-object : goal.invariant-loop-object
invariant-loop-object g l = Filled (g.W.Watch.stands_for l.fn.watch) (g.W.Watch.stands_for l.watch) l.acts l.objects l.k (drop l.object-index l.objects) l.initial.m.state l.m
