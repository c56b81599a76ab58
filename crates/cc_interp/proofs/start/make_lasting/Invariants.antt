use Rattle.std.proofs.Common.{◌≡◌, drop}
use Rattle.cc_interp.specs.Tests.{make_lasting}
use Rattle.cc_interp.proofs.start.make_lasting.Given as goal

abbrev pub invariant-loop-object : goal.invariant-loop-object
invariant-loop-object l = make_lasting (drop l.object-index l.objects) l.state ≡ make_lasting l.objects l.initial.state
