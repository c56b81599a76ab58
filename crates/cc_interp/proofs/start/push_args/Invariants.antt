use Rattle.std.proofs.Common.{◌≡◌, drop}
use Rattle.cc_interp.specs.Tests.{pushed}
use Rattle.cc_interp.proofs.start.push_args.Given as goal

abbrev pub invariant-loop-arg : goal.invariant-loop-arg
invariant-loop-arg l = pushed (drop l.arg-index l.args) l.operands ≡ pushed l.args l.initial.operands
