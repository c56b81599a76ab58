use Rattle.std.proofs.Common.{◌≡◌, take}
use Rattle.cc_prep.specs.Kinds as spec
use Rattle.cc_prep.proofs.kind.kinds_of.Given as goal

abbrev pub invariant-loop-token : goal.invariant-loop-token
invariant-loop-token l = l.kinds ≡ spec.kinds_of (take l.token-index l.tokens)
