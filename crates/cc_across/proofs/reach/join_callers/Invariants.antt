use Rattle.std.proofs.Common.{◌≡◌, drop}
use Rattle.cc_across.specs.Reaching.{callers_joined}
use Rattle.cc_across.proofs.reach.join_callers.Given as goal

abbrev pub invariant-loop-f : goal.invariant-loop-f
invariant-loop-f l = callers_joined l.count (drop l.f-index l.callers) l.g l.pairs.items ≡ callers_joined l.count l.callers l.g l.initial.pairs.items
