use Rattle.std.proofs.Common.{◌≡◌, drop}
use Rattle.cc_across.specs.Reaching.{any_live}
use Rattle.cc_across.proofs.calls.any_live.Given as goal

abbrev pub invariant-loop-f : goal.invariant-loop-f
invariant-loop-f l = any_live l.live (drop l.f-index l.functions) ≡ any_live l.live l.functions
