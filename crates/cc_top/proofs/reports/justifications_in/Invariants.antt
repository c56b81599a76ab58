use Rattle.std.proofs.Common.{◌≡◌, ◌++◌, drop, map}
use Rattle.cc_top.specs.Justified as spec
use Rattle.cc_top.proofs.reports.justifications_in.Given as goal

abbrev pub invariant-loop-justified : goal.invariant-loop-justified
invariant-loop-justified l = l.list ++ map spec.justification (drop l.justified-index l.raw) ≡ map spec.justification l.raw
