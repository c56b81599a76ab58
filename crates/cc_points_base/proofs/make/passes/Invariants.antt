use Rattle.std.proofs.Common.{◌≡◌, drop}
use Rattle.cc_points_base.specs.Saying as spec
use Rattle.cc_points_base.proofs.make.passes.Given as goal

abbrev pub invariant-loop-k : goal.invariant-loop-k
invariant-loop-k l = spec.all_pushed (spec.passes l.layout l.f (drop l.k l.args) l.k) l.out.items ≡ spec.all_pushed (spec.passes l.layout l.f l.args 0) l.initial.out.items
