use Rattle.std.proofs.Common.{◌≡◌, drop}
use Rattle.cc_points_base.specs.Saying as spec
use Rattle.cc_points_base.proofs.make.copies.Given as goal

abbrev pub invariant-loop-j : goal.invariant-loop-j
invariant-loop-j l = spec.all_pushed (spec.copies l.layout l.id l.k l.l l.r (drop l.j l.paths) l.j) l.out.items ≡ spec.all_pushed (spec.copies l.layout l.id l.k l.l l.r l.paths 0) l.initial.out.items
