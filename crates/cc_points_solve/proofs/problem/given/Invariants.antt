use Rattle.std.proofs.Common.{◌≡◌, drop, []}
use Rattle.cc_points_solve.specs.Problems as spec
use Rattle.cc_points_solve.proofs.problem.given.Given as goal

abbrev pub invariant-loop-c : goal.invariant-loop-c
invariant-loop-c l = spec.givens (drop l.c-index l.constraints) l.out.items ≡ spec.givens l.constraints []
