use Rattle.std.proofs.Common.{◌≡◌, drop, []}
use Rattle.cc_points_solve.specs.Problems as spec
use Rattle.cc_points_solve.proofs.problem.joins.Given as goal

abbrev pub invariant-loop-c : goal.invariant-loop-c
invariant-loop-c l = spec.all_joins (drop l.c-index l.constraints) l.out.items ≡ spec.all_joins l.constraints []
