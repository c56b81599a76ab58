use Rattle.std.proofs.Common.{◌≡◌, drop, [], replicate}
use Rattle.cc_points_solve.specs.Problems as spec
use Rattle.cc_points_solve.proofs.problem.table.Given as goal

abbrev pub invariant-loop-c : goal.invariant-loop-c
invariant-loop-c l = spec.tabled (drop l.c-index l.constraints) l.out.items ≡ spec.tabled l.constraints (replicate l.holders [])
