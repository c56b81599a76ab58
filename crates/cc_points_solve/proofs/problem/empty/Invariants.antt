use Rattle.std.proofs.Common.{◌≡◌, [], replicate}
use Rattle.cc_points_solve.proofs.problem.empty.Given as goal

abbrev pub invariant-loop-holder : goal.invariant-loop-holder
invariant-loop-holder l = l.table.items ≡ replicate l._holder []
