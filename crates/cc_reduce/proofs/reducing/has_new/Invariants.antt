use Rattle.std.proofs.Common.{◌≡◌}
use Rattle.std.specs.Prelude.{slice_get}
use Rattle.cc_score.specs.Any.{any_to}
use Rattle.cc_reduce.specs.Reduced.{is_new_at}
use Rattle.cc_reduce.proofs.reducing.has_new.Given as goal

abbrev pub invariant-loop-row : goal.invariant-loop-row
invariant-loop-row l = l.found ≡ any_to (λ i. is_new_at l.first l.later l.test (slice_get l.rows i)) l.row-index
