use Rattle.std.proofs.Common.{◌≡◌, ℕ, ◌<◌, Some}
use Rattle.std.specs.Prelude.{slice_get}
use Rattle.cc_score.specs.Firsts.{first_to, marks_to}
use Rattle.cc_score.proofs.firsts.first_tests.Given as goal

abbrev pub invariant-loop-test : goal.invariant-loop-test
invariant-loop-test l = (k : ℕ) → k < l.rows → slice_get l.first.items k ≡ Some (first_to l.exercised k l.test)

abbrev pub invariant-loop-row : goal.invariant-loop-row
invariant-loop-row l = l.marks ≡ marks_to l.exercised l.row
