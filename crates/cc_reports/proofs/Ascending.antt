-- The rows of each test ascend.
use Rattle.std.proofs.Common.{◌≡◌, ℕ, List, Some, length, sym, ◌∙◌, subst, arith}
use Rattle.std.specs.Prelude.{slice_get}
use Rattle.std.specs.List.Sorted.{IsStrictlyIncreasing}
use Rattle.std.proofs.lemmas.Option.{same_Some, slice_get_within}
use Rattle.cc_meaning.specs.declared.coupling.Coupling.{Coupling}
use Rattle.cc_meaning.specs.declared.score.Scores.{Scores}
use Rattle.cc_meaning.specs.declared.test.Test.{Test}
use Rattle.cc_program.specs.declared.program.Program.{Program}
use Rattle.cc_reduce.specs.Ordered.{AreAscending}
use Rattle.cc_reports.specs.Found.{AreScores}

pub scores_ascend : (P : Program) (rows : List Coupling) (tests : List Test) (scores : Scores) → AreScores P rows tests scores → AreAscending scores.exercised
scores_ascend P rows tests scores are test set at =
    let runs = are.1.runs in
    let within = slice_get_within scores.exercised test set at in
    let long = runs.sets_length in
    let it = runs.each test (omega arith) in
    subst IsStrictlyIncreasing (same_Some it.set set (sym it.set_at ∙ at)) it.is_of_run.is_set.ascending
