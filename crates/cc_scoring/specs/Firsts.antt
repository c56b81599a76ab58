-- What a mark says.
use Rattle.std.specs.Prelude.{◌≡◌, ◌<◌, ℕ, List, Option, Some, None, slice_get}
use Rattle.cc_program.specs.declared.program.Program.{Program}
use Rattle.cc_meaning.specs.declared.coupling.Coupling.{Coupling}
use Rattle.cc_meaning.specs.declared.event.Event.{Event}
use Rattle.cc_meaning.specs.declared.score.Scores.{Scores}
use Rattle.cc_meaning.specs.declared.test.Test.{Test}
use Rattle.cc_acts.specs.declared.acts.Acts.{Acts}
use Rattle.cc_acts.specs.declared.stop.Stop.{Stop}
use Rattle.cc_orderly_laws.specs.Runs.{IsRun}
use Rattle.cc_record.specs.Roles.{roles_of}
use Rattle.cc_record_laws.specs.Exercised.{Exercised}
use Rattle.cc_scoring.specs.Scored.{IsScored}

-- The run of the test of this number exercises the coupling.
pub record Exercises (P : Program) (G : Acts) (tests : List Test) (q : Coupling) (t : ℕ) : Type 0 where
  pub test : Test
  pub events : List Event
  pub stop : Option Stop
  pub test_at : slice_get tests t ≡ Some test
  pub is_run : IsRun G test events stop
  pub exercised : Exercised (roles_of P) events q

-- the mark names the least test whose run exercises the coupling; without a mark no test's run does
abbrev pub IsMark : Program → Acts → List Test → Coupling → Option ℕ → Type 0
IsMark P G tests q (Some t) = Exercises P G tests q t × ((s : ℕ) → s < t → Exercises P G tests q s → ⊥)
IsMark P G tests q None = (t : ℕ) → Exercises P G tests q t → ⊥

-- Each row has the mark of its coupling.
abbrev pub MarksNameFirst : Type 0
MarksNameFirst = (P : Program) (G : Acts) (rows : List Coupling) (tests : List Test) (scores : Scores) → IsScored P G rows tests scores
    → (r : ℕ) (q : Coupling) → slice_get rows r ≡ Some q → (mark : Option ℕ) × (slice_get scores.marks r ≡ Some mark) × IsMark P G tests q mark
