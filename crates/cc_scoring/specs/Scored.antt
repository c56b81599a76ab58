-- What the tests' runs exercise of a listing.
use Rattle.std.specs.Prelude.{◌≡◌, ◌<◌, ◌↔◌, ℕ, List, Option, Some, Contains, length, slice_get}
use Rattle.std.specs.List.Sorted.{IsStrictlyIncreasing}
use Rattle.cc_program.specs.declared.program.Program.{Program}
use Rattle.cc_meaning.specs.declared.coupling.Coupling.{Coupling}
use Rattle.cc_meaning.specs.declared.end.End.{End}
use Rattle.cc_meaning.specs.declared.event.Event.{Event}
use Rattle.cc_meaning.specs.declared.score.Scores.{Scores}
use Rattle.cc_meaning.specs.declared.test.Test.{Test}
use Rattle.cc_acts.specs.declared.acts.Acts.{Acts}
use Rattle.cc_acts.specs.declared.stop.Stop.{Stop}
use Rattle.cc_record.specs.Roles.{roles_of}
use Rattle.cc_record_laws.specs.Exercised.{Exercised}
use Rattle.cc_score.specs.Firsts.{marks_to}
use Rattle.cc_orderly_laws.specs.Runs.{IsRun}
use Rattle.cc_scoring.specs.Runs.{end_of}

-- The set has, ascending, the numbers of those rows of which this holds.
pub record AreRows (rows : List Coupling) (holds : Coupling → Type 0) (set : List ℕ) : Type 0 where
  pub ascending : IsStrictlyIncreasing set
  pub below : (r : ℕ) → Contains set r → r < length rows
  pub exact : (r : ℕ) (row : Coupling) → slice_get rows r ≡ Some row → Contains set r ↔ holds row

-- the set has, ascending, the numbers of just those rows that the events exercise
abbrev pub IsRowSet : Program → List Coupling → List Event → List ℕ → Type 0
IsRowSet P rows events set = AreRows rows (λ row. Exercised (roles_of P) events row) set

-- The set and the end are those of the test's run.
pub record IsOfRun (P : Program) (G : Acts) (rows : List Coupling) (test : Test) (set : List ℕ) («end» : End) : Type 0 where
  pub events : List Event
  pub stop : Option Stop
  pub is_run : IsRun G test events stop
  pub is_end : end_of stop ≡ Some «end»
  pub is_set : IsRowSet P rows events set

-- The set and the end of this number are those of the run of the test of this number.
pub record IsOfTest (P : Program) (G : Acts) (rows : List Coupling) (tests : List Test) (sets : List (List ℕ)) (ends : List End) (t : ℕ) : Type 0 where
  pub test : Test
  pub set : List ℕ
  pub «end» : End
  pub test_at : slice_get tests t ≡ Some test
  pub set_at : slice_get sets t ≡ Some set
  pub end_at : slice_get ends t ≡ Some «end»
  pub is_of_run : IsOfRun P G rows test set «end»

-- The first so many tests have their sets and ends.
pub record AreScored (P : Program) (G : Acts) (rows : List Coupling) (tests : List Test) (sets : List (List ℕ)) (ends : List End) (count : ℕ) : Type 0 where
  pub sets_length : length sets ≡ count
  pub ends_length : length ends ≡ count
  pub each : (t : ℕ) → t < count → IsOfTest P G rows tests sets ends t

-- Each test has its rows and its end, and each row its mark.
pub record IsScored (P : Program) (G : Acts) (rows : List Coupling) (tests : List Test) (scores : Scores) : Type 0 where
  pub runs : AreScored P G rows tests scores.exercised scores.ends (length tests)
  pub marks : scores.marks ≡ marks_to scores.exercised (length rows)
