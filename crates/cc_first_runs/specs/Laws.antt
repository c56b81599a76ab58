-- What is proved of the runs of every program. Each statement is the contract of a function in `src/laws.rt`.
use Rattle.std.specs.Prelude.{◌≡◌, ◌≢◌, ◌<◌, ◌⊎◌, ◌+◌, ◌++◌, ℕ, List, [], Some, slice_get, length, take, map, All, Contains}
use Rattle.cc_first_runs.specs.Program.{Name, Program}
use Rattle.cc_first_runs.specs.Points.{Root, IsReachable}
use Rattle.cc_first_runs.specs.Couplings.{Row, IsCoupling, AreCouplings}
use Rattle.cc_first_runs.specs.Events.{Event, Done, TurnsOut}
use Rattle.cc_first_runs.specs.Runs.{Told, run}
use Rattle.cc_first_runs.specs.Exercised.{IsExercised}
use Rattle.cc_first_runs.specs.Walks.{Activation, active_after_all, point_before, point_after, HappenFrom}

-- the test calls the entry, and nothing else
abbrev pub AreCallsOf : (entry : ℕ) → (calls : List ℕ) → Type 0
AreCallsOf entry calls = All (λ call. call ≡ entry) calls

-- Up to its last event the points of a run are a path across from the root, and those of each activation a path within
-- from its entry.
abbrev pub RunsArePaths : Type 0
RunsArePaths =
    (program : Program) (entry : ℕ) (calls : List ℕ) → AreCallsOf entry calls → (turns : ℕ)
    → HappenFrom program entry [] Root (run program calls turns).events

-- the two points of an event can be reached, where these activations are there before it
pub record IsReached (program : Program) (entry : ℕ) (active : List Activation) (event : Event) : Type 0 where
  pub before : IsReachable program entry (point_before active event)
  pub after : IsReachable program entry (point_after active event)

-- a path across leads from the root to the points of each event of a run
abbrev pub EventsAreReached : Type 0
EventsAreReached =
    (program : Program) (entry : ℕ) (calls : List ℕ) → AreCallsOf entry calls → (turns position : ℕ) (event : Event)
    → let events = (run program calls turns).events in
    slice_get events position ≡ Some event → IsReached program entry (active_after_all [] (take position events)) event

-- each call coupling that a run exercises is a call coupling of the program
abbrev pub ExercisedAreCouplings : Type 0
ExercisedAreCouplings =
    (program : Program) (entry : ℕ) (calls : List ℕ) → AreCallsOf entry calls → (turns : ℕ) (row : Row)
    → IsExercised program (run program calls turns).events row → IsCoupling program entry row

-- each call coupling that any run exercises is one of these rows
abbrev pub HaveAllExercised : Program → (entry : ℕ) → List Row → Type 0
HaveAllExercised program entry rows =
    (calls : List ℕ) → AreCallsOf entry calls → (turns : ℕ) (row : Row)
    → IsExercised program (run program calls turns).events row → Contains rows row

-- what is listed exactly leaves no exercised coupling out
abbrev pub ListedLeavesNoneOut : Type 0
ListedLeavesNoneOut =
    (program : Program) (entry : ℕ) (rows : List Row) → AreCouplings program entry rows → HaveAllExercised program entry rows

-- One run begins another: its events come first, and if it does not end for want of turns, both are the same.
pub record Begins (less more : Told) : Type 0 where
  pub first : (rest : List Event) × (more.events ≡ less.events ++ rest)
  pub stays : less.end ≢ TurnsOut → more ≡ less

-- with more turns a run only goes further
abbrev pub MoreTurnsAdd : Type 0
MoreTurnsAdd = (program : Program) (calls : List ℕ) (turns more : ℕ) → Begins (run program calls turns) (run program calls (turns + more))

-- what a beginning of the events exercises, all of them exercise
abbrev pub MoreEventsExerciseMore : Type 0
MoreEventsExerciseMore =
    (program : Program) (events rest : List Event) (row : Row) → IsExercised program events row → IsExercised program (events ++ rest) row

-- a function of the program has the called name
abbrev pub HasBody : Program → Name → Type 0
HasBody program call = Contains (map (λ function. function.head.text) program) call.text

-- each called name has a body
abbrev pub HasBodies : Program → Type 0
HasBodies program = All (λ function. All (HasBody program) function.calls) program

-- where each called name has a body, a run ends when its calls are done or its turns are out
abbrev pub WholeProgramsEnd : Type 0
WholeProgramsEnd =
    (program : Program) → HasBodies program → (calls : List ℕ) → All (λ call. call < length program) calls → (turns : ℕ)
    → let end = (run program calls turns).end in
    (end ≡ Done) ⊎ (end ≡ TurnsOut)
