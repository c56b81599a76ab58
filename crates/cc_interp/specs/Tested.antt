-- What a watcher was told of a test's run.
use Rattle.std.specs.Prelude.{◌≡◌, ℕ, ◌+◌, List, [], Option}
use Rattle.cc_meaning.specs.declared.event.Event.{Event}
use Rattle.cc_meaning.specs.declared.test.Test.{Test}
use Rattle.cc_meaning.specs.declared.test.TestCall.{TestCall}
use Rattle.cc_acts.specs.declared.acts.Acts.{Acts}
use Rattle.cc_acts.specs.declared.acts.Lasting.{Lasting}
use Rattle.cc_acts.specs.declared.state.State.{State}
use Rattle.cc_acts.specs.declared.stop.Stop.{Stop}
use Rattle.cc_acts.specs.Runs.{Run, Part}
use Rattle.cc_interp_step.specs.declared.machine.Machine.{Machine}
use Rattle.cc_interp.specs.Ran.{Tells, prepend, ended}
use Rattle.cc_interp.specs.Tests.{fresh, run, run_calls, fill_lasting}

-- It was told exactly the events of the part's run from the first state; the run stops so, or goes on from the other state.
pub record RanPart (old new : List Event → Type 0) (part : Part (Unit {0})) (s : State) (stop : Option Stop) (s' : State) : Type 0 where
  pub events : List Event
  pub told : Tells old new events
  pub run_is : part s ≡ prepend events (ended stop s')

-- It was told a beginning of them.
pub record BegunPart (old new : List Event → Type 0) (part : Part (Unit {0})) (s : State) : Type 0 where
  pub events : List Event
  pub told : Tells old new events
  pub others : Run (Unit {0})
  pub run_is : part s ≡ prepend events others

-- the same of a part that is bounded by a number of steps, with steps enough
pub record RanSteps (old new : List Event → Type 0) (part : ℕ → Part (Unit {0})) (s : State) (stop : Option Stop) (s' : State) : Type 0 where
  pub events : List Event
  pub told : Tells old new events
  pub steps : ℕ
  pub run_is : (more : ℕ) → part (steps + more) s ≡ prepend events (ended stop s')

pub record BegunSteps (old new : List Event → Type 0) (part : ℕ → Part (Unit {0})) (s : State) : Type 0 where
  pub events : List Event
  pub told : Tells old new events
  pub steps : ℕ
  pub run_is : (more : ℕ) → (others : Run (Unit {0})) × (part (steps + more) s ≡ prepend events others)

-- the run of a test's calls
abbrev pub calls_of : Acts → List TestCall → ℕ → Part (Unit {0})
calls_of G calls steps = run_calls G steps calls

-- the whole run of a test with these calls
abbrev pub run_with : Acts → List TestCall → ℕ → Part (Unit {0})
run_with G calls steps = run G steps calls

-- the same of the run of a test, from its fresh state with so many cells
abbrev pub RanTest : (old new : List Event → Type 0) → Acts → Test → ℕ → Option Stop → Type 0
RanTest old new G test cells stop = (s : State) × RanSteps old new (run_with G test.calls) (fresh test.turns cells test.answers) stop s

abbrev pub BegunTest : (old new : List Event → Type 0) → Acts → Test → ℕ → Type 0
BegunTest old new G test cells = BegunSteps old new (run_with G test.calls) (fresh test.turns cells test.answers)

-- After these events the test's calls but the rest have returned: with steps enough the run goes on with the rest.
pub record Called (old new : List Event → Type 0) (G : Acts) (calls rest : List TestCall) (s : State) (m : Machine) : Type 0 where
  pub events : List Event
  pub told : Tells old new events
  pub steps : ℕ
  pub leads : (more : ℕ) → run_calls G (steps + more) calls s ≡ prepend events (run_calls G (steps + more) rest m.state)
  pub empty : m.outbox ≡ []

-- After these events the objects before number k have their first values.
pub record Filled (old new : List Event → Type 0) (G : Acts) (all : List Lasting) (k : ℕ) (rest : List Lasting) (s : State) (m : Machine) : Type 0 where
  pub events : List Event
  pub told : Tells old new events
  pub leads : fill_lasting G 0 all s ≡ prepend events (fill_lasting G k rest m.state)
  pub empty : m.outbox ≡ []
