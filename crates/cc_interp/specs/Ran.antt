-- What the loop told and did.
use Rattle.std.specs.Prelude.{◌≡◌, ℕ, ◌+◌, List, [], ◌∷◌, ◌++◌, Option, Some, None}
use Rattle.cc_meaning.specs.declared.event.Event.{Event}
use Rattle.cc_acts.specs.declared.acts.Acts.{Acts}
use Rattle.cc_acts.specs.declared.state.State.{State}
use Rattle.cc_acts.specs.declared.stop.Stop.{Stop}
use Rattle.cc_acts.specs.Runs.{Run, Then, Goes, Stops, go_on}
use Rattle.cc_acts.specs.Steps.{drive}
use Rattle.cc_interp_step.specs.declared.machine.Machine.{Machine}
use Rattle.cc_interp_step.specs.declared.machine.Outcome.{Outcome}
use Rattle.cc_interp_step.specs.Progress.{outcome, config_of}

-- From what it stood for the watcher stands for these events more.
abbrev pub Tells : (List Event → Type 0) → (List Event → Type 0) → List Event → Type 0
Tells old new events = (told : List Event) → old told → new (told ++ events)

-- the same of the first ones of these events
pub record TellsSome (old new : List Event → Type 0) (events : List Event) : Type 0 where
  pub some : List Event
  pub others : List Event
  pub begins : events ≡ some ++ others
  pub told : Tells old new some

-- a run behind these events
abbrev pub prepend : {A : Type 0} → List Event → Run A → Run A
prepend [] r = r
prepend (e ∷ es) r = Then e (prepend es r)

-- it goes on from the state, or stops
abbrev pub ended : Option Stop → State → Run (Unit {0})
ended None s = Goes tt s
ended (Some why) s = Stops why

-- The watcher was told exactly the events of the machine's run, with steps enough, and the run stops so or goes on.
pub record Ran (old new : List Event → Type 0) (G : Acts) (m : Machine) (stop : Option Stop) (m' : Machine) : Type 0 where
  pub events : List Event
  pub told : Tells old new events
  pub steps : ℕ
  pub run_is : (more : ℕ) → drive G (steps + more) (config_of m) m.state ≡ prepend events (ended stop m'.state)
  pub empty : m'.outbox ≡ []

-- The watcher was told a beginning of the machine's run.
pub record Begun (old new : List Event → Type 0) (G : Acts) (m : Machine) : Type 0 where
  pub events : List Event
  pub told : Tells old new events
  pub steps : ℕ
  pub run_is : (more : ℕ) → (others : Run (Unit {0})) × (drive G (steps + more) (config_of m) m.state ≡ prepend events others)

-- After these events the machine is at the outcome: its run goes on from there.
pub record Reached (old new : List Event → Type 0) (G : Acts) (m : Machine) (r : Outcome) (m' : Machine) : Type 0 where
  pub events : List Event
  pub told : Tells old new events
  pub steps : ℕ
  pub leads : (more : ℕ) → drive G (steps + more) (config_of m) m.state ≡ prepend events (go_on (outcome r m') (drive G more))
  pub empty : m'.outbox ≡ []
