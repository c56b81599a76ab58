-- Where a step left the machine.
use Rattle.std.specs.Prelude.{ℕ, List, [], ◌∷◌, Option, Some, None, Result, Ok, Err}
use Rattle.cc_meaning.specs.declared.event.Event.{Event}
use Rattle.cc_acts.specs.declared.frame.Frame.{Frame}
use Rattle.cc_acts.specs.declared.state.State.{State}
use Rattle.cc_acts.specs.declared.stop.Stop.{Stop}
use Rattle.cc_acts.specs.declared.stop.Stop.TheVariants.{CellsOut}
use Rattle.cc_acts.specs.Runs.{Run, Then, Goes, Stops}
use Rattle.cc_acts.specs.Steps.{Config, At, Halted}
use Rattle.cc_interp_step.specs.declared.machine.Machine.{Machine}
use Rattle.cc_interp_step.specs.declared.machine.Outcome.{Outcome}
use Rattle.cc_interp_step.specs.declared.machine.Outcome.TheVariants.{Next, Back, Stopped}

-- a run behind these events, the one told last first
abbrev pub behind : {A : Type 0} → List Event → Run A → Run A
behind [] r = r
behind (e ∷ es) r = behind es (Then e r)

-- where the run goes on, or why it stops
abbrev pub outcome_of : Outcome → Config → State → Run Config
outcome_of Next c s = Goes c s
outcome_of Back c s = Goes Halted s
outcome_of (Stopped why) c s = Stops why

abbrev pub config_of : Machine → Config
config_of m = At m.point m.frame m.operands m.callers

abbrev pub outcome : Outcome → Machine → Run Config
outcome r m = outcome_of r (config_of m) m.state

-- what was told and is to be told, and where the run goes on or why it stops
abbrev pub left : Outcome → Machine → Run Config
left r m = behind m.outbox (outcome r m)

-- the run behind what the machine is to tell
abbrev pub told : Machine → Run Config → Run Config
told m r = behind m.outbox r

-- the value, or why the run stops, from a state
abbrev pub given : {A : Type 0} → Result A Stop → State → Run A
given (Ok x) s = Goes x s
given (Err why) s = Stops why

-- the state, or why the run stops
abbrev pub done : Option Stop → State → Run (Unit {0})
done None s = Goes tt s
done (Some why) s = Stops why

-- the activation, or the cells did not suffice
abbrev pub entered : Option Frame → State → Run Frame
entered (Some frame) s = Goes frame s
entered None s = Stops CellsOut
