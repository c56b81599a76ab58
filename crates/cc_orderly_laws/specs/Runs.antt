-- The run of a test over acts.
use Rattle.std.specs.Prelude.{◌≡◌, ℕ, ◌+◌, List, Option}
use Rattle.cc_meaning.specs.declared.event.Event.{Event}
use Rattle.cc_meaning.specs.declared.test.Test.{Test}
use Rattle.cc_acts.specs.declared.acts.Acts.{Acts}
use Rattle.cc_acts.specs.declared.state.State.{State}
use Rattle.cc_acts.specs.declared.stop.Stop.{Stop}
use Rattle.cc_interp.specs.Ran.{prepend, ended}
use Rattle.cc_interp.specs.Tests.{fresh, run}

-- a run has so many cells at most at any moment
abbrev pub most_cells : ℕ
most_cells = 1048576

-- With so many steps, and with any more, the run of the test over the acts is these events; then it stops so, or is done.
pub record IsRun (G : Acts) (test : Test) (events : List Event) (stop : Option Stop) : Type 0 where
  pub last : State
  pub steps : ℕ
  pub run_is : (more : ℕ) → run G (steps + more) test.calls (fresh test.turns most_cells test.answers) ≡ prepend events (ended stop last)
