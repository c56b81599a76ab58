-- A run that ends.
use Rattle.std.specs.Prelude.{◌≡◌, ℕ, ◌+◌, List, Option}
use Rattle.cc_meaning.specs.declared.event.Event.{Event}
use Rattle.cc_meaning.specs.declared.test.Test.{Test}
use Rattle.cc_acts.specs.declared.acts.Acts.{Acts}
use Rattle.cc_acts.specs.declared.state.State.{State}
use Rattle.cc_acts.specs.declared.stop.Stop.{Stop}
use Rattle.cc_interp.specs.Ran.{prepend, ended}
use Rattle.cc_interp.specs.Tests.{fresh, run}

-- With so many steps for each of its calls, and with any more, the run of the test over the acts with so many cells is the
-- same: it has these events, and then it stops so, or is done.
pub record Ends (G : Acts) (test : Test) (cells steps : ℕ) : Type 0 where
  pub events : List Event
  pub stop : Option Stop
  pub last : State
  pub run_is : (more : ℕ) → run G (steps + more) test.calls (fresh test.turns cells test.answers) ≡ prepend events (ended stop last)
