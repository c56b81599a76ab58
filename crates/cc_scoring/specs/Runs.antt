-- The end of a test's run.
use Rattle.std.specs.Prelude.{◌≡◌, ℕ, List, Option, Some, None, slice_get}
use Rattle.cc_meaning.specs.declared.end.End.{End}
use Rattle.cc_meaning.specs.declared.end.End.TheVariants as «end»
use Rattle.cc_meaning.specs.declared.event.Event.{Event}
use Rattle.cc_meaning.specs.declared.test.Test.{Test}
use Rattle.cc_acts.specs.declared.acts.Acts.{Acts}
use Rattle.cc_acts.specs.declared.stop.Stop.{Stop}
use Rattle.cc_acts.specs.declared.stop.Stop.TheVariants.{Undefined, TurnsOut, CellsOut, EnvDry, Lost}
use Rattle.cc_orderly_laws.specs.Runs.{IsRun}

-- the end of a run that stops so, or is done; where the machine was lost there is none
abbrev pub end_of : Option Stop → Option End
end_of None = Some «end».Done
end_of (Some (Undefined at kind)) = Some («end».Undefined at kind)
end_of (Some TurnsOut) = Some «end».TurnsOut
end_of (Some CellsOut) = Some «end».CellsOut
end_of (Some (EnvDry at)) = Some («end».EnvDry at)
end_of (Some Lost) = None

-- the machine is lost in the test's run
abbrev pub IsLost : Acts → Test → Type 0
IsLost G test = (events : List Event) × IsRun G test events (Some Lost)

-- the machine is lost in the run of one of the tests
abbrev pub AnyIsLost : Acts → List Test → Type 0
AnyIsLost G tests = (t : ℕ) × (test : Test) × (slice_get tests t ≡ Some test) × IsLost G test
