-- The machine's runs are orderly.
use Rattle.std.specs.Prelude.{List, Option}
use Rattle.cc_meaning.specs.declared.event.Event.{Event}
use Rattle.cc_meaning.specs.declared.test.Test.{Test}
use Rattle.cc_acts.specs.declared.acts.Acts.{Acts}
use Rattle.cc_acts.specs.declared.stop.Stop.{Stop}
use Rattle.cc_record_laws.specs.Orderly.{IsOrderly}
use Rattle.cc_orderly_laws.specs.Entered.{AreEntered}
use Rattle.cc_orderly_laws.specs.Runs.{IsRun}

-- Where what stands at the entry of each function enters it, the events of each run are orderly: nothing of an activation
-- comes after its end, no cell is read after its object's end, and no activation is entered twice.
abbrev pub RunsAreOrderly : Type 0
RunsAreOrderly = (G : Acts) (test : Test) (events : List Event) (stop : Option Stop) → AreEntered G → IsRun G test events stop → IsOrderly events
