-- What `devices` prints of a program and its tests.
use Rattle.std.specs.Prelude.{ℕ, ◌≡◌, Bool, List, Option, length}
use Rattle.cc_device.specs.declared.device.Device.{Device}
use Rattle.cc_facts.specs.declared.facts.Facts.{Facts}
use Rattle.cc_graph.specs.Graphs.{IsGraph}
use Rattle.cc_graph.specs.declared.graph.Graph.{Graph}
use Rattle.cc_listing.specs.Answers.{AreFacts}
use Rattle.cc_meaning.specs.declared.test.Test.{Test}
use Rattle.cc_program.specs.declared.program.Program.{Program}
use Rattle.cc_device_runs.specs.Listed.{AreRows}
use Rattle.cc_device_runs.specs.Texts.{covered, is_met, report_text}
use Rattle.cc_device_runs.specs.declared.row.DeviceRow.{DeviceRow}

-- it is the text of the listed rows with some marks, and it is met where each row has a mark
pub record IsReportBy (P : Program) (tests : List Test) (devices : List Device) (G : Graph) (F : Facts) (text : List ℕ) (met : Bool) : Type 0 where
  pub rows : List DeviceRow
  pub marks : List (Option ℕ)
  pub are_rows : AreRows P G F devices rows
  pub text_is : text ≡ report_text P devices rows marks tests
  pub met_is : met ≡ is_met (covered marks) (length rows)

-- the same by the program's control points and points-to facts
abbrev pub IsReport : Program → List Test → List Device → List ℕ → Bool → Type 0
IsReport P tests devices text met = (G : Graph) × IsGraph P G × ((F : Facts) × AreFacts P F × IsReportBy P tests devices G F text met)
