-- A report by the program's control points and facts is one of the program.
use Rattle.std.proofs.Common.{List, Result, Ok, Err, IfOk}
use Rattle.cc_device.specs.declared.device.Device.{Device}
use Rattle.cc_facts.specs.declared.facts.Facts.{Facts}
use Rattle.cc_graph.specs.Graphs.{IsGraph}
use Rattle.cc_graph.specs.declared.graph.Graph.{Graph}
use Rattle.cc_listing.specs.Answers.{AreFacts}
use Rattle.cc_meaning.specs.declared.test.Test.{Test}
use Rattle.cc_program.specs.declared.program.Program.{Program}
use Rattle.cc_device_runs.specs.Reports.{IsReport, IsReportBy}
use Rattle.cc_device_runs.specs.declared.fault.DeviceReportFault.{DeviceReportFault}
use Rattle.cc_device_runs.specs.declared.reporting.DeviceReport.{DeviceReport}

pub report_of : (P : Program) (tests : List Test) (devices : List Device) (G : Graph) (F : Facts) (r : Result DeviceReport DeviceReportFault)
    → IsGraph P G → AreFacts P F → IfOk r (λ made. IsReportBy P tests devices G F made.text.items made.is_met)
    → IfOk r (λ made. IsReport P tests devices made.text.items made.is_met)
report_of P tests devices G F (Ok made) graph facts report = (G, graph, (F, facts, report))
report_of P tests devices G F (Err fault) graph facts report = tt
