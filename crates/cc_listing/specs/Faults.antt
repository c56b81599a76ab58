-- Faults of single steps as faults of the listing.
use Rattle.cc_graph.specs.declared.graph.GraphFault.{GraphFault}
use Rattle.cc_graph.specs.declared.graph.GraphFault.TheVariants as graph
use Rattle.cc_points.specs.declared.solving.PointsFault.{PointsFault}
use Rattle.cc_points.specs.declared.solving.PointsFault.TheVariants as points
use Rattle.cc_rows.specs.declared.stop.Stop.{Stop}
use Rattle.cc_rows.specs.declared.stop.Stop.TheVariants as stop
use Rattle.cc_listing.specs.declared.fault.ListFault.{ListFault}
use Rattle.cc_listing.specs.declared.fault.ListFault.TheVariants as fault

abbrev pub of_stop : Stop → ListFault
of_stop stop.Memory = fault.Memory
of_stop stop.TooMany = fault.TooManyRows

abbrev pub of_graph : GraphFault → ListFault
of_graph (graph.TooManyPoints count) = fault.TooManyPoints count
of_graph graph.Memory = fault.Memory

abbrev pub of_points : PointsFault → ListFault
of_points points.TooManyFacts = fault.TooManyFacts
of_points points.Memory = fault.Memory

-- no fault of a limit
abbrev pub IsNoLimit : ListFault → Type 0
IsNoLimit fault.Internal = Unit {0}
IsNoLimit fault.Memory = Unit {0}
IsNoLimit other = ⊥
