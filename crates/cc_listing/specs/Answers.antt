-- What the listing of a program is, and its table.
use Rattle.std.specs.Prelude.{ℕ, ◌≡◌, List}
use Rattle.cc_facts.specs.declared.facts.Facts.{Facts}
use Rattle.cc_graph.specs.Graphs.{IsGraph}
use Rattle.cc_graph.specs.declared.graph.Graph.{Graph}
use Rattle.cc_meaning.specs.declared.coupling.Coupling.{Coupling}
use Rattle.cc_points.specs.Solving.{AreTooMany, FactsExist, IsFactTable, TellsFacts, TellsParts}
use Rattle.cc_points_view.specs.Views.{view_of}
use Rattle.cc_program.specs.declared.program.Program.{Program}
use Rattle.cc_rows.specs.declared.row.Row.{Row}
use Rattle.cc_tables.specs.Tables.{list_text}
use Rattle.cc_listing.specs.Couplings.{AreCouplings}
use Rattle.cc_graph.specs.Graphs.{Refuses}
use Rattle.cc_graph.specs.declared.graph.GraphFault.TheVariants as graph
use Rattle.cc_listing.specs.Listing.{AreMoreRows, AreRows}
use Rattle.cc_listing.specs.declared.fault.ListFault.{ListFault}
use Rattle.cc_listing.specs.declared.fault.ListFault.TheVariants as fault

-- there are points-to facts of the program, and the table has exactly them and the parts of its lvalues (docs/facts.md)
pub record AreFacts (P : Program) (F : Facts) : Type 0 where
  pub exist : FactsExist (view_of P)
  pub table : IsFactTable (view_of P) F
  pub tells : TellsFacts (view_of P) F
  pub parts : TellsParts (view_of P) F

-- the couplings are those of the rows that the facts give
abbrev pub AreListed : Program → Graph → Facts → List Coupling → Type 0
AreListed P G F couplings = (rows : List Row) × AreRows P G F rows × AreCouplings P rows couplings

-- the couplings are listed by the points-to facts of the program
abbrev pub IsListing : Program → Graph → List Coupling → Type 0
IsListing P G couplings = (F : Facts) × AreFacts P F × AreListed P G F couplings

abbrev pub IsGraphOf : Program → Graph → Type 0
IsGraphOf P G = IsGraph P G

-- the text is the table of the listing of the program with these control points
abbrev pub IsTableBy : Program → Graph → List ℕ → Type 0
IsTableBy P G text = (couplings : List Coupling) × IsListing P G couplings × (text ≡ list_text P couplings)

-- the text is the table of the listing of the program, by its control points
abbrev pub IsTable : Program → List ℕ → Type 0
IsTable P text = (G : Graph) × IsGraph P G × IsTableBy P G text

-- Why a program whose points are these has no listing: its facts are too many, or its rows are more than 200,000. Of the other
-- faults nothing is said.
abbrev pub Refused : Program → Graph → ListFault → Type 0
Refused P G (fault.TooManyPoints count) = ⊥
Refused P G fault.TooManyFacts = AreTooMany (view_of P)
Refused P G fault.TooManyRows = (F : Facts) × AreFacts P F × AreMoreRows P G F 200000
Refused P G fault.Internal = Unit {0}
Refused P G fault.Memory = Unit {0}

-- why a program has no table
abbrev pub RefusedWhole : Program → ListFault → Type 0
RefusedWhole P (fault.TooManyPoints count) = Refuses P (graph.TooManyPoints count)
RefusedWhole P fault.TooManyFacts = AreTooMany (view_of P)
RefusedWhole P fault.TooManyRows = (G : Graph) × IsGraph P G × ((F : Facts) × AreFacts P F × AreMoreRows P G F 200000)
RefusedWhole P fault.Internal = Unit {0}
RefusedWhole P fault.Memory = Unit {0}

-- the same of the rows by these facts
abbrev pub RefusedBy : Program → Graph → Facts → ListFault → Type 0
RefusedBy P G F (fault.TooManyPoints count) = ⊥
RefusedBy P G F fault.TooManyFacts = ⊥
RefusedBy P G F fault.TooManyRows = AreMoreRows P G F 200000
RefusedBy P G F fault.Internal = Unit {0}
RefusedBy P G F fault.Memory = Unit {0}

-- why a program has no facts
abbrev pub RefusedFacts : Program → ListFault → Type 0
RefusedFacts P fault.TooManyFacts = AreTooMany (view_of P)
RefusedFacts P fault.Memory = Unit {0}
RefusedFacts P other = ⊥

-- why it has no points
abbrev pub RefusedPoints : Program → ListFault → Type 0
RefusedPoints P (fault.TooManyPoints count) = Refuses P (graph.TooManyPoints count)
RefusedPoints P fault.Memory = Unit {0}
RefusedPoints P other = ⊥
