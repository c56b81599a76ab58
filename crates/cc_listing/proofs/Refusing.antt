-- Why there is no listing, from one step to the next.
use Rattle.std.proofs.Common.{◌≡◌, refl, sym, subst}
use Rattle.cc_facts.specs.declared.facts.Facts.{Facts}
use Rattle.cc_graph.specs.Graphs.{IsGraph}
use Rattle.cc_graph.specs.declared.graph.Graph.{Graph}
use Rattle.cc_program.specs.declared.program.Program.{Program}
use Rattle.cc_rows.specs.declared.stop.Stop.{Stop}
use Rattle.cc_rows.specs.declared.stop.Stop.TheVariants as stop
use Rattle.cc_listing.specs.Answers.{AreFacts, Refused, RefusedBy, RefusedFacts, RefusedPoints, RefusedWhole}
use Rattle.cc_listing.specs.Faults.{IsNoLimit, of_stop}
use Rattle.cc_listing.specs.Listing.{AreMoreRows}
use Rattle.cc_listing.specs.declared.fault.ListFault.{ListFault}
use Rattle.cc_listing.specs.declared.fault.ListFault.TheVariants as fault

-- that there are no rows says that they are too many, or nothing
pub stopped : (P : Program) (G : Graph) (F : Facts) (s : Stop) (r : ListFault) → r ≡ of_stop s → (s ≡ stop.TooMany → AreMoreRows P G F 200000) → RefusedBy P G F r
stopped P G F stop.Memory r is more = subst (RefusedBy P G F) (sym is) tt
stopped P G F stop.TooMany r is more = subst (RefusedBy P G F) (sym is) (more refl)

pub no_limit : (P : Program) (G : Graph) (F : Facts) (f : ListFault) → IsNoLimit f → RefusedBy P G F f
no_limit P G F (fault.TooManyPoints count) h = absurd h
no_limit P G F fault.TooManyFacts h = absurd h
no_limit P G F fault.TooManyRows h = absurd h
no_limit P G F fault.Internal h = tt
no_limit P G F fault.Memory h = tt

pub by_facts : (P : Program) (G : Graph) (F : Facts) (f : ListFault) → AreFacts P F → RefusedBy P G F f → Refused P G f
by_facts P G F (fault.TooManyPoints count) are h = absurd h
by_facts P G F fault.TooManyFacts are h = absurd h
by_facts P G F fault.TooManyRows are h = (F, are, h)
by_facts P G F fault.Internal are h = tt
by_facts P G F fault.Memory are h = tt

pub no_facts : (P : Program) (G : Graph) (f : ListFault) → RefusedFacts P f → Refused P G f
no_facts P G (fault.TooManyPoints count) h = absurd h
no_facts P G fault.TooManyFacts h = h
no_facts P G fault.TooManyRows h = absurd h
no_facts P G fault.Internal h = absurd h
no_facts P G fault.Memory h = tt

pub by_graph : (P : Program) (G : Graph) (f : ListFault) → IsGraph P G → Refused P G f → RefusedWhole P f
by_graph P G (fault.TooManyPoints count) is h = absurd h
by_graph P G fault.TooManyFacts is h = h
by_graph P G fault.TooManyRows is h = (G, is, h)
by_graph P G fault.Internal is h = tt
by_graph P G fault.Memory is h = tt

pub no_points : (P : Program) (f : ListFault) → RefusedPoints P f → RefusedWhole P f
no_points P (fault.TooManyPoints count) h = h
no_points P fault.TooManyFacts h = absurd h
no_points P fault.TooManyRows h = absurd h
no_points P fault.Internal h = absurd h
no_points P fault.Memory h = tt
