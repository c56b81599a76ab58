-- The rows of a program.
use Rattle.std.specs.Prelude.{ℕ, ◌≡◌, List, filter, Bool, nat_lt}
use Rattle.std.specs.List.Sorted.{IsStrictlySortedBy}
use Rattle.cc_across.specs.declared.calls.Calls.{Calls as Callings}
use Rattle.cc_across.specs.Calling.{AreCalls}
use Rattle.cc_across.specs.Crossing.{AreNext}
use Rattle.cc_blocks.specs.declared.block.Block.{Block}
use Rattle.cc_facts.specs.declared.facts.Facts.{Facts}
use Rattle.cc_flows.specs.Sweeping.{Next}
use Rattle.cc_graph.specs.declared.graph.Graph.{Graph}
use Rattle.cc_handing.specs.Handing.{handed}
use Rattle.cc_handing.specs.Passing.{passed}
use Rattle.cc_handing.specs.Sites.{calls, formals}
use Rattle.cc_handing.specs.declared.site.Site.{Site}
use Rattle.cc_listed.specs.declared.calls.Calls.{Calls}
use Rattle.cc_listed.specs.declared.calls.Formal.{Formal}
use Rattle.cc_listed.specs.Stretches.{Accesses, accesses, steps}
use Rattle.cc_listing_rows.specs.ListedRows.{AreListed, HasMoreListed}
use Rattle.cc_listing_shared.specs.Living.{IsReach}
use Rattle.cc_program.specs.declared.program.Program.{Program}
use Rattle.cc_rows.specs.declared.row.Row.{Row}
use Rattle.cc_rows.specs.Order.{row_cmp}
use Rattle.cc_uses.specs.Giving.{given_of}
use Rattle.cc_uses.specs.Reading.{reads_of}
use Rattle.cc_uses.specs.Tabling.{tables_of}
use Rattle.cc_uses.specs.Writing.{writes_of}
use Rattle.cc_listing.specs.Sites.{pairs_of}

abbrev pub enters_below : ℕ → Formal → Bool
enters_below points f = nat_lt f.entry points

-- the formals whose function has its entry among the points
abbrev pub formals_in : ℕ → List Formal → List Formal
formals_in points fs = filter (enters_below points) fs

-- The tables that rows are found from are those of the program, its graph and its facts: who may call whom, the steps that
-- this gives, and which points these reach.
pub record AreSteps (P : Program) (G : Graph) (F : Facts) (C : Callings) (next : Next) (reach : List Block) : Type 0 where
  pub are_calls : AreCalls P G F C
  pub are_next : AreNext P G C next
  pub is_reach : IsReach next 0 reach

-- who defines, writes and reads which slot at which point
abbrev pub accesses_in : Program → Graph → Facts → List Block → List Site → Accesses
accesses_in P G F reach pairs = accesses (writes_of P G F) (given_of P G F.parts) (passed P G F.parts reach 0 pairs) (reads_of P G F)

-- who may call whom, and what is handed over
pub record AreHandings (P : Program) (G : Graph) (F : Facts) (sites : List ℕ) (pairs : List Site) (C : Calls) : Type 0 where
  pub calls : C.calls.now ≡ calls P G pairs
  pub formals : C.formals.now ≡ formals_in G.points (formals P G F.parts)
  pub arguments : C.arguments.now ≡ (handed P G F.parts sites).arguments
  pub returns : C.returns.now ≡ (handed P G F.parts sites).returns
  pub named : C.named.now ≡ (handed P G F.parts sites).named

-- Where the steps are these: the rows are those that are listed of the tables.
pub record AreRows (P : Program) (G : Graph) (F : Facts) (rows : List Row) : Type 0 where
  pub callings : Callings
  pub next : Next
  pub reach : List Block
  pub are_steps : AreSteps P G F callings next reach
  pub calls : Calls
  pub are_handings : AreHandings P G F callings.sites.items (pairs_of callings) calls
  pub listed : AreListed (steps next G.next 0) (tables_of P F.parts) (accesses_in P G F reach (pairs_of callings)) calls rows
  pub ascending : IsStrictlySortedBy row_cmp rows

-- the same of what is listed: there is more of it than the number
pub record AreMoreRows (P : Program) (G : Graph) (F : Facts) (most : ℕ) : Type 0 where
  pub callings : Callings
  pub next : Next
  pub reach : List Block
  pub are_steps : AreSteps P G F callings next reach
  pub calls : Calls
  pub are_handings : AreHandings P G F callings.sites.items (pairs_of callings) calls
  pub more : HasMoreListed (steps next G.next 0) (tables_of P F.parts) (accesses_in P G F reach (pairs_of callings)) calls most
