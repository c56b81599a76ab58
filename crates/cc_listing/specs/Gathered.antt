-- What is gathered from the program, its graph and its facts.
use Rattle.std.specs.Prelude.{ℕ, ◌≡◌, ◌<◌, List, Contains, length}
use Rattle.std.specs.List.Sorted.{IsStrictlySortedBy}
use Rattle.cc_blocks.specs.declared.block.Block.{Block}
use Rattle.cc_facts.specs.declared.facts.Facts.{Facts}
use Rattle.cc_flows.specs.Sweeping.{StaysWithin}
use Rattle.cc_graph.specs.declared.graph.Graph.{Graph}
use Rattle.cc_handing.specs.Handing.{handed}
use Rattle.cc_handing.specs.Passing.{passed}
use Rattle.cc_handing.specs.Sites.{calls, formals}
use Rattle.cc_handing.specs.declared.site.Site.{Site}
use Rattle.cc_listed.specs.declared.calls.Calls.{Calls}
use Rattle.cc_listed.specs.declared.calls.Formal.{Formal}
use Rattle.cc_listed.specs.declared.table.Tables.{Tables}
use Rattle.cc_listed.specs.Stretches.{accesses, steps}
use Rattle.cc_listing_rows.specs.ListedRows.{AreListed, HasMoreListed}
use Rattle.cc_listing_shared.specs.Living.{IsReach}
use Rattle.cc_program.specs.declared.program.Program.{Program}
use Rattle.cc_rows.specs.declared.row.Row.{Row}
use Rattle.cc_rows.specs.Order.{row_cmp}
use Rattle.cc_uses.specs.Giving.{given_of}
use Rattle.cc_uses.specs.Reading.{reads_of}
use Rattle.cc_uses.specs.Writing.{writes_of}
use Rattle.cc_listing.specs.declared.callings.Callings.{Callings}
use Rattle.cc_listing.specs.declared.gathered.Accesses.{Accesses}
use Rattle.cc_listing.specs.declared.gathered.Handings.{Handings}
use Rattle.cc_listing.specs.Listing.{formals_in}

-- who defines, writes and reads which slot at which point
pub record AreAccesses (P : Program) (G : Graph) (F : Facts) (reach : List Block) (pairs : List Site) (a : Accesses) : Type 0 where
  pub writes : a.writes.items ≡ writes_of P G F
  pub given : a.given.items ≡ given_of P G F.parts
  pub passed : a.passed.items ≡ passed P G F.parts reach 0 pairs
  pub reads : a.reads.items ≡ reads_of P G F

-- who may call whom, and what is handed over
pub record AreHandings (P : Program) (G : Graph) (F : Facts) (sites : List ℕ) (pairs : List Site) (h : Handings) : Type 0 where
  pub calls : h.calls.items ≡ calls P G pairs
  pub formals : h.formals.items ≡ formals_in G.points (formals P G F.parts)
  pub handed : h.handed ≡ handed P G F.parts sites

-- the steps lead to points, the root is one, and the sets say what is reachable
pub record AreUsable (c : Callings) : Type 0 where
  pub stays : StaysWithin c.next.items
  pub some : 0 < length c.next.items
  pub is_reach : IsReach c.next.items 0 c.reach.items

-- the entry of each of these formals' functions is below the number
abbrev pub EnterBelow : ℕ → List Formal → Type 0
EnterBelow points fs = (f : Formal) → Contains fs f → f.entry < points

-- the lists are those of the handings
pub record AreOf (h : Handings) (C : Calls) : Type 0 where
  pub calls : C.calls.now ≡ h.calls.items
  pub formals : C.formals.now ≡ h.formals.items
  pub arguments : C.arguments.now ≡ h.handed.arguments
  pub returns : C.returns.now ≡ h.handed.returns
  pub named : C.named.now ≡ h.handed.named

-- the rows are those that are listed of what was gathered
pub record AreRowsBy (G : Graph) (c : Callings) (a : Accesses) (h : Handings) (T : Tables) (rows : List Row) : Type 0 where
  pub calls : Calls
  pub are : AreOf h calls
  pub listed : AreListed (steps c.next.items G.next 0) T (accesses a.writes.items a.given.items a.passed.items a.reads.items) calls rows
  pub ascending : IsStrictlySortedBy row_cmp rows

-- more rows than the number are listed of it
pub record AreMoreRowsBy (G : Graph) (c : Callings) (a : Accesses) (h : Handings) (T : Tables) (most : ℕ) : Type 0 where
  pub calls : Calls
  pub are : AreOf h calls
  pub more : HasMoreListed (steps c.next.items G.next 0) T (accesses a.writes.items a.given.items a.passed.items a.reads.items) calls most
