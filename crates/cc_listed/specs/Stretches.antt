-- Paths, and which stretches are clear.
use Rattle.std.specs.Prelude.{ℕ, ◌≡◌, ◌⊎◌, true, List, Contains}
use Rattle.cc_flows.specs.Sweeping.{Next, HasEdge}
use Rattle.cc_listed.specs.declared.table.Kind.{Kind}
use Rattle.cc_listed.specs.declared.table.Kind.TheVariants as kind
use Rattle.cc_listed.specs.declared.table.Tables.{Tables}
use Rattle.cc_listed.specs.declared.table.Access.{Access}
use Rattle.cc_listed.specs.Tabled.{component_of, is_by_name}

-- a path of one step or more, no inner point of which is cut
pub data Stretch (next : Next) (Cut : ℕ → Type 0) (start : ℕ) : ℕ → Type 0 where
  First : {b : ℕ} → HasEdge next start b → Stretch next Cut start b
  On : {a b : ℕ} → Stretch next Cut start a → (Cut a → ⊥) → HasEdge next a b → Stretch next Cut start b

abbrev pub Never : ℕ → Type 0
Never a = ⊥

-- any path
abbrev pub Path : Next → ℕ → ℕ → Type 0
Path next = Stretch next Never

-- all paths begin at the root: it is reachable, and so is what a path from it leads to
abbrev pub IsReachable : Next → ℕ → ℕ → Type 0
IsReachable next root p = (p ≡ root) ⊎ Path next root p

-- the steps across functions, those inside functions, and where all paths begin
pub record Steps : Type 0 where
  pub across : Next
  pub within : Next
  pub root : ℕ

-- The definitions of slots other than arguments: what assignments and steps write, initialised automatic objects, static
-- objects and string literals, formals of entries. The arguments that sites in live functions pass to formals. What
-- lvalues write, and what they read.
pub record Accesses : Type 1 where
  pub Defines : Access → Type 0
  pub Passes : Access → Type 0
  pub Writes : Access → Type 0
  pub Reads : Access → Type 0

-- one of these accesses is of the slot, at the point
abbrev pub IsAt : (Access → Type 0) → ℕ → ℕ → Type 0
IsAt S s a = (r : Access) × S r × (r.slot ≡ s) × (r.point ≡ a)

-- a definition of any sort
abbrev pub DefinesAny : Accesses → Access → Type 0
DefinesAny A r = A.Defines r ⊎ A.Passes r

-- the access writes by name
abbrev pub WritesByName : Tables → Accesses → Access → Type 0
WritesByName T A r = (is_by_name T r.occurrence ≡ true) × A.Writes r

-- the access writes by name, or reads by name in the component
abbrev pub UsesByName : Tables → Accesses → ℕ → Access → Type 0
UsesByName T A c r = (is_by_name T r.occurrence ≡ true) × (A.Writes r ⊎ (A.Reads r × (component_of T r.occurrence ≡ c)))

-- A stretch that is clear for the slot leads from one point to another. For a slot of a static object without an array
-- step no inner point writes it by name. Where a stretch stays in a function, no inner point writes the slot.
abbrev pub IsClear : Steps → Tables → Accesses → Kind → ℕ → ℕ → ℕ → Type 0
IsClear G T A kind.Named s from to = Stretch G.across (IsAt (WritesByName T A) s) from to
IsClear G T A kind.Open s from to = Path G.across from to
IsClear G T A kind.Inside s from to = Stretch G.within (IsAt (DefinesAny A) s) from to

-- The same for a shared row whose reader is in the component: no inner point reads the slot by name there either.
abbrev pub IsClearFor : Steps → Tables → Accesses → Kind → ℕ → ℕ → ℕ → ℕ → Type 0
IsClearFor G T A kind.Named c s from to = Stretch G.across (IsAt (UsesByName T A c) s) from to
IsClearFor G T A kind.Open c s from to = IsClear G T A kind.Open s from to
IsClearFor G T A kind.Inside c s from to = IsClear G T A kind.Inside s from to

-- the accesses of these lists
abbrev pub accesses : List Access → List Access → List Access → List Access → Accesses
accesses writes given passed reads = record {
  Defines = λ a. Contains writes a ⊎ Contains given a;
  Passes = Contains passed;
  Writes = Contains writes;
  Reads = Contains reads;
}

abbrev pub steps : Next → Next → ℕ → Steps
steps across within root = record { across = across; within = within; root = root }
