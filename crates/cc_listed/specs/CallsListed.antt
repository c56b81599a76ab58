-- Which call, parameter and return rows are listed.
use Rattle.std.specs.Prelude.{ℕ, ◌≡◌, ◌⊎◌, List, true, Option, Some, None, Contains, slice_get}
use Rattle.cc_listed.specs.declared.table.Kind.{Kind}
use Rattle.cc_listed.specs.declared.table.Kind.TheVariants as kind
use Rattle.cc_listed.specs.declared.table.Slot.{Slot}
use Rattle.cc_listed.specs.declared.table.Tables.{Tables}
use Rattle.cc_listed.specs.declared.table.Access.{Access}
use Rattle.cc_listed.specs.declared.calls.Call.{Call}
use Rattle.cc_listed.specs.declared.calls.Argument.{Argument}
use Rattle.cc_listed.specs.declared.calls.Formal.{Formal}
use Rattle.cc_listed.specs.declared.calls.Returned.{Returned}
use Rattle.cc_listed.specs.Tabled.{component_of}
use Rattle.cc_listed.specs.Stretches.{Steps, Accesses, Path, Stretch, IsReachable, IsAt, DefinesAny, IsClear}

-- The row (s, g) is listed: s may call g, their components differ, and the point of the call is reachable.
pub record IsCall (G : Steps) (T : Tables) (call : Call) (s g : ℕ) : Type 0 where
  pub is_site : call.site ≡ s
  pub is_callee : call.callee ≡ g
  pub differ : component_of T s ≡ component_of T g → ⊥
  pub reachable : IsReachable G.across G.root call.at

-- d is a reachable definition of the slot that is read, and a clear stretch leads from it to the read
pub record ReachesRead (G : Steps) (T : Tables) (A : Accesses) (read : Access) (d : ℕ) : Type 0 where
  pub definition : Access
  pub slot : Slot
  pub defines : DefinesAny A definition
  pub same_slot : read.slot ≡ definition.slot
  pub at : slice_get T.slots definition.slot ≡ Some slot
  pub is_definition : definition.occurrence ≡ d
  pub reachable : IsReachable G.across G.root definition.point
  pub clear : IsClear G T A slot.kind definition.slot definition.point read.point

-- the point accesses the slot: it reads it, or writes it
abbrev pub Touches : Accesses → Access → Type 0
Touches A r = A.Reads r ⊎ DefinesAny A r

-- u is the first to read the formal: where the formal's address is never taken, a path in the function leads from the
-- entry to u, no inner point of which reads or writes the formal; else any path does
abbrev pub IsFirst : Steps → Accesses → Kind → ℕ → ℕ → ℕ → Type 0
IsFirst G A kind.Inside s entry to = Stretch G.within (IsAt (Touches A) s) entry to
IsFirst G A kind.Named s entry to = Path G.across entry to
IsFirst G A kind.Open s entry to = Path G.across entry to

pub record ReadsFirst (G : Steps) (T : Tables) (A : Accesses) (formal : Formal) (u : ℕ) : Type 0 where
  pub read : Access
  pub slot : Slot
  pub reads : A.Reads read
  pub same_slot : read.slot ≡ formal.slot
  pub at : slice_get T.slots formal.slot ≡ Some slot
  pub is_reader : read.occurrence ≡ u
  pub first : IsFirst G A slot.kind formal.slot formal.entry read.point

-- what the argument hands over is defined at d: the argument itself, or where it is a variable's name a definition that
-- reaches its read, from which a path leads on to the call
abbrev pub HandsOver : Steps → Tables → Accesses → List Access → Argument → Option ℕ → ℕ → Type 0
HandsOver G T A named argument None d = argument.occurrence ≡ d
HandsOver G T A named argument (Some n) d = (read : Access) × (slice_get named n ≡ Some read) × ReachesRead G T A read d × Path G.across read.point argument.at

-- The row (d, s, k, g, u) is listed: the call row (s, g) is, u may read the formal k of g first, and what the argument k of
-- s hands over is defined at d.
pub record IsParameter (G : Steps) (T : Tables) (A : Accesses) (calls : List Call) (arguments : List Argument) (formals : List Formal) (named : List Access) (d s k g u : ℕ) : Type 0 where
  pub call : Call
  pub argument : Argument
  pub formal : Formal
  pub may_call : Contains calls call
  pub passes : Contains arguments argument
  pub takes : Contains formals formal
  pub is_call : IsCall G T call s g
  pub is_argument : (argument.site ≡ s) × (argument.number ≡ k)
  pub is_formal : (formal.callee ≡ g) × (formal.number ≡ k)
  pub read : ReadsFirst G T A formal u
  pub handed : HandsOver G T A named argument argument.named d

-- what the return gives back is defined at d: the statement, or a definition that reaches the read of the variable
abbrev pub GivesBack : Steps → Tables → Accesses → List Access → Returned → Option ℕ → ℕ → Type 0
GivesBack G T A named returned None d = returned.statement ≡ d
GivesBack G T A named returned (Some n) d = (read : Access) × (slice_get named n ≡ Some read) × ReachesRead G T A read d

-- The row (d, s, g) is listed: the call row (s, g) is, s uses its value, and what a return of g with an expression gives
-- back is defined at d, where the point after the return is reachable.
pub record IsReturn (G : Steps) (T : Tables) (A : Accesses) (calls : List Call) (returns : List Returned) (named : List Access) (d s g : ℕ) : Type 0 where
  pub call : Call
  pub returned : Returned
  pub may_call : Contains calls call
  pub gives : Contains returns returned
  pub is_call : IsCall G T call s g
  pub used : call.used ≡ true
  pub is_returned : returned.callee ≡ g
  pub reachable : IsReachable G.across G.root returned.after
  pub given : GivesBack G T A named returned returned.named d
