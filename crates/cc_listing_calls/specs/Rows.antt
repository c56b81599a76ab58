-- Parameter rows.
use Rattle.std.specs.Prelude.{ℕ, ◌≡◌, Bool, true, false, nat_eq, List, [], ◌∷◌, Option, Some, None, slice_get}
use Rattle.cc_flows.specs.Masks.{row_of}
use Rattle.cc_rows.specs.Gains.{Each}
use Rattle.cc_rows.specs.declared.row.Row.{Row}
use Rattle.cc_rows.specs.declared.row.Row.TheVariants as row
use Rattle.cc_listed.specs.declared.calls.Call.{Call}
use Rattle.cc_listed.specs.declared.calls.Argument.{Argument}
use Rattle.cc_listed.specs.declared.calls.Formal.{Formal}
use Rattle.cc_listing_calls.specs.declared.rows.Passing.{Passing}

-- the row of a definition that is handed over, and taken by a reader
abbrev pub parameter : Call → Argument → ℕ → ℕ → Row
parameter c a d u = row.Parameter d c.site a.number c.callee u

abbrev pub IsParameterOf : Call → Argument → ℕ → ℕ → Row → Type 0
IsParameterOf c a d u x = parameter c a d u ≡ x

-- a row of the definition and one of the readers
abbrev pub OfDefinition : Call → Argument → List ℕ → ℕ → Row → Type 0
OfDefinition c a readers d = Each readers (IsParameterOf c a d)

-- these definitions, or where a read is named those that reach it
abbrev pub definitions_of : List ℕ → List (List ℕ) → Option ℕ → List ℕ
definitions_of own sources None = own
definitions_of own sources (Some n) = row_of sources n

abbrev pub takes_in : Argument → Option Formal → Bool
takes_in a (Some f) = nat_eq f.number a.number
takes_in a None = false

-- the formal of this number takes the argument
abbrev pub takes : List Formal → Argument → ℕ → Bool
takes formals a j = takes_in a (slice_get formals j)

-- a row of the argument and the formal of this number
abbrev pub OfFormal : Passing → Call → Argument → ℕ → Row → Type 0
OfFormal P c a j x = (takes P.formals.now a j ≡ true) × Each (definitions_of (a.occurrence ∷ []) P.sources.now a.named) (OfDefinition c a (row_of P.taken.now j)) x

-- a row of the argument of this number
abbrev pub OfArgument : Passing → Call → ℕ → Row → Type 0
OfArgument P c i x = (a : Argument) × (slice_get P.arguments.now i ≡ Some a) × Each (row_of P.by_callee.now c.callee) (OfFormal P c a) x

-- a row of the call
abbrev pub OfCall : Passing → Call → Row → Type 0
OfCall P c = Each (row_of P.by_site.now c.site) (OfArgument P c)
