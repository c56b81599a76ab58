-- From which named reads a path leads on to the call.
use Rattle.std.specs.Prelude.{ℕ, ◌≡◌, ◌↔◌, Bool, true, false, List, Option, Some, None, Contains, slice_get, nat_lt, if◌then◌else◌}
use Rattle.cc_flows.specs.Sweeping.{Next}
use Rattle.cc_flows.specs.declared.mask.Touch.{Touch}
use Rattle.cc_flows.specs.declared.flow.Found.{Found}
use Rattle.cc_lanes.specs.Rows.{Pair}
use Rattle.cc_listed.specs.declared.table.Access.{Access}
use Rattle.cc_listed.specs.declared.calls.Argument.{Argument}
use Rattle.cc_listed.specs.Stretches.{Path}

abbrev pub point_in : ℕ → Option Access → Option ℕ
point_in points (Some read) = if nat_lt read.point points then Some read.point else None
point_in points None = None

abbrev pub start_in : List Access → ℕ → Option ℕ → Option ℕ
start_in named points (Some n) = point_in points (slice_get named n)
start_in named points None = None

-- the point of the read that the argument names, if it is one of so many points
abbrev pub start_of : List Access → ℕ → Argument → Option ℕ
start_of named points a = start_in named points a.named

abbrev pub end_of : Argument → Option ℕ
end_of a = Some a.at

abbrev pub touch_of : Pair → Touch
touch_of p = record { point = p.0; slot = p.1; node = p.1; object = 0 }

-- the points that are there, each with its number
abbrev pub AreTouches : List (Option ℕ) → List Touch → Type 0
AreTouches points out = (t : Touch) → Contains out t ↔ ((slice_get points t.slot ≡ Some (Some t.point)) × (t.node ≡ t.slot) × (t.object ≡ 0))

-- a path leads from the read that the argument names on to the call
pub record LeadsOn (next : Next) (named : List Access) (argument : Argument) : Type 0 where
  pub number : ℕ
  pub read : Access
  pub is_named : argument.named ≡ Some number
  pub at : slice_get named number ≡ Some read
  pub path : Path next read.point argument.at

-- what is found are the numbers of these arguments
abbrev pub AreLeading : Next → List Access → List Argument → List Found → Type 0
AreLeading next named arguments found = (i : ℕ) → ((f : Found) × Contains found f × (f.definition ≡ i)) ↔ ((a : Argument) × (slice_get arguments i ≡ Some a) × LeadsOn next named a)

abbrev pub argument_of : List Argument → Found → Option Argument
argument_of arguments f = slice_get arguments f.definition

abbrev pub none_in : Option ℕ → Bool
none_in None = true
none_in (Some n) = false

-- the argument names no read
abbrev pub is_plain : Argument → Bool
is_plain a = none_in a.named

abbrev pub HandsFrom : Next → List Access → Argument → Option ℕ → Type 0
HandsFrom next named a None = Unit {0}
HandsFrom next named a (Some n) = (read : Access) × (slice_get named n ≡ Some read) × Path next read.point a.at

-- the argument names no read, or a path leads from it on to the call
abbrev pub Hands : Next → List Access → Argument → Type 0
Hands next named a = HandsFrom next named a a.named

abbrev pub AreHanding : Next → List Access → List Argument → List Argument → Type 0
AreHanding next named arguments out = (a : Argument) → Contains out a ↔ (Contains arguments a × Hands next named a)
