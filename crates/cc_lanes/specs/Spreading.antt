-- Accesses in lanes.
use Rattle.std.specs.Prelude.{ℕ, ◌≡◌, Bool, true, false, not, nat_eq, List, Option, Some, None, slice_get, Contains}
use Rattle.cc_flows.specs.declared.mask.Touch.{Touch}
use Rattle.cc_flows.specs.Masks.{row_of}
use Rattle.cc_rows.specs.Gains.{Each}
use Rattle.cc_listed.specs.declared.table.Access.{Access}
use Rattle.cc_listed.specs.declared.table.Slot.{Slot}
use Rattle.cc_listed.specs.declared.table.Tables.{Tables}
use Rattle.cc_listed.specs.Tabled.{component_of}
use Rattle.cc_lanes.specs.declared.lane.Lanes.{Lanes}
use Rattle.cc_lanes.specs.declared.laid.Whose.{Whose}
use Rattle.cc_lanes.specs.declared.laid.Whose.TheVariants as whose
use Rattle.cc_lanes.specs.Rows.{Pair}

-- an access of one component goes into the lane of another one
abbrev pub goes : Whose → ℕ → ℕ → Bool
goes whose.Own own lane = nat_eq own lane
goes whose.Others own lane = not (nat_eq own lane)
goes whose.All own lane = true

abbrev pub object_in : Option Slot → ℕ
object_in (Some s) = s.object
object_in None = 0

-- the object of a slot
abbrev pub object_of : Tables → ℕ → ℕ
object_of T s = object_in (slice_get T.slots s)

-- the access in a lane
abbrev pub touch_of : Tables → Access → ℕ → Touch
touch_of T a k = record { point = a.point; slot = k; node = a.occurrence; object = object_of T a.slot }

abbrev pub goes_in : Whose → ℕ → Option Pair → Bool
goes_in w own (Some lane) = goes w own lane.1
goes_in w own None = false

-- the access goes into the lane of this number
abbrev pub goes_into : Tables → List Pair → Whose → Access → ℕ → Bool
goes_into T lanes w a k = goes_in w (component_of T a.occurrence) (slice_get lanes k)

abbrev pub IsInto : Tables → List Pair → Whose → Access → ℕ → Touch → Type 0
IsInto T lanes w a k x = (goes_into T lanes w a k ≡ true) × (touch_of T a k ≡ x)

-- the access in one of the lanes of its slot into which it goes
abbrev pub IsSpread : Tables → Lanes → Whose → Access → Touch → Type 0
IsSpread T lanes w a = Each (row_of lanes.by_slot.items a.slot) (IsInto T lanes.pairs.items w a)
