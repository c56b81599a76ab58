-- Lanes: slots with components that read them.
use Rattle.std.specs.Prelude.{ℕ, ◌≡◌, ◌<◌, ◌↔◌, List, Some, length, Contains, slice_get}
use Rattle.cc_flows.specs.Masks.{row_of}
use Rattle.cc_listed.specs.declared.table.Access.{Access}
use Rattle.cc_listed.specs.declared.table.Tables.{Tables}
use Rattle.cc_listed.specs.Tabled.{component_of}
use Rattle.cc_lanes.specs.declared.lane.Lanes.{Lanes}
use Rattle.cc_lanes.specs.Rows.{Pair}

-- the lane of a read
abbrev pub lane_of : Tables → Access → Pair
lane_of T r = (r.slot, component_of T r.occurrence)

-- the slots of the lanes, with the lanes' numbers
abbrev pub AreNumbered : List Pair → List Pair → Type 0
AreNumbered lanes out = (p : Pair) → Contains out p ↔ ((lane : Pair) × (slice_get lanes p.1 ≡ Some lane) × (lane.0 ≡ p.0))

-- Each pair has its lane, and each lane stands in the row of its slot.
pub record AreLanes (T : Tables) (pairs : List Pair) (lanes : Lanes) : Type 0 where
  pub has : (p : Pair) → Contains pairs p → Contains lanes.pairs.items p
  pub rows : (s k : ℕ) → Contains (row_of lanes.by_slot.items s) k ↔ ((s < length T.slots) × ((lane : Pair) × (slice_get lanes.pairs.items k ≡ Some lane) × (lane.0 ≡ s)))
