-- Which starts reach which targets of the same slot.
use Rattle.std.specs.Prelude.{ℕ, ◌≡◌, ◌<◌, ◌↔◌, List, Some, Contains, slice_get}
use Rattle.cc_flows.specs.Sweeping.{Next}
use Rattle.cc_flows.specs.declared.mask.Touch.{Touch}
use Rattle.cc_flows.specs.declared.flow.Found.{Found}
use Rattle.cc_flows.specs.Masks.{row_of}
use Rattle.cc_listed.specs.declared.table.Access.{Access}
use Rattle.cc_listed.specs.declared.table.Slot.{Slot}
use Rattle.cc_listed.specs.declared.table.Tables.{Tables}
use Rattle.cc_listed.specs.Stretches.{Stretch, IsAt}
use Rattle.cc_lanes.specs.declared.lane.Lanes.{Lanes}
use Rattle.cc_lanes.specs.declared.laid.Whose.TheVariants as whose
use Rattle.cc_lanes.specs.Rows.{Pair}
use Rattle.cc_lanes.specs.Spreading.{IsSpread}

abbrev pub plain_lane : Access → Pair
plain_lane a = (a.slot, 0)

abbrev pub pair_of : Touch → Pair
pair_of t = (t.point, t.slot)

-- for each point the lanes in which a cutter stands there
abbrev pub AreCuts : Tables → Lanes → ℕ → List Access → List (List ℕ) → Type 0
AreCuts T lanes points cutters wipes = (p k : ℕ) → Contains (row_of wipes p) k
    ↔ ((p < points) × ((a : Access) × Contains cutters a × ((t : Touch) × IsSpread T lanes whose.All a t × (pair_of t ≡ (p, k)))))

-- a path leads from a start to a target of the same slot, and at no inner point a cutter is of that slot
pub record IsConnected (next : Next) (T : Tables) (cutters starts targets : List Access) (f : Found) : Type 0 where
  pub start : Access
  pub target : Access
  pub slot : Slot
  pub begins : Contains starts start
  pub ends : Contains targets target
  pub same_slot : target.slot ≡ start.slot
  pub at : slice_get T.slots start.slot ≡ Some slot
  pub is_start : start.occurrence ≡ f.definition
  pub is_target : target.occurrence ≡ f.reader
  pub is_object : slot.object ≡ f.object
  pub path : Stretch next (IsAt (Contains cutters) start.slot) start.point target.point
