-- Which lanes each point wipes.
use Rattle.std.specs.Prelude.{ℕ, ◌≡◌, ◌<◌, ◌⊎◌, ◌↔◌, Bool, true, ◌&&◌, List, Contains}
use Rattle.cc_flows.specs.declared.mask.Touch.{Touch}
use Rattle.cc_flows.specs.Masks.{row_of}
use Rattle.cc_listed.specs.declared.table.Access.{Access}
use Rattle.cc_listed.specs.declared.table.Tables.{Tables}
use Rattle.cc_listed.specs.Tabled.{is_by_name, is_named}
use Rattle.cc_lanes.specs.declared.lane.Lanes.{Lanes}
use Rattle.cc_lanes.specs.declared.laid.Whose.{Whose}
use Rattle.cc_lanes.specs.declared.laid.Whose.TheVariants as whose
use Rattle.cc_lanes.specs.Connections.{pair_of}
use Rattle.cc_lanes.specs.Spreading.{IsSpread}

-- the access is by name, and its slot one whose stretches that ends
abbrev pub cuts : Tables → Access → Bool
cuts T a = is_by_name T a.occurrence && is_named T a.slot

-- one of the accesses ends stretches for its slot at the point, in the lane
abbrev pub IsCutBy : Tables → Lanes → Whose → List Access → ℕ × ℕ → Type 0
IsCutBy T lanes w accesses p = (a : Access) × Contains accesses a × (cuts T a ≡ true) × ((t : Touch) × IsSpread T lanes w a t × (pair_of t ≡ p))

-- for each point the lanes that it wipes
abbrev pub AreWipes : Tables → Lanes → ℕ → List Access → List Access → List (List ℕ) → Type 0
AreWipes T lanes points writes reads wipes = (p k : ℕ) → Contains (row_of wipes p) k
    ↔ ((p < points) × (IsCutBy T lanes whose.All writes (p, k) ⊎ IsCutBy T lanes whose.Own reads (p, k)))
