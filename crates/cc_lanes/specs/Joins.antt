-- Which starts reach which targets, by the kind of their slot.
use Rattle.std.specs.Prelude.{ℕ, ◌≡◌, List, Some, Contains, slice_get}
use Rattle.cc_flows.specs.Sweeping.{Next}
use Rattle.cc_flows.specs.declared.flow.Found.{Found}
use Rattle.cc_listed.specs.declared.table.Access.{Access}
use Rattle.cc_listed.specs.declared.table.Kind.{Kind}
use Rattle.cc_listed.specs.declared.table.Kind.TheVariants as kind
use Rattle.cc_listed.specs.declared.table.Slot.{Slot}
use Rattle.cc_listed.specs.declared.table.Tables.{Tables}
use Rattle.cc_listed.specs.Stretches.{Stretch, IsAt}

-- the path stays in a function where stretches for the slot do, and goes across functions else
abbrev pub PathBy : Next → Next → List Access → List Access → Kind → ℕ → ℕ → ℕ → Type 0
PathBy next within inner outer kind.Inside s from to = Stretch within (IsAt (Contains inner) s) from to
PathBy next within inner outer kind.Named s from to = Stretch next (IsAt (Contains outer) s) from to
PathBy next within inner outer kind.Open s from to = Stretch next (IsAt (Contains outer) s) from to

-- a path leads from a start to a target of the same slot, and at no inner point a cutter is of that slot
pub record IsJoined (next within : Next) (T : Tables) (inner outer starts targets : List Access) (f : Found) : Type 0 where
  pub start : Access
  pub target : Access
  pub slot : Slot
  pub begins : Contains starts start
  pub ends : Contains targets target
  pub same_slot : target.slot ≡ start.slot
  pub at : slice_get T.slots start.slot ≡ Some slot
  pub is_start : start.occurrence ≡ f.definition
  pub is_target : target.occurrence ≡ f.reader
  pub is_object : slot.object ≡ f.object
  pub path : PathBy next within inner outer slot.kind start.slot start.point target.point
