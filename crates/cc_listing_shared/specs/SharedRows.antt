-- The rows that are found are the shared rows that are listed.
use Rattle.std.specs.Prelude.{ℕ, ◌≡◌, ◌⊎◌, ◌↔◌, true, List, Some, Contains, slice_get}
use Rattle.cc_flows.specs.Sweeping.{Next}
use Rattle.cc_flows.specs.declared.flow.Found.{Found}
use Rattle.cc_flows.specs.Flows.{found_cmp}
use Rattle.cc_rows.specs.Limits.{HasMore}
use Rattle.cc_listed.specs.declared.table.Access.{Access}
use Rattle.cc_listed.specs.declared.table.Slot.{Slot}
use Rattle.cc_listed.specs.declared.table.Tables.{Tables}
use Rattle.cc_listed.specs.Tabled.{component_of}
use Rattle.cc_listed.specs.Stretches.{Stretch, IsAt, accesses, steps}
use Rattle.cc_listing_shared.specs.Cutting.{cuts}
use Rattle.cc_listed.specs.Listed.{IsShared, StayInside}

-- what is found is a shared row that is listed, whatever the steps inside functions
abbrev pub IsListed : Next → Next → ℕ → Tables → List Access → List Access → List Access → List Access → Found → Type 0
IsListed next within root T writes given passed reads f = IsShared (steps next within root) T (accesses writes given passed reads) f.definition f.reader f.object

-- these are the listed rows
abbrev pub AreListed : Next → ℕ → Tables → List Access → List Access → List Access → List Access → List Found → Type 0
AreListed next root T writes given passed reads rows = (within : Next) → StayInside T (accesses writes given passed reads) → (f : Found) → Contains rows f ↔ IsListed next within root T writes given passed reads f

-- there are more listed rows than the number
abbrev pub HasMoreListed : Next → ℕ → Tables → List Access → List Access → List Access → List Access → ℕ → Type 0
HasMoreListed next root T writes given passed reads most = (within : Next) → StayInside T (accesses writes given passed reads) → HasMore found_cmp (IsListed next within root T writes given passed reads) most

-- a write, or a read in the component, ends stretches for the slot at the point
abbrev pub IsCut : Tables → List Access → List Access → ℕ → ℕ → ℕ → Type 0
IsCut T writes reads c s p = IsAt (λ r. (cuts T r ≡ true) × (Contains writes r ⊎ (Contains reads r × (component_of T r.occurrence ≡ c)))) s p

-- a definition among the live ones reaches a read
pub record IsRow (next : Next) (T : Tables) (writes reads live among : List Access) (f : Found) : Type 0 where
  pub definition : Access
  pub read : Access
  pub slot : Slot
  pub defines : Contains live definition
  pub is_read : Contains among read
  pub same_slot : read.slot ≡ definition.slot
  pub at : slice_get T.slots definition.slot ≡ Some slot
  pub is_definition : definition.occurrence ≡ f.definition
  pub is_reader : read.occurrence ≡ f.reader
  pub is_object : slot.object ≡ f.object
  pub clear : Stretch next (IsCut T writes reads (component_of T f.reader) definition.slot) definition.point read.point
  pub differ : component_of T f.definition ≡ component_of T f.reader → ⊥
