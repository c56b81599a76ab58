-- Which shared rows are listed.
use Rattle.std.specs.Prelude.{ℕ, ◌≡◌, Some, slice_get}
use Rattle.cc_listed.specs.declared.table.Kind.TheVariants as kind
use Rattle.cc_listed.specs.declared.table.Slot.{Slot}
use Rattle.cc_listed.specs.declared.table.Tables.{Tables}
use Rattle.cc_listed.specs.declared.table.Access.{Access}
use Rattle.cc_listed.specs.Tabled.{component_of}
use Rattle.cc_listed.specs.Stretches.{Steps, Accesses, IsReachable, IsClearFor}

-- The row (d, u, x) is listed: for some slot of the object x, d is a reachable definition that is no argument, u may read
-- the slot, a clear stretch leads from d to u, and their components differ.
pub record IsShared (G : Steps) (T : Tables) (A : Accesses) (d u x : ℕ) : Type 0 where
  pub definition : Access
  pub read : Access
  pub slot : Slot
  pub defines : A.Defines definition
  pub reads : A.Reads read
  pub same_slot : read.slot ≡ definition.slot
  pub at : slice_get T.slots definition.slot ≡ Some slot
  pub is_definition : definition.occurrence ≡ d
  pub is_reader : read.occurrence ≡ u
  pub is_object : slot.object ≡ x
  pub reachable : IsReachable G.across G.root definition.point
  pub clear : IsClearFor G T A slot.kind (component_of T u) definition.slot definition.point read.point
  pub differ : component_of T d ≡ component_of T u → ⊥

-- where stretches for a slot stay in a function, its definitions and its readers are of one component
abbrev pub StayInside : Tables → Accesses → Type 0
StayInside T A = (d u : Access) (x : Slot) → A.Defines d → A.Reads u → u.slot ≡ d.slot → slice_get T.slots d.slot ≡ Some x → x.kind ≡ kind.Inside → component_of T d.occurrence ≡ component_of T u.occurrence
