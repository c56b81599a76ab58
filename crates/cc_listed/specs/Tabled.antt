-- What is known of slots and nodes.
use Rattle.std.specs.Prelude.{ℕ, Bool, true, false, ◌&&◌, Option, Some, None, slice_get}
use Rattle.cc_listed.specs.declared.table.Kind.TheVariants as kind
use Rattle.cc_listed.specs.declared.table.Kind.{Kind}
use Rattle.cc_listed.specs.declared.table.Slot.{Slot}
use Rattle.cc_listed.specs.declared.table.Occurrence.{Occurrence}
use Rattle.cc_listed.specs.declared.table.Tables.{Tables}
use Rattle.cc_listed.specs.declared.table.Access.{Access}

abbrev pub component_in : Option Occurrence → ℕ
component_in (Some o) = o.component
component_in None = 0

-- the component of a node
abbrev pub component_of : Tables → ℕ → ℕ
component_of T o = component_in (slice_get T.occurrences o)

abbrev pub name_in : Option Occurrence → Bool
name_in (Some o) = o.by_name
name_in None = false

-- the node is an lvalue by name
abbrev pub is_by_name : Tables → ℕ → Bool
is_by_name T o = name_in (slice_get T.occurrences o)

abbrev pub named_kind : Kind → Bool
named_kind kind.Named = true
named_kind _ = false

abbrev pub named_in : Option Slot → Bool
named_in (Some s) = named_kind s.kind
named_in None = false

-- an access by name ends stretches for the slot
abbrev pub is_named : Tables → ℕ → Bool
is_named T s = named_in (slice_get T.slots s)

abbrev pub across_kind : Kind → Bool
across_kind kind.Inside = false
across_kind _ = true

abbrev pub across_in : Option Slot → Bool
across_in (Some s) = across_kind s.kind
across_in None = false

-- stretches for the slot may leave a function
abbrev pub is_across : Tables → ℕ → Bool
is_across T s = across_in (slice_get T.slots s)

-- the access ends stretches for its slot
abbrev pub cuts : Tables → Access → Bool
cuts T r = is_by_name T r.occurrence && is_named T r.slot
