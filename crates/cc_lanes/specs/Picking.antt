-- Accesses by which stretches are clear for their slot.
use Rattle.std.specs.Prelude.{ℕ, Bool, true, false, Option, Some, None, slice_get}
use Rattle.cc_listed.specs.declared.table.Access.{Access}
use Rattle.cc_listed.specs.declared.table.Kind.{Kind}
use Rattle.cc_listed.specs.declared.table.Kind.TheVariants as kind
use Rattle.cc_listed.specs.declared.table.Slot.{Slot}
use Rattle.cc_listed.specs.declared.table.Tables.{Tables}
use Rattle.cc_listed.specs.Tabled.{is_across}

-- stretches for the slot may leave a function
abbrev pub crosses : Tables → Access → Bool
crosses T a = is_across T a.slot

abbrev pub inside_kind : Kind → Bool
inside_kind kind.Inside = true
inside_kind _ = false

abbrev pub inside_in : Option Slot → Bool
inside_in (Some s) = inside_kind s.kind
inside_in None = false

-- stretches for the slot stay in a function
abbrev pub is_inside : Tables → ℕ → Bool
is_inside T s = inside_in (slice_get T.slots s)

abbrev pub stays : Tables → Access → Bool
stays T a = is_inside T a.slot
