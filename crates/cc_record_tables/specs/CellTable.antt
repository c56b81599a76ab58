-- What is kept of each live cell.
use Rattle.std.specs.Prelude.{◌≡◌, ℕ, ◌+◌, List, [], ◌∷◌, Bool, false, ◌&&◌, Option, Some, None, cond, length, nat_eq, nat_lt, slice_get, Vec}
use Rattle.std.specs.declared.alloc.Global.{Global}
use Rattle.indexmap.specs.IndexMap.{get}
use Rattle.cc_meaning.specs.declared.event.Cell.{Cell}
use Rattle.cc_record_tables.specs.declared.slot.Slot.{Slot}
use Rattle.cc_record_tables.specs.declared.cells.Row.{Row}
use Rattle.cc_record_tables.specs.declared.cells.Cells.{Cells}

abbrev pub or_none : {A : Type 0} → Option (Option A) → Option A
or_none (Some x) = x
or_none None = None

abbrev pub at : List (Option Slot) → ℕ → Option Slot
at slots index = or_none (slice_get slots index)

abbrev pub row_slot : Row → ℕ → Option Slot
row_slot r index = at r.slots.items index

-- the same is kept at each index
abbrev pub SameSlots : List (Option Slot) → List (Option Slot) → Type 0
SameSlots old new = (i : ℕ) → at new i ≡ at old i

-- the slot stands at the index, and each other index keeps what it has
abbrev pub PutsSlot : List (Option Slot) → ℕ → Slot → List (Option Slot) → Type 0
PutsSlot old index slot new = (i : ℕ) → at new i ≡ cond (nat_eq index i) (Some slot) (at old i)

-- the same where the index has a place; else nothing changes
abbrev pub ReplacesSlot : List (Option Slot) → ℕ → Slot → List (Option Slot) → Type 0
ReplacesSlot old index slot new = (i : ℕ) → at new i ≡ cond (nat_eq index i && nat_lt index (length old)) (Some slot) (at old i)

-- what is kept of a cell of these objects
abbrev pub slot_in : List Row → ℕ → ℕ → Option Slot
slot_in [] object index = None
slot_in (r ∷ rows) object index = cond (nat_eq r.object object) (row_slot r index) (slot_in rows object index)

-- the place of the object among these, counted from n
abbrev pub place_from : ℕ → List Row → ℕ → Option ℕ
place_from n [] object = None
place_from n (r ∷ rows) object = cond (nat_eq r.object object) (Some n) (place_from (n + 1) rows object)

-- the cell of this object and index has a place among these
abbrev pub has_place_in : List Row → ℕ → ℕ → Bool
has_place_in [] object index = false
has_place_in (r ∷ rows) object index = cond (nat_eq r.object object) (nat_lt index (length r.slots.items)) (has_place_in rows object index)

-- the same is kept of each cell
abbrev pub SameRows : List Row → List Row → Type 0
SameRows old new = (o i : ℕ) → slot_in new o i ≡ slot_in old o i

-- the slot is kept of that cell, and of each other cell what was
abbrev pub Puts : List Row → ℕ → ℕ → Slot → List Row → Type 0
Puts old object index slot new = (o i : ℕ) → slot_in new o i ≡ cond (nat_eq object o && nat_eq index i) (Some slot) (slot_in old o i)

-- the same where the cell has a place; else nothing changes
abbrev pub Replaces : List Row → ℕ → ℕ → Slot → List Row → Type 0
Replaces old object index slot new =
    (o i : ℕ) → slot_in new o i ≡ cond ((nat_eq object o && nat_eq index i) && has_place_in old object index) (Some slot) (slot_in old o i)

abbrev pub slot_among : Option (Vec Row Global) → ℕ → ℕ → Option Slot
slot_among (Some rows) object index = slot_in rows.items object index
slot_among None object index = None

-- what is kept of a cell
abbrev pub slot_of : Cells → Cell → Option Slot
slot_of cells c = slot_among (get nat_eq cells.rows c.instance) c.object c.index

abbrev pub has_place_among : Option (Vec Row Global) → ℕ → ℕ → Bool
has_place_among (Some rows) object index = has_place_in rows.items object index
has_place_among None object index = false

-- the cell has a place
abbrev pub has_place : Cells → Cell → Bool
has_place cells c = has_place_among (get nat_eq cells.rows c.instance) c.object c.index
