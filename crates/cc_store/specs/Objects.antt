-- The live objects of a run, and what is done with them (C17 6.2.4, 6.5.3.2p4, 6.5.6p8).
use Rattle.std.specs.Prelude.{ℕ, ◌+◌, List, [], ◌∷◌, Option, Some, None, Result, Ok, Err, Bool, true, false, cond, length, replicate, nat_lt, ◌==◌, ◌&&◌, slice_get, slice_set}
use Rattle.cc_store.specs.declared.value.Value.{Value}
use Rattle.cc_store.specs.declared.value.Value.TheVariants.{Unwritten}
use Rattle.cc_store.specs.declared.value.Pointer.{Pointer}
use Rattle.cc_meaning.specs.declared.end.Undef.{Undef}
use Rattle.cc_meaning.specs.declared.end.Undef.TheVariants.{Ended, PastEnd, ReadOnly, NeverWritten}
use Rattle.cc_store.specs.Stacks.{if_so, rest}

-- an object: its declarator or literal, its instance, whether it is read only, and its cells
pub record Object : Type 0 where
  pub declarator : ℕ
  pub instance : ℕ
  pub is_fixed : Bool
  pub cells : List Value

-- the live objects, the one made last first, and the instance of the next one
pub record Live : Type 0 where
  pub objects : List Object
  pub next : ℕ

abbrev pub object_of : ℕ → List Object → Option Object
object_of i [] = None
object_of i (o ∷ os) = if_so (o.instance == i) o (object_of i os)

-- how many cells are live
abbrev pub live_cells : List Object → ℕ
live_cells [] = 0
live_cells (o ∷ os) = live_cells os + length o.cells

-- whether the pointer points to an element of its array, and to a cell of the object
abbrev pub is_within : Pointer → ℕ → Bool
is_within p n = nat_lt p.index p.length && nat_lt (p.base + p.index) n

-- what a cell gives to one who reads it
abbrev pub read_of : Option Value → Result Value Undef
read_of None = Err PastEnd
read_of (Some Unwritten) = Err NeverWritten
read_of (Some v) = Ok v

abbrev pub read_in : Pointer → Option Object → Result Value Undef
read_in p None = Err Ended
read_in p (Some o) = cond (is_within p (length o.cells)) (read_of (slice_get o.cells (p.base + p.index))) (Err PastEnd)

-- what is read through the pointer
abbrev pub read_cell : Pointer → Live → Result Value Undef
read_cell p m = read_in p (object_of p.instance m.objects)

abbrev pub missing_in : Pointer → Option Object → Option Undef
missing_in p None = Some Ended
missing_in p (Some o) = cond (is_within p (length o.cells)) None (Some PastEnd)

-- why there is no cell that the pointer points to, if that is so
abbrev pub missing : Pointer → Live → Option Undef
missing p m = missing_in p (object_of p.instance m.objects)

abbrev pub refused_in : Pointer → Option Object → Option Undef
refused_in p None = Some Ended
refused_in p (Some o) = cond (is_within p (length o.cells)) (cond o.is_fixed (Some ReadOnly) None) (Some PastEnd)

-- why nothing is written through the pointer, if that is so
abbrev pub refused : Pointer → Live → Option Undef
refused p m = refused_in p (object_of p.instance m.objects)

-- the objects with the value in cell n of the instance
abbrev pub set_cell : ℕ → ℕ → Value → List Object → List Object
set_cell i n v [] = []
set_cell i n v (o ∷ os) = cond (o.instance == i) (record o { cells = slice_set o.cells n v } ∷ os) (o ∷ set_cell i n v os)

abbrev pub put_unless : Option Undef → Pointer → Value → Live → Live
put_unless None p v m = record m { objects = set_cell p.instance (p.base + p.index) v m.objects }
put_unless (Some why) p v m = m

-- the memory with the value written through the pointer
abbrev pub write_cell : Pointer → Value → Live → Live
write_cell p v m = put_unless (refused p m) p v m

-- the memory with the value in the cell, also where the object is read only
abbrev pub put_cell : Pointer → Value → Live → Live
put_cell p v m = put_unless (missing p m) p v m

-- the memory with a new object of this many cells
abbrev pub made : ℕ → ℕ → Bool → Live → Live
made declarator count is_fixed m = record {
  objects = record { declarator = declarator; instance = m.next; is_fixed = is_fixed; cells = replicate count Unwritten } ∷ m.objects;
  next = m.next + 1;
}

-- a pointer to the object that comes next
abbrev pub next_pointer : ℕ → Live → Pointer
next_pointer declarator m = record { object = declarator; instance = m.next; place = length m.objects; base = 0; length = 1; index = 0 }

-- the memory without the object that was made last
abbrev pub ended : Live → Live
ended m = record m { objects = rest m.objects }

-- the declarator and the instance of the object that was made last
abbrev pub last_object : List Object → Option (ℕ × ℕ)
last_object [] = None
last_object (o ∷ os) = Some (o.declarator, o.instance)
