-- The parts of all objects, by number.
use Rattle.std.specs.Prelude.{ℕ, zero, suc, ◌+◌, ◌-◌, ◌^◌, Bool, true, false, not, ◌&&◌, ◌||◌, nat_lt, nat_le, nat_eq, if◌then◌else◌, List, [], ◌∷◌, ◌++◌, length, Option, Some, None, slice_get}
use Rattle.cc_types.specs.declared.shape.Shape.{Shape}
use Rattle.cc_types.specs.declared.shape.TypeId.{TypeId}
use Rattle.cc_types.specs.declared.structs.StructEntry.{StructEntry}
use Rattle.cc_parts.specs.declared.part.Part.{Part}
use Rattle.cc_parts.specs.declared.part.Form.{Form}
use Rattle.cc_parts.specs.declared.part.Form.TheVariants as form
use Rattle.cc_parts.specs.declared.parts.Object.{Object}
use Rattle.cc_parts.specs.declared.parts.Parts.{Parts}
use Rattle.cc_parts.specs.TypeParts.{part, parts_of}

abbrev pub no_parts : Parts
no_parts = record { objects = []; parts = [] }

abbrev pub an_object : ℕ → ℕ → Object
an_object node first = record { node = node; first = first }

-- the parts of an object of a type, in which types stand at most 64 deep in one another
unfoldable pub object_parts : List Shape → List StructEntry → ℕ → TypeId → List Part
object_parts ss es object t = parts_of ss es object 64 false t

-- with an object of a type at the end
abbrev pub with_object : List Shape → List StructEntry → ℕ → TypeId → Parts → Parts
with_object ss es node t P = record {
  objects = P.objects ++ an_object node (length P.parts) ∷ [];
  parts = P.parts ++ object_parts ss es (length P.objects) t;
}

-- With a string literal at the end: an array of characters.
abbrev pub with_literal : ℕ → Parts → Parts
with_literal node P = record {
  objects = P.objects ++ an_object node (length P.parts) ∷ [];
  parts = (P.parts ++ part (length P.objects) form.Array false 2 ∷ []) ++ part (length P.objects) form.Number true 1 ∷ [];
}

-- how many parts there are; 2^32 - 1 stands for that many or more
abbrev pub count_of : List Part → ℕ
count_of parts = if nat_lt (length parts) (2 ^ 32 - 1) then length parts else 2 ^ 32 - 1

abbrev pub form_in : Option Part → Form
form_in (Some p) = p.form
form_in None = form.Other

abbrev pub size_in : Option Part → ℕ
size_in (Some p) = p.size
size_in None = 0

-- what the type of the part q is, and how many parts it is made of
abbrev pub form_at : List Part → ℕ → Form
form_at parts q = form_in (slice_get parts q)

abbrev pub size_at : List Part → ℕ → ℕ
size_at parts q = size_in (slice_get parts q)

abbrev pub is_scalar : Form → Bool
is_scalar form.Number = true
is_scalar form.Pointer = true
is_scalar f = false

abbrev pub is_pointer_form : Form → Bool
is_pointer_form form.Pointer = true
is_pointer_form f = false

abbrev pub is_struct_form : ℕ → Form → Bool
is_struct_form id (form.Struct other) = nat_eq other.0 id
is_struct_form id f = false

-- a slot is a part of scalar type
abbrev pub is_slot : List Part → ℕ → Bool
is_slot parts q = is_scalar (form_at parts q)

abbrev pub is_pointer : List Part → ℕ → Bool
is_pointer parts q = is_pointer_form (form_at parts q)

abbrev pub is_struct : List Part → ℕ → ℕ → Bool
is_struct parts id q = is_struct_form id (form_at parts q)

-- the number after q, where it is below the count
abbrev pub next_below : ℕ → ℕ → Option ℕ
next_below count q = if nat_lt q count && nat_lt (q + 1) count then Some (q + 1) else None

abbrev pub element_by : Form → ℕ → ℕ → Option ℕ
element_by form.Array count q = next_below count q
element_by f count q = None

-- the elements of an array come next
abbrev pub element_of : List Part → ℕ → Option ℕ
element_of parts q = element_by (form_at parts q) (count_of parts) q

-- The part that comes so many parts after q, those that each is made of left out, before the part `last`.
abbrev pub walk : List Part → ℕ → ℕ → ℕ → Option ℕ
walk parts last q zero = if nat_lt q last then Some q else None
walk parts last q (suc steps) = if nat_lt q last && nat_le (size_at parts q) (last - q) then walk parts last (q + size_at parts q) steps else None

abbrev pub member_by : Form → List Part → ℕ → ℕ → Option ℕ
member_by (form.Struct id) parts q m =
    if nat_lt q (count_of parts) && nat_le (size_at parts q) (count_of parts - q) then walk parts (q + size_at parts q) (q + 1) m else None
member_by f parts q m = None

-- the members of a struct come next, each with what it is made of
abbrev pub member_of : List Part → ℕ → ℕ → Option ℕ
member_of parts q m = member_by (form_at parts q) parts q m

abbrev pub pointer_at : List Part → ℕ → Option ℕ
pointer_at parts r = if is_pointer parts r then Some r else None

-- the pointer that comes so many parts after the part q of a struct type and that this is made of
abbrev pub pointer_in : List Part → ℕ → ℕ → ℕ → Option ℕ
pointer_in parts id q offset =
    if not (is_struct parts id q) || nat_le (size_at parts q) offset || nat_le (count_of parts) q || nat_le (count_of parts - q) offset then None
    else pointer_at parts (q + offset)
