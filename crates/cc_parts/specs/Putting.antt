-- The parts of an object of a type, put at the end of others one after another. A part that is made of others stands before
-- them, and is said to be so when they are there.
use Rattle.std.specs.Prelude.{ℕ, zero, suc, ◌-◌, Bool, true, List, [], ◌∷◌, ◌++◌, length, slice_set}
use Rattle.cc_tree.specs.declared.ids.StructId.{StructId}
use Rattle.cc_types.specs.declared.shape.Shape.{Shape}
use Rattle.cc_types.specs.declared.shape.Shape.TheVariants as s
use Rattle.cc_types.specs.declared.shape.TypeId.{TypeId}
use Rattle.cc_types.specs.declared.structs.Member.{Member}
use Rattle.cc_types.specs.declared.structs.StructEntry.{StructEntry}
use Rattle.cc_types.specs.Interning.{shape_of}
use Rattle.cc_types.specs.Measures.{entry_of}
use Rattle.cc_parts.specs.declared.part.Part.{Part}
use Rattle.cc_parts.specs.declared.part.Form.{Form}
use Rattle.cc_parts.specs.declared.part.Form.TheVariants as form
use Rattle.cc_parts.specs.TypeParts.{part}

abbrev pub with_leaf : ℕ → Form → Bool → List Part → List Part
with_leaf object form in_array out = out ++ part object form in_array 1 ∷ []

-- the part at a number is made of all parts from there on
abbrev pub closed : ℕ → ℕ → Form → Bool → List Part → List Part
closed start object form in_array out = slice_set out start (part object form in_array (length out - start))

abbrev pub with_members : (TypeId → List Part → List Part) → List Member → List Part → List Part
with_members put [] out = out
with_members put (m ∷ ms) out = with_members put ms (put m.kind out)

abbrev pub array_by : (Bool → TypeId → List Part → List Part) → ℕ → Bool → TypeId → List Part → List Part
array_by put object in_array t out = closed (length out) object form.Array in_array (put true t (with_leaf object form.Other in_array out))

abbrev pub struct_by : (Bool → TypeId → List Part → List Part) → List StructEntry → ℕ → Bool → StructId → List Part → List Part
struct_by put es object in_array id out =
    closed (length out) object (form.Struct id) in_array (with_members (put in_array) (entry_of es id).members (with_leaf object form.Other in_array out))

-- the inner types are put so
abbrev pub shape_by : (Bool → TypeId → List Part → List Part) → List StructEntry → ℕ → Bool → Shape → List Part → List Part
shape_by put es object in_array (s.Array k t n) out = array_by put object in_array t out
shape_by put es object in_array (s.Struct k id) out = struct_by put es object in_array id out
shape_by put es object in_array (s.Pointer k t) out = with_leaf object form.Pointer in_array out
shape_by put es object in_array (s.Integer k kind) out = with_leaf object form.Number in_array out
shape_by put es object in_array shape out = with_leaf object form.Other in_array out

abbrev pub with_parts : List Shape → List StructEntry → ℕ → ℕ → Bool → TypeId → List Part → List Part
with_parts ss es object zero in_array t out = with_leaf object form.Other in_array out
with_parts ss es object (suc depth) in_array t out = shape_by (with_parts ss es object depth) es object in_array (shape_of ss t) out

abbrev pub with_array : List Shape → List StructEntry → ℕ → ℕ → Bool → TypeId → List Part → List Part
with_array ss es object depth in_array t out = array_by (with_parts ss es object depth) object in_array t out

abbrev pub with_struct : List Shape → List StructEntry → ℕ → ℕ → Bool → StructId → List Part → List Part
with_struct ss es object depth in_array id out = struct_by (with_parts ss es object depth) es object in_array id out

abbrev pub with_shape : List Shape → List StructEntry → ℕ → ℕ → Bool → Shape → List Part → List Part
with_shape ss es object depth in_array shape out = shape_by (with_parts ss es object depth) es object in_array shape out
