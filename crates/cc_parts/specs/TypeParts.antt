-- The parts of an object of a type, in preorder.
use Rattle.std.specs.Prelude.{ℕ, zero, suc, Bool, true, List, [], ◌∷◌, ◌++◌, length}
use Rattle.cc_types.specs.declared.shape.Shape.{Shape}
use Rattle.cc_types.specs.declared.shape.Shape.TheVariants as s
use Rattle.cc_types.specs.declared.shape.TypeId.{TypeId}
use Rattle.cc_types.specs.declared.structs.Member.{Member}
use Rattle.cc_types.specs.declared.structs.StructEntry.{StructEntry}
use Rattle.cc_types.specs.Interning.{shape_of}
use Rattle.cc_types.specs.Measures.{entry_of}
use Rattle.cc_parts.specs.declared.part.Part.{Part}
use Rattle.cc_parts.specs.declared.part.Form.{Form}
use Rattle.cc_parts.specs.declared.part.Form.TheVariants as form

abbrev pub part : ℕ → Form → Bool → ℕ → Part
part object form in_array size = record { object = object; form = form; in_array = in_array; size = size }

-- a part and what it is made of
abbrev pub headed : ℕ → Form → Bool → List Part → List Part
headed object form in_array inner = part object form in_array (suc (length inner)) ∷ inner

-- the parts of the members, one after another
abbrev pub parts_of_members : (TypeId → List Part) → List Member → List Part
parts_of_members parts [] = []
parts_of_members parts (m ∷ ms) = parts m.kind ++ parts_of_members parts ms

-- A struct has its members as parts, an array its elements as one part; a scalar has none. The inner types have these parts.
abbrev pub parts_by_shape : (Bool → TypeId → List Part) → List StructEntry → ℕ → Bool → Shape → List Part
parts_by_shape inner es object in_array (s.Array k t n) = headed object form.Array in_array (inner true t)
parts_by_shape inner es object in_array (s.Struct k id) = headed object (form.Struct id) in_array (parts_of_members (inner in_array) (entry_of es id).members)
parts_by_shape inner es object in_array (s.Pointer k t) = headed object form.Pointer in_array []
parts_by_shape inner es object in_array (s.Integer k kind) = headed object form.Number in_array []
parts_by_shape inner es object in_array shape = headed object form.Other in_array []

-- the parts of an object of a type; types stand at most so deep in one another, and what is deeper is one part
abbrev pub parts_of : List Shape → List StructEntry → ℕ → ℕ → Bool → TypeId → List Part
parts_of ss es object zero in_array t = headed object form.Other in_array []
parts_of ss es object (suc depth) in_array t = parts_by_shape (parts_of ss es object depth) es object in_array (shape_of ss t)
