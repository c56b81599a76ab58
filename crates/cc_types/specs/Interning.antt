-- How the list of a table's shapes grows, and how it is read.
use Rattle.std.specs.Prelude.{ℕ, Bool, true, false, not, ◌&&◌, ◌||◌, nat_lt, List, length, Option, slice_index_or, if◌then◌else◌}
use Rattle.std.specs.List.{position_or_len}
use Rattle.indexmap.specs.IndexSet.{insert_key}
use Rattle.cc_types.specs.declared.shape.Shape.{Shape}
use Rattle.cc_types.specs.declared.shape.Shape.TheVariants as s
use Rattle.cc_types.specs.declared.shape.TypeId.{TypeId}
use Rattle.cc_types.specs.contracts.shape.ShapePartialEq.TheImpl as derived

-- the test of two shapes that the table makes
abbrev pub same_shape : Shape → Shape → Bool
same_shape = derived.eq-value.it

abbrev pub numbered : ℕ → TypeId
numbered x = record { 0 = x }

-- whether a shape is const
abbrev pub is_const : Shape → Bool
is_const (s.Void k) = k
is_const (s.Integer k kind) = k
is_const (s.Pointer k t) = k
is_const (s.Array k t n) = k
is_const (s.Struct k id) = k
is_const a = false

-- the same shape, const or not
abbrev pub with_const : Bool → Shape → Shape
with_const k (s.Void j) = s.Void k
with_const k (s.Integer j kind) = s.Integer k kind
with_const k (s.Pointer j t) = s.Pointer k t
with_const k (s.Array j t n) = s.Array k t n
with_const k (s.Struct j id) = s.Struct k id
with_const k a = a

abbrev pub is_function : Shape → Bool
is_function (s.Function t) = true
is_function (s.Takes t f) = true
is_function a = false

-- the shape of a type, and void past the end
abbrev pub shape_of : List Shape → TypeId → Shape
shape_of ss id = slice_index_or ss id.0 (s.Void false)

-- there is a type of this number, and it isn't const
abbrev pub is_bare_in : List Shape → TypeId → Bool
is_bare_in ss id = nat_lt id.0 (length ss) && not (is_const (shape_of ss id))

-- there is a function type of this number
abbrev pub is_function_in : List Shape → TypeId → Bool
is_function_in ss id = nat_lt id.0 (length ss) && is_function (shape_of ss id)

-- whether what the shape is made of is there, and written as it is to be
abbrev pub is_made : List Shape → Shape → Bool
is_made ss (s.Pointer k t) = nat_lt t.0 (length ss)
is_made ss (s.Array k t n) = is_bare_in ss t
is_made ss (s.Function t) = is_bare_in ss t
is_made ss (s.Takes t f) = is_bare_in ss t && is_function_in ss f
is_made ss a = true

abbrev pub made_or_void : List Shape → Shape → Shape
made_or_void ss a = if is_made ss a then a else s.Void false

-- the table with this shape, and its number
abbrev pub interned_at : List Shape → Shape → List Shape × TypeId
interned_at ss a = (insert_key same_shape ss a, numbered (position_or_len (same_shape a) ss))

abbrev pub interned : List Shape → Shape → List Shape × TypeId
interned ss a = interned_at ss (made_or_void ss a)

-- the table with the type of number t, but not const, and with what is made of that type
abbrev pub made_of_bare : (TypeId → Shape) → List Shape → TypeId → List Shape × TypeId
made_of_bare make ss t = let p = interned ss (with_const false (shape_of ss t)) in interned p.0 (make p.1)

-- The types that a declarator makes (C17 6.7.6.2, 6.7.6.3): const at an element is written at the array, and const at the
-- top of a result or of a parameter is not written.
abbrev pub array_made : List Shape → TypeId → Option ℕ → List Shape × TypeId
array_made ss t n = made_of_bare (λ id. s.Array (is_const (shape_of ss t)) id n) ss t

abbrev pub function_made : List Shape → TypeId → List Shape × TypeId
function_made ss t = made_of_bare s.Function ss t

abbrev pub taking_made : List Shape → TypeId → TypeId → List Shape × TypeId
taking_made ss t f = made_of_bare (λ id. s.Takes id f) ss t

-- the type of this number, and const too where that is to be
abbrev pub const_made : List Shape → Bool → TypeId → List Shape × TypeId
const_made ss k t = interned ss (with_const (k || is_const (shape_of ss t)) (shape_of ss t))

-- a pointer to the type of this number, const where that is to be
abbrev pub pointer_made : List Shape → Bool → TypeId → List Shape × TypeId
pointer_made ss k t = let p = const_made ss k t in interned p.0 (s.Pointer false p.1)

abbrev pub adjusted_by : List Shape → TypeId → Shape → List Shape × TypeId
adjusted_by ss t (s.Array k u n) = pointer_made ss k u
adjusted_by ss t (s.Function u) = interned ss (s.Pointer false t)
adjusted_by ss t (s.Takes u f) = interned ss (s.Pointer false t)
adjusted_by ss t a = (ss, t)

-- The type of a parameter that is declared with this type (C17 6.7.6.3): of an array a pointer to its elements, which are
-- const where the array is; of a function a pointer to it; else the same.
abbrev pub adjusted : List Shape → TypeId → List Shape × TypeId
adjusted ss t = adjusted_by ss t (shape_of ss t)
