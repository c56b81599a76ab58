-- The types of C as plain trees (C17 6.2.5). A first field of each says whether the type is const.
use Rattle.std.specs.Prelude.{ℕ, Bool, true, false, ◌||◌, Option}
use Rattle.cc_arith.specs.declared.kind.IntKind.{IntKind}
use Rattle.cc_tree.specs.declared.ids.StructId.{StructId}

pub data CTypeTree : Type 0 where
  void : Bool → CTypeTree
  integer_of : Bool → IntKind → CTypeTree
  pointer_to : Bool → CTypeTree → CTypeTree
  -- The type of the elements, and how many they are where it is known. Const at an array is const at its elements (6.7.3,
  -- paragraph 9): it is written at the array, and the type of the elements is written without it.
  array_of : Bool → CTypeTree → Option ℕ → CTypeTree
  -- A function without parameters, by the type of its result, and a function with one parameter more, before those of the
  -- other. A function type is never const (6.7.3, paragraph 9), and const at the top of a result or of a parameter says
  -- nothing in it (6.7.6.3, paragraphs 5 and 15): it is written without it.
  returning : CTypeTree → CTypeTree
  taking : CTypeTree → CTypeTree → CTypeTree
  struct_by : Bool → StructId → CTypeTree

-- whether a type is const
abbrev pub has_const : CTypeTree → Bool
has_const (void k) = k
has_const (integer_of k kind) = k
has_const (pointer_to k t) = k
has_const (array_of k t n) = k
has_const (struct_by k id) = k
has_const t = false

-- the same type, const or not
abbrev pub with_const : Bool → CTypeTree → CTypeTree
with_const k (void j) = void k
with_const k (integer_of j kind) = integer_of k kind
with_const k (pointer_to j t) = pointer_to k t
with_const k (array_of j t n) = array_of k t n
with_const k (struct_by j id) = struct_by k id
with_const k t = t

abbrev pub is_function : CTypeTree → Bool
is_function (returning t) = true
is_function (taking t f) = true
is_function t = false

abbrev pub is_array : CTypeTree → Bool
is_array (array_of k t n) = true
is_array t = false

-- the types that a declarator makes of another (6.7.6.2, 6.7.6.3)
abbrev pub array_from : CTypeTree → Option ℕ → CTypeTree
array_from t n = array_of (has_const t) (with_const false t) n

abbrev pub function_to : CTypeTree → CTypeTree
function_to t = returning (with_const false t)

abbrev pub function_taking : CTypeTree → CTypeTree → CTypeTree
function_taking t f = taking (with_const false t) f

-- The type of a parameter that is declared with this type (6.7.6.3, paragraphs 7 and 8): of an array a pointer to its
-- elements, which are const where the array is; of a function a pointer to it; else the same.
abbrev pub adjusted_from : CTypeTree → CTypeTree
adjusted_from (array_of k t n) = pointer_to false (with_const (k || has_const t) t)
adjusted_from (returning t) = pointer_to false (returning t)
adjusted_from (taking t f) = pointer_to false (taking t f)
adjusted_from t = t
