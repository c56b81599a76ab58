-- Which types the shapes of a table stand for.
use Rattle.std.specs.Prelude.{ℕ, ◌<◌, ◌≤◌, ◌≡◌, Bool, true, false, not, ◌&&◌, nat_lt, List, [], ◌∷◌, ◌++◌, length, slice_index_or}
use Rattle.cc_types.specs.CTypes.{CTypeTree, void, integer_of, pointer_to, array_of, returning, taking, struct_by, has_const, is_function}
use Rattle.cc_types.specs.declared.shape.Shape.{Shape}
use Rattle.cc_types.specs.declared.shape.Shape.TheVariants as s
use Rattle.cc_types.specs.declared.shape.TypeId.{TypeId}

-- type number i of these, and void past their end
abbrev pub type_number : List CTypeTree → ℕ → CTypeTree
type_number ts i = slice_index_or ts i (void false)

abbrev pub type_at : List CTypeTree → TypeId → CTypeTree
type_at ts id = type_number ts id.0

-- the type of a shape that is made of these types
abbrev pub built : List CTypeTree → Shape → CTypeTree
built ts (s.Void k) = void k
built ts (s.Integer k kind) = integer_of k kind
built ts (s.Pointer k t) = pointer_to k (type_at ts t)
built ts (s.Array k t n) = array_of k (type_at ts t) n
built ts (s.Function t) = returning (type_at ts t)
built ts (s.Takes t f) = taking (type_at ts t) (type_at ts f)
built ts (s.Struct k id) = struct_by k id

-- the types, and then those of the shapes, each made of what stands before it
abbrev pub types_from : List CTypeTree → List Shape → List CTypeTree
types_from ts [] = ts
types_from ts (a ∷ ss) = types_from (ts ++ built ts a ∷ []) ss

abbrev pub types_of : List Shape → List CTypeTree
types_of ss = types_from [] ss

-- there is a type of this number, and it isn't const
abbrev pub is_bare : List CTypeTree → TypeId → Bool
is_bare ts id = nat_lt id.0 (length ts) && not (has_const (type_at ts id))

-- there is a function type of this number
abbrev pub is_function_number : List CTypeTree → TypeId → Bool
is_function_number ts id = nat_lt id.0 (length ts) && is_function (type_at ts id)

-- What the shape is made of is there, and written as it is to be: without const at the top of elements, results and
-- parameters.
abbrev pub is_sound : List CTypeTree → Shape → Bool
is_sound ts (s.Pointer k t) = nat_lt t.0 (length ts)
is_sound ts (s.Array k t n) = is_bare ts t
is_sound ts (s.Function t) = is_bare ts t
is_sound ts (s.Takes t f) = is_bare ts t && is_function_number ts f
is_sound ts a = true

abbrev pub IsSound : List CTypeTree → Shape → Type 0
IsSound ts a = is_sound ts a ≡ true

abbrev pub are_sound : List CTypeTree → List Shape → Bool
are_sound ts [] = true
are_sound ts (a ∷ ss) = is_sound ts a && are_sound (ts ++ built ts a ∷ []) ss

-- no type stands twice
abbrev pub IsEachOnce : List CTypeTree → Type 0
IsEachOnce ts = (i j : ℕ) → i < length ts → j < length ts → type_number ts i ≡ type_number ts j → i ≡ j

-- a table of types: each stands once, made of earlier ones
pub record IsTable (ss : List Shape) : Type 0 where
  pub sound : are_sound [] ss ≡ true
  pub once : IsEachOnce (types_of ss)

-- more types, or the same; the earlier ones stay
pub record Extends (old new : List CTypeTree) : Type 0 where
  pub longer : length old ≤ length new
  pub same : (i : ℕ) → i < length old → type_number new i ≡ type_number old i
