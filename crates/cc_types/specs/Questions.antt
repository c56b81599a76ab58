-- What rules ask of types.
use Rattle.std.specs.Prelude.{Bool, true, false, not, ◌&&◌, ◌||◌, ℕ, Option, Some, None, option_map}
use Rattle.cc_arith.specs.declared.kind.IntKind.{IntKind}
use Rattle.cc_arith.specs.Promotions.{promoted, common_of}
use Rattle.cc_types.specs.CTypes.{CTypeTree, void, integer_of, pointer_to, array_of, returning, taking, has_const, with_const, is_array}
use Rattle.cc_types.specs.SameTypes.{same_type, same_flag}

-- The type of the value of an expression of this type (C17 6.3.2.1): an array becomes a pointer to its first element, which
-- is const where the array is, a function a pointer to it, and another value is never const.
abbrev pub value_type : CTypeTree → CTypeTree
value_type (array_of k t n) = pointer_to false (with_const k t)
value_type (returning t) = pointer_to false (returning t)
value_type (taking t f) = pointer_to false (taking t f)
value_type t = with_const false t

-- The same type, const aside (6.2.5, paragraph 26). An array type itself is never const, only its elements are (6.7.3,
-- paragraph 9), so it stays.
abbrev pub unqualified : CTypeTree → CTypeTree
unqualified (array_of k t n) = array_of k t n
unqualified t = with_const false t

-- the same type with a const, if there is one to be added
abbrev pub also_const : Bool → CTypeTree → CTypeTree
also_const k t = with_const (k || has_const t) t

abbrev pub kind_of : CTypeTree → Option IntKind
kind_of (integer_of k kind) = Some kind
kind_of t = None

-- the kind of an operand after the integer promotions (6.3.1.1)
abbrev pub promoted_kind : CTypeTree → Option IntKind
promoted_kind t = option_map promoted (kind_of t)

abbrev pub common_of_kinds : Option IntKind → Option IntKind → Option IntKind
common_of_kinds (Some a) (Some b) = Some (common_of a b)
common_of_kinds a b = None

-- the kind that the usual arithmetic conversions give two integers (6.3.1.8)
abbrev pub common_kind : CTypeTree → CTypeTree → Option IntKind
common_kind s t = common_of_kinds (kind_of s) (kind_of t)

-- what a pointer points to
abbrev pub pointee_of : CTypeTree → Option CTypeTree
pointee_of (pointer_to k t) = Some t
pointee_of t = None

abbrev pub is_void : CTypeTree → Bool
is_void (void k) = true
is_void t = false

abbrev pub is_integer : CTypeTree → Bool
is_integer (integer_of k kind) = true
is_integer t = false

abbrev pub is_pointer : CTypeTree → Bool
is_pointer (pointer_to k t) = true
is_pointer t = false

-- 6.2.5, paragraph 21
abbrev pub is_scalar : CTypeTree → Bool
is_scalar (integer_of k kind) = true
is_scalar (pointer_to k t) = true
is_scalar t = false

-- neither a function type nor void; it may be incomplete
abbrev pub is_object : CTypeTree → Bool
is_object (void k) = false
is_object (returning t) = false
is_object (taking t f) = false
is_object t = true

abbrev pub is_object_if_some : Option CTypeTree → Bool
is_object_if_some (Some t) = is_object t
is_object_if_some None = false

abbrev pub points_to_object : CTypeTree → Bool
points_to_object t = is_object_if_some (pointee_of t)

-- the same type, const aside
abbrev pub same_unqualified : CTypeTree → CTypeTree → Bool
same_unqualified s t = same_type (unqualified s) (unqualified t)

-- a test of what two pointers point to
abbrev pub if_both : (CTypeTree → CTypeTree → Bool) → Option CTypeTree → Option CTypeTree → Bool
if_both test (Some s) (Some t) = test s t
if_both test s t = false

-- two pointers to the same type
abbrev pub point_at_one : CTypeTree → CTypeTree → Bool
point_at_one s t = if_both same_type (pointee_of s) (pointee_of t)

-- two pointers to the same type, const aside
abbrev pub point_alike : CTypeTree → CTypeTree → Bool
point_alike s t = if_both same_unqualified (pointee_of s) (pointee_of t)

-- the second type is the first, or the first with a const added, which an array type can't have
abbrev pub is_or_gains_const : CTypeTree → CTypeTree → Bool
is_or_gains_const s t = same_type s t || not (is_array s) && same_type (with_const true s) t

-- two pointers to the same type, where the second's pointee may have an added const
abbrev pub may_point_at : CTypeTree → CTypeTree → Bool
may_point_at s t = if_both is_or_gains_const (pointee_of s) (pointee_of t)

-- A value of the first type, which may be a null constant, fits the second, structs left out: both are integer types, or
-- pointers to the same type where the target's pointee may have an added const, or the target is a pointer and the value a
-- null constant.
abbrev pub fits_scalar : CTypeTree → Bool → CTypeTree → Bool
fits_scalar s is_null t = is_integer s && is_integer t || may_point_at s t || is_null && is_pointer t

-- one of the lengths of two arrays isn't known
abbrev pub lacks_length : Option ℕ → Option ℕ → Bool
lacks_length (Some m) (Some n) = false
lacks_length m n = true

-- two arrays of the same elements, one of them without a length
abbrev pub alike_but_length : CTypeTree → CTypeTree → Bool
alike_but_length (array_of k t m) (array_of j u n) = same_flag k j && same_type t u && lacks_length m n
alike_but_length s t = false

-- Declarations of one object or function may have these two types: they are the same, or arrays of the same elements, one
-- of them without a length. Function types of which only the const of parameters and results differ are one type here
-- (6.7.6.3, paragraph 15).
abbrev pub compatible : CTypeTree → CTypeTree → Bool
compatible s t = same_type s t || alike_but_length s t

-- the type of what both declare: the one with the length
abbrev pub composed : CTypeTree → CTypeTree → CTypeTree
composed (array_of k t None) u = u
composed s t = s
