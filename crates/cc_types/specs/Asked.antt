-- What is asked of shapes and of numbers, as a table of types answers it.
use Rattle.std.specs.Prelude.{Bool, true, false, not, ◌&&◌, ◌||◌, nat_eq, List, Option, Some, None, if◌then◌else◌}
use Rattle.cc_types.specs.declared.shape.Shape.{Shape}
use Rattle.cc_types.specs.declared.shape.Shape.TheVariants as s
use Rattle.cc_types.specs.declared.shape.TypeId.{TypeId}
use Rattle.cc_types.specs.declared.expr_type.ExprType.{ExprType}
use Rattle.cc_types.specs.declared.expr_type.ExprType.TheVariants.{Plain, Address}
use Rattle.cc_types.specs.Shapes.{types_of}
use Rattle.cc_types.specs.ExprTypes.{expr_type}
use Rattle.cc_types.specs.Interning.{same_shape, is_const, with_const, shape_of}
use Rattle.cc_types.specs.SameTypes.{same_flag}
use Rattle.cc_types.specs.Questions as types

-- the same shape, const aside; an array's const is that of its elements
abbrev pub unqualified : Shape → Shape
unqualified (s.Array k t n) = s.Array k t n
unqualified a = with_const false a

abbrev pub also_const : Bool → Shape → Shape
also_const k a = with_const (k || is_const a) a

abbrev pub is_array : Shape → Bool
is_array (s.Array k t n) = true
is_array a = false

-- the type of the value of an expression
abbrev pub value_in : List Shape → ExprType → ExprType
value_in ss (Address a) = Address a
value_in ss (Plain (s.Array k t n)) = Address (with_const k (shape_of ss t))
value_in ss (Plain (s.Function t)) = Address (s.Function t)
value_in ss (Plain (s.Takes t f)) = Address (s.Takes t f)
value_in ss (Plain a) = Plain (with_const false a)

-- what a pointer points to
abbrev pub pointee_in : List Shape → ExprType → Option Shape
pointee_in ss (Address a) = Some a
pointee_in ss (Plain (s.Pointer k t)) = Some (shape_of ss t)
pointee_in ss (Plain a) = None

abbrev pub same_unqualified : Shape → Shape → Bool
same_unqualified a b = same_shape (unqualified a) (unqualified b)

abbrev pub is_or_gains_const : Shape → Shape → Bool
is_or_gains_const a b = same_shape a b || not (is_array a) && same_shape (with_const true a) b

-- a test of what two pointers point to
abbrev pub if_both : (Shape → Shape → Bool) → Option Shape → Option Shape → Bool
if_both test (Some a) (Some b) = test a b
if_both test a b = false

abbrev pub point_at_one : List Shape → ExprType → ExprType → Bool
point_at_one ss s t = if_both same_shape (pointee_in ss s) (pointee_in ss t)

abbrev pub point_alike : List Shape → ExprType → ExprType → Bool
point_alike ss s t = if_both same_unqualified (pointee_in ss s) (pointee_in ss t)

abbrev pub may_point_at : List Shape → ExprType → ExprType → Bool
may_point_at ss s t = if_both is_or_gains_const (pointee_in ss s) (pointee_in ss t)

abbrev pub is_integer : List Shape → ExprType → Bool
is_integer ss t = types.is_integer (expr_type (types_of ss) t)

abbrev pub is_pointer : List Shape → ExprType → Bool
is_pointer ss t = types.is_pointer (expr_type (types_of ss) t)

abbrev pub fits_scalar : List Shape → ExprType → Bool → ExprType → Bool
fits_scalar ss s is_null t = is_integer ss s && is_integer ss t || may_point_at ss s t || is_null && is_pointer ss t

abbrev pub same_number : TypeId → TypeId → Bool
same_number a b = nat_eq a.0 b.0

-- two arrays of the same elements, one of them without a length
abbrev pub alike_but_length : Shape → Shape → Bool
alike_but_length (s.Array k t m) (s.Array j u n) = same_flag k j && same_number t u && types.lacks_length m n
alike_but_length a b = false

abbrev pub compatible : List Shape → TypeId → TypeId → Bool
compatible ss a b = same_number a b || alike_but_length (shape_of ss a) (shape_of ss b)

abbrev pub wants_length : Shape → Bool
wants_length (s.Array k t None) = true
wants_length a = false

abbrev pub composed : List Shape → TypeId → TypeId → TypeId
composed ss a b = if wants_length (shape_of ss a) then b else a
