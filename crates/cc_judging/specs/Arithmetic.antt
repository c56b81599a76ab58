-- Operators with two operands (C17 6.5.5 to 6.5.14): C43, and by `Comparisons` C44 and C45.
use Rattle.std.specs.Prelude.{Bool, false, ◌&&◌, List, Option, Some, None, if◌then◌else◌}
use Rattle.cc_arith.specs.declared.kind.IntKind.{IntKind}
use Rattle.cc_arith.specs.declared.kind.IntKind.TheVariants.{Int, Long}
use Rattle.cc_arith.specs.declared.binary_operator.IntOp.{IntOp}
use Rattle.cc_arith.specs.declared.binary_operator.IntOp.TheVariants as o
use Rattle.cc_arith.specs.Promotions.{promoted, common_of}
use Rattle.cc_tree.specs.declared.operator.BinaryOp.{BinaryOp}
use Rattle.cc_tree.specs.declared.operator.BinaryOp.TheVariants as b
use Rattle.cc_types.specs.declared.shape.Shape.{Shape}
use Rattle.cc_types.specs.declared.expr_type.ExprType.{ExprType}
use Rattle.cc_types.specs.Asked.{value_in, point_at_one}
use Rattle.cc_judging.specs.declared.judged.Judged.{Judged}
use Rattle.cc_judging.specs.declared.judged.Judged.TheVariants.{Typed, Breaks, Untyped}
use Rattle.cc_judging.specs.declared.judged.Part.TheVariants.{Whole}
use Rattle.cc_judging.specs.Judging.{an_integer, typed_integer, or_breaks}
use Rattle.cc_judging.specs.Asking.{kind_in, is_integer, points_to_object}
use Rattle.cc_judging.specs.Comparisons.{order_judged, equality_judged, logical_judged}

-- the kind of what an operator gives two integers
abbrev pub kind_of_two : IntOp → IntKind → IntKind → IntKind
kind_of_two o.Shl j k = promoted j
kind_of_two o.Shr j k = promoted j
kind_of_two o.Lt j k = Int
kind_of_two o.Le j k = Int
kind_of_two o.Gt j k = Int
kind_of_two o.Ge j k = Int
kind_of_two o.Eq j k = Int
kind_of_two o.Ne j k = Int
kind_of_two op j k = common_of j k

-- `+`: a pointer to an object and an integer, in either order
abbrev pub sum_judged : List Shape → ExprType → ExprType → Judged
sum_judged ss s t =
    if points_to_object ss s && is_integer ss t then Typed s
    else or_breaks (is_integer ss s && points_to_object ss t) t 43 Whole

-- `-`: a pointer to an object and an integer, or two pointers to the same object type
abbrev pub difference_judged : List Shape → ExprType → ExprType → Judged
difference_judged ss s t =
    if points_to_object ss s && is_integer ss t then Typed s
    else or_breaks (points_to_object ss s && point_at_one ss s t) (an_integer Long) 43 Whole

-- an operator of which an operand is no integer; each may be a null constant
abbrev pub pointers_judged : List Shape → IntOp → ExprType → Bool → ExprType → Bool → Judged
pointers_judged ss o.Add s m t n = sum_judged ss s t
pointers_judged ss o.Sub s m t n = difference_judged ss s t
pointers_judged ss o.Lt s m t n = order_judged ss s t
pointers_judged ss o.Le s m t n = order_judged ss s t
pointers_judged ss o.Gt s m t n = order_judged ss s t
pointers_judged ss o.Ge s m t n = order_judged ss s t
pointers_judged ss o.Eq s m t n = equality_judged ss s m t n
pointers_judged ss o.Ne s m t n = equality_judged ss s m t n
pointers_judged ss op s m t n = Breaks 43 Whole

abbrev pub of_kinds : IntOp → Option IntKind → Option IntKind → Judged → Judged
of_kinds op (Some j) (Some k) other = typed_integer (kind_of_two op j k)
of_kinds op j k other = other

abbrev pub numbers_judged : List Shape → IntOp → ExprType → Bool → ExprType → Bool → Judged
numbers_judged ss op s m t n = of_kinds op (kind_in ss s) (kind_in ss t) (pointers_judged ss op s m t n)

abbrev pub values_judged : List Shape → BinaryOp → ExprType → Bool → ExprType → Bool → Judged
values_judged ss (b.Int op) s m t n = numbers_judged ss op s m t n
values_judged ss b.AndAnd s m t n = logical_judged ss s t
values_judged ss b.OrOr s m t n = logical_judged ss s t

abbrev pub binary_judged : List Shape → BinaryOp → Option ExprType → Bool → Option ExprType → Bool → Judged
binary_judged ss op (Some s) m (Some t) n = values_judged ss op (value_in ss s) m (value_in ss t) n
binary_judged ss op s m t n = Untyped
