-- Comparisons of which an operand is no integer (C17 6.5.8, 6.5.9), and `&&` and `||`: C44 and C45.
use Rattle.std.specs.Prelude.{Bool, ◌&&◌, ◌||◌, List, if◌then◌else◌}
use Rattle.cc_types.specs.declared.shape.Shape.{Shape}
use Rattle.cc_types.specs.declared.expr_type.ExprType.{ExprType}
use Rattle.cc_types.specs.Asked.{point_alike}
use Rattle.cc_judging.specs.declared.judged.Judged.{Judged}
use Rattle.cc_judging.specs.declared.judged.Judged.TheVariants.{Breaks}
use Rattle.cc_judging.specs.declared.judged.Part.TheVariants.{Whole, First, Second}
use Rattle.cc_judging.specs.Judging.{int_or_breaks}
use Rattle.cc_judging.specs.Asking.{is_pointer, is_scalar, points_to_object}

-- two pointers to the same object type, const aside
abbrev pub order_judged : List Shape → ExprType → ExprType → Judged
order_judged ss s t = int_or_breaks (points_to_object ss s && point_alike ss s t) 44 Whole

-- a pointer and a null constant, or two pointers to the same type, const aside
abbrev pub equality_judged : List Shape → ExprType → Bool → ExprType → Bool → Judged
equality_judged ss s m t n = int_or_breaks (is_pointer ss s && n || m && is_pointer ss t || point_alike ss s t) 44 Whole

abbrev pub logical_judged : List Shape → ExprType → ExprType → Judged
logical_judged ss s t = if is_scalar ss s then int_or_breaks (is_scalar ss t) 45 Second else Breaks 45 First
