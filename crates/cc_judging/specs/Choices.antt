-- `?:` and the comma operator (C17 6.5.15, 6.5.17): C32 and C48.
use Rattle.std.specs.Prelude.{Bool, false, ◌&&◌, ◌||◌, List, Option, Some, None, if◌then◌else◌}
use Rattle.cc_arith.specs.declared.kind.IntKind.{IntKind}
use Rattle.cc_arith.specs.Promotions.{common_of}
use Rattle.cc_types.specs.declared.shape.Shape.{Shape}
use Rattle.cc_types.specs.declared.shape.Shape.TheVariants.{Void}
use Rattle.cc_types.specs.declared.expr_type.ExprType.{ExprType}
use Rattle.cc_types.specs.declared.expr_type.ExprType.TheVariants.{Plain}
use Rattle.cc_types.specs.Asked.{value_in, point_at_one}
use Rattle.cc_judging.specs.declared.judged.Judged.{Judged}
use Rattle.cc_judging.specs.declared.judged.Judged.TheVariants.{Typed, Breaks, Untyped}
use Rattle.cc_judging.specs.declared.judged.Part.TheVariants.{Whole, First}
use Rattle.cc_judging.specs.Judging.{typed_integer, or_breaks}
use Rattle.cc_judging.specs.Asking.{kind_in, is_void, is_pointer, is_scalar}

-- branches of which one is no integer: two void, two pointers to the same type, or a pointer and a null constant
abbrev pub others_judged : List Shape → ExprType → Bool → ExprType → Bool → Judged
others_judged ss s m t n =
    if is_void ss s && is_void ss t then Typed (Plain (Void false))
    else if point_at_one ss s t || is_pointer ss s && n then Typed s
    else or_breaks (m && is_pointer ss t) t 48 Whole

abbrev pub of_kinds : Option IntKind → Option IntKind → Judged → Judged
of_kinds (Some j) (Some k) other = typed_integer (common_of j k)
of_kinds j k other = other

abbrev pub branches_judged : List Shape → ExprType → Bool → ExprType → Bool → Judged
branches_judged ss s m t n = of_kinds (kind_in ss s) (kind_in ss t) (others_judged ss s m t n)

abbrev pub chosen : List Shape → ExprType → ExprType → Bool → ExprType → Bool → Judged
chosen ss c s m t n = if is_scalar ss (value_in ss c) then branches_judged ss s m t n else Breaks 32 First

abbrev pub choice_judged : List Shape → Option ExprType → Option ExprType → Bool → Option ExprType → Bool → Judged
choice_judged ss (Some c) (Some s) m (Some t) n = chosen ss c (value_in ss s) m (value_in ss t) n
choice_judged ss c s m t n = Untyped

abbrev pub comma_judged : List Shape → Option ExprType → Option ExprType → Judged
comma_judged ss (Some s) (Some t) = Typed (value_in ss t)
comma_judged ss s t = Untyped
