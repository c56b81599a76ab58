-- Assignments and steps (C17 6.5.2.4, 6.5.3.1, 6.5.16): C38, C39 and C51.
use Rattle.std.specs.Prelude.{Bool, false, not, ◌&&◌, ◌||◌, List, Option, Some, None, if◌then◌else◌}
use Rattle.cc_tree.specs.declared.operator.AssignOp.{AssignOp}
use Rattle.cc_tree.specs.declared.operator.AssignOp.TheVariants as op
use Rattle.cc_types.specs.declared.shape.Shape.{Shape}
use Rattle.cc_types.specs.declared.shape.Shape.TheVariants as s
use Rattle.cc_types.specs.declared.structs.StructEntry.{StructEntry}
use Rattle.cc_types.specs.declared.expr_type.ExprType.{ExprType}
use Rattle.cc_types.specs.declared.expr_type.ExprType.TheVariants.{Plain, Address}
use Rattle.cc_types.specs.Asked.{value_in}
use Rattle.cc_types.specs.Structs.{fits_in}
use Rattle.cc_judging.specs.declared.judged.Judged.{Judged}
use Rattle.cc_judging.specs.declared.judged.Judged.TheVariants.{Typed, Breaks, Misfits, Untyped}
use Rattle.cc_judging.specs.declared.judged.Part.TheVariants.{Whole}
use Rattle.cc_judging.specs.Judging.{or_breaks}
use Rattle.cc_judging.specs.Asking.{is_integer, points_to_object}

-- a scalar or a struct, and not const; no lvalue has a type that is an address alone
abbrev pub is_assignable : ExprType → Bool
is_assignable (Plain (s.Integer k kind)) = not k
is_assignable (Plain (s.Pointer k t)) = not k
is_assignable (Plain (s.Struct k id)) = not k
is_assignable t = false

-- `=`: the value fits
abbrev pub plain_judged : List Shape → List StructEntry → ExprType → ExprType → Bool → Judged
plain_judged ss es s t n = if fits_in ss es t n s then Typed s else Misfits s

-- `+=`, `-=` and the steps: two integers, or a pointer to an object with an integer
abbrev pub moved_judged : List Shape → ExprType → ExprType → Judged
moved_judged ss s t = or_breaks ((is_integer ss s || points_to_object ss s) && is_integer ss t) s 51 Whole

-- the other compound assignments: two integers
abbrev pub computed_judged : List Shape → ExprType → ExprType → Judged
computed_judged ss s t = or_breaks (is_integer ss s && is_integer ss t) s 51 Whole

abbrev pub stored : List Shape → List StructEntry → AssignOp → ExprType → ExprType → Bool → Judged
stored ss es op.Plain s t n = plain_judged ss es s t n
stored ss es op.Add s t n = moved_judged ss s t
stored ss es op.Sub s t n = moved_judged ss s t
stored ss es other s t n = computed_judged ss s t

-- the target is an lvalue that may be assigned
abbrev pub assigned : List Shape → List StructEntry → AssignOp → Bool → ExprType → ExprType → Bool → Judged
assigned ss es op place s t n =
    if place && is_assignable s then stored ss es op (value_in ss s) t n else Breaks 39 Whole

abbrev pub assign_judged : List Shape → List StructEntry → AssignOp → Bool → Option ExprType → Option ExprType → Bool → Judged
assign_judged ss es op place (Some s) (Some t) n = assigned ss es op place s (value_in ss t) n
assign_judged ss es op place s t n = Untyped

abbrev pub step_value : List Shape → ExprType → Judged
step_value ss t = or_breaks (is_integer ss t || points_to_object ss t) t 51 Whole

abbrev pub stepped : List Shape → Bool → ExprType → Judged
stepped ss place t = if place && is_assignable t then step_value ss (value_in ss t) else Breaks 39 Whole

abbrev pub step_judged : List Shape → Bool → Option ExprType → Judged
step_judged ss place (Some t) = stepped ss place t
step_judged ss place None = Untyped
