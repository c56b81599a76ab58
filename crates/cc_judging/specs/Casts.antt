-- Casts and sizes (C17 6.5.3.4, 6.5.4): C49 and C50.
use Rattle.std.specs.Prelude.{Bool, true, false, ◌||◌, List, Option, Some, None, if◌then◌else◌}
use Rattle.cc_arith.specs.declared.kind.IntKind.TheVariants.{ULong}
use Rattle.cc_types.specs.declared.shape.Shape.{Shape}
use Rattle.cc_types.specs.declared.shape.Shape.TheVariants as s
use Rattle.cc_types.specs.declared.shape.TypeId.{TypeId}
use Rattle.cc_types.specs.declared.structs.StructEntry.{StructEntry}
use Rattle.cc_types.specs.declared.expr_type.ExprType.{ExprType}
use Rattle.cc_types.specs.declared.expr_type.ExprType.TheVariants.{Plain, Address}
use Rattle.cc_types.specs.Interning.{shape_of, with_const}
use Rattle.cc_types.specs.Asked.{value_in}
use Rattle.cc_judging.specs.declared.judged.Judged.{Judged}
use Rattle.cc_judging.specs.declared.judged.Judged.TheVariants.{Typed, Breaks, Untyped}
use Rattle.cc_judging.specs.declared.judged.Part.TheVariants.{Whole}
use Rattle.cc_judging.specs.Judging.{typed_integer}
use Rattle.cc_judging.specs.Asking.{is_integer, is_complete}

-- from anything to void, or from integer to integer
abbrev pub may_be_cast : List Shape → Shape → ExprType → Bool
may_be_cast ss (s.Void k) t = true
may_be_cast ss (s.Integer k kind) t = is_integer ss t
may_be_cast ss a t = false

abbrev pub cast_to : List Shape → Shape → Bool → ExprType → Judged
cast_to ss a is_null t =
    if is_null || may_be_cast ss a t then Typed (Plain (with_const false a)) else Breaks 49 Whole

-- a cast to the type of this number, which may make a null constant
abbrev pub cast_judged : List Shape → Option TypeId → Bool → Option ExprType → Judged
cast_judged ss (Some id) is_null (Some t) = cast_to ss (shape_of ss id) is_null (value_in ss t)
cast_judged ss id is_null t = Untyped

-- a complete object type
abbrev pub size_of_shape : List Shape → List StructEntry → Shape → Judged
size_of_shape ss es a = if is_complete ss es a then typed_integer ULong else Breaks 50 Whole

abbrev pub size_judged : List Shape → List StructEntry → Option ExprType → Judged
size_judged ss es (Some (Plain a)) = size_of_shape ss es a
size_judged ss es (Some (Address a)) = typed_integer ULong
size_judged ss es None = Untyped
