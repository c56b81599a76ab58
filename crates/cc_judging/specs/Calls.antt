-- Calls (C17 6.5.2.2): C36 and C37.
use Rattle.std.specs.Prelude.{List, Option, Some, None, if◌then◌else◌}
use Rattle.cc_types.specs.declared.shape.Shape.{Shape}
use Rattle.cc_types.specs.declared.shape.Shape.TheVariants as s
use Rattle.cc_types.specs.declared.expr_type.ExprType.{ExprType}
use Rattle.cc_types.specs.declared.expr_type.ExprType.TheVariants.{Plain}
use Rattle.cc_types.specs.Interning.{shape_of, is_function}
use Rattle.cc_types.specs.Asked.{value_in, pointee_in}
use Rattle.cc_judging.specs.declared.judged.Judged.{Judged}
use Rattle.cc_judging.specs.declared.judged.Judged.TheVariants.{Typed, Breaks, Untyped}
use Rattle.cc_judging.specs.declared.judged.Part.TheVariants.{Whole}
use Rattle.cc_judging.specs.declared.calls.Passing.{Passing}
use Rattle.cc_judging.specs.declared.calls.Passing.TheVariants as p

abbrev pub left_of : Shape → Passing
left_of a = if is_function a then p.Left a else p.NoFunction

abbrev pub left_of_some : Option Shape → Passing
left_of_some (Some a) = left_of a
left_of_some None = p.NoFunction

abbrev pub designated : List Shape → ExprType → Passing
designated ss t = left_of_some (pointee_in ss t)

-- a call before its arguments
abbrev pub called : List Shape → Option ExprType → Passing
called ss (Some t) = designated ss (value_in ss t)
called ss None = p.Unknown

-- the type of the next parameter
abbrev pub parameter : List Shape → Passing → Option ExprType
parameter ss (p.Left (s.Takes t f)) = Some (Plain (shape_of ss t))
parameter ss state = None

abbrev pub passed_one : List Shape → Passing → Passing
passed_one ss (p.Left (s.Takes t f)) = p.Left (shape_of ss f)
passed_one ss (p.Left a) = p.Beyond
passed_one ss state = state

-- the call after one argument more
abbrev pub pass_one : List Shape → Passing → Option ExprType → Passing
pass_one ss state (Some t) = passed_one ss state
pass_one ss state None = p.Unknown

-- a call after its arguments
abbrev pub call_judged : List Shape → Passing → Judged
call_judged ss p.Unknown = Untyped
call_judged ss p.NoFunction = Breaks 36 Whole
call_judged ss (p.Left (s.Function t)) = Typed (Plain (shape_of ss t))
call_judged ss (p.Left a) = Breaks 37 Whole
call_judged ss p.Beyond = Breaks 37 Whole
