-- Names and constants (C17 6.5.1).
use Rattle.std.specs.Prelude.{ℕ, false, List, Option, Some, None}
use Rattle.cc_arith.specs.declared.kind.IntKind.TheVariants.{Int}
use Rattle.cc_symbols.specs.declared.declared.Declared.{Declared}
use Rattle.cc_symbols.specs.declared.declared.Form.{Form}
use Rattle.cc_symbols.specs.declared.declared.Form.TheVariants as form
use Rattle.cc_types.specs.declared.shape.Shape.{Shape}
use Rattle.cc_types.specs.declared.shape.Shape.TheVariants.{Array}
use Rattle.cc_types.specs.declared.shape.TypeId.{TypeId}
use Rattle.cc_types.specs.declared.expr_type.ExprType.{ExprType}
use Rattle.cc_types.specs.declared.expr_type.ExprType.TheVariants.{Plain}
use Rattle.cc_types.specs.Interning.{numbered, shape_of}
use Rattle.cc_judging.specs.declared.judged.Judged.{Judged}
use Rattle.cc_judging.specs.declared.judged.Judged.TheVariants.{Typed, Untyped}
use Rattle.cc_judging.specs.Judging.{typed_integer}

abbrev pub of_kind : List Shape → Option TypeId → Judged
of_kind ss (Some id) = Typed (Plain (shape_of ss id))
of_kind ss None = Untyped

-- an enumeration constant is an `int`; a typedef name is no expression
abbrev pub named_judged : List Shape → Form → Option TypeId → Judged
named_judged ss (form.Constant v) t = typed_integer Int
named_judged ss (form.Object life) t = of_kind ss t
named_judged ss form.Function t = of_kind ss t
named_judged ss form.Typedef t = Untyped

abbrev pub name_judged : List Shape → Option Declared → Judged
name_judged ss (Some d) = named_judged ss d.form d.kind
name_judged ss None = Untyped

-- a string literal is an array of `char`, which is the first type of a table (6.4.5, paragraph 6)
abbrev pub string_judged : ℕ → Judged
string_judged n = Typed (Plain (Array false (numbered 0) (Some n)))

-- parentheses
abbrev pub paren_judged : Option ExprType → Judged
paren_judged (Some t) = Typed t
paren_judged None = Untyped
