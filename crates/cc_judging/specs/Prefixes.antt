-- Prefix operators (C17 6.5.3): C40, C41 and C42.
use Rattle.std.specs.Prelude.{Bool, ◌||◌, List, Option, Some, None}
use Rattle.cc_arith.specs.declared.kind.IntKind.{IntKind}
use Rattle.cc_arith.specs.declared.unary_operator.IntUnary.{IntUnary}
use Rattle.cc_arith.specs.declared.unary_operator.IntUnary.TheVariants as iu
use Rattle.cc_tree.specs.declared.operator.UnaryOp.{UnaryOp}
use Rattle.cc_tree.specs.declared.operator.UnaryOp.TheVariants as u
use Rattle.cc_types.specs.declared.shape.Shape.{Shape}
use Rattle.cc_types.specs.declared.structs.StructEntry.{StructEntry}
use Rattle.cc_types.specs.declared.expr_type.ExprType.{ExprType}
use Rattle.cc_types.specs.declared.expr_type.ExprType.TheVariants.{Plain, Address}
use Rattle.cc_types.specs.Interning.{is_function}
use Rattle.cc_types.specs.Asked.{value_in, pointee_in}
use Rattle.cc_judging.specs.declared.judged.Judged.{Judged}
use Rattle.cc_judging.specs.declared.judged.Judged.TheVariants.{Breaks, Untyped}
use Rattle.cc_judging.specs.declared.judged.Part.TheVariants.{First}
use Rattle.cc_judging.specs.Judging.{typed_integer, or_breaks, int_or_breaks}
use Rattle.cc_judging.specs.Asking.{promoted_in, is_scalar, is_complete}

-- the operand is an lvalue or a function; no lvalue has a type that is an address alone
abbrev pub address_judged : Bool → ExprType → Judged
address_judged place (Plain a) = or_breaks (place || is_function a) (Address a) 42 First
address_judged place (Address a) = Breaks 42 First

-- a function, or an object of a complete type
abbrev pub pointed_at : List Shape → List StructEntry → Shape → Judged
pointed_at ss es a = or_breaks (is_function a || is_complete ss es a) (Plain a) 41 First

abbrev pub pointed_at_some : List Shape → List StructEntry → Option Shape → Judged
pointed_at_some ss es (Some a) = pointed_at ss es a
pointed_at_some ss es None = Breaks 41 First

abbrev pub dereferenced : List Shape → List StructEntry → ExprType → Judged
dereferenced ss es t = pointed_at_some ss es (pointee_in ss t)

abbrev pub of_promoted : Option IntKind → Judged
of_promoted (Some k) = typed_integer k
of_promoted None = Breaks 40 First

abbrev pub promoted_judged : List Shape → ExprType → Judged
promoted_judged ss t = of_promoted (promoted_in ss t)

abbrev pub int_unary_judged : List Shape → IntUnary → ExprType → Judged
int_unary_judged ss iu.Not t = int_or_breaks (is_scalar ss t) 40 First
int_unary_judged ss op t = promoted_judged ss t

abbrev pub prefixed : List Shape → List StructEntry → UnaryOp → Bool → ExprType → Judged
prefixed ss es u.Address place t = address_judged place t
prefixed ss es u.Deref place t = dereferenced ss es (value_in ss t)
prefixed ss es (u.Int op) place t = int_unary_judged ss op (value_in ss t)

abbrev pub unary_judged : List Shape → List StructEntry → UnaryOp → Bool → Option ExprType → Judged
unary_judged ss es op place (Some t) = prefixed ss es op place t
unary_judged ss es op place None = Untyped
