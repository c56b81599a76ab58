-- The rules of operators in terms of types (C17 6.5.3, 6.5.5 to 6.5.17).
use Rattle.std.specs.Prelude.{Bool, true, false, not, ◌&&◌, ◌||◌, List, Option, Some, None, if◌then◌else◌}
use Rattle.cc_arith.specs.declared.kind.IntKind.{IntKind}
use Rattle.cc_arith.specs.declared.kind.IntKind.TheVariants.{Int, Long}
use Rattle.cc_arith.specs.declared.binary_operator.IntOp.{IntOp}
use Rattle.cc_arith.specs.declared.binary_operator.IntOp.TheVariants as o
use Rattle.cc_arith.specs.declared.unary_operator.IntUnary.{IntUnary}
use Rattle.cc_arith.specs.declared.unary_operator.IntUnary.TheVariants as iu
use Rattle.cc_arith.specs.Promotions.{common_of}
use Rattle.cc_tree.specs.declared.operator.UnaryOp.{UnaryOp}
use Rattle.cc_tree.specs.declared.operator.UnaryOp.TheVariants as u
use Rattle.cc_tree.specs.declared.operator.BinaryOp.{BinaryOp}
use Rattle.cc_tree.specs.declared.operator.BinaryOp.TheVariants as b
use Rattle.cc_tree.specs.declared.operator.AssignOp.{AssignOp}
use Rattle.cc_tree.specs.declared.operator.AssignOp.TheVariants as a
use Rattle.cc_types.specs.declared.structs.StructEntry.{StructEntry}
use Rattle.cc_types.specs.CTypes.{CTypeTree, void, integer_of, pointer_to, struct_by, is_function}
use Rattle.cc_types.specs.Questions.{value_type, pointee_of, kind_of, promoted_kind, is_void, is_integer, is_pointer, is_scalar, points_to_object, point_at_one, point_alike}
use Rattle.cc_types.specs.Structs.{fits}
use Rattle.cc_types.specs.Measures.{measure_of}
use Rattle.cc_judging.specs.declared.judged.Part.TheVariants.{Whole, First, Second}
use Rattle.cc_judging.specs.Arithmetic.{kind_of_two}
use Rattle.cc_typing_laws.specs.Judgements.{Judgement, typed, breaks, misfits, untyped, an_integer, or_breaks, int_or_breaks}

abbrev pub is_complete : List StructEntry → CTypeTree → Bool
is_complete es t = (measure_of es t).is_complete

-- ---- Prefix operators

-- `&`: an lvalue or a function
abbrev pub address : Bool → CTypeTree → Judgement
address place t = or_breaks (place || is_function t) (pointer_to false t) 42 First

-- `*`: a pointer to a function, or to an object of a complete type
abbrev pub pointed_at : List StructEntry → Option CTypeTree → Judgement
pointed_at es (Some t) = or_breaks (is_function t || is_complete es t) t 41 First
pointed_at es None = breaks 41 First

abbrev pub of_promoted : Option IntKind → Judgement
of_promoted (Some k) = typed (an_integer k)
of_promoted None = breaks 40 First

abbrev pub int_unary : IntUnary → CTypeTree → Judgement
int_unary iu.Not t = int_or_breaks (is_scalar t) 40 First
int_unary op t = of_promoted (promoted_kind t)

abbrev pub prefixed : List StructEntry → UnaryOp → Bool → CTypeTree → Judgement
prefixed es u.Address place t = address place t
prefixed es u.Deref place t = pointed_at es (pointee_of (value_type t))
prefixed es (u.Int op) place t = int_unary op (value_type t)

abbrev pub unary : List StructEntry → UnaryOp → Bool → Option CTypeTree → Judgement
unary es op place (Some t) = prefixed es op place t
unary es op place None = untyped

-- ---- Operators with two operands

abbrev pub order : CTypeTree → CTypeTree → Judgement
order s t = int_or_breaks (points_to_object s && point_alike s t) 44 Whole

-- each operand may be a null constant
abbrev pub equality : CTypeTree → Bool → CTypeTree → Bool → Judgement
equality s m t n = int_or_breaks (is_pointer s && n || m && is_pointer t || point_alike s t) 44 Whole

abbrev pub logical : CTypeTree → CTypeTree → Judgement
logical s t = if is_scalar s then int_or_breaks (is_scalar t) 45 Second else breaks 45 First

abbrev pub sum : CTypeTree → CTypeTree → Judgement
sum s t =
    if points_to_object s && is_integer t then typed s
    else or_breaks (is_integer s && points_to_object t) t 43 Whole

abbrev pub difference : CTypeTree → CTypeTree → Judgement
difference s t =
    if points_to_object s && is_integer t then typed s
    else or_breaks (points_to_object s && point_at_one s t) (an_integer Long) 43 Whole

abbrev pub pointers : IntOp → CTypeTree → Bool → CTypeTree → Bool → Judgement
pointers o.Add s m t n = sum s t
pointers o.Sub s m t n = difference s t
pointers o.Lt s m t n = order s t
pointers o.Le s m t n = order s t
pointers o.Gt s m t n = order s t
pointers o.Ge s m t n = order s t
pointers o.Eq s m t n = equality s m t n
pointers o.Ne s m t n = equality s m t n
pointers op s m t n = breaks 43 Whole

abbrev pub of_kinds : IntOp → Option IntKind → Option IntKind → Judgement → Judgement
of_kinds op (Some j) (Some k) other = typed (an_integer (kind_of_two op j k))
of_kinds op j k other = other

abbrev pub values : BinaryOp → CTypeTree → Bool → CTypeTree → Bool → Judgement
values (b.Int op) s m t n = of_kinds op (kind_of s) (kind_of t) (pointers op s m t n)
values b.AndAnd s m t n = logical s t
values b.OrOr s m t n = logical s t

abbrev pub binary : BinaryOp → Option CTypeTree → Bool → Option CTypeTree → Bool → Judgement
binary op (Some s) m (Some t) n = values op (value_type s) m (value_type t) n
binary op s m t n = untyped

-- ---- Assignments and steps

-- a scalar or a struct, and not const
abbrev pub is_assignable : CTypeTree → Bool
is_assignable (integer_of k kind) = not k
is_assignable (pointer_to k t) = not k
is_assignable (struct_by k id) = not k
is_assignable t = false

abbrev pub plain : List StructEntry → CTypeTree → CTypeTree → Bool → Judgement
plain es s t n = if fits es t n s then typed s else misfits s

abbrev pub moved : CTypeTree → CTypeTree → Judgement
moved s t = or_breaks ((is_integer s || points_to_object s) && is_integer t) s 51 Whole

abbrev pub computed : CTypeTree → CTypeTree → Judgement
computed s t = or_breaks (is_integer s && is_integer t) s 51 Whole

abbrev pub stored : List StructEntry → AssignOp → CTypeTree → CTypeTree → Bool → Judgement
stored es a.Plain s t n = plain es s t n
stored es a.Add s t n = moved s t
stored es a.Sub s t n = moved s t
stored es op s t n = computed s t

abbrev pub assign : List StructEntry → AssignOp → Bool → Option CTypeTree → Option CTypeTree → Bool → Judgement
assign es op place (Some s) (Some t) n =
    if place && is_assignable s then stored es op (value_type s) (value_type t) n else breaks 39 Whole
assign es op place s t n = untyped

abbrev pub step_value : CTypeTree → Judgement
step_value t = or_breaks (is_integer t || points_to_object t) t 51 Whole

abbrev pub step : Bool → Option CTypeTree → Judgement
step place (Some t) = if place && is_assignable t then step_value (value_type t) else breaks 39 Whole
step place None = untyped

-- ---- `?:` and the comma

abbrev pub others : CTypeTree → Bool → CTypeTree → Bool → Judgement
others s m t n =
    if is_void s && is_void t then typed (void false)
    else if point_at_one s t || is_pointer s && n then typed s
    else or_breaks (m && is_pointer t) t 48 Whole

abbrev pub of_branches : Option IntKind → Option IntKind → Judgement → Judgement
of_branches (Some j) (Some k) other = typed (an_integer (common_of j k))
of_branches j k other = other

abbrev pub branches : CTypeTree → Bool → CTypeTree → Bool → Judgement
branches s m t n = of_branches (kind_of s) (kind_of t) (others s m t n)

abbrev pub choice : Option CTypeTree → Option CTypeTree → Bool → Option CTypeTree → Bool → Judgement
choice (Some c) (Some s) m (Some t) n =
    if is_scalar (value_type c) then branches (value_type s) m (value_type t) n else breaks 32 First
choice c s m t n = untyped

abbrev pub comma : Option CTypeTree → Option CTypeTree → Judgement
comma (Some s) (Some t) = typed (value_type t)
comma s t = untyped
