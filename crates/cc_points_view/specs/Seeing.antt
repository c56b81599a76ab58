-- What the rules see of an occurrence.
use Rattle.std.specs.Prelude.{ℕ, ◌+◌, ◌-◌, ◌^◌, Bool, true, false, not, ◌&&◌, nat_le, if◌then◌else◌, List, Option, Some, None, slice_get}
use Rattle.cc_arith.specs.declared.binary_operator.IntOp.TheVariants as int_op
use Rattle.cc_arena.specs.declared.node.Node.{Node}
use Rattle.cc_arena.specs.declared.node.Node.TheVariants as node
use Rattle.cc_arena.specs.declared.node.Span.{Span}
use Rattle.cc_tree.specs.declared.operator.AssignOp.{AssignOp}
use Rattle.cc_tree.specs.declared.operator.AssignOp.TheVariants as assign
use Rattle.cc_tree.specs.declared.operator.BinaryOp.{BinaryOp}
use Rattle.cc_tree.specs.declared.operator.BinaryOp.TheVariants as binary_op
use Rattle.cc_tree.specs.declared.operator.UnaryOp.{UnaryOp}
use Rattle.cc_tree.specs.declared.operator.UnaryOp.TheVariants as unary_op
use Rattle.cc_types.specs.declared.expr_type.ExprType.{ExprType}
use Rattle.cc_types.specs.declared.expr_type.ExprType.TheVariants.{Plain, Address}
use Rattle.cc_types.specs.declared.shape.Shape.TheVariants as shape
use Rattle.cc_parts.specs.declared.part.Part.{Part}
use Rattle.cc_parts.specs.declared.part.Form.{Form}
use Rattle.cc_parts.specs.declared.part.Form.TheVariants as form
use Rattle.cc_parts.specs.declared.parts.Object.{Object}
use Rattle.cc_parts.specs.declared.parts.Parts.{Parts}
use Rattle.cc_parts.specs.PartTables.{count_of}
use Rattle.cc_program.specs.declared.program.Program.{Program}
use Rattle.cc_program.specs.declared.program.Referent.{Referent}
use Rattle.cc_program.specs.declared.program.Referent.TheVariants as referent
use Rattle.cc_program.specs.Programs as programs
use Rattle.cc_points_base.specs.declared.view.Class.{Class}
use Rattle.cc_points_base.specs.declared.view.Class.TheVariants as class
use Rattle.cc_points_base.specs.declared.view.What.{What}
use Rattle.cc_points_base.specs.declared.view.What.TheVariants as what
use Rattle.cc_points_base.specs.declared.view.Seen.{Seen}
use Rattle.cc_points_view.specs.declared.standing.Standing.{Standing}

-- whether a value of the type is a pointer: of an array it is (C17 6.3.2.1)
abbrev pub points : Option ExprType → Bool
points (Some (Address a)) = true
points (Some (Plain (shape.Pointer k t))) = true
points (Some (Plain (shape.Array k t n))) = true
points t = false

abbrev pub type_of : Program → ℕ → Option ExprType
type_of p n = programs.or_none (slice_get p.known.found.types n)

abbrev pub span_or : Option (Option Span) → Span
span_or (Some (Some s)) = s
span_or s = record { start = 0; «end» = 0 }

-- the pointers of a struct type
abbrev pub paths_at : List (Option Span) → ℕ → Span
paths_at paths id = span_or (slice_get paths id)

-- what a type is for the rules
abbrev pub class_of : List (Option Span) → Option ExprType → Class
class_of paths (Some (Address a)) = class.Pointer
class_of paths (Some (Plain (shape.Pointer k t))) = class.Pointer
class_of paths (Some (Plain (shape.Array k t n))) = class.Array
class_of paths (Some (Plain (shape.Struct k id))) = class.Struct id.0 (paths_at paths id.0)
class_of paths t = class.Other

abbrev pub whole : Option Object → What
whole (Some o) = what.Name o.first
whole None = what.Other

-- a function's target comes after all parts
abbrev pub function : ℕ → ℕ → What
function count f = if nat_le f (2 ^ 32 - 1 - count) then what.Designator (count + f) else what.Other

-- a name of a variable is its whole object
abbrev pub name : Parts → Option Referent → What
name parts (Some (referent.Variable v)) = whole (slice_get parts.objects v.0)
name parts (Some (referent.Function f)) = function (count_of parts.parts) f.0
name parts r = what.Other

-- what hands the value of its pointer operand on, if it is a pointer itself: the difference of two pointers isn't
abbrev pub offset : Program → ℕ → ℕ → What
offset p n operand = if points (type_of p n) then what.Offset operand else what.Other

-- of two operands the one that is a pointer
abbrev pub pointer_of : Program → ℕ → ℕ → ℕ
pointer_of p a b = if points (type_of p a) then a else b

abbrev pub is_sum : BinaryOp → Bool
is_sum (binary_op.Int int_op.Add) = true
is_sum (binary_op.Int int_op.Sub) = true
is_sum op = false

abbrev pub binary : Program → ℕ → BinaryOp → ℕ → ℕ → What
binary p n op a b = if is_sum op then offset p n (pointer_of p a b) else what.Other

abbrev pub assigned : Program → ℕ → AssignOp → ℕ → ℕ → What
assigned p n assign.Plain a b = what.Assign a b
assigned p n op a b = offset p n a

abbrev pub unary : UnaryOp → ℕ → What
unary unary_op.Address e = what.Address e
unary unary_op.Deref e = what.Deref e
unary op e = what.Other

abbrev pub member : ℕ → Option ℕ → What
member e (Some m) = what.Member e m
member e None = what.Other

abbrev pub arrow : ℕ → Option ℕ → What
arrow e (Some m) = what.Arrow e m
arrow e None = what.Other

abbrev pub returned : Option ℕ → Option ℕ → What
returned (Some i) (Some e) = what.Return i e
returned i e = what.Other

-- what the node n is for the rules; a string literal is this whole object
abbrev pub what_of : Program → Parts → ℕ → ℕ → Node → Option ℕ → What
what_of p parts literal n node.Name i = name parts (programs.names p n)
what_of p parts literal n (node.Str b) i = what.Name literal
what_of p parts literal n (node.Paren e) i = what.Paren e
what_of p parts literal n (node.Unary op e) i = unary op e
what_of p parts literal n (node.Binary op a b) i = binary p n op a b
what_of p parts literal n (node.Assign op a b) i = assigned p n op a b
what_of p parts literal n (node.Step op side e) i = offset p n e
what_of p parts literal n (node.Cond c a b) i = what.Cond a b
what_of p parts literal n (node.Comma a b) i = what.Comma b
what_of p parts literal n (node.Call f args) i = what.Call f args
what_of p parts literal n (node.Member e) i = member e (programs.or_none (slice_get p.known.found.members n))
what_of p parts literal n (node.Arrow e) i = arrow e (programs.or_none (slice_get p.known.found.members n))
what_of p parts literal n (node.Index a b) i = what.Index (pointer_of p a b)
what_of p parts literal n (node.Return e) i = returned i e
what_of p parts literal n x i = what.Other

-- an lvalue without parentheses
abbrev pub is_lvalue : What → Bool
is_lvalue (what.Name q) = true
is_lvalue (what.Deref e) = true
is_lvalue (what.Index e) = true
is_lvalue (what.Member e m) = true
is_lvalue (what.Arrow e m) = true
is_lvalue x = false

abbrev pub is_array_form : Form → Bool
is_array_form form.Array = true
is_array_form f = false

abbrev pub is_array_part : Option Part → Bool
is_array_part (Some p) = is_array_form p.form
is_array_part None = false

-- a part that is initialised is an array
abbrev pub is_array : Parts → Option ℕ → Bool
is_array parts (Some q) = is_array_part (slice_get parts.parts q)
is_array parts None = false

abbrev pub unseen : Seen
unseen = record { what = what.Other; class = class.Other; used = false }

-- What the rules see of a node. A string literal that initialises an array isn't used as a value (C17 6.3.2.1).
abbrev pub seen_of : Parts → Standing → Bool → What → Class → Seen
seen_of parts standing is_value x c =
    if standing.is_evaluated then record { what = x; class = c; used = is_value && is_lvalue x && not (is_array parts standing.cell) } else unseen
