-- Operators, by the types of their operands (C17 6.5).
use Rattle.std.specs.Prelude.{ℕ, true, false, ◌||◌, cond, Option, Some, None}
use Rattle.cc_acts.specs.declared.value_act.Operator.{Operator}
use Rattle.cc_acts.specs.declared.value_act.Operator.TheVariants.{Integers, Plus, Minus, Elements, Equality}
use Rattle.cc_arith.specs.declared.kind.IntKind.{IntKind}
use Rattle.cc_arith.specs.declared.kind.IntKind.TheVariants.{Int}
use Rattle.cc_arith.specs.declared.binary_operator.IntOp.{IntOp}
use Rattle.cc_arith.specs.declared.binary_operator.IntOp.TheVariants as o
use Rattle.cc_arith.specs.Promotions.{promoted, common_of}
use Rattle.cc_program.specs.declared.program.Program.{Program}
use Rattle.cc_tree.specs.declared.operator.AssignOp.{AssignOp}
use Rattle.cc_tree.specs.declared.operator.AssignOp.TheVariants as by
use Rattle.cc_layout.specs.Values.{kind_at, common_at, is_pointer_at, element_cells}

-- the kind of the right operand of an operator that works in this kind: a shift's count keeps its own (6.5.7p3)
abbrev pub right_kind : IntOp → IntKind → IntKind → IntKind
right_kind o.Shl kind right = right
right_kind o.Shr kind right = right
right_kind op kind right = kind

abbrev pub promoted_kinds : IntKind → IntKind → IntKind × IntKind
promoted_kinds a b = (promoted a, promoted b)

abbrev pub one_kind : IntKind → IntKind × IntKind
one_kind k = (k, k)

-- the kinds to which an operator on two integers converts them: a shift's are promoted each (6.5.7p3), others have one in
-- common (6.3.1.8)
abbrev pub kinds : Program → IntOp → ℕ → ℕ → IntKind × IntKind
kinds p o.Shl a b = promoted_kinds (kind_at p a) (kind_at p b)
kinds p o.Shr a b = promoted_kinds (kind_at p a) (kind_at p b)
kinds p op a b = one_kind (common_at p a b)

-- how many cells the elements have into which two expressions point, of which one may be a null constant
abbrev pub compared_cells : Program → ℕ → ℕ → ℕ
compared_cells p a b = cond (is_pointer_at p a) (element_cells p a) (element_cells p b)

-- `-` on a pointer and another expression
abbrev pub difference : Program → ℕ → Operator
difference p b = cond (is_pointer_at p b) (Elements o.Sub) Minus

-- an operator on two expressions of which one is a pointer (6.5.6, 6.5.8, 6.5.9)
abbrev pub on_pointers : Program → IntOp → ℕ → ℕ → Operator
on_pointers p o.Add a b = Plus
on_pointers p o.Sub a b = difference p b
on_pointers p o.Eq a b = Equality true (compared_cells p a b)
on_pointers p o.Ne a b = Equality false (compared_cells p a b)
on_pointers p op a b = Elements op

abbrev pub on_integers : IntOp → IntKind × IntKind → Operator
on_integers op (left, right) = Integers op left right

-- a binary operator on the expressions at two nodes
abbrev pub operator_at : Program → IntOp → ℕ → ℕ → Operator
operator_at p op a b = cond (is_pointer_at p a || is_pointer_at p b) (on_pointers p op a b) (on_integers op (kinds p op a b))

-- one element on, or back
abbrev pub stepped : IntOp → Operator
stepped o.Sub = Minus
stepped op = Plus

-- the operator of a step: 1, an `int`, is added or taken away (6.5.2.4p2, 6.5.3.1p2)
abbrev pub step_operator : Program → IntOp → ℕ → Operator
step_operator p op e = cond (is_pointer_at p e) (stepped op) (on_integers op (one_kind (common_of (kind_at p e) Int)))

-- the operator of a compound assignment (6.5.16.2); none of a plain one
abbrev pub compound_of : AssignOp → Option IntOp
compound_of by.Plain = None
compound_of by.Mul = Some o.Mul
compound_of by.Div = Some o.Div
compound_of by.Rem = Some o.Rem
compound_of by.Add = Some o.Add
compound_of by.Sub = Some o.Sub
compound_of by.Shl = Some o.Shl
compound_of by.Shr = Some o.Shr
compound_of by.And = Some o.And
compound_of by.Xor = Some o.Xor
compound_of by.Or = Some o.Or
