-- What the value of an expression is, by its type (C17 6.3.2.1).
use Rattle.std.specs.Prelude.{ℕ, max, Bool, false, Option, Some, None}
use Rattle.cc_arith.specs.declared.kind.IntKind.{IntKind}
use Rattle.cc_arith.specs.declared.kind.IntKind.TheVariants.{Int}
use Rattle.cc_arith.specs.Promotions.{common_of}
use Rattle.cc_program.specs.declared.program.Program.{Program}
use Rattle.cc_types.specs.declared.expr_type.ExprType.{ExprType}
use Rattle.cc_types.specs.declared.shape.Shape.{Shape}
use Rattle.cc_types.specs.Asked as asked
use Rattle.cc_types.specs.ExprTypes.{expr_type}
use Rattle.cc_types.specs.Questions as questions
use Rattle.cc_types.specs.Shapes.{types_of}
use Rattle.cc_layout.specs.Conversions.{type_at}
use Rattle.cc_layout.specs.Sizes.{cells_of}

abbrev pub value_by : Program → Option ExprType → Option ExprType
value_by p (Some t) = Some (asked.value_in p.known.symbols.types t)
value_by p None = None

-- the type of the expression at a node as that of a value: arrays and functions are pointers
abbrev pub value_at : Program → ℕ → Option ExprType
value_at p n = value_by p (type_at p n)

abbrev pub kind_or_int : Option IntKind → IntKind
kind_or_int (Some kind) = kind
kind_or_int None = Int

abbrev pub kind_by : Program → Option ExprType → IntKind
kind_by p (Some t) = kind_or_int (questions.kind_of (expr_type (types_of p.known.symbols.types) t))
kind_by p None = Int

-- its kind; `int` where it is no integer
abbrev pub kind_at : Program → ℕ → IntKind
kind_at p n = kind_by p (value_at p n)

-- the kind in which an operator works on two expressions (6.3.1.8)
abbrev pub common_at : Program → ℕ → ℕ → IntKind
common_at p a b = common_of (kind_at p a) (kind_at p b)

abbrev pub is_pointer_by : Program → Option ExprType → Bool
is_pointer_by p (Some t) = asked.is_pointer p.known.symbols.types t
is_pointer_by p None = false

-- whether it is a pointer
abbrev pub is_pointer_at : Program → ℕ → Bool
is_pointer_at p n = is_pointer_by p (value_at p n)

abbrev pub pointee_by : Program → Option ExprType → Option Shape
pointee_by p (Some t) = asked.pointee_in p.known.symbols.types t
pointee_by p None = None

-- what it points to
abbrev pub pointee_at : Program → ℕ → Option Shape
pointee_at p n = pointee_by p (value_at p n)

abbrev pub cells_or_one : Program → Option Shape → ℕ
cells_or_one p (Some a) = max (cells_of p a) 1
cells_or_one p None = 1

-- how many cells each element has of the array into which it points; an array without a length, which is only pointed to as
-- a whole, counts as one
abbrev pub element_cells : Program → ℕ → ℕ
element_cells p n = cells_or_one p (pointee_at p n)
