-- What operators and conversions make of values, whatever the state.
use Rattle.std.specs.Prelude.{ℕ, ◌+◌, ◌-◌, ◌*◌, ℤ, pos, int_lt, unsigned_abs, Bool, true, false, not, ◌&&◌, ◌==◌, Result, Ok, Err, Option, Some, None, cond, nat_le}
use Rattle.cc_arith.specs.declared.kind.IntKind.{IntKind}
use Rattle.cc_arith.specs.declared.binary_operator.IntOp.{IntOp}
use Rattle.cc_arith.specs.declared.binary_operator.IntOp.TheVariants.{Shl, Shr}
use Rattle.cc_arith.specs.declared.unary_operator.IntUnary.{IntUnary}
use Rattle.cc_arith.specs.declared.undefined.ArithUndef.{ArithUndef}
use Rattle.cc_arith.specs.declared.undefined.ArithUndef.TheVariants.{Overflow as ArithOverflow, ZeroDivisor as ArithZero, ShiftCount as ArithCount, ShiftNegative as ArithNegative}
use Rattle.cc_arith.specs.Promotions.{promoted}
use Rattle.cc_arith.specs.Conversions.{converted, is_zero}
use Rattle.cc_arith.specs.Operators.{binary_of, unary_of}
use Rattle.cc_meaning.specs.declared.end.Undef.{Undef}
use Rattle.cc_meaning.specs.declared.end.Undef.TheVariants.{Overflow, ZeroDivisor, ShiftCount, ShiftNegative}
use Rattle.cc_store.specs.declared.value.Pointer.{Pointer}
use Rattle.cc_store.specs.declared.value.Value.{Value}
use Rattle.cc_store.specs.declared.value.Value.TheVariants.{Unwritten, Int, Null, Function, Points}
use Rattle.cc_acts.specs.declared.value_act.Conversion.{Conversion}
use Rattle.cc_acts.specs.declared.value_act.Conversion.TheVariants.{Integer, Pointer as ToPointer, Void}

abbrev pub undefined_by : ArithUndef → Undef
undefined_by ArithOverflow = Overflow
undefined_by ArithZero = ZeroDivisor
undefined_by ArithCount = ShiftCount
undefined_by ArithNegative = ShiftNegative

abbrev pub with_undefined : Result ℤ ArithUndef → Result ℤ Undef
with_undefined (Ok z) = Ok z
with_undefined (Err why) = Err (undefined_by why)

-- the kind of the right operand: a shift's count keeps its own (C17 6.5.7p3)
abbrev pub right_kind : IntOp → IntKind → IntKind → IntKind
right_kind Shl left right = right
right_kind Shr left right = right
right_kind op left right = promoted left

-- what the operator gives of two integers
unfoldable pub applied : IntOp → IntKind → IntKind → ℤ → ℤ → Result ℤ Undef
applied op left right a b = with_undefined (binary_of op (promoted left) (converted (promoted left) a) (converted (right_kind op left right) b))

-- what the operator gives of one integer
unfoldable pub unary_applied : IntUnary → IntKind → ℤ → Result ℤ Undef
unary_applied op kind a = with_undefined (unary_of op (promoted kind) (converted (promoted kind) a))

abbrev pub up : Pointer → ℕ → Option Pointer
up p n = cond (nat_le (p.index + n) p.length) (Some (record p { index = p.index + n })) None

abbrev pub down : Pointer → ℕ → Option Pointer
down p n = cond (nat_le n p.index) (Some (record p { index = p.index - n })) None

-- the pointer this many elements on, if its array has them (C17 6.5.6p8)
abbrev pub moved : Pointer → ℤ → Option Pointer
moved p z = cond (int_lt z (pos 0)) (down p (unsigned_abs z)) (up p (unsigned_abs z))

-- the pointer this many elements back
abbrev pub moved_back : Pointer → ℤ → Option Pointer
moved_back p z = cond (int_lt z (pos 0)) (up p (unsigned_abs z)) (down p (unsigned_abs z))

-- The pointer to the part of its element that begins at the offset and is an array of this many elements, where each of the
-- elements of its own array has so many cells.
abbrev pub part_of : Pointer → ℕ → ℕ → ℕ → Pointer
part_of p cells offset length = record p { base = p.base + p.index * cells + offset; length = length; index = 0 }

-- the pointer to cell k after the one that it points to
abbrev pub cell_on : Pointer → ℕ → Pointer
cell_on p k = record p { base = p.base + k; length = 1; index = 0 }

-- whether they point into one array
abbrev pub is_one_array : Pointer → Pointer → Bool
is_one_array p q = (p.instance == q.instance) && ((p.base == q.base) && (p.length == q.length))

-- whether two pointers to elements of this many cells are equal (C17 6.5.9p6)
abbrev pub is_one_place : ℕ → Pointer → Pointer → Bool
is_one_place cells p q = (p.instance == q.instance) && (p.base + p.index * cells == q.base + q.index * cells)

-- an integer that is compared with a pointer is a null constant
abbrev pub null_for : Value → Value
null_for (Int z) = Null
null_for v = v

-- whether two values of one pointer type are equal
abbrev pub is_equal_to : ℕ → Value → Value → Bool
is_equal_to cells (Points p) (Points q) = is_one_place cells p q
is_equal_to cells (Function f) (Function g) = f.0 == g.0
is_equal_to cells Null Null = true
is_equal_to cells _ _ = false

-- whether the value counts as true (C17 6.8.4.1p2)
abbrev pub truth : Value → Option Bool
truth (Int z) = Some (not (is_zero z))
truth Null = Some false
truth (Points p) = Some true
truth (Function f) = Some true
truth Unwritten = None

-- 1 or 0
abbrev pub of_truth : Bool → Value
of_truth b = Int (cond b (pos 1) (pos 0))

-- the value as one of another type
abbrev pub change : Conversion → Value → Option Value
change (Integer kind) (Int z) = Some (Int (converted kind z))
change ToPointer (Int z) = Some Null
change ToPointer Null = Some Null
change ToPointer (Function f) = Some (Function f)
change ToPointer (Points p) = Some (Points p)
change Void v = Some Unwritten
change _ _ = None
