-- The operators of C on values of a promoted kind (C17 6.5): the result, or why there is none.
use Rattle.std.specs.Prelude.{◌^◌, ℤ, pos, neg_ℤ, ◌+ℤ◌, ◌-ℤ◌, ◌*ℤ◌, int_lt, int_le, int_div, int_rem, ◌&&◌, not, Bool, if◌then◌else◌, Result, Ok, Err, unsigned_abs}
use Rattle.std.specs.Int.{int_div_euclid}
use Rattle.std.specs.Ordering.{int_eq}
use Rattle.cc_arith.specs.declared.kind.IntKind.{IntKind}
use Rattle.cc_arith.specs.declared.kind.IntKind.TheVariants.{Int}
use Rattle.cc_arith.specs.declared.binary_operator.IntOp.{IntOp}
use Rattle.cc_arith.specs.declared.binary_operator.IntOp.TheVariants.{Add, Sub, Mul, Div, Rem, And, Or, Xor, Shl, Shr, Lt, Le, Gt, Ge, Eq, Ne}
use Rattle.cc_arith.specs.declared.unary_operator.IntUnary.{IntUnary}
use Rattle.cc_arith.specs.declared.unary_operator.IntUnary.TheVariants.{Plus, Minus, Invert, Not}
use Rattle.cc_arith.specs.declared.undefined.ArithUndef.{ArithUndef}
use Rattle.cc_arith.specs.declared.undefined.ArithUndef.TheVariants.{Overflow, ZeroDivisor, ShiftCount, ShiftNegative}
use Rattle.cc_arith.specs.Kinds.{width_of, is_signed, is_in_range, IsInRange, IsInSomeRange}
use Rattle.cc_arith.specs.Conversions.{converted, is_zero}
use Rattle.cc_arith.specs.Bits.{and_of, or_of, xor_of, complement_of}

-- z where the kind can represent it, and else this error
abbrev pub represented : ArithUndef → IntKind → ℤ → Result ℤ ArithUndef
represented why k z = if is_in_range k z then Ok z else Err why

-- a sum, a difference, a product or a negative that is z in mathematics: an unsigned kind reduces it modulo 2 ^ width
-- (6.2.5, paragraph 9), a signed one has to represent it (6.5, paragraph 5)
abbrev pub computed : IntKind → ℤ → Result ℤ ArithUndef
computed k z = if is_signed k then represented Overflow k z else Ok (converted k z)

-- z is the quotient or the remainder of a by b (6.5.5): both need a divisor other than 0 and a quotient in range
abbrev pub divided : IntKind → ℤ → ℤ → ℤ → Result ℤ ArithUndef
divided k a b z =
    if is_zero b then Err ZeroDivisor
    else if is_in_range k (int_div a b) then Ok z
    else Err Overflow

-- what a shift by b gives (6.5.7, paragraph 3), where r is what it gives for a count from 0 to the width less 1
abbrev pub shifted : IntKind → ℤ → Result ℤ ArithUndef → Result ℤ ArithUndef
shifted k b r = if int_le (pos 0) b && int_lt b (pos (width_of k)) then r else Err ShiftCount

-- a shift left of a, that is a * 2 ^ count = z (6.5.7, paragraph 4)
abbrev pub shifted_left : IntKind → ℤ → ℤ → Result ℤ ArithUndef
shifted_left k a z =
    if is_signed k
    then if int_lt a (pos 0) then Err ShiftNegative else represented ShiftNegative k z
    else Ok (converted k z)

-- 1 for what holds, and else 0 (6.5.8, 6.5.9, 6.5.3.3)
abbrev pub truth_of : Bool → ℤ
truth_of b = if b then pos 1 else pos 0

-- `a op b` of two values of the promoted kind k
abbrev pub binary_of : IntOp → IntKind → ℤ → ℤ → Result ℤ ArithUndef
-- additive and multiplicative operators (6.5.6, 6.5.5); a quotient loses its fraction, so it rounds toward 0
binary_of Add k a b = computed k (a +ℤ b)
binary_of Sub k a b = computed k (a -ℤ b)
binary_of Mul k a b = computed k (a *ℤ b)
binary_of Div k a b = divided k a b (int_div a b)
binary_of Rem k a b = divided k a b (int_rem a b)
-- operators on bits (6.5.10 to 6.5.12)
binary_of And k a b = Ok (and_of k a b)
binary_of Or k a b = Ok (or_of k a b)
binary_of Xor k a b = Ok (xor_of k a b)
-- shifts (6.5.7); to the right a / 2 ^ b rounds down, also where a is negative
binary_of Shl k a b = shifted k b (shifted_left k a (a *ℤ pos (2 ^ unsigned_abs b)))
binary_of Shr k a b = shifted k b (Ok (int_div_euclid a (pos (2 ^ unsigned_abs b))))
-- relational and equality operators (6.5.8, 6.5.9)
binary_of Lt k a b = Ok (truth_of (int_lt a b))
binary_of Le k a b = Ok (truth_of (int_le a b))
binary_of Gt k a b = Ok (truth_of (int_lt b a))
binary_of Ge k a b = Ok (truth_of (int_le b a))
binary_of Eq k a b = Ok (truth_of (int_eq a b))
binary_of Ne k a b = Ok (truth_of (not (int_eq a b)))

-- `op a` of a value of the promoted kind k (6.5.3.3)
abbrev pub unary_of : IntUnary → IntKind → ℤ → Result ℤ ArithUndef
unary_of Plus k a = Ok a
unary_of Minus k a = computed k (neg_ℤ a)
unary_of Invert k a = Ok (complement_of k a)
unary_of Not k a = Ok (truth_of (is_zero a))

-- the kind of the result: comparisons and `!` give an `int` (6.5.8, 6.5.9, 6.5.3.3), the others a value of k
abbrev pub binary_kind_of : IntOp → IntKind → IntKind
binary_kind_of Lt k = Int
binary_kind_of Le k = Int
binary_kind_of Gt k = Int
binary_kind_of Ge k = Int
binary_kind_of Eq k = Int
binary_kind_of Ne k = Int
binary_kind_of op k = k

abbrev pub unary_kind_of : IntUnary → IntKind → IntKind
unary_kind_of Not k = Int
unary_kind_of op k = k

-- b may stand on the right: a value of k, or for a shift, whose count has a kind of its own, of some kind
abbrev pub IsRightOperand : IntOp → IntKind → ℤ → Type 0
IsRightOperand Shl k b = IsInSomeRange b
IsRightOperand Shr k b = IsInSomeRange b
IsRightOperand op k b = IsInRange k b
