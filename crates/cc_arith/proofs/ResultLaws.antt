-- The laws of the operators' results: each is a value of its kind, and has the bits that it should.
use Rattle.std.proofs.Common.{◌≡◌, inl, inr, ℕ, suc, ◌^◌, ℤ, pos, negsuc, neg_ℤ, ◌+ℤ◌, ◌-ℤ◌, ◌*ℤ◌, ◌≤ℤ◌, Bool, true, false, Result, Ok, Err, IfOk, cond, unsigned_abs, int_lt, int_le, ◌&&◌, int_div, int_rem, refl, arith}
use Rattle.std.specs.Int.{int_div_euclid}
use Rattle.std.proofs.lemmas.Int.{ints}
use Rattle.std.proofs.Math.Nat.{div-le_self, mod-le}
use Rattle.cc_arith.specs.declared.kind.IntKind.{IntKind}
use Rattle.cc_arith.specs.declared.kind.IntKind.TheVariants.{Bool as BoolKind, Int}
use Rattle.cc_arith.specs.declared.binary_operator.IntOp.{IntOp}
use Rattle.cc_arith.specs.declared.binary_operator.IntOp.TheVariants.{Add, Sub, Mul, Div, Rem, And, Or, Xor, Shl, Shr, Lt, Le, Gt, Ge, Eq, Ne}
use Rattle.cc_arith.specs.declared.unary_operator.IntUnary.{IntUnary}
use Rattle.cc_arith.specs.declared.unary_operator.IntUnary.TheVariants.{Plus, Minus, Invert, Not}
use Rattle.cc_arith.specs.declared.undefined.ArithUndef.{ArithUndef}
use Rattle.cc_arith.specs.declared.undefined.ArithUndef.TheVariants.{Overflow, ShiftNegative, ShiftCount}
use Rattle.cc_arith.specs.Kinds.{width_of, is_signed, is_in_range, least, greatest, IsInRange}
use Rattle.cc_arith.specs.Promotions.{IsPromoted}
use Rattle.cc_arith.specs.Conversions.{converted, is_zero}
use Rattle.cc_arith.specs.Operators.{represented, computed, shifted, shifted_left, truth_of, binary_of, unary_of, binary_kind_of, unary_kind_of, IsRightOperand}
use Rattle.cc_arith.specs.Laws.{IsTruth, TruthIfCompared, TruthIfNot, BitsFollow, BitsInverted}
use Rattle.cc_arith.proofs.ConversionLaws.{converted_within}
use Rattle.cc_arith.proofs.BitLaws.{and_bits, or_bits, xor_bits, complement_bits, and_within, or_within, xor_within, complement_within}

-- the result is a value of the kind, or there is none
abbrev pub IsValueOf : IntKind → Result ℤ ArithUndef → Type 0
IsValueOf k r = IfOk r (IsInRange k)

by_test : (k : IntKind) (t : Bool) (r s : Result ℤ ArithUndef) → (t ≡ true → IsValueOf k r) → (t ≡ false → IsValueOf k s) → IsValueOf k (cond t r s)
by_test k true r s f g = f refl
by_test k false r s f g = g refl

in_range_of : (k : IntKind) (z : ℤ) → is_in_range k z ≡ true → IsInRange k z
in_range_of k z h = grind (arith, ints)

-- 0 and 1 are values of each kind
truth_bounds : (k : IntKind) → (least k ≤ℤ pos 0) × (pos 1 ≤ℤ greatest k)
truth_bounds BoolKind = (omega (arith, ints), omega (arith, ints))
truth_bounds _ = (omega (arith, ints), omega (arith, ints))

represented_within : (e : ArithUndef) (k : IntKind) (z : ℤ) → IsValueOf k (represented e k z)
represented_within e k z = by_test k (is_in_range k z) (Ok z) (Err e) (in_range_of k z) (λ _. tt)

computed_within : (k : IntKind) (z : ℤ) → IsValueOf k (computed k z)
computed_within k z = by_test k (is_signed k) (represented Overflow k z) (Ok (converted k z)) (λ _. represented_within Overflow k z) (λ _. converted_within k z)

truth_within : (k : IntKind) (t : Bool) → IsInRange k (truth_of t)
truth_within k true = omega (arith, ints, truth_bounds k)
truth_within k false = omega (arith, ints, truth_bounds k)

remainder_within : (k : IntKind) (a d : ℤ) → IsInRange k a → IsInRange k (int_rem a d)
remainder_within k (pos a) d h = (omega (arith, ints, truth_bounds k), omega (arith, ints, mod-le a (unsigned_abs d)))
remainder_within k (negsuc a) d h = (omega (arith, ints, mod-le (suc a) (unsigned_abs d)), omega (arith, ints, truth_bounds k))

right_shift_within : (k : IntKind) (a : ℤ) (n : ℕ) → IsInRange k a → IsInRange k (int_div_euclid a (pos (2 ^ n)))
right_shift_within k (pos a) n h = (omega (arith, ints, truth_bounds k), omega (arith, ints, div-le_self a (2 ^ n)))
right_shift_within k (negsuc a) n h = (omega (arith, ints, div-le_self a (2 ^ n)), omega (arith, ints, truth_bounds k))

shifted_within : (k : IntKind) (b : ℤ) (r : Result ℤ ArithUndef) → IsValueOf k r → IsValueOf k (shifted k b r)
shifted_within k b r h = by_test k (int_le (pos 0) b && int_lt b (pos (width_of k))) r (Err ShiftCount) (λ _. h) (λ _. tt)

left_shift_within : (k : IntKind) (a z : ℤ) → IsValueOf k (shifted_left k a z)
left_shift_within k a z =
    by_test k (is_signed k) (cond (int_lt a (pos 0)) (Err ShiftNegative) (represented ShiftNegative k z)) (Ok (converted k z))
    (λ _. by_test k (int_lt a (pos 0)) (Err ShiftNegative) (represented ShiftNegative k z) (λ _. tt) (λ _. represented_within ShiftNegative k z))
    (λ _. converted_within k z)

-- each result is a value of the kind of the operands
pub binary_in_operands_kind : (op : IntOp) (k : IntKind) (a b : ℤ) → IsInRange k a → IfOk (binary_of op k a b) (IsInRange k)
binary_in_operands_kind Add k a b h = computed_within k (a +ℤ b)
binary_in_operands_kind Sub k a b h = computed_within k (a -ℤ b)
binary_in_operands_kind Mul k a b h = computed_within k (a *ℤ b)
binary_in_operands_kind Div k a b h = by_test k (is_zero b) _ _ (λ _. tt) (λ _. by_test k (is_in_range k (int_div a b)) _ _ (in_range_of k (int_div a b)) (λ _. tt))
binary_in_operands_kind Rem k a b h = by_test k (is_zero b) _ _ (λ _. tt) (λ _. by_test k (is_in_range k (int_div a b)) _ _ (λ _. remainder_within k a b h) (λ _. tt))
binary_in_operands_kind And k a b h = and_within k a b
binary_in_operands_kind Or k a b h = or_within k a b
binary_in_operands_kind Xor k a b h = xor_within k a b
binary_in_operands_kind Shl k a b h = shifted_within k b _ (left_shift_within k a (a *ℤ pos (2 ^ unsigned_abs b)))
binary_in_operands_kind Shr k a b h = shifted_within k b (Ok (int_div_euclid a (pos (2 ^ unsigned_abs b)))) (right_shift_within k a (unsigned_abs b) h)
binary_in_operands_kind Lt k a b h = truth_within k _
binary_in_operands_kind Le k a b h = truth_within k _
binary_in_operands_kind Gt k a b h = truth_within k _
binary_in_operands_kind Ge k a b h = truth_within k _
binary_in_operands_kind Eq k a b h = truth_within k _
binary_in_operands_kind Ne k a b h = truth_within k _

pub unary_in_operands_kind : (op : IntUnary) (k : IntKind) (a : ℤ) → IsInRange k a → IfOk (unary_of op k a) (IsInRange k)
unary_in_operands_kind Plus k a h = h
unary_in_operands_kind Minus k a h = computed_within k (neg_ℤ a)
unary_in_operands_kind Invert k a h = complement_within k a
unary_in_operands_kind Not k a h = truth_within k _

-- each result is a value of its own kind
pub binary_within : (op : IntOp) (k : IntKind) (a b : ℤ) → IsInRange k a → IfOk (binary_of op k a b) (IsInRange (binary_kind_of op k))
binary_within Lt k a b h = truth_within Int _
binary_within Le k a b h = truth_within Int _
binary_within Gt k a b h = truth_within Int _
binary_within Ge k a b h = truth_within Int _
binary_within Eq k a b h = truth_within Int _
binary_within Ne k a b h = truth_within Int _
binary_within op k a b h = binary_in_operands_kind op k a b h

pub unary_within : (op : IntUnary) (k : IntKind) (a : ℤ) → IsInRange k a → IfOk (unary_of op k a) (IsInRange (unary_kind_of op k))
unary_within Not k a h = truth_within Int _
unary_within op k a h = unary_in_operands_kind op k a h

both : (r : Result ℤ ArithUndef) (P Q : ℤ → Type 0) → IfOk r P → IfOk r Q → IfOk r (λ z. P z × Q z)
both (Ok z) P Q p q = (p, q)
both (Err e) P Q p q = tt

pub binary_gives_values : (op : IntOp) (k : IntKind) (a b : ℤ) → IsInRange k a → IfOk (binary_of op k a b) (λ z. IsInRange (binary_kind_of op k) z × IsInRange k z)
binary_gives_values op k a b h = both (binary_of op k a b) (IsInRange (binary_kind_of op k)) (IsInRange k) (binary_within op k a b h) (binary_in_operands_kind op k a b h)

pub unary_gives_values : (op : IntUnary) (k : IntKind) (a : ℤ) → IsInRange k a → IfOk (unary_of op k a) (λ z. IsInRange (unary_kind_of op k) z × IsInRange k z)
unary_gives_values op k a h = both (unary_of op k a) (IsInRange (unary_kind_of op k)) (IsInRange k) (unary_within op k a h) (unary_in_operands_kind op k a h)

-- a comparison and `!` give 0 or 1
is_truth : (t : Bool) → IsTruth (truth_of t)
is_truth true = inr refl
is_truth false = inl refl

always : (r : Result ℤ ArithUndef) → IfOk r (λ _. Unit {0})
always (Ok z) = tt
always (Err e) = tt

pub binary_truth : (op : IntOp) (k : IntKind) (a b : ℤ) → IfOk (binary_of op k a b) (TruthIfCompared op)
binary_truth Lt k a b = is_truth _
binary_truth Le k a b = is_truth _
binary_truth Gt k a b = is_truth _
binary_truth Ge k a b = is_truth _
binary_truth Eq k a b = is_truth _
binary_truth Ne k a b = is_truth _
binary_truth op k a b = always (binary_of op k a b)

pub unary_truth : (op : IntUnary) (k : IntKind) (a : ℤ) → IfOk (unary_of op k a) (TruthIfNot op)
unary_truth Not k a = is_truth _
unary_truth op k a = always (unary_of op k a)

-- the operators on bits, bit by bit
pub binary_bits : (op : IntOp) (k : IntKind) (a b : ℤ) → IsPromoted k → IfOk (binary_of op k a b) (BitsFollow op k a b)
binary_bits And k a b e = and_bits k a b e
binary_bits Or k a b e = or_bits k a b e
binary_bits Xor k a b e = xor_bits k a b e
binary_bits op k a b e = always (binary_of op k a b)

pub unary_bits : (op : IntUnary) (k : IntKind) (a : ℤ) → IsPromoted k → IfOk (unary_of op k a) (BitsInverted op k a)
unary_bits Invert k a e = complement_bits k a e
unary_bits op k a e = always (unary_of op k a)

-- a value of the kind is a right operand of each operator
pub right_operand : (op : IntOp) (k : IntKind) (b : ℤ) → IsInRange k b → IsRightOperand op k b
right_operand Shl k b h = (k, h)
right_operand Shr k b h = (k, h)
right_operand _ k b h = h
