-- Laws of the operators: what their contracts say beside the result itself.
use Rattle.std.specs.Prelude.{◌≡◌, ◌≢◌, ◌⊎◌, ℕ, ◌+◌, ◌-◌, ◌%◌, ◌<◌, min, max, ◌^◌, ℤ, pos, negsuc, ◌+ℤ◌, ◌-ℤ◌, ◌*ℤ◌, ◌≤ℤ◌, ◌<ℤ◌, int_div, int_rem, if◌then◌else◌, Ok, IfOk, unsigned_abs}
use Rattle.std.specs.Int.{int_div_euclid}
use Rattle.cc_arith.specs.declared.kind.IntKind.{IntKind}
use Rattle.cc_arith.specs.declared.kind.IntKind.TheVariants.{Bool as BoolKind}
use Rattle.cc_arith.specs.declared.binary_operator.IntOp.{IntOp}
use Rattle.cc_arith.specs.declared.binary_operator.IntOp.TheVariants.{And, Or, Xor, Lt, Le, Gt, Ge, Eq, Ne}
use Rattle.cc_arith.specs.declared.unary_operator.IntUnary.{IntUnary}
use Rattle.cc_arith.specs.declared.unary_operator.IntUnary.TheVariants.{Invert, Not}
use Rattle.cc_arith.specs.Kinds.{width_of, is_signed, greatest, IsInRange}
use Rattle.cc_arith.specs.Promotions.{promoted, IsPromoted, common_of}
use Rattle.cc_arith.specs.Conversions.{converted}
use Rattle.cc_arith.specs.Bits.{bit_of, value_with}
use Rattle.cc_arith.specs.Operators.{binary_of, unary_of, binary_kind_of, unary_kind_of}

-- 0 or 1
abbrev pub IsTruth : ℤ → Type 0
IsTruth z = (z ≡ pos 0) ⊎ (z ≡ pos 1)

-- z is 0 or 1 where the operator compares
abbrev pub TruthIfCompared : IntOp → ℤ → Type 0
TruthIfCompared Lt z = IsTruth z
TruthIfCompared Le z = IsTruth z
TruthIfCompared Gt z = IsTruth z
TruthIfCompared Ge z = IsTruth z
TruthIfCompared Eq z = IsTruth z
TruthIfCompared Ne z = IsTruth z
TruthIfCompared op z = Unit {0}

-- bit by bit, z is what an operator on bits makes of a and b
abbrev pub BitsFollow : IntOp → IntKind → ℤ → ℤ → ℤ → Type 0
BitsFollow And k a b z = (i : ℕ) → i < width_of k → bit_of z i ≡ min (bit_of a i) (bit_of b i)
BitsFollow Or k a b z = (i : ℕ) → i < width_of k → bit_of z i ≡ max (bit_of a i) (bit_of b i)
BitsFollow Xor k a b z = (i : ℕ) → i < width_of k → bit_of z i ≡ (bit_of a i + bit_of b i) % 2
BitsFollow op k a b z = Unit {0}

-- z is 0 or 1 where the operator is `!`
abbrev pub TruthIfNot : IntUnary → ℤ → Type 0
TruthIfNot Not z = IsTruth z
TruthIfNot op z = Unit {0}

-- bit by bit, z is the opposite of a where the operator is `~`
abbrev pub BitsInverted : IntUnary → IntKind → ℤ → ℤ → Type 0
BitsInverted Invert k a z = (i : ℕ) → i < width_of k → bit_of z i ≡ 1 - bit_of a i
BitsInverted op k a z = Unit {0}

-- ---- the laws as statements

-- a value of the kind is converted to itself
abbrev pub ConversionKeepsValues : Type 0
ConversionKeepsValues = (k : IntKind) → (v : ℤ) → IsInRange k v → converted k v ≡ v

-- what a conversion gives is a value of the kind
abbrev pub ConversionGivesValues : Type 0
ConversionGivesValues = (k : IntKind) → (v : ℤ) → IsInRange k (converted k v)

-- a conversion keeps the bits that the kind has room for
abbrev pub ConversionKeepsLowBits : Type 0
ConversionKeepsLowBits = (k : IntKind) → (v : ℤ) → (i : ℕ) → k ≢ BoolKind → i < width_of k → bit_of (converted k v) i ≡ bit_of v i

-- promotion gives a promoted kind, and that one represents each value of the kind
abbrev pub PromotionPromotes : Type 0
PromotionPromotes = (k : IntKind) → IsPromoted (promoted k)

abbrev pub PromotionKeepsValues : Type 0
PromotionKeepsValues = (k : IntKind) → (v : ℤ) → IsInRange k v → IsInRange (promoted k) v

-- the common kind is promoted, and does not depend on which operand stands left
abbrev pub CommonIsPromoted : Type 0
CommonIsPromoted = (a b : IntKind) → IsPromoted (common_of a b)

abbrev pub CommonIsSymmetric : Type 0
CommonIsSymmetric = (a b : IntKind) → common_of a b ≡ common_of b a

-- each result is a value of the kind that C gives it, and also one of the operands' kind
abbrev pub BinaryGivesValues : Type 0
BinaryGivesValues = (op : IntOp) → (k : IntKind) → (a b : ℤ) → IsInRange k a → IfOk (binary_of op k a b) (λ z. IsInRange (binary_kind_of op k) z × IsInRange k z)

abbrev pub UnaryGivesValues : Type 0
UnaryGivesValues = (op : IntUnary) → (k : IntKind) → (a : ℤ) → IsInRange k a → IfOk (unary_of op k a) (λ z. IsInRange (unary_kind_of op k) z × IsInRange k z)

-- a comparison gives 0 or 1, and so does `!`
abbrev pub ComparisonGivesTruth : Type 0
ComparisonGivesTruth = (op : IntOp) → (k : IntKind) → (a b : ℤ) → IfOk (binary_of op k a b) (TruthIfCompared op)

abbrev pub NotGivesTruth : Type 0
NotGivesTruth = (op : IntUnary) → (k : IntKind) → (a : ℤ) → IfOk (unary_of op k a) (TruthIfNot op)

-- a value with given bits has these bits, and a value is the one with its bits (6.2.6.2)
abbrev pub ValueHasItsBits : Type 0
ValueHasItsBits = (k : IntKind) → (bit : ℕ → ℕ) → k ≢ BoolKind → ((i : ℕ) → i < width_of k → bit i < 2) → (i : ℕ) → i < width_of k → bit_of (value_with k bit) i ≡ bit i

abbrev pub BitsGiveTheValue : Type 0
BitsGiveTheValue = (k : IntKind) → (z : ℤ) → k ≢ BoolKind → IsInRange k z → value_with k (bit_of z) ≡ z

-- `~a` is -1 - a in a signed kind, and the greatest value less a in an unsigned one (6.5.3.3, paragraph 4)
abbrev pub ComplementIsMinusOneLess : Type 0
ComplementIsMinusOneLess = (k : IntKind) → (a : ℤ) → IsPromoted k → IsInRange k a → unary_of Invert k a ≡ Ok ((if is_signed k then negsuc 0 else greatest k) -ℤ a)

-- the quotient times the divisor, and the remainder, give the dividend (6.5.5, paragraph 6)
abbrev pub DivisionRebuilds : Type 0
DivisionRebuilds = (a b : ℤ) → int_div a b *ℤ b +ℤ int_rem a b ≡ a

-- the remainder is nearer to 0 than the divisor, and on the side of the dividend: so the quotient is rounded toward 0
abbrev pub RemainderIsSmall : Type 0
RemainderIsSmall = (a b : ℤ) → b ≢ pos 0 → unsigned_abs (int_rem a b) < unsigned_abs b

abbrev pub RemainderHasTheSignOfTheDividend : Type 0
RemainderHasTheSignOfTheDividend = (a b : ℤ) → (pos 0 ≤ℤ a → pos 0 ≤ℤ int_rem a b) × (a ≤ℤ pos 0 → int_rem a b ≤ℤ pos 0)

-- the quotient of a shift to the right is the greatest whole number that is not above a / 2 ^ n (6.5.7, paragraph 5)
abbrev pub RightShiftRoundsDown : Type 0
RightShiftRoundsDown =
    (a : ℤ) → (n : ℕ) →
    ((int_div_euclid a (pos (2 ^ n)) *ℤ pos (2 ^ n)) ≤ℤ a) × (a <ℤ (int_div_euclid a (pos (2 ^ n)) *ℤ pos (2 ^ n) +ℤ pos (2 ^ n)))
