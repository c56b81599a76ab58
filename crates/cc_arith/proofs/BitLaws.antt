-- Values and their bits: what a conversion and the operators on bits do to each bit.
use Rattle.std.specs.Prelude.{if◌then◌else◌}
use Rattle.std.proofs.Common.{inl, inr, ◌≡◌, ℕ, zero, suc, ◌+◌, ◌-◌, ◌*◌, ◌/◌, ◌%◌, ◌^◌, ◌<◌, ◌≤◌, min, max, ℤ, pos, negsuc, ◌+ℤ◌, ◌-ℤ◌, FitsSigned, unsigned_abs, bit_and, bit_or, bit_xor, refl, sym, ap, ◌∙◌, arith, lit<}
use mir.Val.{bits}
use Rattle.std.specs.Int.{Width, w8, w16, w32, w64, w128, bit_at, cast_unsigned, cast_signed, int_rem_euclid, int_div_euclid, int_bit_and, int_bit_or, int_bit_xor}
use Rattle.std.proofs.lemmas.Int.{ints, of_z-to_z}
use Rattle.std.proofs.lemmas.Nat.{mod_below, div-add-mod', and_le_l, or_lt, xor_lt}
use Rattle.std.proofs.Math.Facts.{sfits_to_z}
use Rattle.std.proofs.lemmas.Nat.Bits.{bit_at-lt, bit_at_lowest, bit_at_and, bit_at_or, bit_at_xor, bit_at_not, bit_at_cat_low, bit_at_cat_high, same_from_bits_below}
use Rattle.std.proofs.Math.Nat.{mod-eq_of_lt, pow-suc, eq-or-lt_of_le}
use Rattle.cc_arith.specs.declared.kind.IntKind.{IntKind}
use Rattle.cc_arith.specs.declared.kind.IntKind.TheVariants.{Bool as BoolKind, Char, SChar, UChar, Short, UShort, Int, UInt, ULong, ULLong}
use Rattle.cc_arith.specs.Kinds.{width_of, is_signed, least, greatest, IsInRange}
use Rattle.cc_arith.specs.Promotions.{promoted, IsPromoted}
use Rattle.cc_arith.specs.Conversions.{converted, IsSameModulo}
use Rattle.cc_arith.specs.Bits.{bit_of, sum_of_bits, value_with, and_of, or_of, xor_of, complement_of}
use Rattle.cc_arith.proofs.Remainders.{euclid, rem_of_same}
use Rattle.cc_arith.proofs.ConversionLaws.{promoted_not_bool, some_values, converted_within, converted_same, converted_modulo, converted_of_same}

-- ---- the bits of a number that is reduced

-- z modulo 2 ^ width, from 0 upward
abbrev pattern : ℕ → ℤ → ℕ
pattern w z = unsigned_abs (int_rem_euclid z (pos (2 ^ w)))

low_bit : (w n i : ℕ) → i < w → bit_at (n % 2 ^ w) i ≡ bit_at n i
low_bit w n i h = sym (bit_at_cat_low (n / 2 ^ w) w (n % 2 ^ w) i h) ∙ ap (λ m. bit_at m i) (div-add-mod' n (2 ^ w))

pattern_bit : (w : Width) (z : ℤ) (i : ℕ) → 0 < 2 ^ bits w → i < bits w → bit_at (pattern (bits w) z) i ≡ bit_of z i
pattern_bit w (pos n) i some h = low_bit (bits w) n i h
pattern_bit w (negsuc n) i some h = bit_at_not w (n % 2 ^ bits w) i (mod_below n (2 ^ bits w) some) h ∙ ap (λ b. 1 - b) (low_bit (bits w) n i h)

-- the width of a kind other than `_Bool`, as std names it
abbrev machine_width : IntKind → Width
machine_width BoolKind = w8
machine_width Char = w8
machine_width SChar = w8
machine_width UChar = w8
machine_width Short = w16
machine_width UShort = w16
machine_width Int = w32
machine_width UInt = w32
machine_width _ = w64

kind_bit : (k : IntKind) (z : ℤ) (i : ℕ) → ¬ (k ≡ BoolKind) → i < width_of k → bit_at (pattern (width_of k) z) i ≡ bit_of z i
kind_bit BoolKind z i other h = absurd (other refl)
kind_bit k z i other h = pattern_bit (machine_width k) z i (lit< tt) h

-- a conversion keeps the low bits
pub converted_bits : (k : IntKind) (v : ℤ) (i : ℕ) → ¬ (k ≡ BoolKind) → i < width_of k → bit_of (converted k v) i ≡ bit_of v i
converted_bits k v i other h =
    let same = converted_modulo k v other in
    let one : pattern (width_of k) v ≡ pattern (width_of k) (converted k v) = ap unsigned_abs (rem_of_same v (converted k v) same.0 (2 ^ width_of k) (some_values k) same.1) in
    sym (kind_bit k (converted k v) i other h) ∙ ap (λ n. bit_at n i) (sym one) ∙ kind_bit k v i other h

-- ---- a value by its bits

pattern_below : (w : ℕ) (z : ℤ) → 0 < 2 ^ w → pattern w z < 2 ^ w
pattern_below w (pos n) some = mod_below n _ some
pattern_below w (negsuc n) some = omega arith

pattern_is : (w : ℕ) (z : ℤ) → int_rem_euclid z (pos (2 ^ w)) ≡ pos (pattern w z)
pattern_is w (pos n) = refl
pattern_is w (negsuc n) = refl

rest_is : (w : ℕ) (z : ℤ) → 0 < 2 ^ w → IsSameModulo w z (int_rem_euclid z (pos (2 ^ w)))
rest_is w z some = (int_div_euclid z (pos (2 ^ w)), omega (arith, ints, euclid z (2 ^ w) some))

-- two values of the kind with the same bits are equal
pub same_from_kind_bits : (k : IntKind) (r s : ℤ) → ¬ (k ≡ BoolKind) → IsInRange k r → IsInRange k s → ((i : ℕ) → i < width_of k → bit_of r i ≡ bit_of s i) → r ≡ s
same_from_kind_bits k r s other in_r in_s each =
    let w = width_of k in
    let some = some_values k in
    let one = same_from_bits_below w (pattern w r) (pattern w s) (pattern_below w r some) (pattern_below w s some)
    (λ i h. kind_bit k r i other h ∙ each i h ∙ sym (kind_bit k s i other h)) in
    let rests : int_rem_euclid r (pos (2 ^ w)) ≡ int_rem_euclid s (pos (2 ^ w)) = pattern_is w r ∙ ap pos one ∙ sym (pattern_is w s) in
    sym (converted_same k r in_r)
    ∙ converted_of_same k r _ other (rest_is w r some)
    ∙ ap (converted k) rests
    ∙ sym (converted_of_same k s _ other (rest_is w s some))
    ∙ converted_same k s in_s

-- ---- the value with given bits

one_more : (b p s : ℕ) → b < 2 → s < p → b * p + s < p * 2
one_more zero p s h l = omega arith
one_more (suc zero) p s h l = omega arith
one_more (suc (suc b)) p s h l = absurd (omega arith)

sum_below : (w : ℕ) (bit : ℕ → ℕ) → ((i : ℕ) → i < w → bit i < 2) → sum_of_bits w bit < 2 ^ w
unfolding sum_of_bits
sum_below zero bit small = lit< tt
sum_below (suc w) bit small =
    let lower = sum_below w bit (λ i h. small i (omega (arith, h))) in
    omega (arith, pow-suc 2 w, one_more (bit w) (2 ^ w) (sum_of_bits w bit) (small w (omega arith)) lower)

bit_of_sum : (w : ℕ) (bit : ℕ → ℕ) → ((i : ℕ) → i < w → bit i < 2) → (i : ℕ) → i < w → bit_at (sum_of_bits w bit) i ≡ bit i
unfolding sum_of_bits
bit_of_sum zero bit small i h = absurd (omega arith)
bit_of_sum (suc w) bit small i h =
    let smaller : (j : ℕ) → j < w → bit j < 2 = λ j l. small j (omega (arith, l)) in
    let here = small w (omega arith) in
    elim (eq-or-lt_of_le (let most : i ≤ w = omega arith in most)) [
      | inl same ↦
          bit_at_cat_high (bit w) w (sum_of_bits w bit) i (sum_below w bit smaller) (omega (arith, same))
          ∙ ap (bit_at (bit w)) (let none : i - w ≡ 0 = omega (arith, same) in none)
          ∙ bit_at_lowest (bit w) ∙ mod-eq_of_lt here ∙ ap bit (sym same)
      | inr less ↦ bit_at_cat_low (bit w) w (sum_of_bits w bit) i less ∙ bit_of_sum w bit smaller i less
    ]

-- the value with given bits has these bits
pub value_bits : (k : IntKind) (bit : ℕ → ℕ) → ¬ (k ≡ BoolKind) → ((i : ℕ) → i < width_of k → bit i < 2) → (i : ℕ) → i < width_of k → bit_of (value_with k bit) i ≡ bit i
value_bits k bit other small i h =
    converted_bits k (pos (sum_of_bits (width_of k) bit)) i other h ∙ bit_of_sum (width_of k) bit small i h

-- v converted to the kind is the value with given bits, if these are the low bits of v
pub converted_from_bits : (k : IntKind) (v : ℤ) (bit : ℕ → ℕ) → ¬ (k ≡ BoolKind) → ((i : ℕ) → i < width_of k → bit_of v i ≡ bit i) → ((i : ℕ) → i < width_of k → bit i < 2) → converted k v ≡ value_with k bit
converted_from_bits k v bit other each small =
    same_from_kind_bits k (converted k v) (value_with k bit) other (converted_within k v) (converted_within k _)
    (λ i h. converted_bits k v i other h ∙ each i h ∙ sym (value_bits k bit other small i h))

bit_of-lt : (z : ℤ) (i : ℕ) → bit_of z i < 2
bit_of-lt (pos n) i = bit_at-lt n i
bit_of-lt (negsuc n) i = omega (arith, bit_at-lt n i)

-- a value is the value with its bits
pub value_of_bits : (k : IntKind) (z : ℤ) → ¬ (k ≡ BoolKind) → IsInRange k z → value_with k (bit_of z) ≡ z
value_of_bits k z other h = sym (converted_from_bits k z (bit_of z) other (λ i _. refl) (λ i _. bit_of-lt z i)) ∙ converted_same k z h

-- ---- the operators on bits, at 128 bits

-- the bits of a number as `i128` has them
wide_bit : (z : ℤ) (i : ℕ) → FitsSigned w128 z → i < 128 → bit_at (cast_unsigned w128 z) i ≡ bit_of z i
wide_bit (pos n) i fits h = refl
wide_bit (negsuc n) i fits h =
    let small : n < 2 ^ 128 = omega (arith, fits.sfits) in
    ap (λ m. bit_at m i) (let same : 2 ^ 128 - suc n ≡ 2 ^ 128 - 1 - n = omega arith in same) ∙ bit_at_not w128 n i small h

wide_below : (z : ℤ) → FitsSigned w128 z → cast_unsigned w128 z < 2 ^ 128
wide_below (pos n) fits = omega (arith, fits.sfits)
wide_below (negsuc n) fits = omega arith

-- the bits of the number that `i128` reads from n
signed_bit : (n i : ℕ) → n < 2 ^ 128 → i < 128 → bit_of (cast_signed w128 n) i ≡ bit_at n i
signed_bit n i below h =
    sym (wide_bit (cast_signed w128 n) i (sfits_to_z (record { fits = below })) h) ∙ ap (λ m. bit_at m i) (of_z-to_z w128 n below)

narrow : (k : IntKind) (i : ℕ) → i < width_of k → i < 128
narrow BoolKind i h = omega arith
narrow _ i h = omega arith

pub and_is : (k : IntKind) (a b : ℤ) → IsPromoted k → FitsSigned w128 a → FitsSigned w128 b → converted k (int_bit_and w128 a b) ≡ and_of k a b
unfolding and_of
and_is k a b promoted fits_a fits_b =
    let x = cast_unsigned w128 a in
    let y = cast_unsigned w128 b in
    let below : bit_and x y < 2 ^ 128 = omega (arith, wide_below a fits_a, and_le_l x y) in
    converted_from_bits k (int_bit_and w128 a b) (λ i. min (bit_of a i) (bit_of b i)) (promoted_not_bool k promoted)
    (λ i h.
    let h' = narrow k i h in
    signed_bit (bit_and x y) i below h' ∙ bit_at_and x y i ∙ ap (λ t. min t (bit_at y i)) (wide_bit a i fits_a h') ∙ ap (min (bit_of a i)) (wide_bit b i fits_b h'))
    (λ i h. omega (arith, bit_of-lt a i, bit_of-lt b i))

pub or_is : (k : IntKind) (a b : ℤ) → IsPromoted k → FitsSigned w128 a → FitsSigned w128 b → converted k (int_bit_or w128 a b) ≡ or_of k a b
unfolding or_of
or_is k a b promoted fits_a fits_b =
    let x = cast_unsigned w128 a in
    let y = cast_unsigned w128 b in
    let below : bit_or x y < 2 ^ 128 = or_lt 128 x y (wide_below a fits_a) (wide_below b fits_b) in
    converted_from_bits k (int_bit_or w128 a b) (λ i. max (bit_of a i) (bit_of b i)) (promoted_not_bool k promoted)
    (λ i h.
    let h' = narrow k i h in
    signed_bit (bit_or x y) i below h' ∙ bit_at_or x y i ∙ ap (λ t. max t (bit_at y i)) (wide_bit a i fits_a h') ∙ ap (max (bit_of a i)) (wide_bit b i fits_b h'))
    (λ i h. omega (arith, bit_of-lt a i, bit_of-lt b i))

pub xor_is : (k : IntKind) (a b : ℤ) → IsPromoted k → FitsSigned w128 a → FitsSigned w128 b → converted k (int_bit_xor w128 a b) ≡ xor_of k a b
unfolding xor_of
xor_is k a b promoted fits_a fits_b =
    let x = cast_unsigned w128 a in
    let y = cast_unsigned w128 b in
    let below : bit_xor x y < 2 ^ 128 = xor_lt 128 x y (wide_below a fits_a) (wide_below b fits_b) in
    converted_from_bits k (int_bit_xor w128 a b) (λ i. (bit_of a i + bit_of b i) % 2) (promoted_not_bool k promoted)
    (λ i h.
    let h' = narrow k i h in
    signed_bit (bit_xor x y) i below h' ∙ bit_at_xor x y i ∙ ap (λ t. (t + bit_at y i) % 2) (wide_bit a i fits_a h') ∙ ap (λ t. (bit_of a i + t) % 2) (wide_bit b i fits_b h'))
    (λ i h. mod_below (bit_of a i + bit_of b i) 2 (lit< tt))

opposite : (a : ℤ) (i : ℕ) → bit_of (negsuc 0 -ℤ a) i ≡ 1 - bit_of a i
opposite (pos n) i = ap (λ z. bit_of z i) (let e : negsuc 0 -ℤ pos n ≡ negsuc n = omega (arith, ints) in e)
opposite (negsuc n) i = ap (λ z. bit_of z i) (let e : negsuc 0 -ℤ negsuc n ≡ pos n = omega (arith, ints) in e) ∙ omega (arith, bit_at-lt n i)

pub complement_is : (k : IntKind) (a : ℤ) → IsPromoted k → converted k (negsuc 0 -ℤ a) ≡ complement_of k a
unfolding complement_of
complement_is k a promoted =
    converted_from_bits k (negsuc 0 -ℤ a) (λ i. 1 - bit_of a i) (promoted_not_bool k promoted) (λ i h. opposite a i) (λ i h. omega arith)

unsigned_complement : (k : IntKind) (a : ℤ) → ¬ (k ≡ BoolKind) → least k ≡ pos 0 → greatest k +ℤ pos 1 ≡ pos (2 ^ width_of k) → IsInRange k a → converted k (negsuc 0 -ℤ a) ≡ greatest k -ℤ a
unsigned_complement k a other low high h =
    converted_of_same k (negsuc 0 -ℤ a) (greatest k -ℤ a) other (negsuc 0, omega (arith, ints, high))
    ∙ converted_same k (greatest k -ℤ a) (omega (arith, ints, low, h), omega (arith, ints, low, h))

minus_one_less : (k : IntKind) (a : ℤ) → ¬ (k ≡ BoolKind) → IsInRange k a → converted k (negsuc 0 -ℤ a) ≡ (if is_signed k then negsuc 0 else greatest k) -ℤ a
minus_one_less BoolKind a other h = absurd (other refl)
minus_one_less UChar a other h = unsigned_complement UChar a other refl refl h
minus_one_less UShort a other h = unsigned_complement UShort a other refl refl h
minus_one_less UInt a other h = unsigned_complement UInt a other refl refl h
minus_one_less ULong a other h = unsigned_complement ULong a other refl refl h
minus_one_less ULLong a other h = unsigned_complement ULLong a other refl refl h
minus_one_less k a other h = converted_same k (negsuc 0 -ℤ a) (omega (arith, ints, h), omega (arith, ints, h))

-- `~a` as a number
pub complement_number : (k : IntKind) (a : ℤ) → IsPromoted k → IsInRange k a → complement_of k a ≡ (if is_signed k then negsuc 0 else greatest k) -ℤ a
complement_number k a promoted h = sym (complement_is k a promoted) ∙ minus_one_less k a (promoted_not_bool k promoted) h

-- ---- what each operator on bits does to a bit

pub and_bits : (k : IntKind) (a b : ℤ) → IsPromoted k → (i : ℕ) → i < width_of k → bit_of (and_of k a b) i ≡ min (bit_of a i) (bit_of b i)
unfolding and_of
and_bits k a b promoted = value_bits k (λ i. min (bit_of a i) (bit_of b i)) (promoted_not_bool k promoted) (λ i h. omega (arith, bit_of-lt a i, bit_of-lt b i))

pub or_bits : (k : IntKind) (a b : ℤ) → IsPromoted k → (i : ℕ) → i < width_of k → bit_of (or_of k a b) i ≡ max (bit_of a i) (bit_of b i)
unfolding or_of
or_bits k a b promoted = value_bits k (λ i. max (bit_of a i) (bit_of b i)) (promoted_not_bool k promoted) (λ i h. omega (arith, bit_of-lt a i, bit_of-lt b i))

pub xor_bits : (k : IntKind) (a b : ℤ) → IsPromoted k → (i : ℕ) → i < width_of k → bit_of (xor_of k a b) i ≡ (bit_of a i + bit_of b i) % 2
unfolding xor_of
xor_bits k a b promoted = value_bits k (λ i. (bit_of a i + bit_of b i) % 2) (promoted_not_bool k promoted) (λ i h. mod_below (bit_of a i + bit_of b i) 2 (lit< tt))

pub complement_bits : (k : IntKind) (a : ℤ) → IsPromoted k → (i : ℕ) → i < width_of k → bit_of (complement_of k a) i ≡ 1 - bit_of a i
unfolding complement_of
complement_bits k a promoted = value_bits k (λ i. 1 - bit_of a i) (promoted_not_bool k promoted) (λ i h. omega arith)

-- ---- these results are values of the kind

pub and_within : (k : IntKind) (a b : ℤ) → IsInRange k (and_of k a b)
unfolding and_of
and_within k a b = converted_within k _

pub or_within : (k : IntKind) (a b : ℤ) → IsInRange k (or_of k a b)
unfolding or_of
or_within k a b = converted_within k _

pub xor_within : (k : IntKind) (a b : ℤ) → IsInRange k (xor_of k a b)
unfolding xor_of
xor_within k a b = converted_within k _

pub complement_within : (k : IntKind) (a : ℤ) → IsInRange k (complement_of k a)
unfolding complement_of
complement_within k a = converted_within k _
