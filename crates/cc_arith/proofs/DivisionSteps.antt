-- The steps of a division: the divisor is not 0, and the quotient is a value of the kind or is not.
use Rattle.std.proofs.Common.{◌≡◌, zero, suc, ℤ, pos, negsuc, Bool, true, false, Result, Ok, Err, cond, int_div, refl}
use Rattle.std.specs.Int.{w128, cast_unsigned}
use Rattle.cc_arith.specs.declared.kind.IntKind.{IntKind}
use Rattle.cc_arith.specs.declared.undefined.ArithUndef.{ArithUndef}
use Rattle.cc_arith.specs.declared.undefined.ArithUndef.TheVariants.{Overflow}
use Rattle.cc_arith.specs.Kinds.{is_in_range}
use Rattle.cc_arith.specs.Conversions.{is_zero}
use Rattle.cc_arith.specs.Operators.{represented, divided}

is_zero_not : (b : ℤ) → ¬ (cast_unsigned w128 b ≡ 0) → is_zero b ≡ false
is_zero_not (pos zero) h = absurd (h refl)
is_zero_not (pos (suc n)) h = refl
is_zero_not (negsuc n) h = refl

pub divided_quotient : (k : IntKind) (a b q : ℤ) → ¬ (cast_unsigned w128 b ≡ 0) → q ≡ int_div a b → represented Overflow k q ≡ divided k a b (int_div a b)
divided_quotient k a b q h e = rw (is_zero_not b h, e) refl

abbrev fine : ℤ → Result ℤ ArithUndef
fine z = Ok z

abbrev bad : ArithUndef → Result ℤ ArithUndef
bad e = Err e

-- where the quotient fits, the answer is z, and else the same error
chosen : (t : Bool) (q z x : ℤ) → cond t (fine q) (bad Overflow) ≡ Ok x → cond t (fine z) (bad Overflow) ≡ Ok z
chosen true q z x h = refl
chosen false q z x h = cc

refused : (t : Bool) (q z : ℤ) (e : ArithUndef) → cond t (fine q) (bad Overflow) ≡ Err e → cond t (fine z) (bad Overflow) ≡ Err e
refused true q z e h = cc
refused false q z e h = h

pub divided_ok : (k : IntKind) (a b q z x : ℤ) → ¬ (cast_unsigned w128 b ≡ 0) → q ≡ int_div a b → represented Overflow k q ≡ Ok x → divided k a b z ≡ Ok z
divided_ok k a b q z x h e f = rw (is_zero_not b h, ← e) (chosen (is_in_range k q) q z x f)

pub divided_err : (k : IntKind) (a b q z : ℤ) (w : ArithUndef) → ¬ (cast_unsigned w128 b ≡ 0) → q ≡ int_div a b → represented Overflow k q ≡ Err w → divided k a b z ≡ Err w
divided_err k a b q z w h e f = rw (is_zero_not b h, ← e) (refused (is_in_range k q) q z w f)
