-- The remainder by a positive number that is not negative.
use Rattle.std.proofs.Common.{◌≡◌, ℕ, ◌+◌, ◌-◌, ◌*◌, ◌%◌, ◌<◌, ℤ, pos, negsuc, ◌+ℤ◌, ◌*ℤ◌, ◌≤ℤ◌, ◌<ℤ◌, refl, sym, ap, ◌∙◌, arith}
use Rattle.std.specs.Int.{int_rem_euclid, int_div_euclid}
use Rattle.std.proofs.lemmas.Int.{ints, int_rem_euclid_is}
use Rattle.std.proofs.lemmas.Nat.{mod_below, div-add-mod'}
use Rattle.std.proofs.Math.Nat.{mod-eq_of_lt, mul-le-mul_left, add-mul-mod_self_right}
use borrow.Author.Differences.{up, down}

-- it is from 0 to the divisor less 1
pub rem_bounds : (z : ℤ) (s : ℕ) → 0 < s → (pos 0 ≤ℤ int_rem_euclid z (pos s)) × (int_rem_euclid z (pos s) <ℤ pos s)
rem_bounds (pos a) s some = (omega (arith, ints), omega (arith, ints, mod_below a s some))
rem_bounds (negsuc a) s some = (omega (arith, ints), omega (arith, ints, mod_below a s some))

-- a number from 0 to the divisor less 1 is its own remainder
pub rem_same : (z : ℤ) (s : ℕ) → pos 0 ≤ℤ z → z <ℤ pos s → int_rem_euclid z (pos s) ≡ z
rem_same (pos a) s low high = let h : a < s = omega (arith, ints) in ap pos (mod-eq_of_lt h)
rem_same (negsuc a) s low high = absurd (omega (arith, ints))

-- quotient, divisor and remainder give the number
pub euclid : (z : ℤ) (s : ℕ) → 0 < s → int_div_euclid z (pos s) *ℤ pos s +ℤ int_rem_euclid z (pos s) ≡ z
euclid (pos a) s some = omega (arith, ints, div-add-mod' a s)
euclid (negsuc a) s some = omega (arith, ints, div-add-mod' a s, mod_below a s some)

-- numbers that differ by a multiple of the divisor have one remainder
pub rem_of_same : (a b q : ℤ) (s : ℕ) → 0 < s → a ≡ b +ℤ q *ℤ pos s → int_rem_euclid a (pos s) ≡ int_rem_euclid b (pos s)
rem_of_same a b q s some e =
    let far_a = mul-le-mul_left (down a) some in
    let far_b = mul-le-mul_left (down b) some in
    let m = up a + down a * s - down a in
    let n = up b + down b * s - down b in
    let first = int_rem_euclid_is a (pos s) s (down a) m some refl (omega (arith, ints)) in
    let second = int_rem_euclid_is b (pos s) s (down b) n some refl (omega (arith, ints)) in
    let i = down q + down b in
    let j = up q + down a in
    let sum : m + i * s ≡ n + j * s = omega (arith, ints, e) in
    first ∙ ap pos (sym (add-mul-mod_self_right m i s) ∙ ap (λ x. x % s) sum ∙ add-mul-mod_self_right n j s) ∙ sym second
