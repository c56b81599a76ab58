-- A shift to the right rounds down.
use Rattle.std.proofs.Common.{◌≡◌, ℕ, ◌^◌, ◌<◌, ℤ, pos, negsuc, ◌+ℤ◌, ◌*ℤ◌, ◌≤ℤ◌, ◌<ℤ◌, refl, arith}
use Rattle.std.proofs.lemmas.Int.{ints}
use Rattle.std.specs.Int.{int_shr, int_div_euclid}
use Rattle.std.proofs.lemmas.Nat.{pow_pos}
use Rattle.cc_arith.proofs.Remainders.{rem_bounds, euclid}

pub shift_rounds_down : (a : ℤ) (n : ℕ) → int_shr a n ≡ int_div_euclid a (pos (2 ^ n))
shift_rounds_down (pos a) n = refl
shift_rounds_down (negsuc a) n = refl

-- the quotient is the greatest whole number that is not above the true one
pub rounded_down : (a : ℤ) (n : ℕ) → ((int_div_euclid a (pos (2 ^ n)) *ℤ pos (2 ^ n)) ≤ℤ a) × (a <ℤ (int_div_euclid a (pos (2 ^ n)) *ℤ pos (2 ^ n) +ℤ pos (2 ^ n)))
rounded_down a n =
    let some : 0 < 2 ^ n = pow_pos n in
    let parts = euclid a (2 ^ n) some in
    let small = rem_bounds a (2 ^ n) some in
    (omega (arith, ints, parts, small), omega (arith, ints, parts, small))
