-- Counts and values that go up while the bytes are passed.
use Rattle.std.proofs.Common.{◌≡◌, ℕ, zero, suc, ◌+◌, ◌*◌, ◌≤◌, List, [], ◌∷◌, refl, arith}
use Rattle.cc_lex.specs.Numbers.{value_from, digit_value}
use Rattle.std.proofs.Math.Nat.{le-mul_of_pos_right, mul_comm}
use Rattle.cc_lex.specs.Reading.{more, plus}

pub plus_more : (n c : ℕ) → plus (n + 1) c ≡ plus n (more c)
plus_more n zero = refl
plus_more n (suc c) = omega arith

pub value_grows : (base n : ℕ) (z : List ℕ) → 1 ≤ base → n ≤ value_from base n z
value_grows base n [] h = omega arith
value_grows base n (b ∷ z) h = omega (arith, value_grows base (base * n + digit_value b) z h, le-mul_of_pos_right n h, mul_comm base n)
