-- The bits of a value in two's complement, and the value with given bits (C17 6.2.6.2).
use Rattle.std.specs.Prelude.{ℕ, zero, suc, ◌+◌, ◌-◌, ◌*◌, ◌%◌, ◌^◌, min, max, ℤ, pos, negsuc}
use Rattle.std.specs.Int.{bit_at}
use Rattle.cc_arith.specs.declared.kind.IntKind.{IntKind}
use Rattle.cc_arith.specs.Kinds.{width_of}
use Rattle.cc_arith.specs.Conversions.{converted}

-- bit i of z, 0 being the lowest: a negative z has the opposite of each bit of -1 - z, and `negsuc n` is -1 - n
abbrev pub bit_of : ℤ → ℕ → ℕ
bit_of (pos n) i = bit_at n i
bit_of (negsuc n) i = 1 - bit_at n i

-- the sum of bit i times 2 ^ i for each i below w
unfoldable pub sum_of_bits : ℕ → (ℕ → ℕ) → ℕ
sum_of_bits zero bit = 0
sum_of_bits (suc w) bit = bit w * 2 ^ w + sum_of_bits w bit

-- the value of the kind with these bits; the highest bit of a signed kind counts as -2 ^ (width - 1),
-- which equals 2 ^ (width - 1) modulo 2 ^ width
abbrev pub value_with : IntKind → (ℕ → ℕ) → ℤ
value_with k bit = converted k (pos (sum_of_bits (width_of k) bit))

-- `a & b`: a bit of it is 1 where both bits are (6.5.10)
unfoldable pub and_of : IntKind → ℤ → ℤ → ℤ
and_of k a b = value_with k (λ i. min (bit_of a i) (bit_of b i))

-- `a | b`: where at least one is (6.5.12)
unfoldable pub or_of : IntKind → ℤ → ℤ → ℤ
or_of k a b = value_with k (λ i. max (bit_of a i) (bit_of b i))

-- `a ^ b`: where exactly one is (6.5.11)
unfoldable pub xor_of : IntKind → ℤ → ℤ → ℤ
xor_of k a b = value_with k (λ i. (bit_of a i + bit_of b i) % 2)

-- `~a`: where a's bit is 0 (6.5.3.3)
unfoldable pub complement_of : IntKind → ℤ → ℤ
complement_of k a = value_with k (λ i. 1 - bit_of a i)
