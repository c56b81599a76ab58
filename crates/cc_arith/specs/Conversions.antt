-- The value that a conversion gives (C17 6.3.1.2, 6.3.1.3).
use Rattle.std.specs.Prelude.{◌≡◌, ℕ, zero, ◌^◌, ℤ, pos, ◌+ℤ◌, ◌-ℤ◌, ◌*ℤ◌, Bool, true, false, if◌then◌else◌}
use Rattle.std.specs.Int.{int_rem_euclid}
use Rattle.cc_arith.specs.declared.kind.IntKind.{IntKind}
use Rattle.cc_arith.specs.declared.kind.IntKind.TheVariants.{Bool as BoolKind}
use Rattle.cc_arith.specs.Kinds.{width_of, least}

-- the test of 0
abbrev pub is_zero : ℤ → Bool
is_zero (pos zero) = true
is_zero z = false

-- a and b are equal modulo 2 ^ w
abbrev pub IsSameModulo : ℕ → ℤ → ℤ → Type 0
IsSameModulo w a b = (q : ℤ) × (a ≡ b +ℤ q *ℤ pos (2 ^ w))

-- of the 2 ^ width values from the least one upward, the one that equals v modulo 2 ^ width
abbrev pub reduced : IntKind → ℤ → ℤ
reduced k v = least k +ℤ int_rem_euclid (v -ℤ least k) (pos (2 ^ width_of k))

-- v converted to the kind: 0 or 1 for `_Bool` (6.3.1.2), and else the value of the kind that equals v modulo 2 ^ width
-- (6.3.1.3, which leaves it to the implementation where a signed kind can't represent v)
abbrev pub converted : IntKind → ℤ → ℤ
converted BoolKind v = if is_zero v then pos 0 else pos 1
converted k v = reduced k v
