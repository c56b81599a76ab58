-- The integer kinds of C and the values that each can represent (C17 6.2.5, 6.2.6.2 and 5.2.4.2.1).
use Rattle.std.specs.Prelude.{ℕ, ◌-◌, ◌^◌, ℤ, pos, neg_ℤ, ◌≤ℤ◌, int_le, ◌&&◌, Bool, true, false, if◌then◌else◌}
use Rattle.cc_arith.specs.declared.kind.IntKind.{IntKind}
use Rattle.cc_arith.specs.declared.kind.IntKind.TheVariants.{Bool as BoolKind, Char, SChar, UChar, Short, UShort, Int, UInt, Long, ULong, LLong, ULLong}

-- the width: how many bits represent a value, the sign bit among them (6.2.6.2)
abbrev pub width_of : IntKind → ℕ
width_of BoolKind = 1
width_of Char = 8
width_of SChar = 8
width_of UChar = 8
width_of Short = 16
width_of UShort = 16
width_of Int = 32
width_of UInt = 32
width_of Long = 64
width_of ULong = 64
width_of LLong = 64
width_of ULLong = 64

-- a signed kind; plain `char` is one here (6.2.5)
abbrev pub is_signed : IntKind → Bool
is_signed BoolKind = false
is_signed Char = true
is_signed SChar = true
is_signed UChar = false
is_signed Short = true
is_signed UShort = false
is_signed Int = true
is_signed UInt = false
is_signed Long = true
is_signed ULong = false
is_signed LLong = true
is_signed ULLong = false

-- the least value: -2 ^ (width - 1) of a signed kind, in two's complement
abbrev pub least : IntKind → ℤ
least k = if is_signed k then neg_ℤ (pos (2 ^ (width_of k - 1))) else pos 0

-- the greatest value
abbrev pub greatest : IntKind → ℤ
greatest k = if is_signed k then pos (2 ^ (width_of k - 1) - 1) else pos (2 ^ width_of k - 1)

-- z is a value of the kind: the kind can represent z
abbrev pub IsInRange : IntKind → ℤ → Type 0
IsInRange k z = (least k ≤ℤ z) × (z ≤ℤ greatest k)

-- the test of it
abbrev pub is_in_range : IntKind → ℤ → Bool
is_in_range k z = int_le (least k) z && int_le z (greatest k)

-- z is a value of some kind
abbrev pub IsInSomeRange : ℤ → Type 0
IsInSomeRange z = (k : IntKind) × IsInRange k z

-- kind j can represent each value of kind k
abbrev pub represents_all : IntKind → IntKind → Bool
represents_all j k = int_le (least j) (least k) && int_le (greatest k) (greatest j)
