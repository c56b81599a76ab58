-- Classes of bytes, and runs of them.
use Rattle.std.specs.Prelude.{ℕ, suc, Bool, true, not, ◌&&◌, ◌||◌, ◌==◌, nat_le, if◌then◌else◌, List, [], ◌∷◌}

-- the first byte, or 0 where there is none: 0 is of no class but that of a line's bytes
abbrev pub first : List ℕ → ℕ
first [] = 0
first (b ∷ z) = b

-- the second byte, or 0 where there is none
abbrev pub second : List ℕ → ℕ
second [] = 0
second (b ∷ z) = first z

-- space, tab, line feed, vertical tab, form feed or carriage return
abbrev pub is_white : ℕ → Bool
is_white b = b == 32 || (nat_le 9 b && nat_le b 13)

-- space or tab
abbrev pub is_blank : ℕ → Bool
is_blank b = b == 32 || b == 9

abbrev pub is_digit : ℕ → Bool
is_digit b = nat_le 48 b && nat_le b 57

abbrev pub is_octal_digit : ℕ → Bool
is_octal_digit b = nat_le 48 b && nat_le b 55

abbrev pub is_hex_digit : ℕ → Bool
is_hex_digit b = is_digit b || ((nat_le 97 b && nat_le b 102) || (nat_le 65 b && nat_le b 70))

-- a letter or `_`
abbrev pub is_letter : ℕ → Bool
is_letter b = ((nat_le 97 b && nat_le b 122) || (nat_le 65 b && nat_le b 90)) || b == 95

-- `'` or `"`
abbrev pub is_quote : ℕ → Bool
is_quote b = b == 39 || b == 34

-- how many bytes at the front pass the test
abbrev pub count_front : (ℕ → Bool) → List ℕ → ℕ
count_front test [] = 0
count_front test (b ∷ z) = if test b then suc (count_front test z) else 0

-- What may follow the byte `before` in a name, a number, a run of white bytes and a line.

abbrev pub in_name : ℕ → ℕ → Bool
in_name before b = is_letter b || is_digit b

-- a sign goes on with a number directly after `e`, `E`, `p` or `P`
abbrev pub in_number : ℕ → ℕ → Bool
in_number before b =
    ((is_letter b || is_digit b) || b == 46)
    || ((b == 43 || b == 45) && (((before == 101 || before == 69) || before == 112) || before == 80))

abbrev pub in_white : ℕ → ℕ → Bool
in_white before b = is_white b

abbrev pub in_line : ℕ → ℕ → Bool
in_line before b = not (b == 10)

-- each byte may follow the one before it
abbrev pub chain : (ℕ → ℕ → Bool) → ℕ → List ℕ → Bool
chain may_follow before [] = true
chain may_follow before (b ∷ z) = may_follow before b && chain may_follow b z
