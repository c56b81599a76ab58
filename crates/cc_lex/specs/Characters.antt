-- What stands between the quotes of a character constant or a string literal (C17 6.4.4.4).
use Rattle.std.specs.Prelude.{ℕ, zero, suc, ◌+◌, ◌-◌, ℤ, pos, negsuc, ◌||◌, ◌==◌, nat_le, nat_lt, if◌then◌else◌, List, [], ◌∷◌, length, take, drop, Option, Some, None}
use Rattle.cc_lex.specs.Bytes.{first, count_front}
use Rattle.cc_lex.specs.Numbers.{is_digit_in, value_from}

-- the bytes between the quotes
abbrev pub inner : List ℕ → List ℕ
inner w = take (length w - 2) (drop 1 w)

-- ---- Escapes, by what stands behind the backslash

-- `' " ? \` stand for themselves, and `a b f n r t v` for the control characters of 5.2.2
abbrev pub simple_escape : ℕ → Option ℕ
simple_escape b =
    if ((b == 39 || b == 34) || b == 63) || b == 92 then Some b
    else if b == 97 then Some 7
    else if b == 98 then Some 8
    else if b == 102 then Some 12
    else if b == 110 then Some 10
    else if b == 114 then Some 13
    else if b == 116 then Some 9
    else if b == 118 then Some 11
    else None

-- the value of a numeric escape's digits: 255 at most
abbrev pub byte_value : ℕ → List ℕ → Option ℕ
byte_value base digits = if nat_le (value_from base 0 digits) 255 then Some (value_from base 0 digits) else None

-- how many octal digits stand at the front, three at most; how many hexadecimal ones
abbrev pub octal_count : List ℕ → ℕ
octal_count z = count_front (is_digit_in 8) (take 3 z)

abbrev pub hex_count : List ℕ → ℕ
hex_count z = count_front (is_digit_in 16) z

-- how many bytes belong to the escape: octal digits, `x` with its digits, or one byte
abbrev pub escape_len : List ℕ → ℕ
escape_len [] = 0
escape_len (b ∷ z) = if is_digit_in 8 b then octal_count (b ∷ z) else if b == 120 then 1 + hex_count z else 1

-- its value, if it is one of the escapes
abbrev pub escape_value : List ℕ → Option ℕ
escape_value [] = None
escape_value (b ∷ z) =
    if is_digit_in 8 b then byte_value 8 (take (octal_count (b ∷ z)) (b ∷ z))
    else if b == 120 then (if hex_count z == 0 then None else byte_value 16 (take (hex_count z) z))
    else simple_escape b

-- ---- Characters, each a byte or an escape

-- how many bytes the character at the front has
abbrev pub character_len : List ℕ → ℕ
character_len text = if first text == 92 then 1 + escape_len (drop 1 text) else 1

-- its value, if it isn't a faulty escape
abbrev pub character_value : List ℕ → Option ℕ
character_value text = if first text == 92 then escape_value (drop 1 text) else Some (first text)

-- The characters of the bytes in their order, each with its place and its value. The first byte here is at place `at`,
-- and `left` bytes from it on still belong to the character before.
abbrev pub characters : ℕ → ℕ → List ℕ → List (ℕ × Option ℕ)
characters at left [] = []
characters at (suc left) (b ∷ z) = characters (at + 1) left z
characters at zero (b ∷ z) = (at, character_value (b ∷ z)) ∷ characters (at + 1) (character_len (b ∷ z) - 1) z

-- the characters of a constant, by their places in its spelling
abbrev pub characters_of : List ℕ → List (ℕ × Option ℕ)
characters_of w = characters 1 0 (inner w)

-- the values of characters
abbrev pub values_of : List (ℕ × Option ℕ) → List ℕ
values_of [] = []
values_of ((at, None) ∷ cs) = values_of cs
values_of ((at, Some v) ∷ cs) = v ∷ values_of cs

-- a byte as a `char`, which has 8 bits and a sign (6.3.1.3)
abbrev pub as_char : ℕ → ℤ
as_char v = if nat_lt v 128 then pos v else negsuc (255 - v)

-- ---- Faults, by their places in the spelling and their rules

-- L4: the backslashes of faulty escapes
abbrev pub escape_faults : List (ℕ × Option ℕ) → List (ℕ × ℕ)
escape_faults [] = []
escape_faults ((at, None) ∷ cs) = (at, 4) ∷ escape_faults cs
escape_faults ((at, Some v) ∷ cs) = escape_faults cs

unfoldable pub string_faults : List ℕ → List (ℕ × ℕ)
string_faults w = escape_faults (characters_of w)

-- L5: no or several characters
unfoldable pub character_faults : List ℕ → List (ℕ × ℕ)
character_faults w =
    if length (characters_of w) == 1 then escape_faults (characters_of w) else (0, 5) ∷ escape_faults (characters_of w)
