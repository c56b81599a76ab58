-- Names in C files and in projects, as tests of their bytes.
use Rattle.std.specs.Prelude.{◌==◌, ◌&&◌, ◌||◌, ℕ, List, [], ◌∷◌, Bool, true, false, not, nat_le, length, codes}
use Rattle.std.specs.List.{list_all, list_any}
use Rattle.std.specs.Str.{bytes_eq}
use Rattle.cc_lex.specs.Meanings.{is_keyword}

abbrev pub is_letter : ℕ → Bool
is_letter b = (nat_le 65 b && nat_le b 90) || (nat_le 97 b && nat_le b 122)

abbrev pub is_digit : ℕ → Bool
is_digit b = nat_le 48 b && nat_le b 57

-- a byte of an identifier
abbrev pub is_word_byte : ℕ → Bool
is_word_byte b = (is_letter b || is_digit b) || b == 95

-- letters, digits and `_`, not beginning with a digit (C17 6.4.2.1)
abbrev pub is_identifier : List ℕ → Bool
is_identifier [] = false
is_identifier (b ∷ z) = not (is_digit b) && list_all is_word_byte (b ∷ z)

-- words of extensions, which are refused
abbrev pub extensions : List (List ℕ)
extensions = codes "asm" ∷ codes "__asm" ∷ codes "__asm__" ∷ codes "__attribute__" ∷ []

abbrev pub is_extension : List ℕ → Bool
is_extension text = list_any (λ extension. bytes_eq extension text) extensions

-- an identifier that is no keyword and no word of an extension
abbrev pub is_free_name : List ℕ → Bool
is_free_name text = is_identifier text && (not (is_keyword text) && not (is_extension text))

abbrev pub in_name : ℕ → Bool
in_name b = (is_letter b || is_digit b) || (b == 95 || b == 45)

-- the name of a component: 1 to 64 bytes of letters, digits, `_` and `-`, beginning with a letter
abbrev pub is_name : List ℕ → Bool
is_name [] = false
is_name (b ∷ z) = is_letter b && (list_all in_name (b ∷ z) && nat_le (length (b ∷ z)) 64)

abbrev pub in_file_name : ℕ → Bool
in_file_name b = in_name b || (b == 46 || b == 47)

-- the text begins with the part `..`
abbrev pub begins_up : List ℕ → Bool
begins_up [] = false
begins_up (a ∷ []) = false
begins_up (a ∷ b ∷ []) = a == 46 && b == 46
begins_up (a ∷ b ∷ c ∷ z) = (a == 46 && b == 46) && c == 47

-- one of the parts between slashes is `..`; the flag says whether a part begins here
abbrev pub has_part_up : Bool → List ℕ → Bool
has_part_up begins [] = false
has_part_up begins (b ∷ z) = (begins && begins_up (b ∷ z)) || has_part_up (b == 47) z

-- the name of a file: 1 to 200 bytes of letters, digits, `_`, `-`, `.` and `/`, not beginning with `/` and without a part `..`
abbrev pub is_file_name : List ℕ → Bool
is_file_name [] = false
is_file_name (b ∷ z) = not (b == 47) && (list_all in_file_name (b ∷ z) && (nat_le (length (b ∷ z)) 200 && not (has_part_up true (b ∷ z))))
