-- The texts of a project file, as tests of their bytes.
use Rattle.std.specs.Prelude.{◌==◌, ◌&&◌, ◌||◌, ℕ, List, [], ◌∷◌, Bool, true, false, not, nat_le, length}
use Rattle.std.specs.List.{list_all, list_any}
use Rattle.std.specs.Str.{bytes_eq}
pub use Rattle.cc_lex.specs.Spellings.{is_name as is_identifier}
pub use Rattle.cc_lex.specs.Meanings.{is_keyword}

abbrev pub is_letter : ℕ → Bool
is_letter b = (nat_le 65 b && nat_le b 90) || (nat_le 97 b && nat_le b 122)

abbrev pub is_digit : ℕ → Bool
is_digit b = nat_le 48 b && nat_le b 57

-- a letter, a digit, `_` or `-`
abbrev pub in_name : ℕ → Bool
in_name b = (is_letter b || is_digit b) || (b == 95 || b == 45)

-- a name: 1 to 64 bytes of letters, digits, `_` and `-`, beginning with a letter
abbrev pub is_name : List ℕ → Bool
is_name [] = false
is_name (b ∷ z) = is_letter b && (list_all in_name (b ∷ z) && nat_le (length (b ∷ z)) 64)

-- a letter, a digit, `_`, `-` or `.`
abbrev pub in_requirement : ℕ → Bool
in_requirement b = in_name b || b == 46

-- a requirement: 1 to 64 bytes of letters, digits, `_`, `-` and `.`
abbrev pub is_requirement : List ℕ → Bool
is_requirement [] = false
is_requirement (b ∷ z) = list_all in_requirement (b ∷ z) && nat_le (length (b ∷ z)) 64

-- a letter, a digit, `_`, `-`, `.` or `/`
abbrev pub in_file_name : ℕ → Bool
in_file_name b = in_requirement b || b == 47

-- the text is `..`, or begins with `../`
abbrev pub begins_up : List ℕ → Bool
begins_up [] = false
begins_up (a ∷ []) = false
begins_up (a ∷ b ∷ []) = a == 46 && b == 46
begins_up (a ∷ b ∷ c ∷ z) = (a == 46 && b == 46) && c == 47

-- One of the parts between slashes is `..`. The flag says whether a part begins here.
abbrev pub has_part_up : Bool → List ℕ → Bool
has_part_up begins [] = false
has_part_up begins (b ∷ z) = (begins && begins_up (b ∷ z)) || has_part_up (b == 47) z

-- a file name: 1 to 200 bytes of letters, digits, `_`, `-`, `.` and `/`, not beginning with `/` and without a part `..`
abbrev pub is_file_name : List ℕ → Bool
is_file_name [] = false
is_file_name (b ∷ z) =
    not (b == 47) && (list_all in_file_name (b ∷ z) && (nat_le (length (b ∷ z)) 200 && not (has_part_up true (b ∷ z))))

-- a letter, a digit, space, `_`, `-`, `.`, `:` or `/`
abbrev pub in_reason : ℕ → Bool
in_reason b = in_file_name b || (b == 32 || b == 58)

-- a reason: 1 to 200 bytes of letters, digits, space, `_`, `-`, `.`, `:` and `/`, beginning with a letter
abbrev pub is_reason : List ℕ → Bool
is_reason [] = false
is_reason (b ∷ z) = is_letter b && (list_all in_reason (b ∷ z) && nat_le (length (b ∷ z)) 200)

-- an identifier of C that is no keyword
abbrev pub is_function_name : List ℕ → Bool
is_function_name text = is_identifier text && not (is_keyword text)

-- one of these texts has the same bytes
abbrev pub is_among : List (List ℕ) → List ℕ → Bool
is_among texts text = list_any (bytes_eq text) texts

-- none of the texts before has the same bytes
abbrev pub is_new : List (List ℕ) → List ℕ → Bool
is_new before text = not (is_among before text)
