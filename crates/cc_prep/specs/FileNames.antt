-- Names of files.
use Rattle.std.specs.Prelude.{◌==◌, ◌&&◌, ◌||◌, ℕ, List, [], ◌∷◌, Bool, true, false, not, nat_le, length}
use Rattle.std.specs.List.{list_all}

abbrev pub is_alphanumeric : ℕ → Bool
is_alphanumeric b = ((nat_le 65 b && nat_le b 90) || (nat_le 97 b && nat_le b 122)) || (nat_le 48 b && nat_le b 57)

-- a letter, a digit, `_`, `-`, `.` or `/`
abbrev pub in_file_name : ℕ → Bool
in_file_name b = is_alphanumeric b || ((b == 95 || b == 45) || (b == 46 || b == 47))

-- the text is `..`, or begins with `../`
abbrev pub begins_up : List ℕ → Bool
begins_up [] = false
begins_up (a ∷ []) = false
begins_up (a ∷ b ∷ []) = a == 46 && b == 46
begins_up (a ∷ b ∷ c ∷ z) = (a == 46 && b == 46) && c == 47

-- One of the parts between slashes is `..`. The flag says whether a part begins here.
abbrev pub has_part_up : Bool → List ℕ → Bool
has_part_up begins [] = false
has_part_up begins (b ∷ z) = (begins && begins_up (b ∷ z)) || has_part_up (b == 47) z

-- a file name: 1 to 200 bytes of letters, digits, `_`, `-`, `.` and `/`, not beginning with `/` and without a part `..`
abbrev pub is_file_name : List ℕ → Bool
is_file_name [] = false
is_file_name (b ∷ z) =
    not (b == 47) && (list_all in_file_name (b ∷ z) && (nat_le (length (b ∷ z)) 200 && not (has_part_up true (b ∷ z))))
