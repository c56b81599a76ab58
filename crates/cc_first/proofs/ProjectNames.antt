-- The tests of names, by their parts.
use Rattle.std.proofs.Common.{◌≡◌, ℕ, ◌&&◌, true, not, nat_le, eqb, List, [], ◌∷◌, length, slice_get, Some, refl}
use Rattle.std.specs.List.{list_all}
use Rattle.cc_first.specs.Names.{is_letter, in_name, in_file_name, is_name, is_file_name, has_part_up}

pub name_parts : (text : List ℕ) (first : ℕ) → Some first ≡ slice_get text 0 → is_name text ≡ (is_letter first && (list_all in_name text && nat_le (length text) 64))
name_parts [] first is = cc
name_parts (b ∷ z) first is = let e : first ≡ b = cc in rw e refl

pub file_name_parts : (text : List ℕ) (first : ℕ) → Some first ≡ slice_get text 0
    → is_file_name text ≡ (not (eqb first 47) && (list_all in_file_name text && (nat_le (length text) 200 && not (has_part_up true text))))
file_name_parts [] first is = cc
file_name_parts (b ∷ z) first is = let e : first ≡ b = cc in rw e refl
