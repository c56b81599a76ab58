-- The tests of texts, by their parts.
use Rattle.std.proofs.Common.{◌≡◌, ℕ, Bool, ◌&&◌, ◌||◌, true, false, not, nat_le, eqb, List, [], ◌∷◌, length, slice_get, Some, refl, ap}
use Rattle.std.specs.List.{list_all}
use Rattle.cc_lex.specs.Bytes as lex
use Rattle.cc_project.specs.Names.{is_letter, in_name, in_file_name, in_requirement, is_name, is_file_name, is_requirement, is_identifier, has_part_up, in_reason, is_reason}

pub name_parts : (text : List ℕ) (first : ℕ) → Some first ≡ slice_get text 0 → is_name text ≡ (is_letter first && (list_all in_name text && nat_le (length text) 64))
name_parts [] first is = cc
name_parts (b ∷ z) first is = let e : first ≡ b = cc in rw e refl

pub requirement_parts : (text : List ℕ) (first : ℕ) → Some first ≡ slice_get text 0 → is_requirement text ≡ (list_all in_requirement text && nat_le (length text) 64)
requirement_parts [] first is = cc
requirement_parts (b ∷ z) first is = refl

pub file_name_parts : (text : List ℕ) (first : ℕ) → Some first ≡ slice_get text 0
    → is_file_name text ≡ (not (eqb first 47) && (list_all in_file_name text && (nat_le (length text) 200 && not (has_part_up true text))))
file_name_parts [] first is = cc
file_name_parts (b ∷ z) first is = let e : first ≡ b = cc in rw e refl

pub reason_parts : (text : List ℕ) (first : ℕ) → Some first ≡ slice_get text 0 → is_reason text ≡ (is_letter first && (list_all in_reason text && nat_le (length text) 200))
reason_parts [] first is = cc
reason_parts (b ∷ z) first is = let e : first ≡ b = cc in rw e refl

-- a name's bytes do not depend on the byte before
chain_of_names : (before : ℕ) (text : List ℕ) → lex.chain lex.in_name before text ≡ list_all (lex.in_name 0) text
chain_of_names before [] = refl
chain_of_names before (b ∷ z) = ap (λ rest. lex.in_name 0 b && rest) (chain_of_names b z)

letter_first : (letter digit rest : Bool) → (letter && rest) ≡ (letter && ((letter || digit) && rest))
letter_first true digit rest = refl
letter_first false digit rest = refl

pub identifier_parts : (text : List ℕ) (first : ℕ) → Some first ≡ slice_get text 0 → is_identifier text ≡ (lex.is_letter first && list_all (lex.in_name 0) text)
identifier_parts [] first is = cc
identifier_parts (b ∷ z) first is = let e : first ≡ b = cc in rw (e, chain_of_names b z) (letter_first (lex.is_letter b) (lex.is_digit b) (list_all (lex.in_name 0) z))
