-- A name is ASCII text.
use Rattle.std.proofs.Common.{◌≡◌, ℕ, true, false, List, [], ◌∷◌, refl, arith}
use Rattle.std.proofs.lemmas.Bool.{and_from, and_parts}
use Rattle.std.proofs.lemmas.Bool.Decides.{nat_tests}
use Rattle.std.specs.List.{list_all}
use Rattle.cc_lex.specs.Ascii.{is_ascii}
use Rattle.cc_lex.specs.Bytes.{first, is_letter, is_quote, in_name, in_number, chain}
use Rattle.cc_lex.specs.Spellings.{is_name, is_token, is_closed, begins_number}
use Rattle.cc_lex.proofs.Fronts.{class_of, name, number, quoted, punct, digraph, mark_parts, punct_mark, digraph_mark, number_first}

word_ascii : (b : ℕ) → in_name 0 b ≡ true → is_ascii b ≡ true
word_ascii b e = grind (arith, nat_tests)

letter_ascii : (b : ℕ) → is_letter b ≡ true → is_ascii b ≡ true
letter_ascii b e = grind (arith, nat_tests)

letter_no_quote : (b : ℕ) → is_letter b ≡ true → is_quote b ≡ false
letter_no_quote b e = grind (arith, nat_tests)

chain_ascii : (before : ℕ) (z : List ℕ) → chain in_name before z ≡ true → list_all is_ascii z ≡ true
chain_ascii before [] e = refl
chain_ascii before (b ∷ z) e = let p = and_parts (in_name before b) (chain in_name b z) e in and_from _ _ (word_ascii b p.0) (chain_ascii b z p.1)

-- a token that begins with a letter is a name
pub name_of_letter : (w : List ℕ) → is_token w ≡ true → is_letter (first w) ≡ true → is_name w ≡ true
name_of_letter [] e l = absurd cc
name_of_letter (b ∷ v) e l =
    elim (class_of (b ∷ v) e) [
      | name n ↦ n
      | number n ↦ let p = and_parts (begins_number (b ∷ v)) (chain in_number b v) n in let q = (number_first b (first v) p.0).2 in absurd cc
      | quoted n ↦ let p = and_parts (is_quote b) (is_closed b false v) n in let q = letter_no_quote b l in absurd cc
      | punct n ↦ let q = mark_parts b (punct_mark b v n) in absurd cc
      | digraph n ↦ let q = mark_parts b (digraph_mark b v n) in absurd cc
    ]

name_ascii : (w : List ℕ) → is_name w ≡ true → list_all is_ascii w ≡ true
name_ascii [] n = absurd cc
name_ascii (b ∷ v) n = let p = and_parts (is_letter b) (chain in_name b v) n in and_from _ _ (letter_ascii b p.0) (chain_ascii b v p.1)

pub ascii_name : (w : List ℕ) → is_token w ≡ true → is_letter (first w) ≡ true → list_all is_ascii w ≡ true
ascii_name w e l = name_ascii w (name_of_letter w e l)
