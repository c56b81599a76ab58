-- The longest token at the front of a text, and its first byte.
use Rattle.std.proofs.Common.{not, ◌≡◌, ℕ, zero, suc, ◌≤◌, ◌<◌, Bool, true, false, ◌&&◌, ◌||◌, eqb, List, [], ◌∷◌, ◌++◌, length, take, refl, sym, ◌∙◌, subst, arith, inl, inr}
use Rattle.std.proofs.lemmas.Bool.{and_from, and_parts, cases_Bool, not-true, or_cases, or_left, or_right}
use Rattle.std.proofs.lemmas.Bool.Decides.{nat_tests}
use Rattle.std.specs.List.{list_all}
use Rattle.cc_lex.specs.Bytes.{first, is_letter, is_digit, is_white, is_quote, in_white, in_name, in_number, chain}
use Rattle.cc_lex.specs.Spellings.{spellings_of, puncts, digraphs, begins_number, is_name, is_number, is_quoted, is_closed, is_punct, is_digraph, is_token}
use Rattle.cc_lex.specs.Reading.{run, closing, more, name_len, number_len, quoted_len, token_len}
use Rattle.cc_lex.proofs.Measured.{Measures, run_most, run_chain, run_within, closing_most, closing_found, closing_within, closed_some, more_above, more_at, more_cases, either}
use Rattle.cc_lex.proofs.Tables.{is_descending, table_measures, first_passes}

-- ---- Names

name_most : (text : List ℕ) (m : ℕ) → m ≤ length text → is_name (take m text) ≡ true → m ≤ name_len text
name_most text zero h e = omega arith
name_most [] (suc m) h e = absurd (omega arith)
name_most (b ∷ z) (suc m) h e = let p = and_parts (is_letter b) (chain in_name b (take m z)) e in rw p.0 (omega (arith, run_most in_name b z m (omega arith) p.1))

name_at : (text : List ℕ) (n : ℕ) → name_len text ≡ n → 0 < n → is_name (take n text) ≡ true
name_at [] n e h = absurd (omega arith)
name_at (b ∷ z) n e h =
    elim (cases_Bool (is_letter b)) [
      | inl l ↦ let k : suc (run in_name b z) ≡ n = rw l at e in subst (λ i. is_name (take i (b ∷ z)) ≡ true) k (and_from _ _ l (run_chain in_name b z))
      | inr l ↦ let k : 0 ≡ n = rw l at e in absurd (omega arith)
    ]

name_within : (text : List ℕ) → name_len text ≤ length text
name_within [] = omega arith
name_within (b ∷ z) = elim (cases_Bool (is_letter b)) [ inl l ↦ rw l (omega (arith, run_within in_name b z)) | inr l ↦ rw l (omega arith) ]

name_measures : (text : List ℕ) → Measures is_name (name_len text) text
name_measures text = record { within = name_within text; found = name_at text (name_len text) refl; most = name_most text }

-- ---- Numbers

digit_front : (m : ℕ) (z : List ℕ) → is_digit (first (take m z)) ≡ true → is_digit (first z) ≡ true
digit_front zero z e = absurd (let no : false ≡ true = e in cc)
digit_front (suc m) [] e = e
digit_front (suc m) (c ∷ z) e = e

begins_front : (b m : ℕ) (z : List ℕ) → begins_number (b ∷ take m z) ≡ true → begins_number (b ∷ z) ≡ true
begins_front b m z e =
    elim (or_cases (is_digit b) (eqb b 46 && is_digit (first (take m z))) e) [
      | inl d ↦ or_left (is_digit b) _ d
      | inr d ↦ let p = and_parts (eqb b 46) (is_digit (first (take m z))) d in or_right (is_digit b) _ (and_from _ _ p.0 (digit_front m z p.1))
    ]

digit_in_number : (b c : ℕ) → is_digit c ≡ true → in_number b c ≡ true
digit_in_number b c d = or_left _ _ (or_left _ _ (or_right (is_letter c) (is_digit c) d))

digit_run : (b : ℕ) (z : List ℕ) → is_digit (first z) ≡ true → is_digit (first (take (run in_number b z) z)) ≡ true
digit_run b [] d = d
digit_run b (c ∷ z) d = rw (digit_in_number b c d) d

begins_run : (b : ℕ) (z : List ℕ) → begins_number (b ∷ z) ≡ true → begins_number (b ∷ take (run in_number b z) z) ≡ true
begins_run b z e =
    elim (or_cases (is_digit b) (eqb b 46 && is_digit (first z)) e) [
      | inl d ↦ or_left (is_digit b) _ d
      | inr d ↦ let p = and_parts (eqb b 46) (is_digit (first z)) d in or_right (is_digit b) _ (and_from _ _ p.0 (digit_run b z p.1))
    ]

number_most : (text : List ℕ) (m : ℕ) → m ≤ length text → is_number (take m text) ≡ true → m ≤ number_len text
number_most text zero h e = omega arith
number_most [] (suc m) h e = absurd (omega arith)
number_most (b ∷ z) (suc m) h e =
    let p = and_parts (begins_number (b ∷ take m z)) (chain in_number b (take m z)) e in
    rw (begins_front b m z p.0) (omega (arith, run_most in_number b z m (omega arith) p.1))

number_at : (text : List ℕ) (n : ℕ) → number_len text ≡ n → 0 < n → is_number (take n text) ≡ true
number_at [] n e h = absurd (omega arith)
number_at (b ∷ z) n e h =
    elim (cases_Bool (begins_number (b ∷ z))) [
      | inl l ↦ let k : suc (run in_number b z) ≡ n = rw l at e in subst (λ i. is_number (take i (b ∷ z)) ≡ true) k (and_from _ _ (begins_run b z l) (run_chain in_number b z))
      | inr l ↦ let k : 0 ≡ n = rw l at e in absurd (omega arith)
    ]

number_within : (text : List ℕ) → number_len text ≤ length text
number_within [] = omega arith
number_within (b ∷ z) = elim (cases_Bool (begins_number (b ∷ z))) [ inl l ↦ rw l (omega (arith, run_within in_number b z)) | inr l ↦ rw l (omega arith) ]

number_measures : (text : List ℕ) → Measures is_number (number_len text) text
number_measures text = record { within = number_within text; found = number_at text (number_len text) refl; most = number_most text }

-- ---- Constants between quotes

quoted_most : (text : List ℕ) (m : ℕ) → m ≤ length text → is_quoted (take m text) ≡ true → m ≤ quoted_len text
quoted_most text zero h e = omega arith
quoted_most [] (suc m) h e = absurd (omega arith)
quoted_most (b ∷ z) (suc m) h e =
    let p = and_parts (is_quote b) (is_closed b false (take m z)) e in
    rw p.0 (more_above m _ (closed_some b false z m p.1) (closing_most b false z m (omega arith) p.1))

quoted_at : (text : List ℕ) (n : ℕ) → quoted_len text ≡ n → 0 < n → is_quoted (take n text) ≡ true
quoted_at [] n e h = absurd (omega arith)
quoted_at (b ∷ z) n e h =
    elim (cases_Bool (is_quote b)) [
      | inr l ↦ let k : 0 ≡ n = rw l at e in absurd (omega arith)
      | inl q ↦
          let k : more (closing b false z) ≡ n = rw q at e in
          elim (more_cases (closing b false z)) [
            | inl none ↦ absurd (omega arith)
            | inr some ↦ subst (λ i. is_quoted (take i (b ∷ z)) ≡ true) (sym some.1 ∙ k) (and_from _ _ q (closing_found b false z some.0))
          ]
    ]

quoted_within : (text : List ℕ) → quoted_len text ≤ length text
quoted_within [] = omega arith
quoted_within (b ∷ z) =
    elim (cases_Bool (is_quote b)) [
      | inl q ↦ rw q (more_at (λ n. n ≤ suc (length z)) (closing b false z) (omega arith) (λ _. omega (arith, closing_within b false z)))
      | inr q ↦ rw q (omega arith)
    ]

quoted_measures : (text : List ℕ) → Measures is_quoted (quoted_len text) text
quoted_measures text = record { within = quoted_within text; found = quoted_at text (quoted_len text) refl; most = quoted_most text }

-- ---- Tables

puncts_descending : is_descending (spellings_of puncts) ≡ true
unfolding puncts
puncts_descending = refl

digraphs_descending : is_descending digraphs ≡ true
unfolding digraphs
digraphs_descending = refl

-- neither a letter, a digit, a quote, a white byte nor `#`
abbrev pub is_mark : ℕ → Bool
is_mark b = not (is_letter b) && not (is_digit b) && not (is_quote b) && not (is_white b) && not (eqb b 35)

puncts_marks : list_all (λ q. is_mark (first q)) (spellings_of puncts) ≡ true
unfolding puncts
puncts_marks = refl

digraphs_marks : list_all (λ q. is_mark (first q)) digraphs ≡ true
unfolding digraphs
digraphs_marks = refl

pub punct_mark : (b : ℕ) (v : List ℕ) → is_punct (b ∷ v) ≡ true → is_mark b ≡ true
punct_mark b v e = first_passes is_mark b v (spellings_of puncts) puncts_marks e

pub digraph_mark : (b : ℕ) (v : List ℕ) → is_digraph (b ∷ v) ≡ true → is_mark b ≡ true
digraph_mark b v e = first_passes is_mark b v digraphs digraphs_marks e

pub mark_parts : (b : ℕ) → is_mark b ≡ true → (is_letter b ≡ false) × (is_digit b ≡ false) × (is_quote b ≡ false) × (is_white b ≡ false) × (eqb b 35 ≡ false)
mark_parts b e =
    let p = and_parts _ _ e in
    let q = and_parts _ _ p.0 in
    let r = and_parts _ _ q.0 in
    let s = and_parts _ _ r.0 in
    (not-true _ s.0, not-true _ s.1, not-true _ r.1, not-true _ q.1, not-true _ p.1)

-- ---- Tokens

pub token_measures : (text : List ℕ) → Measures is_token (token_len text) text
unfolding token_len
token_measures text =
    let a = either is_name is_number _ _ text (name_measures text) (number_measures text) in
    let b = either (λ w. is_name w || is_number w) is_quoted _ _ text a (quoted_measures text) in
    let c = either (λ w. (is_name w || is_number w) || is_quoted w) is_punct _ _ text b (table_measures (spellings_of puncts) text puncts_descending) in
    either (λ w. ((is_name w || is_number w) || is_quoted w) || is_punct w) is_digraph _ _ text c (table_measures digraphs text digraphs_descending)

-- the classes of tokens
pub data Class (w : List ℕ) : Type 0 where
  name : is_name w ≡ true → Class w
  number : is_number w ≡ true → Class w
  quoted : is_quoted w ≡ true → Class w
  punct : is_punct w ≡ true → Class w
  digraph : is_digraph w ≡ true → Class w

pub class_of : (w : List ℕ) → is_token w ≡ true → Class w
class_of w e =
    elim (or_cases (((is_name w || is_number w) || is_quoted w) || is_punct w) (is_digraph w) e) [
      | inr d ↦ digraph d
      | inl f ↦
          elim (or_cases ((is_name w || is_number w) || is_quoted w) (is_punct w) f) [
            | inr p ↦ punct p
            | inl g ↦
                elim (or_cases (is_name w || is_number w) (is_quoted w) g) [
                  | inr q ↦ quoted q
                  | inl h ↦ elim (or_cases (is_name w) (is_number w) h) [ inl n ↦ name n | inr n ↦ number n ]
                ]
          ]
    ]

-- what the first byte of a token is not
pub record TokenFirst (text : List ℕ) : Type 0 where
  pub no_white : in_white 0 (first text) ≡ false
  pub no_hash : eqb (first text) 35 ≡ false

letter_first : (b : ℕ) → is_letter b ≡ true → (is_white b ≡ false) × (eqb b 35 ≡ false)
letter_first b e = (grind (arith, nat_tests), grind (arith, nat_tests))

digit_first : (b : ℕ) → is_digit b ≡ true → (is_white b ≡ false) × (eqb b 35 ≡ false)
digit_first b e = (grind (arith, nat_tests), grind (arith, nat_tests))

quote_first : (b : ℕ) → is_quote b ≡ true → (is_white b ≡ false) × (eqb b 35 ≡ false)
quote_first b e = (grind (arith, nat_tests), grind (arith, nat_tests))

-- what the first byte of a number is
pub number_first : (b c : ℕ) → (is_digit b || (eqb b 46 && is_digit c)) ≡ true → (is_white b ≡ false) × (eqb b 35 ≡ false) × (is_letter b ≡ false)
number_first b c e = (grind (arith, nat_tests), grind (arith, nat_tests), grind (arith, nat_tests))

pub token_some : (w : List ℕ) → is_token w ≡ true → 0 < length w
unfolding puncts digraphs
token_some [] e = absurd cc
token_some (b ∷ v) e = omega arith

pub token_first : (w r : List ℕ) → is_token w ≡ true → TokenFirst (w ++ r)
unfolding puncts digraphs
token_first [] r e = absurd cc
token_first (b ∷ v) r e =
    elim (class_of (b ∷ v) e) [
      | name n ↦ let p = and_parts (is_letter b) (chain in_name b v) n in let q = letter_first b p.0 in record { no_white = q.0; no_hash = q.1 }
      | number n ↦ let p = and_parts (begins_number (b ∷ v)) (chain in_number b v) n in let q = number_first b (first v) p.0 in record { no_white = q.0; no_hash = q.1 }
      | quoted n ↦ let p = and_parts (is_quote b) (is_closed b false v) n in let q = quote_first b p.0 in record { no_white = q.0; no_hash = q.1 }
      | punct n ↦ let q = mark_parts b (punct_mark b v n) in record { no_white = q.3; no_hash = q.4 }
      | digraph n ↦ let q = mark_parts b (digraph_mark b v n) in record { no_white = q.3; no_hash = q.4 }
    ]
