-- Which token stands at the front of a text.
use Rattle.std.proofs.Common.{not, ◌≡◌, ℕ, zero, suc, ◌≤◌, ◌<◌, Bool, true, false, ◌&&◌, ◌||◌, eqb, ltb, List, [], ◌∷◌, ◌++◌, length, take, drop, length-take, refl, sym, subst, arith, ◌⊎◌, inl, inr}
use Rattle.std.proofs.lemmas.Bool.{and_parts, cases_Bool, false_from_ne_true, not-true, or_cases, or_from}
use Rattle.std.proofs.lemmas.Bool.Decides.{nat_tests}
use Rattle.std.proofs.lemmas.Slice.Eq.{bytes_eq-Decides}
use Rattle.std.proofs.lemmas.Str.{IsUtf8-from_ascii}
use Rattle.std.specs.List.{slice_index, list_all, position, position_or_len}
use Rattle.std.specs.Prelude.{codes, slice_get, Some, None}
use Rattle.std.specs.Str.{bytes_eq, IsUtf8}
use Rattle.cc_first.specs.Names.{is_word_byte, is_digit, is_identifier, is_extension, is_free_name}
use Rattle.cc_lex.specs.Meanings.{is_keyword}
use Rattle.cc_first.specs.Cut.{is_white, begins_word, is_longest}
use Rattle.cc_first.specs.Tokens.{is_mark, is_mark_text, is_form_word, is_form_text, word_len, token_len, text_of, IsKind, IsFirst}
use Rattle.cc_first.specs.declared.token.Kind.{Kind}
use Rattle.cc_first.specs.declared.token.Kind.TheVariants as kind

-- ---- bytes

pub word_not_white : (b : ℕ) → is_word_byte b ≡ true → is_white b ≡ false
word_not_white b e = grind (arith, nat_tests)

pub mark_not_white : (b : ℕ) → is_mark b ≡ true → is_white b ≡ false
mark_not_white b e = grind (arith, nat_tests)

pub mark_no_word : (b : ℕ) → is_mark b ≡ true → is_word_byte b ≡ false
mark_no_word b e = grind (arith, nat_tests)

pub word_no_feed : (b : ℕ) → is_word_byte b ≡ true → eqb b 10 ≡ false
word_no_feed b e = grind (arith, nat_tests)

word_small : (b : ℕ) → is_word_byte b ≡ true → b < 128
word_small b e = grind (arith, nat_tests)

-- ---- runs of word bytes

pub word_len_within : (text : List ℕ) → word_len text ≤ length text
word_len_within [] = omega arith
word_len_within (b ∷ z) = elim (cases_Bool (is_word_byte b)) [ inl e ↦ rw e (omega (arith, word_len_within z)) | inr e ↦ rw e (omega arith) ]

pub word_len_front : (w z : List ℕ) → list_all is_word_byte w ≡ true → begins_word z ≡ false → word_len (w ++ z) ≡ length w
word_len_front [] [] e f = refl
word_len_front [] (b ∷ z) e f = rw f refl
word_len_front (b ∷ w) z e f =
    let p = and_parts (is_word_byte b) (list_all is_word_byte w) e in
    rw p.0 (omega (arith, word_len_front w z p.1 f))

pub word_len_stops : (text : List ℕ) → begins_word (drop (word_len text) text) ≡ false
word_len_stops [] = refl
word_len_stops (b ∷ z) = elim (cases_Bool (is_word_byte b)) [ inl e ↦ rw e (word_len_stops z) | inr e ↦ rw e e ]

-- ---- texts of tokens

pub identifier_words : (w : List ℕ) → is_identifier w ≡ true → list_all is_word_byte w ≡ true
identifier_words [] e = refl
identifier_words (b ∷ z) e = (and_parts (not (is_digit b)) (list_all is_word_byte (b ∷ z)) e).1

pub identifier_some : (w : List ℕ) → is_identifier w ≡ true → begins_word w ≡ true
identifier_some [] e = absurd (let no : false ≡ true = e in cc)
identifier_some (b ∷ z) e = (and_parts (is_word_byte b) (list_all is_word_byte z) (identifier_words (b ∷ z) e)).0

pub free_identifier : (w : List ℕ) → is_free_name w ≡ true → is_identifier w ≡ true
free_identifier w e = (and_parts (is_identifier w) (not (is_keyword w) && not (is_extension w)) e).0

pub form_word_identifier : (w : List ℕ) → is_form_word w ≡ true → is_identifier w ≡ true
form_word_identifier w e =
    elim (or_cases (bytes_eq w (codes "void")) (is_free_name w) e) [
      | inl v ↦ let same : w ≡ codes "void" = (bytes_eq-Decides w (codes "void")).0 v in subst (λ u. is_identifier u ≡ true) (sym same) refl
      | inr f ↦ free_identifier w f
    ]

-- a text of a token is a mark, or a word
pub data FormText (w : List ℕ) : Type 0 where
  mark : (b : ℕ) → w ≡ b ∷ [] → is_mark b ≡ true → FormText w
  word : begins_word w ≡ true → list_all is_word_byte w ≡ true → FormText w

mark_text : (w : List ℕ) → is_mark_text w ≡ true → FormText w
mark_text [] e = absurd (let no : false ≡ true = e in cc)
mark_text (b ∷ []) e = mark b refl e
mark_text (b ∷ c ∷ z) e = absurd (let no : false ≡ true = e in cc)

pub form_text : (w : List ℕ) → is_form_text w ≡ true → FormText w
form_text w e =
    elim (or_cases (is_mark_text w) (is_form_word w) e) [
      | inl m ↦ mark_text w m
      | inr f ↦ let i = form_word_identifier w f in word (identifier_some w i) (identifier_words w i)
    ]

form_len_by : (w z : List ℕ) → FormText w → is_longest w z ≡ true → token_len (w ++ z) ≡ length w
form_len_by w z (mark b s m) l = subst (λ u. token_len (u ++ z) ≡ length u) (sym s) (rw (mark_no_word b m) refl)
form_len_by [] z (word f a) l = absurd (let no : false ≡ true = f in cc)
form_len_by (b ∷ y) z (word f a) l =
    let no : begins_word z ≡ false = not-true (begins_word z) (rw f at l) in
    let n = word_len_front (b ∷ y) z a no in
    rw f (rw f at n)

pub form_len : (w z : List ℕ) → is_form_text w ≡ true → is_longest w z ≡ true → token_len (w ++ z) ≡ length w
form_len w z e l = form_len_by w z (form_text w e) l

-- the text at the front that this length measures is the longest
pub front_longest : (text : List ℕ) → is_longest (take (token_len text) text) (drop (token_len text) text) ≡ true
front_longest [] = refl
front_longest (b ∷ z) =
    elim (cases_Bool (is_word_byte b)) [
      | inl e ↦ let s : begins_word (drop (word_len z) z) ≡ false = word_len_stops z in rw (e, s, e) refl
      | inr e ↦ rw (e, e) refl
    ]

form_no_white_by : (b : ℕ) (y : List ℕ) → FormText (b ∷ y) → is_white b ≡ false
form_no_white_by b y (mark c s m) = let same : b ≡ c = cc in subst (λ d. is_white d ≡ false) (sym same) (mark_not_white c m)
form_no_white_by b y (word f a) = word_not_white b f

pub form_no_white : (b : ℕ) (y : List ℕ) → is_form_text (b ∷ y) ≡ true → is_white b ≡ false
form_no_white b y e = form_no_white_by b y (form_text (b ∷ y) e)

-- ---- what the code finds

word_len_is : (text : List ℕ) → position_or_len (λ b. not (is_word_byte b)) text ≡ word_len text
word_len_is [] = refl
word_len_is (b ∷ z) = elim (cases_Bool (is_word_byte b)) [ inl e ↦ rw e (omega (arith, word_len_is z)) | inr e ↦ rw e refl ]

not_ltb : (m n : ℕ) → ltb m n ≡ false → n ≤ m
not_ltb m n e = grind (arith, nat_tests)

abbrev pub no_word : ℕ → Bool
no_word b = not (is_word_byte b)

pub len_found : (text : List ℕ) (n : ℕ) → position no_word text ≡ Some n → n ≡ word_len text
len_found text n e =
    let same : position_or_len no_word text ≡ word_len text = word_len_is text in
    elim (cases_Bool (ltb (position_or_len no_word text) (length text))) [
      | inl y ↦ let h : Some (position_or_len no_word text) ≡ Some n = rw y at e in cc
      | inr y ↦ let h : None ≡ Some n = rw y at e in absurd cc
    ]

pub len_none : (text : List ℕ) → position no_word text ≡ None → length text ≡ word_len text
len_none text e =
    let same : position_or_len no_word text ≡ word_len text = word_len_is text in
    let most : word_len text ≤ length text = word_len_within text in
    elim (cases_Bool (ltb (position_or_len no_word text) (length text))) [
      | inl y ↦ let h : Some (position_or_len no_word text) ≡ None = rw y at e in absurd cc
      | inr y ↦ let h : length text ≤ position_or_len no_word text = not_ltb _ _ y in omega arith
    ]

words_small : (w : List ℕ) → list_all is_word_byte w ≡ true → (i : ℕ) → slice_index w i < 128
words_small [] e i = omega arith
words_small (b ∷ z) e zero = word_small b (and_parts (is_word_byte b) (list_all is_word_byte z) e).0
words_small (b ∷ z) e (suc i) = words_small z (and_parts (is_word_byte b) (list_all is_word_byte z) e).1 i

pub identifier_utf8 : (w : List ℕ) → is_identifier w ≡ true → IsUtf8 w
identifier_utf8 w e = IsUtf8-from_ascii w (words_small w (identifier_words w e))

pub len_taken : (text : List ℕ) (n : ℕ) → n ≤ length text → n ≡ length (take n text)
len_taken text n h = omega (arith, length-take {A = ℕ})

-- a word or nothing stands at the front where no mark does
no_mark : (b : ℕ) (z : List ℕ) → is_mark b ≡ false → is_mark_text (b ∷ z) ≡ false
no_mark b [] m = m
no_mark b (c ∷ z) m = refl

no_mark_word : (b : ℕ) (z : List ℕ) → is_mark b ≡ false → is_mark_text (take (token_len (b ∷ z)) (b ∷ z)) ≡ false
no_mark_word b z m =
    elim (cases_Bool (is_word_byte b)) [
      | inl e ↦ rw e (no_mark b (take (word_len z) z) m)
      | inr e ↦ rw e m
    ]

no_form_word : (a : ℕ) → is_word_byte a ≡ false → is_form_word (a ∷ []) ≡ false
no_form_word a w = false_from_ne_true (is_form_word (a ∷ [])) (λ e. let s : is_word_byte a ≡ true = identifier_some (a ∷ []) (form_word_identifier (a ∷ []) e) in cc)

word_none_at : (a : ℕ) (z : List ℕ) (n : ℕ) → is_mark a ≡ false → n ≡ word_len (a ∷ z) → is_form_word (take n (a ∷ z)) ≡ false → is_form_text (take (token_len (a ∷ z)) (a ∷ z)) ≡ false
word_none_at a z n m l e =
    or_from (is_mark_text (take (token_len (a ∷ z)) (a ∷ z))) (is_form_word (take (token_len (a ∷ z)) (a ∷ z))) (no_mark_word a z m)
    (elim (cases_Bool (is_word_byte a)) [
      | inl w ↦ let p : n ≡ token_len (a ∷ z) = rw w (rw w at l) in subst (λ i. is_form_word (take i (a ∷ z)) ≡ false) p e
      | inr w ↦ let p : 1 ≡ token_len (a ∷ z) = rw w refl in subst (λ i. is_form_word (take i (a ∷ z)) ≡ false) p (no_form_word a w)
    ])

pub text_some : (found : Kind) → IsKind found → text_of found ≡ [] → ⊥
text_some kind.Void k e = cc
text_some (kind.Name text) k e = let no : is_free_name [] ≡ true = subst (λ w. is_free_name w ≡ true) e k in let f : false ≡ true = no in cc
text_some (kind.Mark m) k e = cc

pub word_none : (text : List ℕ) (b n : ℕ) → slice_get text 0 ≡ Some b → is_mark b ≡ false → n ≡ word_len text → is_form_word (take n text) ≡ false
    → is_form_text (take (token_len text) text) ≡ false
word_none [] b n f m l e = absurd cc
word_none (a ∷ z) b n f m l e = let same : a ≡ b = cc in word_none_at a z n (subst (λ x. is_mark x ≡ false) (sym same) m) l e

pub word_some : (text : List ℕ) (b n : ℕ) (found : Kind) → slice_get text 0 ≡ Some b → n ≡ word_len text → n ≤ length text → IsKind found → text_of found ≡ take n text
    → is_mark b ≡ false → IsFirst text found n
word_some [] b n found f l h k t m = absurd cc
word_some (a ∷ z) b n found f l h k t m =
    elim (cases_Bool (is_word_byte a)) [
      | inl w ↦ record {
        kind = k;
        text = t;
        len = rw w (rw w at l);
        within = h;
        some = let p : n ≡ suc (word_len z) = rw w at l in omega arith;
      }
      | inr w ↦ let p : n ≡ 0 = rw w at l in absurd (text_some found k (rw p at t))
    ]
