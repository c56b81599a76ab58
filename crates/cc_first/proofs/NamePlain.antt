-- Names, numbers and places need no quotes in a table.
use Rattle.std.proofs.Common.{◌≡◌, ℕ, suc, zero, ◌<◌, ◌%◌, ◌/◌, ◌==◌, ◌&&◌, Bool, true, false, cond, eqb, List, [], ◌∷◌, ◌++◌, codes, refl, ap, ◌∙◌, sym, arith, inl, inr}
use Rattle.std.proofs.lemmas.Bool.{and_parts, false≢true}
use Rattle.std.proofs.lemmas.Bool.Decides.{nat_tests, eqb_tells}
use Rattle.std.proofs.lemmas.List.Folds.{list_any-append}
use Rattle.std.specs.List.{list_all}
use Rattle.std.specs.Fmt.{decimal, digits, digits_onto, digit_glyph}
use Rattle.csv.specs.Writing.{default_writer, needs_byte, needs_quotes}
use Rattle.cc_base.specs.declared.place.Spot.{Spot}
use Rattle.cc_first.specs.Names.{is_word_byte, in_name, in_file_name, is_identifier, is_free_name, is_name, is_file_name}
use Rattle.cc_first.specs.Listing.{place_text}

-- no byte of the field calls for quotes
abbrev pub IsPlain : List ℕ → Type 0
IsPlain field = needs_quotes default_writer field ≡ false

apart : (test : ℕ → Bool) (b x : ℕ) → test b ≡ true → test x ≡ false → eqb b x ≡ false
apart test b x h k = elim (eqb_tells b x) [ inl e ↦ absurd (false≢true (sym k ∙ (ap test (sym e.1) ∙ h))) | inr e ↦ e.0 ]

-- a byte that passes a test which none of the four special bytes passes
byte_is_plain : (test : ℕ → Bool) → test 44 ≡ false → test 34 ≡ false → test 13 ≡ false → test 10 ≡ false
    → (b : ℕ) → test b ≡ true → needs_byte default_writer b ≡ false
byte_is_plain test comma quote return feed b h =
    rw (apart test b 44 h comma, apart test b 34 h quote, apart test b 13 h return, apart test b 10 h feed) refl

bytes_are_plain : (test : ℕ → Bool) → ((b : ℕ) → test b ≡ true → needs_byte default_writer b ≡ false)
    → (text : List ℕ) → list_all test text ≡ true → IsPlain text
bytes_are_plain test each [] h = refl
bytes_are_plain test each (b ∷ z) h =
    rw (each b (and_parts (test b) (list_all test z) h).0) (bytes_are_plain test each z (and_parts (test b) (list_all test z) h).1)

pub name_is_plain : (text : List ℕ) → is_name text ≡ true → IsPlain text
name_is_plain [] h = refl
name_is_plain (b ∷ z) h = bytes_are_plain in_name (byte_is_plain in_name refl refl refl refl) (b ∷ z) (and_parts _ _ (and_parts _ _ h).1).0

pub file_name_is_plain : (text : List ℕ) → is_file_name text ≡ true → IsPlain text
file_name_is_plain [] h = refl
file_name_is_plain (b ∷ z) h =
    bytes_are_plain in_file_name (byte_is_plain in_file_name refl refl refl refl) (b ∷ z) (and_parts _ _ (and_parts _ _ h).1).0

identifier_is_plain : (text : List ℕ) → is_identifier text ≡ true → IsPlain text
identifier_is_plain [] h = refl
identifier_is_plain (b ∷ z) h = bytes_are_plain is_word_byte (byte_is_plain is_word_byte refl refl refl refl) (b ∷ z) (and_parts _ _ h).1

pub free_name_is_plain : (text : List ℕ) → is_free_name text ≡ true → IsPlain text
free_name_is_plain text h = identifier_is_plain text (and_parts _ _ h).0

pub append_is_plain : (a b : List ℕ) → IsPlain a → IsPlain b → IsPlain (a ++ b)
append_is_plain a b p q = list_any-append (needs_byte default_writer) a b ∙ rw (p, q) refl

digit_is_plain : (d : ℕ) → d < 10 → needs_byte default_writer (digit_glyph false d) ≡ false
digit_is_plain d h = grind (arith, nat_tests)

digits_are_plain : (k n : ℕ) (acc : List ℕ) → IsPlain acc → IsPlain (digits_onto k 10 false n acc)
digits_are_plain zero n acc p = p
digits_are_plain (suc k) n acc p =
    let here : IsPlain (digit_glyph false (n % 10) ∷ acc) = rw (digit_is_plain (n % 10) (omega arith)) p in
    elim (n / 10 == 0) as (λ b. IsPlain (cond b (digit_glyph false (n % 10) ∷ acc) (digits_onto k 10 false (n / 10) (digit_glyph false (n % 10) ∷ acc)))) [
      | true ↦ here
      | false ↦ digits_are_plain k (n / 10) (digit_glyph false (n % 10) ∷ acc) here
    ]

pub decimal_is_plain : (n : ℕ) → IsPlain (decimal n)
unfolding digits
decimal_is_plain n = digits_are_plain 64 n [] refl

pub place_is_plain : (file : List ℕ) (spot : Spot) → IsPlain file → IsPlain (place_text file spot)
place_is_plain file spot p =
    let column : List ℕ = codes ":" ++ decimal spot.column in
    let column_is : IsPlain column = append_is_plain (codes ":") (decimal spot.column) refl (decimal_is_plain spot.column) in
    let both : List ℕ = codes ":" ++ (decimal spot.line ++ column) in
    let both_is : IsPlain both =
    append_is_plain (codes ":") (decimal spot.line ++ column) refl (append_is_plain (decimal spot.line) column (decimal_is_plain spot.line) column_is) in
    append_is_plain file both p both_is
