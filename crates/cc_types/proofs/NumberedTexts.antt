-- Texts behind strings, with their numbers.
use Rattle.std.proofs.Common.{◌≡◌, ℕ, ◌+◌, Bool, true, false, not, ◌||◌, List, [], ◌∷◌, map, refl, ap, ◌∙◌, if◌then◌else◌}
use Rattle.std.specs.List.{list_any, position_or_len}
use Rattle.std.specs.Prelude.{String}
use Rattle.std.specs.String.{string_bytes, string_eq}
use Rattle.std.specs.Str.{bytes_eq}
use Rattle.std.proofs.lemmas.List.{map-append}
use Rattle.indexmap.specs.IndexSet.{insert_key}
use Rattle.cc_types.specs.MemberLists.{text_numbered}

any_of_texts : {Z : Type 0} (test : List ℕ → Bool) (texts : List (String Z)) → list_any test (map string_bytes texts) ≡ list_any (λ x. test (string_bytes x)) texts
any_of_texts test [] = refl
any_of_texts test (x ∷ rest) = ap (λ b. test (string_bytes x) || b) (any_of_texts test rest)

place_of_text : {Z : Type 0} (test : List ℕ → Bool) (texts : List (String Z)) → position_or_len (λ x. test (string_bytes x)) texts ≡ position_or_len test (map string_bytes texts)
place_of_text test [] = refl
place_of_text test (x ∷ rest) = ap (λ n. if not (test (string_bytes x)) then 1 + n else 0) (place_of_text test rest)

inserted_text : {Z : Type 0} (x : String Z) (texts : List (String Z)) → map string_bytes (insert_key string_eq texts x) ≡ insert_key bytes_eq (map string_bytes texts) (string_bytes x)
inserted_text {Z} x texts = by (list_any (string_eq x) texts) refl
  where
    by : (b : Bool) → list_any (string_eq x) texts ≡ b → map string_bytes (insert_key string_eq texts x) ≡ insert_key bytes_eq (map string_bytes texts) (string_bytes x)
    by true e = rw (e, any_of_texts (bytes_eq (string_bytes x)) texts, e) refl
    by false e = rw (e, any_of_texts (bytes_eq (string_bytes x)) texts, e) (map-append string_bytes texts (x ∷ []))

-- the texts behind the strings of a set, once it has this string too, and the number of that
pub numbered : {Z : Type 0} (x : String Z) (texts : List (String Z)) → (map string_bytes (insert_key string_eq texts x), position_or_len (string_eq x) texts) ≡ text_numbered (map string_bytes texts) (string_bytes x)
numbered x texts =
    ap (λ t. (t, position_or_len (string_eq x) texts)) (inserted_text x texts)
    ∙ ap (λ n. (insert_key bytes_eq (map string_bytes texts) (string_bytes x), n)) (place_of_text (bytes_eq (string_bytes x)) texts)
