-- Lists of names behind strings.
use Rattle.std.proofs.Common.{◌≡◌, ℕ, Bool, true, false, ◌||◌, List, [], ◌∷◌, ◌++◌, map, refl, ap, if◌then◌else◌}
use Rattle.std.specs.List.{list_any}
use Rattle.std.specs.Prelude.{String}
use Rattle.std.specs.String.{string_bytes, string_eq}
use Rattle.std.specs.Str.{bytes_eq}
use Rattle.std.proofs.lemmas.List.{map-append}
use Rattle.cc_grammar.specs.Names.{added}

pub any_of_names : {Z : Type 0} (test : List ℕ → Bool) (names : List (String Z)) → list_any test (map string_bytes names) ≡ list_any (λ name. test (string_bytes name)) names
any_of_names test [] = refl
any_of_names test (name ∷ rest) = ap (λ b. test (string_bytes name) || b) (any_of_names test rest)

any_string : {Z : Type 0} (name : String Z) (names : List (String Z)) → list_any (bytes_eq (string_bytes name)) (map string_bytes names) ≡ list_any (string_eq name) names
any_string name names = any_of_names (bytes_eq (string_bytes name)) names

-- the names behind the strings of a set to which one is added
pub added_string : {Z : Type 0} (name : String Z) (names : List (String Z)) → map string_bytes (if list_any (string_eq name) names then names else names ++ name ∷ []) ≡ added (string_bytes name) (map string_bytes names)
added_string {Z} name names = by (list_any (string_eq name) names) refl
  where
    by : (b : Bool) → list_any (string_eq name) names ≡ b → map string_bytes (if list_any (string_eq name) names then names else names ++ name ∷ []) ≡ added (string_bytes name) (map string_bytes names)
    by true e = rw (e, any_string name names, e) refl
    by false e = rw (e, any_string name names, e) (map-append string_bytes names (name ∷ []))
