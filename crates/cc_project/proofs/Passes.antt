-- What holds of a list of texts where no rule at an item fails.
use Rattle.std.proofs.Common.{◌≡◌, ◌≢◌, ◌≤◌, ◌<◌, ℕ, ◌+◌, Bool, true, false, nat_lt, List, [], ◌∷◌, ◌++◌, length, map, Option, Some, None, refl, subst, sym, ◌∙◌, append_assoc, append-nil, arith}
use Rattle.std.specs.List.{list_all, list_any, All, AllPass}
use Rattle.std.specs.Str.{bytes_eq}
use Rattle.std.proofs.lemmas.Bool.{and_parts, and_from, or_parts, not-true, false≢true, ltb-true}
use Rattle.std.proofs.lemmas.List.{length_push}
use Rattle.std.proofs.lemmas.List.Elements.{All-nil, All-cons}
use Rattle.std.proofs.lemmas.List.Quantifiers.{all_pairs_push}
use Rattle.std.proofs.lemmas.Slice.Eq.{bytes_eq-Decides}
use Rattle.toml.specs.Data.{Data, string, integer, float, boolean, datetime, array, table}
use Rattle.cc_project.specs.Names.{is_new}
use Rattle.cc_project.specs.Places.{item_key}
use Rattle.cc_project.specs.Rules.{is_new_file}
use Rattle.cc_project.specs.Values.{is_text_that, is_there, text_of, text_in, items_in, texts_in}
use Rattle.cc_project.specs.Order.{at, at_each, at_each_new, array_rules, new_array_rules, first_failing}
use Rattle.cc_project.specs.WellMade.{AllDiffer}
use Rattle.cc_project.proofs.Firsts.{first-parts, at-holds}

-- ---- Items

items_pass : (key : List ℕ) (n : ℕ) (test : Data → Bool) (k : ℕ) (ds : List Data) → first_failing (at_each key n test k ds) ≡ None → list_all test ds ≡ true
items_pass key n test k [] none = refl
items_pass key n test k (d ∷ rest) none =
    let parts = first-parts (at (item_key key k) n (test d)) (at_each key n test (k + 1) rest) none in
    and_from _ _ (at-holds _ _ _ parts.0) (items_pass key n test (k + 1) rest parts.1)

pub array_passes : (key : List ℕ) (n : ℕ) (whole : Bool) (test : Data → Bool) (value : Option Data)
    → first_failing (array_rules key n whole test value) ≡ None → (whole ≡ true) × (list_all test (items_in value) ≡ true)
array_passes key n whole test value none =
    let parts = first-parts (at key n whole) (at_each key n test 0 (items_in value)) none in
    (at-holds _ _ _ parts.0, items_pass key n test 0 (items_in value) parts.1)

text_that : (test : List ℕ → Bool) (d : Data) → is_text_that test d ≡ true → test (text_of d) ≡ true
text_that test (string text) holds = holds
text_that test (integer z) holds = absurd (false≢true holds)
text_that test (float x) holds = absurd (false≢true holds)
text_that test (boolean b) holds = absurd (false≢true holds)
text_that test (datetime t) holds = absurd (false≢true holds)
text_that test (array items) holds = absurd (false≢true holds)
text_that test (table found) holds = absurd (false≢true holds)

pub text_passes : (test : List ℕ → Bool) (value : Option Data) → is_there (is_text_that test) value ≡ true → test (text_in value) ≡ true
text_passes test None holds = absurd (false≢true holds)
text_passes test (Some d) holds = text_that test d holds

pub texts_pass : (test : List ℕ → Bool) (ds : List Data) → list_all (is_text_that test) ds ≡ true → AllPass test (map text_of ds)
texts_pass test [] holds = All-nil (λ text. test text ≡ true)
texts_pass test (d ∷ rest) holds =
    let parts = and_parts _ _ holds in
    All-cons (λ text. test text ≡ true) (text_of d) (map text_of rest) (text_that test d parts.0) (texts_pass test rest parts.1)

-- ---- Texts that are judged by those before them

-- each of these texts passes, behind the texts in `before`
abbrev pub PassAfter : (List (List ℕ) → List ℕ → Bool) → List (List ℕ) → List (List ℕ) → Type 0
PassAfter test before [] = Unit {0}
PassAfter test before (text ∷ rest) = (test before text ≡ true) × PassAfter test (before ++ text ∷ []) rest

pub new_items_pass : (key : List ℕ) (n : ℕ) (test : List (List ℕ) → List ℕ → Bool) (k : ℕ) (before texts : List (List ℕ))
    → first_failing (at_each_new key n test k before texts) ≡ None → PassAfter test before texts
new_items_pass key n test k before [] none = tt
new_items_pass key n test k before (text ∷ rest) none =
    let parts = first-parts (at (item_key key k) n (test before text)) (at_each_new key n test (k + 1) (before ++ text ∷ []) rest) none in
    (at-holds _ _ _ parts.0, new_items_pass key n test (k + 1) (before ++ text ∷ []) rest parts.1)

pub new_array_passes : (key : List ℕ) (n : ℕ) (whole : Bool) (test : List (List ℕ) → List ℕ → Bool) (value : Option Data)
    → first_failing (new_array_rules key n whole test value) ≡ None → (whole ≡ true) × PassAfter test [] (texts_in value)
new_array_passes key n whole test value none =
    let parts = first-parts (at key n whole) (at_each_new key n test 0 [] (texts_in value)) none in
    (at-holds _ _ _ parts.0, new_items_pass key n test 0 [] (texts_in value) parts.1)

-- first these, and then those
pub PassAfter-append : (test : List (List ℕ) → List ℕ → Bool) (before texts more : List (List ℕ)) → PassAfter test before texts
    → PassAfter test (before ++ texts) more → PassAfter test before (texts ++ more)
PassAfter-append test before [] more pass then_more = subst (λ seen. PassAfter test seen more) (append-nil before) then_more
PassAfter-append test before (text ∷ rest) more pass then_more = (
  pass.0,
  PassAfter-append test (before ++ text ∷ []) rest more pass.1
      (subst (λ seen. PassAfter test seen more) (sym (append_assoc before (text ∷ []) rest)) then_more),
)

-- a fact of each text alone
pub PassAfter-each : (test : List (List ℕ) → List ℕ → Bool) (P : List ℕ → Type 0) → ((before : List (List ℕ)) (text : List ℕ) → test before text ≡ true → P text)
    → (before texts : List (List ℕ)) → PassAfter test before texts → All P texts
PassAfter-each test P says before [] pass = All-nil P
PassAfter-each test P says before (text ∷ rest) pass =
    All-cons P text rest (says before text pass.0) (PassAfter-each test P says (before ++ text ∷ []) rest pass.1)

-- ---- New texts

other_text : (a b : List ℕ) → bytes_eq a b ≡ false → b ≢ a
other_text a b differ same = false≢true (sym differ ∙ (bytes_eq-Decides a b).1 (sym same))

others : (before : List (List ℕ)) (text : List ℕ) → list_any (bytes_eq text) before ≡ false → All (λ other. other ≢ text) before
others [] text none = All-nil (λ other. other ≢ text)
others (b ∷ rest) text none =
    let parts = or_parts _ _ none in
    All-cons (λ other. other ≢ text) b rest (other_text text b parts.0) (others rest text parts.1)

-- a new text is none of those before
pub new_is_other : (before : List (List ℕ)) (text : List ℕ) → is_new before text ≡ true → All (λ other. other ≢ text) before
new_is_other before text new = others before text (not-true _ new)

-- texts of which each was new differ
pub PassAfter-differ : (test : List (List ℕ) → List ℕ → Bool) → ((before : List (List ℕ)) (text : List ℕ) → test before text ≡ true → is_new before text ≡ true)
    → (before texts : List (List ℕ)) → AllDiffer before → PassAfter test before texts → AllDiffer (before ++ texts)
PassAfter-differ test says before [] differ pass = subst AllDiffer (sym (append-nil before)) differ
PassAfter-differ test says before (text ∷ rest) differ pass =
    subst AllDiffer (append_assoc before (text ∷ []) rest)
    (PassAfter-differ test says (before ++ text ∷ []) rest
    (all_pairs_push (λ a b. a ≢ b) before text differ (new_is_other before text (says before text pass.0))) pass.1)

pub none_differ : AllDiffer []
none_differ i j d below past = absurd (omega arith)

-- ---- At most 64 files

room : (before : List (List ℕ)) (text : List ℕ) → is_new_file before text ≡ true → length (before ++ text ∷ []) ≤ 64
room before text passes =
    let short : length before < 64 = ltb-true (length before) 64 (and_parts (is_new before text) (nat_lt (length before) 64) passes).1 in
    let grown = length_push before text in
    omega arith

pub few_new_files : (before texts : List (List ℕ)) → length before ≤ 64 → PassAfter is_new_file before texts → length (before ++ texts) ≤ 64
few_new_files before [] few pass = subst (λ seen. length seen ≤ 64) (sym (append-nil before)) few
few_new_files before (text ∷ rest) few pass =
    subst (λ seen. length seen ≤ 64) (append_assoc before (text ∷ []) rest)
    (few_new_files (before ++ text ∷ []) rest (room before text pass.0) pass.1)
