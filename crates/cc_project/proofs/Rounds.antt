-- Rounds of the loops over items, components and tests.
use Rattle.std.proofs.Common.{◌≡◌, ℕ, ◌+◌, ◌<◌, ◌≤◌, Bool, true, ◌&&◌, nat_lt, cond, List, [], ◌∷◌, ◌++◌, length, map, drop, get_or, Option, None, refl, ap, sym, ◌∙◌, append_assoc}
use Rattle.std.proofs.lemmas.List.{drop_more, drop_all, append-nil}
use Rattle.std.proofs.lemmas.Bool.{and_parts}
use Rattle.toml.specs.Data.{Data}
use Rattle.toml.specs.View.{view}
use Rattle.toml.specs.declared.value.Value.{Value}
use Rattle.cc_project.specs.Names.{is_new, is_function_name}
use Rattle.cc_project.specs.Places.{item_key}
use Rattle.cc_project.specs.Values.{text_of, text_in, is_there, is_text}
use Rattle.cc_project.specs.Rules as rule
use Rattle.cc_project.specs.Order.{at, array_rules, at_each, at_each_new, component_rules, components_rules, test_rules, tests_rules, justification_rules, justifications_rules, name_of, files_of, line_of, first_failing}
use Rattle.cc_project.specs.Outcome.{Reports}
use Rattle.cc_project.specs.Views.{all_data, texts_of}
use Rattle.cc_project.specs.declared.fault.ProjectFault.{ProjectFault}
use Rattle.cc_project.proofs.Firsts.{Fault, round_fails, round_holds}

-- ---- What is left of a list

pub data_left : (vs : List Value) (k : ℕ) (value : Value) → k < length vs → value ≡ get_or vs k value
    → all_data (drop k vs) ≡ view value ∷ all_data (drop (k + 1) vs)
data_left vs k value below is = ap (map view) (drop_more vs k value below) ∙ ap (λ v. view v ∷ all_data (drop (k + 1) vs)) (sym is)

pub no_data_left : (vs : List Value) (k : ℕ) → length vs ≤ k → all_data (drop k vs) ≡ []
no_data_left vs k past = ap (map view) (drop_all k vs past)

none_of_none : first_failing [] ≡ None
unfolding first_failing
none_of_none = refl

-- ---- Items

pub each_fails : (key : List ℕ) (n : ℕ) (test : Data → Bool) (k : ℕ) (vs : List Value) (value : Value) (whole : Option Fault) (e : ProjectFault) (holds : Bool)
    → k < length vs → value ≡ get_or vs k value → first_failing (at_each key n test k (all_data (drop k vs))) ≡ whole
    → holds ≡ test (view value) → Reports (first_failing (at (item_key key k) n holds)) e → Reports whole e
each_fails key n test k vs value whole e holds below is left same r =
    let more = at_each key n test (k + 1) (all_data (drop (k + 1) vs)) in
    round_fails _ (at (item_key key k) n holds) more whole e left
    (ap (λ ds. first_failing (at_each key n test k ds)) (data_left vs k value below is) ∙ ap (λ b. first_failing (at (item_key key k) n b ++ more)) (sym same)) r

pub each_holds : (key : List ℕ) (n : ℕ) (test : Data → Bool) (k : ℕ) (vs : List Value) (value : Value) (whole : Option Fault) (holds : Bool)
    → k < length vs → value ≡ get_or vs k value → first_failing (at_each key n test k (all_data (drop k vs))) ≡ whole
    → holds ≡ test (view value) → first_failing (at (item_key key k) n holds) ≡ None
    → first_failing (at_each key n test (k + 1) (all_data (drop (k + 1) vs))) ≡ whole
each_holds key n test k vs value whole holds below is left same none =
    let more = at_each key n test (k + 1) (all_data (drop (k + 1) vs)) in
    round_holds _ (at (item_key key k) n holds) more whole left
    (ap (λ ds. first_failing (at_each key n test k ds)) (data_left vs k value below is) ∙ ap (λ b. first_failing (at (item_key key k) n b ++ more)) (sym same)) none

pub each_ends : (key : List ℕ) (n : ℕ) (test : Data → Bool) (k : ℕ) (vs : List Value) (whole : Option Fault)
    → length vs ≤ k → first_failing (at_each key n test k (all_data (drop k vs))) ≡ whole → whole ≡ None
each_ends key n test k vs whole past left =
    sym left ∙ ap (λ ds. first_failing (at_each key n test k ds)) (no_data_left vs k past) ∙ none_of_none

-- ---- New items

pub new_fails : (key : List ℕ) (n : ℕ) (test : List (List ℕ) → List ℕ → Bool) (k : ℕ) (before : List (List ℕ)) (vs : List Value) (value : Value) (whole : Option Fault) (e : ProjectFault) (holds : Bool)
    → k < length vs → value ≡ get_or vs k value → first_failing (at_each_new key n test k before (texts_of (drop k vs))) ≡ whole
    → holds ≡ test before (text_of (view value)) → Reports (first_failing (at (item_key key k) n holds)) e → Reports whole e
new_fails key n test k before vs value whole e holds below is left same r =
    let more = at_each_new key n test (k + 1) (before ++ text_of (view value) ∷ []) (texts_of (drop (k + 1) vs)) in
    round_fails _ (at (item_key key k) n holds) more whole e left
    (ap (λ ds. first_failing (at_each_new key n test k before (map text_of ds))) (data_left vs k value below is) ∙ ap (λ b. first_failing (at (item_key key k) n b ++ more)) (sym same)) r

pub new_holds : (key : List ℕ) (n : ℕ) (test : List (List ℕ) → List ℕ → Bool) (k : ℕ) (before after : List (List ℕ)) (vs : List Value) (value : Value) (whole : Option Fault) (holds : Bool)
    → k < length vs → value ≡ get_or vs k value → first_failing (at_each_new key n test k before (texts_of (drop k vs))) ≡ whole
    → holds ≡ test before (text_of (view value)) → first_failing (at (item_key key k) n holds) ≡ None → after ≡ before ++ text_of (view value) ∷ []
    → first_failing (at_each_new key n test (k + 1) after (texts_of (drop (k + 1) vs))) ≡ whole
new_holds key n test k before after vs value whole holds below is left same none grown =
    let more = at_each_new key n test (k + 1) (before ++ text_of (view value) ∷ []) (texts_of (drop (k + 1) vs)) in
    ap (λ seen. first_failing (at_each_new key n test (k + 1) seen (texts_of (drop (k + 1) vs)))) grown ∙
    round_holds _ (at (item_key key k) n holds) more whole left
    (ap (λ ds. first_failing (at_each_new key n test k before (map text_of ds))) (data_left vs k value below is) ∙ ap (λ b. first_failing (at (item_key key k) n b ++ more)) (sym same)) none

pub new_ends : (key : List ℕ) (n : ℕ) (test : List (List ℕ) → List ℕ → Bool) (k : ℕ) (before : List (List ℕ)) (vs : List Value) (whole : Option Fault)
    → length vs ≤ k → first_failing (at_each_new key n test k before (texts_of (drop k vs))) ≡ whole → whole ≡ None
new_ends key n test k before vs whole past left =
    sym left ∙ ap (λ ds. first_failing (at_each_new key n test k before (map text_of ds))) (no_data_left vs k past) ∙ none_of_none

-- the texts that were seen, and those that are left
pub seen_more : (k : ℕ) (before after whole : List (List ℕ)) (vs : List Value) (value : Value) → k < length vs → value ≡ get_or vs k value
    → before ++ texts_of (drop k vs) ≡ whole → after ≡ before ++ text_of (view value) ∷ [] → after ++ texts_of (drop (k + 1) vs) ≡ whole
seen_more k before after whole vs value below is left grown =
    ap (λ seen. seen ++ texts_of (drop (k + 1) vs)) grown
    ∙ append_assoc before (text_of (view value) ∷ []) (texts_of (drop (k + 1) vs))
    ∙ ap (λ ds. before ++ map text_of ds) (sym (data_left vs k value below is)) ∙ left

pub seen_all : (k : ℕ) (before whole : List (List ℕ)) (vs : List Value) → length vs ≤ k → before ++ texts_of (drop k vs) ≡ whole → before ≡ whole
seen_all k before whole vs past left = sym (append-nil before) ∙ ap (λ ds. before ++ map text_of ds) (sym (no_data_left vs k past)) ∙ left

-- a text that was new was added
pub grown : (added : Bool) (old new : List (List ℕ)) (text same : List ℕ) → new ≡ cond added (old ++ text ∷ []) old → added ≡ true → text ≡ same
    → new ≡ old ++ same ∷ []
grown added old new text same after holds_true is = after ∙ ap (λ b. cond b (old ++ text ∷ []) old) holds_true ∙ ap (λ t. old ++ t ∷ []) is

-- ---- What is asked of an item, in the words of the code

pub file_holds : (holds added : Bool) (count : ℕ) (before : List (List ℕ)) (text same : List ℕ) → holds ≡ (added && nat_lt count 64)
    → added ≡ is_new before text → count ≡ length before → text ≡ same → holds ≡ rule.is_new_file before same
file_holds holds added count before text same a b c d =
    a ∙ ap (λ x. x && nat_lt count 64) b ∙ ap (λ n. is_new before text && nat_lt n 64) c ∙ ap (λ t. is_new before t && nat_lt (length before) 64) d

pub entry_holds : (holds added : Bool) (before : List (List ℕ)) (text same : List ℕ) → holds ≡ (is_function_name text && added)
    → added ≡ is_new before text → text ≡ same → holds ≡ rule.is_entry before same
entry_holds holds added before text same a b d =
    a ∙ ap (λ x. is_function_name text && x) b ∙ ap (λ t. is_function_name t && is_new before t) d

pub environment_holds : (holds added : Bool) (entries before : List (List ℕ)) (text same : List ℕ) → holds ≡ ((is_function_name text && added) && is_new entries text)
    → added ≡ is_new before text → text ≡ same → holds ≡ rule.is_environment entries before same
environment_holds holds added entries before text same a b d =
    a ∙ ap (λ x. (is_function_name text && x) && is_new entries text) b ∙ ap (λ t. (is_function_name t && is_new before t) && is_new entries t) d

pub first_true : (holds a b : Bool) → holds ≡ (a && b) → holds ≡ true → a ≡ true
first_true holds a b e holds_true = (and_parts a b (sym e ∙ holds_true)).0

pub second_true : (holds a b : Bool) → holds ≡ (a && b) → holds ≡ true → b ≡ true
second_true holds a b e holds_true = (and_parts a b (sym e ∙ holds_true)).1

-- ---- Components, tests and justifications

pub component_fails : (i : ℕ) (names files : List (List ℕ)) (vs : List Value) (value : Value) (whole : Option Fault) (e : ProjectFault)
    → i < length vs → value ≡ get_or vs i value → first_failing (components_rules i names files (all_data (drop i vs))) ≡ whole
    → Reports (first_failing (component_rules i names files (view value))) e → Reports whole e
component_fails i names files vs value whole e below is left r =
    round_fails _ (component_rules i names files (view value)) _ whole e left (ap (λ ds. first_failing (components_rules i names files ds)) (data_left vs i value below is)) r

pub component_holds : (i : ℕ) (names files names' files' : List (List ℕ)) (vs : List Value) (value : Value) (whole : Option Fault)
    → i < length vs → value ≡ get_or vs i value → first_failing (components_rules i names files (all_data (drop i vs))) ≡ whole
    → first_failing (component_rules i names files (view value)) ≡ None → names' ≡ names ++ name_of (view value) ∷ [] → files' ≡ files ++ files_of (view value)
    → first_failing (components_rules (i + 1) names' files' (all_data (drop (i + 1) vs))) ≡ whole
component_holds i names files names' files' vs value whole below is left none named filed =
    ap (λ seen. first_failing (components_rules (i + 1) seen files' (all_data (drop (i + 1) vs)))) named
    ∙ ap (λ seen. first_failing (components_rules (i + 1) (names ++ name_of (view value) ∷ []) seen (all_data (drop (i + 1) vs)))) filed
    ∙ round_holds _ (component_rules i names files (view value)) _ whole left (ap (λ ds. first_failing (components_rules i names files ds)) (data_left vs i value below is)) none

pub components_end : (i : ℕ) (names files : List (List ℕ)) (vs : List Value) (whole : Option Fault)
    → length vs ≤ i → first_failing (components_rules i names files (all_data (drop i vs))) ≡ whole → whole ≡ None
components_end i names files vs whole past left =
    sym left ∙ ap (λ ds. first_failing (components_rules i names files ds)) (no_data_left vs i past) ∙ none_of_none

pub test_fails : (i : ℕ) (names : List (List ℕ)) (vs : List Value) (value : Value) (whole : Option Fault) (e : ProjectFault)
    → i < length vs → value ≡ get_or vs i value → first_failing (tests_rules i names (all_data (drop i vs))) ≡ whole
    → Reports (first_failing (test_rules i names (view value))) e → Reports whole e
test_fails i names vs value whole e below is left r =
    round_fails _ (test_rules i names (view value)) _ whole e left (ap (λ ds. first_failing (tests_rules i names ds)) (data_left vs i value below is)) r

pub test_holds : (i : ℕ) (names names' : List (List ℕ)) (vs : List Value) (value : Value) (whole : Option Fault)
    → i < length vs → value ≡ get_or vs i value → first_failing (tests_rules i names (all_data (drop i vs))) ≡ whole
    → first_failing (test_rules i names (view value)) ≡ None → names' ≡ names ++ name_of (view value) ∷ []
    → first_failing (tests_rules (i + 1) names' (all_data (drop (i + 1) vs))) ≡ whole
test_holds i names names' vs value whole below is left none named =
    ap (λ seen. first_failing (tests_rules (i + 1) seen (all_data (drop (i + 1) vs)))) named
    ∙ round_holds _ (test_rules i names (view value)) _ whole left (ap (λ ds. first_failing (tests_rules i names ds)) (data_left vs i value below is)) none

pub tests_end : (i : ℕ) (names : List (List ℕ)) (vs : List Value) (whole : Option Fault)
    → length vs ≤ i → first_failing (tests_rules i names (all_data (drop i vs))) ≡ whole → whole ≡ None
tests_end i names vs whole past left =
    sym left ∙ ap (λ ds. first_failing (tests_rules i names ds)) (no_data_left vs i past) ∙ none_of_none

pub justification_fails : (i : ℕ) (lines : List (List ℕ)) (vs : List Value) (value : Value) (whole : Option Fault) (e : ProjectFault)
    → i < length vs → value ≡ get_or vs i value → first_failing (justifications_rules i lines (all_data (drop i vs))) ≡ whole
    → Reports (first_failing (justification_rules i lines (view value))) e → Reports whole e
justification_fails i lines vs value whole e below is left r =
    round_fails _ (justification_rules i lines (view value)) _ whole e left (ap (λ ds. first_failing (justifications_rules i lines ds)) (data_left vs i value below is)) r

pub justification_holds : (i : ℕ) (lines lines' : List (List ℕ)) (vs : List Value) (value : Value) (whole : Option Fault)
    → i < length vs → value ≡ get_or vs i value → first_failing (justifications_rules i lines (all_data (drop i vs))) ≡ whole
    → first_failing (justification_rules i lines (view value)) ≡ None → lines' ≡ lines ++ line_of (view value) ∷ []
    → first_failing (justifications_rules (i + 1) lines' (all_data (drop (i + 1) vs))) ≡ whole
justification_holds i lines lines' vs value whole below is left none lined =
    ap (λ seen. first_failing (justifications_rules (i + 1) seen (all_data (drop (i + 1) vs)))) lined
    ∙ round_holds _ (justification_rules i lines (view value)) _ whole left (ap (λ ds. first_failing (justifications_rules i lines ds)) (data_left vs i value below is)) none

pub justifications_end : (i : ℕ) (lines : List (List ℕ)) (vs : List Value) (whole : Option Fault)
    → length vs ≤ i → first_failing (justifications_rules i lines (all_data (drop i vs))) ≡ whole → whole ≡ None
justifications_end i lines vs whole past left =
    sym left ∙ ap (λ ds. first_failing (justifications_rules i lines ds)) (no_data_left vs i past) ∙ none_of_none

-- ---- One rule, in the words of the code and in those of the rules

pub moved : (key key' : List ℕ) (n : ℕ) (h h' : Bool) → key ≡ key' → h ≡ h' → first_failing (at key n h) ≡ first_failing (at key' n h')
moved key key' n h h' a b = ap (λ k. first_failing (at k n h)) a ∙ ap (λ x. first_failing (at key' n x)) b

pub moved_items : (key : List ℕ) (n : ℕ) (test : Data → Bool) (ds ds' : List Data) → ds ≡ ds'
    → first_failing (at_each key n test 0 ds) ≡ first_failing (at_each key n test 0 ds')
moved_items key n test ds ds' a = ap (λ x. first_failing (at_each key n test 0 x)) a

pub moved_array : (key key' : List ℕ) (n : ℕ) (h h' : Bool) (test : Data → Bool) (value value' : Option Data) → key ≡ key' → h ≡ h' → value ≡ value'
    → first_failing (array_rules key n h test value) ≡ first_failing (array_rules key' n h' test value')
moved_array key key' n h h' test value value' a b c =
    ap (λ k. first_failing (array_rules k n h test value)) a ∙ ap (λ x. first_failing (array_rules key' n x test value)) b
    ∙ ap (λ v. first_failing (array_rules key' n h' test v)) c

pub moved_new : (key key' : List ℕ) (n : ℕ) (test : List (List ℕ) → List ℕ → Bool) (before before' texts texts' : List (List ℕ))
    → key ≡ key' → before ≡ before' → texts ≡ texts'
    → first_failing (at_each_new key n test 0 before texts) ≡ first_failing (at_each_new key' n test 0 before' texts')
moved_new key key' n test before before' texts texts' a b c =
    ap (λ k. first_failing (at_each_new k n test 0 before texts)) a ∙ ap (λ x. first_failing (at_each_new key' n test 0 x texts)) b
    ∙ ap (λ x. first_failing (at_each_new key' n test 0 before' x)) c

pub test_name_holds : (holds added : Bool) (names : List (List ℕ)) (seen value : Option Data) (text : List ℕ) → holds ≡ (rule.is_component_name seen && added)
    → added ≡ is_new names text → text ≡ text_in seen → seen ≡ value → holds ≡ rule.is_test_name names value
test_name_holds holds added names seen value text a b c d =
    a ∙ ap (λ x. rule.is_component_name seen && x) b ∙ ap (λ t. rule.is_component_name seen && is_new names t) c
    ∙ ap (λ v. rule.is_component_name v && is_new names (text_in v)) d

pub line_holds : (holds added : Bool) (lines : List (List ℕ)) (seen value : Option Data) (text : List ℕ) → holds ≡ (is_there is_text seen && added)
    → added ≡ is_new lines text → text ≡ text_in seen → seen ≡ value → holds ≡ rule.is_line lines value
line_holds holds added lines seen value text a b c d =
    a ∙ ap (λ x. is_there is_text seen && x) b ∙ ap (λ t. is_there is_text seen && is_new lines t) c
    ∙ ap (λ v. is_there is_text v && is_new lines (text_in v)) d
