-- A document that breaks no rule says a project that is well made.
use Rattle.std.proofs.Common.{◌≡◌, ◌≢◌, ◌≤◌, ◌<◌, ℕ, ◌+◌, pos, negsuc, nat_abs, Bool, true, false, ◌&&◌, List, [], ◌∷◌, ◌++◌, length, map, Option, Some, None, codes, suc, cond, ◌⊎◌, inl, inr, refl, ap, subst, sym, ◌∙◌, ⊎_elim, zero-add, arith}
use Rattle.std.specs.List.{list_all, All, AllByRecursion, AllPass, Any, Contains}
use Rattle.std.proofs.lemmas.Bool.{and_parts, false≢true, leb-true, cases_eq, cond-true}
use Rattle.std.proofs.lemmas.List.{length-map, map-append}
use Rattle.std.proofs.lemmas.List.Elements.{All-nil, All-cons, All-append, All-contains, All-same}
use Rattle.std.proofs.lemmas.List.Kept.{AllPairs-cons}
use Rattle.toml.specs.Data.{Data, string, integer, float, boolean, datetime, array, table, get}
use Rattle.cc_project.specs.declared.project.ProjectFile.{ProjectFile}
use Rattle.cc_project.specs.declared.project.RawCall.{RawCall}
use Rattle.cc_project.specs.declared.project.RawTest.{RawTest}
use Rattle.cc_project.specs.declared.project.RawJustified.{RawJustified}
use Rattle.cc_project.specs.Names.{is_name, is_file_name, is_requirement, is_reason, is_function_name, is_new}
use Rattle.cc_project.specs.Places.{item_key, member_key}
use Rattle.cc_project.specs.Rules as rule
use Rattle.cc_project.specs.Values.{is_any, is_text, is_integer, is_table, text_of, text_in, integer_of, items_in, texts_in, list_of}
use Rattle.cc_project.specs.Order.{at, at_each_new, array_rules, component_rules, components_rules, test_rules, tests_rules, justification_rules, justifications_rules, first_failing, shape_fault, name_of, files_of, line_of}
use Rattle.cc_project.specs.Project.{files_in, files_from, call_in, call_of, turns_in, test_of, format_of, justified_of, project_of}
use Rattle.cc_project.specs.WellMade.{AllDiffer, AreInOrder, file_names_of, test_names_of, lines_of, reasons_of, IsWellMadeTest, IsWellMade}
use Rattle.cc_project.proofs.Firsts.{first-parts, parts_of_3, parts_of_5, parts_of_6, at-holds}
use Rattle.cc_project.proofs.Limits.{there_size, missing_size, document_parts}
use Rattle.cc_project.proofs.Passes.{array_passes, text_passes, texts_pass, PassAfter, new_array_passes, new_items_pass, PassAfter-append, PassAfter-each, new_is_other, PassAfter-differ, none_differ, few_new_files}

first_of : (a b : Bool) → (a && b) ≡ true → a ≡ true
first_of a b both = (and_parts a b both).0

second_of : (a b : Bool) → (a && b) ≡ true → b ≡ true
second_of a b both = (and_parts a b both).1

same_length : {A B : Type 0} (f : A → B) (xs : List A) (n : ℕ) → length xs ≤ n → length (map f xs) ≤ n
same_length f xs n few = subst (λ m. m ≤ n) (sym (length-map xs f)) few

same_least : {A B : Type 0} (f : A → B) (xs : List A) (n : ℕ) → n ≤ length xs → n ≤ length (map f xs)
same_least f xs n some = subst (λ m. n ≤ m) (sym (length-map xs f)) some

-- ---- Components

record ComponentPasses (component : Data) : Type 0 where
  name : is_name (name_of component) ≡ true
  some_file : 1 ≤ length (files_of component)
  files : AllPass is_file_name (files_of component)

component_passes : (i : ℕ) (names files : List (List ℕ)) (component : Data) → first_failing (component_rules i names files component) ≡ None
    → ComponentPasses component × (is_new names (name_of component) ≡ true) × PassAfter rule.is_new_file files (files_of component)
unfolding component_rules
component_passes i names files component none =
    let owner = item_key (codes "component") i in
    let name = get (codes "name") component in
    let array = get (codes "files") component in
    let name_key = member_key owner (codes "name") in
    let files_key = member_key owner (codes "files") in
    let parts = parts_of_5 (at name_key 3 (rule.is_component_name name)) (at name_key 4 (rule.is_new_component_name names (text_in name)))
    (array_rules files_key 5 (rule.is_file_array array) rule.is_file array) (at_each_new files_key 6 rule.is_new_file 0 files (texts_in array))
    (at owner 7 (rule.has_only_component_keys component)) none in
    let listed = array_passes files_key 5 (rule.is_file_array array) rule.is_file array parts.2 in (
      record {
        name = text_passes is_name name (at-holds _ _ _ parts.0);
        some_file = same_least text_of _ 1 (there_size 1 64 is_text array listed.0).0;
        files = texts_pass is_file_name _ listed.1;
      },
      at-holds _ _ _ parts.1,
      new_items_pass files_key 6 rule.is_new_file 0 files (texts_in array) parts.3,
    )

-- the files of these components
abbrev all_files_of : List Data → List (List ℕ)
all_files_of [] = []
all_files_of (component ∷ rest) = files_of component ++ all_files_of rest

record ComponentsPass (names files : List (List ℕ)) (components : List Data) : Type 0 where
  each : AllByRecursion ComponentPasses components
  new_names : PassAfter is_new names (map name_of components)
  new_files : PassAfter rule.is_new_file files (all_files_of components)

components_pass : (i : ℕ) (names files : List (List ℕ)) (components : List Data) → first_failing (components_rules i names files components) ≡ None → ComponentsPass names files components
components_pass i names files [] none = record { each = tt; new_names = tt; new_files = tt }
components_pass i names files (component ∷ rest) none =
    let parts = first-parts (component_rules i names files component) (components_rules (i + 1) (names ++ name_of component ∷ []) (files ++ files_of component) rest) none in
    let first = component_passes i names files component parts.0 in
    let more = components_pass (i + 1) (names ++ name_of component ∷ []) (files ++ files_of component) rest parts.1 in
    record {
      each = (first.0, more.each);
      new_names = (first.1, more.new_names);
      new_files = PassAfter-append rule.is_new_file files (files_of component) (all_files_of rest) first.2 more.new_files;
    }

component_names_pass : (components : List Data) → AllByRecursion ComponentPasses components → AllPass is_name (map name_of components)
component_names_pass [] each = All-nil (λ text. is_name text ≡ true)
component_names_pass (component ∷ rest) each =
    All-cons (λ text. is_name text ≡ true) (name_of component) (map name_of rest) (each.0).name (component_names_pass rest each.1)

file_names_pass : (components : List Data) → AllByRecursion ComponentPasses components → AllPass is_file_name (all_files_of components)
file_names_pass [] each = All-nil (λ text. is_file_name text ≡ true)
file_names_pass (component ∷ rest) each =
    All-append (λ text. is_file_name text ≡ true) (files_of component) (all_files_of rest) (each.0).files (file_names_pass rest each.1)

-- ---- The files of components

names_in : (i : ℕ) (texts : List (List ℕ)) → file_names_of (files_in i texts) ≡ texts
names_in i [] = refl
names_in i (text ∷ rest) = ap (λ more. text ∷ more) (names_in i rest)

names_from : (i : ℕ) (components : List Data) → file_names_of (files_from i components) ≡ all_files_of components
names_from i [] = refl
names_from i (component ∷ rest) =
    map-append (λ file. file.name) (files_in i (files_of component)) (files_from (i + 1) rest)
    ∙ ap (λ names. names ++ file_names_of (files_from (i + 1) rest)) (names_in i (files_of component))
    ∙ ap (λ names. files_of component ++ names) (names_from (i + 1) rest)

numbers_in : (i n : ℕ) (texts : List (List ℕ)) → i < n → All (λ file. file.component.0 < n) (files_in i texts)
numbers_in i n [] below = All-nil (λ file. file.component.0 < n)
numbers_in i n (text ∷ rest) below =
    All-cons (λ file. file.component.0 < n) (record { name = text; component = record { 0 = i } }) (files_in i rest) below (numbers_in i n rest below)

numbers_from : (i n : ℕ) (components : List Data) → i + length components ≤ n → All (λ file. file.component.0 < n) (files_from i components)
numbers_from i n [] below = All-nil (λ file. file.component.0 < n)
numbers_from i n (component ∷ rest) below =
    All-append (λ file. file.component.0 < n) (files_in i (files_of component)) (files_from (i + 1) rest)
    (numbers_in i n (files_of component) (omega arith)) (numbers_from (i + 1) n rest (omega arith))

least_in : (i n : ℕ) (texts : List (List ℕ)) → n ≤ i → All (λ file. n ≤ file.component.0) (files_in i texts)
least_in i n [] above = All-nil (λ (file : ProjectFile). n ≤ file.component.0)
least_in i n (text ∷ rest) above =
    All-cons (λ file. n ≤ file.component.0) (record { name = text; component = record { 0 = i } }) (files_in i rest) above (least_in i n rest above)

least_from : (i n : ℕ) (components : List Data) → n ≤ i → All (λ file. n ≤ file.component.0) (files_from i components)
least_from i n [] above = All-nil (λ (file : ProjectFile). n ≤ file.component.0)
least_from i n (component ∷ rest) above =
    All-append (λ file. n ≤ file.component.0) (files_in i (files_of component)) (files_from (i + 1) rest)
    (least_in i n (files_of component) above) (least_from (i + 1) n rest (omega arith))

ordered_in : (i : ℕ) (texts : List (List ℕ)) (more : List ProjectFile) → All (λ file. i ≤ file.component.0) more → AreInOrder more
    → AreInOrder (files_in i texts ++ more)
ordered_in i [] more above ordered = ordered
ordered_in i (text ∷ rest) more above ordered =
    AllPairs-cons (λ (a b : ProjectFile). a.component.0 ≤ b.component.0) (record { name = text; component = record { 0 = i } }) (files_in i rest ++ more)
    (All-append (λ file. i ≤ file.component.0) (files_in i rest) more (least_in i i rest (omega arith)) above)
    (ordered_in i rest more above ordered)

ordered_from : (i : ℕ) (components : List Data) → AreInOrder (files_from i components)
ordered_from i [] = λ _ _ _ _ below. absurd (omega (arith, below))
ordered_from i (component ∷ rest) =
    ordered_in i (files_of component) (files_from (i + 1) rest) (least_from (i + 1) i rest (omega arith)) (ordered_from (i + 1) rest)

Any-behind : {A : Type 0} (P : A → Type 0) (xs ys : List A) → Any P ys → Any P (xs ++ ys)
Any-behind P [] ys any = any
Any-behind P (x ∷ xs) ys any = let more = Any-behind P xs ys any in (suc more.0, more.1, omega (arith, more.2), more.3, more.4)

file_in : (i : ℕ) (texts : List (List ℕ)) (more : List ProjectFile) → 1 ≤ length texts → Any (λ file. file.component.0 ≡ i) (files_in i texts ++ more)
file_in i [] more some = absurd (omega arith)
file_in i (text ∷ rest) more some = (0, record { name = text; component = record { 0 = i } }, omega arith, refl, refl)

files_found : (i : ℕ) (components : List Data) → AllByRecursion ComponentPasses components → (j : ℕ) → i ≤ j → j < i + length components
    → Any (λ file. file.component.0 ≡ j) (files_from i components)
files_found i [] each j from below = absurd (omega arith)
files_found i (component ∷ rest) each j from below =
    let more = files_from (i + 1) rest in
    ⊎_elim
    (λ same. subst (λ k. Any (λ file. file.component.0 ≡ k) (files_in i (files_of component) ++ more)) same
    (file_in i (files_of component) more (each.0).some_file))
    (λ other. Any-behind (λ file. file.component.0 ≡ j) (files_in i (files_of component)) more
    (files_found (i + 1) rest each.1 j (omega arith) (omega arith)))
    (cases_eq i j)

-- ---- Tests

few_listed : (ds : List Data) → rule.is_call_list ds ≡ true → length (call_in ds).args ≤ 32
few_listed [] holds = absurd (false≢true holds)
few_listed (entry ∷ arguments) holds = same_length integer_of arguments 32 (leb-true _ _ (first_of _ _ (second_of _ _ holds)))

few_arguments_of : (d : Data) → rule.is_call d ≡ true → length (call_of d).args ≤ 32
few_arguments_of (array items) holds = few_listed (list_of items) holds
few_arguments_of (string text) holds = absurd (false≢true holds)
few_arguments_of (integer z) holds = absurd (false≢true holds)
few_arguments_of (float x) holds = absurd (false≢true holds)
few_arguments_of (boolean b) holds = absurd (false≢true holds)
few_arguments_of (datetime t) holds = absurd (false≢true holds)
few_arguments_of (table found) holds = absurd (false≢true holds)

calls_pass : (ds : List Data) → list_all rule.is_call ds ≡ true → All (λ call. length call.args ≤ 32) (map call_of ds)
calls_pass [] holds = All-nil (λ (call : RawCall). length call.args ≤ 32)
calls_pass (d ∷ rest) holds =
    let parts = and_parts _ _ holds in
    All-cons (λ (call : RawCall). length call.args ≤ 32) (call_of d) (map call_of rest) (few_arguments_of d parts.0) (calls_pass rest parts.1)

turn_bounds : (d : Data) → rule.is_turn_number d ≡ true → (1 ≤ nat_abs (integer_of d)) × (nat_abs (integer_of d) ≤ 10000000)
turn_bounds (integer (pos n)) holds = (leb-true _ _ (first_of _ _ holds), leb-true _ _ (second_of _ _ holds))
turn_bounds (integer (negsuc n)) holds = absurd (false≢true holds)
turn_bounds (string text) holds = absurd (false≢true holds)
turn_bounds (float x) holds = absurd (false≢true holds)
turn_bounds (boolean b) holds = absurd (false≢true holds)
turn_bounds (datetime t) holds = absurd (false≢true holds)
turn_bounds (array items) holds = absurd (false≢true holds)
turn_bounds (table found) holds = absurd (false≢true holds)

turns_pass : (value : Option Data) → rule.is_turns value ≡ true → (1 ≤ turns_in value) × (turns_in value ≤ 10000000)
turns_pass None holds = absurd (false≢true holds)
turns_pass (Some d) holds = subst (λ n. (1 ≤ n) × (n ≤ 10000000)) (sym (cond-true (rule.is_turn_number d) (nat_abs (integer_of d)) 0 holds)) (turn_bounds d holds)

test_passes : (i : ℕ) (names : List (List ℕ)) (test : Data) → first_failing (test_rules i names test) ≡ None
    → IsWellMadeTest (test_of test) × (is_new names (name_of test) ≡ true)
unfolding test_rules
test_passes i names test none =
    let parts = parts_of_6 _ _ _ _ _ _ none in
    let named = at-holds _ _ _ parts.0 in
    let turns = turns_pass (get (codes "turns") test) (at-holds _ _ _ parts.1) in
    let calls = array_passes _ _ _ rule.is_call (get (codes "calls") test) parts.2 in
    let answers = array_passes _ _ _ is_integer (get (codes "answers") test) parts.3 in
    let requirements = array_passes _ _ _ rule.is_requirement_text (get (codes "requirements") test) parts.4 in (
      record {
        name = text_passes is_name (get (codes "name") test) (first_of _ _ named);
        some_turn = turns.0;
        few_turns = turns.1;
        few_calls = same_length call_of _ 10000 (there_size 0 10000 is_any (get (codes "calls") test) calls.0).1;
        few_arguments = calls_pass _ calls.1;
        few_answers = same_length integer_of _ 100000 (missing_size 100000 is_any (get (codes "answers") test) answers.0);
        few_requirements = same_length text_of _ 100 (missing_size 100 is_any (get (codes "requirements") test) requirements.0);
        requirements = texts_pass is_requirement _ requirements.1;
      },
      second_of _ _ named,
    )

tests_pass : (i : ℕ) (names : List (List ℕ)) (tests : List Data) → first_failing (tests_rules i names tests) ≡ None
    → All IsWellMadeTest (map test_of tests) × PassAfter is_new names (test_names_of (map test_of tests))
tests_pass i names [] none = (All-nil IsWellMadeTest, tt)
tests_pass i names (test ∷ rest) none =
    let parts = first-parts (test_rules i names test) (tests_rules (i + 1) (names ++ name_of test ∷ []) rest) none in
    let first = test_passes i names test parts.0 in
    let more = tests_pass (i + 1) (names ++ name_of test ∷ []) rest parts.1 in
    (All-cons IsWellMadeTest (test_of test) (map test_of rest) first.0 more.0, (first.1, more.1))

-- ---- Justifications

justification_passes : (i : ℕ) (lines : List (List ℕ)) (justified : Data) → first_failing (justification_rules i lines justified) ≡ None
    → (is_reason ((justified_of justified).reason) ≡ true) × (is_new lines (line_of justified) ≡ true)
unfolding justification_rules
justification_passes i lines justified none =
    let parts = parts_of_3 _ _ _ none in (
      text_passes is_reason (get (codes "reason") justified) (at-holds _ _ _ parts.1),
      second_of _ _ (at-holds _ _ _ parts.0),
    )

justifications_pass : (i : ℕ) (lines : List (List ℕ)) (items : List Data) → first_failing (justifications_rules i lines items) ≡ None
    → AllPass is_reason (reasons_of (map justified_of items)) × PassAfter is_new lines (lines_of (map justified_of items))
justifications_pass i lines [] none = (All-nil (λ text. is_reason text ≡ true), tt)
justifications_pass i lines (justified ∷ rest) none =
    let parts = first-parts (justification_rules i lines justified) (justifications_rules (i + 1) (lines ++ line_of justified ∷ []) rest) none in
    let first = justification_passes i lines justified parts.0 in
    let more = justifications_pass (i + 1) (lines ++ line_of justified ∷ []) rest parts.1 in
    (All-cons (λ text. is_reason text ≡ true) ((justified_of justified).reason) (reasons_of (map justified_of rest)) first.0 more.0, (first.1, more.1))

-- ---- The format

one_or_two : (second : Bool) (format : ℕ) → format ≡ cond second 2 1 → (format ≡ 1) ⊎ (format ≡ 2)
one_or_two true format is = inr is
one_or_two false format is = inl is

none_in_first : (second : Bool) (value : Option Data) (format : ℕ) → format ≡ cond second 2 1 → format ≡ 1 → map justified_of (items_in (cond second value None)) ≡ []
none_in_first true value format is first = absurd (omega (arith, is, first))
none_in_first false value format is first = refl

-- ---- The document

not_among : (texts : List (List ℕ)) (text : List ℕ) → is_new texts text ≡ true → Contains texts text → ⊥
not_among texts text new contains = All-contains (λ other. other ≢ text) texts text (new_is_other texts text new) contains refl

pub well_made : (document : Data) → shape_fault document ≡ None → IsWellMade (project_of document)
well_made document none =
    let parts = document_parts document none in
    let found = items_in (get (codes "component") document) in
    let entries = texts_in (get (codes "entries") document) in
    let environment = texts_in (get (codes "environment") document) in
    let found_size = there_size 1 64 is_table (get (codes "component") document) (at-holds _ _ _ parts.1) in
    let components = components_pass 0 [] [] found parts.2 in
    let entry = new_array_passes _ _ _ rule.is_entry (get (codes "entries") document) parts.3 in
    let entry_size = there_size 1 256 is_text (get (codes "entries") document) entry.0 in
    let outer = new_array_passes _ _ _ (rule.is_environment entries) (get (codes "environment") document) parts.4 in
    let tests = tests_pass 0 [] (items_in (get (codes "test") document)) parts.6 in
    let justified = first-parts _ _ parts.7 in
    let justifications = justifications_pass 0 [] (items_in (rule.justified_in document)) justified.1 in
    record {
      format = one_or_two (rule.is_second document) (format_of document) refl;
      some_component = same_least name_of found 1 found_size.0;
      few_components = same_length name_of found 64 found_size.1;
      component_names = component_names_pass found components.each;
      components_differ = PassAfter-differ is_new (λ _ _ new. new) [] (map name_of found) none_differ components.new_names;
      components_have_files = λ i below. files_found 0 found components.each i (omega arith) (subst (λ n. i < n) (length-map found name_of ∙ sym (zero-add (length found))) below);
      files_have_components = numbers_from 0 (length (map name_of found)) found (omega (arith, length-map found name_of));
      files_in_order = ordered_from 0 found;
      few_files =
          let e : length (files_from 0 found) ≡ length (all_files_of found) = sym (length-map (files_from 0 found) (λ file. file.name)) ∙ ap length (names_from 0 found) in
          subst (λ n. n ≤ 64) (sym e) (few_new_files [] (all_files_of found) (omega arith) components.new_files);
      file_names = All-same (λ text. is_file_name text ≡ true) _ _ (names_from 0 found) (file_names_pass found components.each);
      files_differ = subst AllDiffer (sym (names_from 0 found)) (PassAfter-differ rule.is_new_file (λ _ _ both. first_of _ _ both) [] (all_files_of found) none_differ components.new_files);
      some_entry = same_least text_of _ 1 entry_size.0;
      few_entries = same_length text_of _ 256 entry_size.1;
      entry_names = PassAfter-each rule.is_entry (λ text. is_function_name text ≡ true) (λ _ _ both. first_of _ _ both) [] entries entry.1;
      entries_differ = PassAfter-differ rule.is_entry (λ _ _ both. second_of _ _ both) [] entries none_differ entry.1;
      few_environment = same_length text_of _ 256 (missing_size 256 is_text (get (codes "environment") document) outer.0);
      environment_names = PassAfter-each (rule.is_environment entries) (λ text. is_function_name text ≡ true) (λ _ _ all. first_of _ _ (first_of _ _ all)) [] environment outer.1;
      environment_differs = PassAfter-differ (rule.is_environment entries) (λ _ _ all. second_of _ _ (first_of _ _ all)) [] environment none_differ outer.1;
      environment_has_no_entry = PassAfter-each (rule.is_environment entries) (λ text. Contains entries text → ⊥) (λ _ text all. not_among entries text (second_of _ _ all)) [] environment outer.1;
      few_tests = same_length test_of _ 1000 (missing_size 1000 is_table (get (codes "test") document) (at-holds _ _ _ parts.5));
      tests = tests.0;
      tests_differ = PassAfter-differ is_new (λ _ _ new. new) [] (test_names_of (map test_of (items_in (get (codes "test") document)))) none_differ tests.1;
      first_has_none = none_in_first (rule.is_second document) (get (codes "justified") document) (format_of document) refl;
      few_justified = same_length justified_of _ 1000 (missing_size 1000 is_table (rule.justified_in document) (at-holds _ _ _ justified.0));
      lines_differ = PassAfter-differ is_new (λ _ _ new. new) [] (lines_of (map justified_of (items_in (rule.justified_in document)))) none_differ justifications.1;
      reasons = justifications.0;
    }

-- what was copied from the document is well made
pub copied_well : (document : Data) (format : ℕ) (components : List (List ℕ)) (files : List ProjectFile) (entries environment : List (List ℕ)) (tests : List RawTest) (justified : List RawJustified)
    → shape_fault document ≡ None
    → format ≡ format_of document
    → components ≡ map name_of (items_in (get (codes "component") document))
    → files ≡ files_from 0 (items_in (get (codes "component") document))
    → entries ≡ texts_in (get (codes "entries") document)
    → environment ≡ texts_in (get (codes "environment") document)
    → tests ≡ map test_of (items_in (get (codes "test") document))
    → justified ≡ map justified_of (items_in (rule.justified_in document))
    → IsWellMade (record { format = format; components = components; files = files; entries = entries; environment = environment; tests = tests; justified = justified })
copied_well document format components files entries environment tests justified none o a b c d e f = rw (o, a, b, c, d, e, f) (well_made document none)
