-- The order of the rules, and the first that fails.
use Rattle.std.specs.Prelude.{ℕ, ◌+◌, Bool, if◌then◌else◌, List, [], ◌∷◌, ◌++◌, Option, Some, None, codes}
use Rattle.toml.specs.Data.{Data, get}
use Rattle.cc_project.specs.Places.{item_key, member_key}
use Rattle.cc_project.specs.Values.{text_in, items_in, texts_in, is_integer}
use Rattle.cc_project.specs.Rules.{is_format, is_component_array, is_component_name, is_new_component_name, is_file_array, is_file, is_new_file, has_only_component_keys}
use Rattle.cc_project.specs.Rules.{is_entry_array, is_entry, is_environment_array, is_environment, is_test_array, is_test_name, is_turns, is_call_array, is_call}
use Rattle.cc_project.specs.Rules.{is_answer_array, is_requirement_array, is_requirement_text, has_only_test_keys, has_only_document_keys}
use Rattle.cc_project.specs.Rules.{justified_in, is_justified_array, is_line, is_reason_value, has_only_justified_keys}

-- a rule at one place of a document: the key text of the place, the number of the rule, and whether it holds there
pub record Rule : Type 0 where
  pub key : List ℕ
  pub number : ℕ
  pub holds : Bool

-- rules, and then more rules
infixr 10 ◌then◌
abbrev pub ◌then◌ : List Rule → List Rule → List Rule
rules then more = rules ++ more

-- the list of this one rule
unfoldable pub at : List ℕ → ℕ → Bool → List Rule
at key number holds = record { key = key; number = number; holds = holds } ∷ []

-- a rule at each item of an array, in order; k is the index of the first
abbrev pub at_each : List ℕ → ℕ → (Data → Bool) → ℕ → List Data → List Rule
at_each array number holds k [] = []
at_each array number holds k (d ∷ rest) = at (item_key array k) number (holds d) then at_each array number holds (k + 1) rest

-- the same, where the rule is told the texts before the item, of which those in `before` stand before the array
abbrev pub at_each_new : List ℕ → ℕ → (List (List ℕ) → List ℕ → Bool) → ℕ → List (List ℕ) → List (List ℕ) → List Rule
at_each_new array number holds k before [] = []
at_each_new array number holds k before (text ∷ rest) =
    at (item_key array k) number (holds before text) then at_each_new array number holds (k + 1) (before ++ text ∷ []) rest

-- a rule on an array: the array as a whole, and then each item
abbrev pub array_rules : List ℕ → ℕ → Bool → (Data → Bool) → Option Data → List Rule
array_rules array number whole holds value = at array number whole then at_each array number holds 0 (items_in value)

abbrev pub new_array_rules : List ℕ → ℕ → Bool → (List (List ℕ) → List ℕ → Bool) → Option Data → List Rule
new_array_rules array number whole holds value = at array number whole then at_each_new array number holds 0 [] (texts_in value)

-- J3 to J7 for component i; `names` and `files` are those of the components before it
unfoldable pub component_rules : ℕ → List (List ℕ) → List (List ℕ) → Data → List Rule
component_rules i names files component =
    let owner = item_key (codes "component") i in
    let name = get (codes "name") component in
    let array = get (codes "files") component in
    at (member_key owner (codes "name")) 3 (is_component_name name)
    then at (member_key owner (codes "name")) 4 (is_new_component_name names (text_in name))
    then array_rules (member_key owner (codes "files")) 5 (is_file_array array) is_file array
    then at_each_new (member_key owner (codes "files")) 6 is_new_file 0 files (texts_in array)
    then at owner 7 (has_only_component_keys component)

abbrev pub name_of : Data → List ℕ
name_of component = text_in (get (codes "name") component)

abbrev pub files_of : Data → List (List ℕ)
files_of component = texts_in (get (codes "files") component)

-- the rules of these components, the first of which is number i
abbrev pub components_rules : ℕ → List (List ℕ) → List (List ℕ) → List Data → List Rule
components_rules i names files [] = []
components_rules i names files (component ∷ rest) =
    component_rules i names files component
    then components_rules (i + 1) (names ++ name_of component ∷ []) (files ++ files_of component) rest

-- J11 to J14 for test i; `names` are those of the tests before it
unfoldable pub test_rules : ℕ → List (List ℕ) → Data → List Rule
test_rules i names test =
    let owner = item_key (codes "test") i in
    let name = get (codes "name") test in
    let turns = get (codes "turns") test in
    let calls = get (codes "calls") test in
    let answers = get (codes "answers") test in
    let requirements = get (codes "requirements") test in
    at (member_key owner (codes "name")) 11 (is_test_name names name)
    then at (member_key owner (codes "turns")) 12 (is_turns turns)
    then array_rules (member_key owner (codes "calls")) 13 (is_call_array calls) is_call calls
    then array_rules (member_key owner (codes "answers")) 13 (is_answer_array answers) is_integer answers
    then array_rules (member_key owner (codes "requirements")) 13 (is_requirement_array requirements) is_requirement_text requirements
    then at owner 14 (has_only_test_keys test)

-- the rules of these tests, the first of which is number i
abbrev pub tests_rules : ℕ → List (List ℕ) → List Data → List Rule
tests_rules i names [] = []
tests_rules i names (test ∷ rest) = test_rules i names test then tests_rules (i + 1) (names ++ name_of test ∷ []) rest

abbrev pub line_of : Data → List ℕ
line_of justified = text_in (get (codes "line") justified)

-- J16 to J18 for justification i; `lines` are those of the justifications before it
unfoldable pub justification_rules : ℕ → List (List ℕ) → Data → List Rule
justification_rules i lines justified =
    let owner = item_key (codes "justified") i in
    let line = get (codes "line") justified in
    let reason = get (codes "reason") justified in
    at (member_key owner (codes "line")) 16 (is_line lines line)
    then at (member_key owner (codes "reason")) 17 (is_reason_value reason)
    then at owner 18 (has_only_justified_keys justified)

-- the rules of these justifications, the first of which is number i
abbrev pub justifications_rules : ℕ → List (List ℕ) → List Data → List Rule
justifications_rules i lines [] = []
justifications_rules i lines (justified ∷ rest) =
    justification_rules i lines justified then justifications_rules (i + 1) (lines ++ line_of justified ∷ []) rest

-- J15, and then J16 to J18 for each justification
abbrev pub justified_rules : Option Data → List Rule
justified_rules value = at (codes "justified") 15 (is_justified_array value) then justifications_rules 0 [] (items_in value)

-- all rules of a document, in order; in format 1 none of J15 to J18 fails, since nothing is justified there
unfoldable pub rules_of : Data → List Rule
rules_of document =
    let components = get (codes "component") document in
    let entries = get (codes "entries") document in
    let environment = get (codes "environment") document in
    let tests = get (codes "test") document in
    at (codes "format") 1 (is_format (get (codes "format") document))
    then at (codes "component") 2 (is_component_array components)
    then components_rules 0 [] [] (items_in components)
    then new_array_rules (codes "entries") 8 (is_entry_array entries) is_entry entries
    then new_array_rules (codes "environment") 9 (is_environment_array environment) (is_environment (texts_in entries)) environment
    then at (codes "test") 10 (is_test_array tests)
    then tests_rules 0 [] (items_in tests)
    then justified_rules (justified_in document)
    then at (codes "top") 14 (has_only_document_keys document)

-- the key text and the number of the first rule that fails
unfoldable pub first_failing : List Rule → Option (List ℕ × ℕ)
first_failing [] = None
first_failing (rule ∷ rest) = if rule.holds then first_failing rest else Some (rule.key, rule.number)

-- the fault of a document
abbrev pub shape_fault : Data → Option (List ℕ × ℕ)
shape_fault document = first_failing (rules_of document)
