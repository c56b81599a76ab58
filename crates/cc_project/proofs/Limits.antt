-- What a document keeps that breaks no rule.
use Rattle.std.proofs.Common.{◌≡◌, ◌≤◌, ℕ, Bool, true, ◌&&◌, nat_le, List, [], length, Option, Some, None, codes, ap, sym, ◌∙◌, arith}
use Rattle.std.proofs.lemmas.Bool.{and_parts, false≢true}
use Rattle.std.proofs.lemmas.Bool.Decides.{nat_tests}
use Rattle.toml.specs.Data.{Data, string, integer, float, boolean, datetime, array, table, get}
use Rattle.toml.specs.declared.value.Value.{Value}
use Rattle.cc_project.specs.Rules as rule
use Rattle.cc_project.specs.Values.{texts_in, is_array, is_list, is_there, is_missing_or, is_table, items_of, items_in, list_of}
use Rattle.cc_project.specs.Order.{at, new_array_rules, components_rules, tests_rules, justified_rules, rules_of, first_failing, shape_fault}
use Rattle.cc_project.specs.Views.{all_data}
use Rattle.cc_project.proofs.Firsts.{parts_of_9, at-holds}
use Rattle.cc_project.proofs.Values.{length_of_data}

-- ---- Sizes of arrays

is_at_most : (a b : ℕ) → nat_le a b ≡ true → a ≤ b
is_at_most a b test = grind (arith, nat_tests)

pub list_size : (least most : ℕ) (test : Data → Bool) (ds : List Data) → is_list least most test ds ≡ true → (least ≤ length ds) × (length ds ≤ most)
list_size least most test ds holds =
    let (sizes, all) = and_parts (nat_le least (length ds) && nat_le (length ds) most) _ holds in
    let (low, high) = and_parts (nat_le least (length ds)) (nat_le (length ds) most) sizes in
    (is_at_most least (length ds) low, is_at_most (length ds) most high)

array_size : (least most : ℕ) (test : Data → Bool) (d : Data) → is_array least most test d ≡ true → (least ≤ length (items_of d)) × (length (items_of d) ≤ most)
array_size least most test (array items) holds = list_size least most test (list_of items) holds
array_size least most test (string text) holds = absurd (false≢true holds)
array_size least most test (integer z) holds = absurd (false≢true holds)
array_size least most test (float x) holds = absurd (false≢true holds)
array_size least most test (boolean b) holds = absurd (false≢true holds)
array_size least most test (datetime t) holds = absurd (false≢true holds)
array_size least most test (table found) holds = absurd (false≢true holds)

pub there_size : (least most : ℕ) (test : Data → Bool) (value : Option Data) → is_there (is_array least most test) value ≡ true
    → (least ≤ length (items_in value)) × (length (items_in value) ≤ most)
there_size least most test None holds = absurd (false≢true holds)
there_size least most test (Some d) holds = array_size least most test d holds

pub missing_size : (most : ℕ) (test : Data → Bool) (value : Option Data) → is_missing_or (is_array 0 most test) value ≡ true → length (items_in value) ≤ most
missing_size most test None holds = omega arith
missing_size most test (Some d) holds = (array_size 0 most test d holds).1

-- ---- Each rule holds

pub document_parts : (document : Data) → shape_fault document ≡ None
    → (first_failing (at (codes "format") 1 (rule.is_format (get (codes "format") document))) ≡ None)
    × (first_failing (at (codes "component") 2 (rule.is_component_array (get (codes "component") document))) ≡ None)
    × (first_failing (components_rules 0 [] [] (items_in (get (codes "component") document))) ≡ None)
    × (first_failing (new_array_rules (codes "entries") 8 (rule.is_entry_array (get (codes "entries") document)) rule.is_entry (get (codes "entries") document)) ≡ None)
    × (first_failing (new_array_rules (codes "environment") 9 (rule.is_environment_array (get (codes "environment") document)) (rule.is_environment (texts_in (get (codes "entries") document))) (get (codes "environment") document)) ≡ None)
    × (first_failing (at (codes "test") 10 (rule.is_test_array (get (codes "test") document))) ≡ None)
    × (first_failing (tests_rules 0 [] (items_in (get (codes "test") document))) ≡ None)
    × (first_failing (justified_rules (rule.justified_in document)) ≡ None)
    × (first_failing (at (codes "top") 14 (rule.has_only_document_keys document)) ≡ None)
unfolding rules_of
document_parts document none = parts_of_9 _ _ _ _ _ _ _ _ _ none

-- ---- The number of components

pub component_count : (document : Data) → shape_fault document ≡ None → length (items_in (get (codes "component") document)) ≤ 64
component_count document none = (there_size 1 64 is_table _ (at-holds _ _ _ (document_parts document none).1)).1

pub listed_count : (listed : List Value) (value : Option Data) → all_data listed ≡ items_in value → length (items_in value) ≤ 64 → length listed ≤ 64
listed_count listed value same few = let e : length (items_in value) ≡ length listed = ap length (sym same) ∙ length_of_data listed in omega arith
