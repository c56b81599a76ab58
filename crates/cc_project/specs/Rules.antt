-- The rules J1 to J18 of a project file, each as a test of a value of the document, in words of its own.
use Rattle.std.specs.Prelude.{ℕ, pos, Bool, false, ◌&&◌, ◌||◌, if◌then◌else◌, nat_le, nat_lt, int_le, length, List, [], ◌∷◌, Option, None, codes}
use Rattle.std.specs.List.{list_all}
use Rattle.std.specs.Ordering.{int_eq}
use Rattle.toml.specs.Data.{Data, integer, array, get}
use Rattle.cc_project.specs.Names.{is_name, is_file_name, is_requirement, is_reason, is_function_name, is_new}
use Rattle.cc_project.specs.Values.{is_any, is_text, is_integer, is_table, is_text_that, is_there, is_missing_or, is_array, has_only, list_of, text_in}

-- J1: the integer 1 or 2
abbrev pub is_format_number : Data → Bool
is_format_number (integer z) = int_eq z (pos 1) || int_eq z (pos 2)
is_format_number _ = false

abbrev pub is_format : Option Data → Bool
is_format = is_there is_format_number

-- format 2
abbrev pub is_two : Data → Bool
is_two (integer z) = int_eq z (pos 2)
is_two _ = false

abbrev pub is_second : Data → Bool
is_second document = is_there is_two (get (codes "format") document)

-- the value at `justified`, of which format 1 knows nothing
abbrev pub justified_in : Data → Option Data
justified_in document = if is_second document then get (codes "justified") document else None

-- J2: an array of 1 to 64 tables
abbrev pub is_component_array : Option Data → Bool
is_component_array = is_there (is_array 1 64 is_table)

-- J3: a name
abbrev pub is_component_name : Option Data → Bool
is_component_name = is_there (is_text_that is_name)

-- J4: no earlier component has this name; `before` are the names of those
abbrev pub is_new_component_name : List (List ℕ) → List ℕ → Bool
is_new_component_name before name = is_new before name

-- J5: an array of 1 to 64 strings, each a file name
abbrev pub is_file_array : Option Data → Bool
is_file_array = is_there (is_array 1 64 is_text)

abbrev pub is_file : Data → Bool
is_file = is_text_that is_file_name

-- J6: the file was not named before, and is none after the 64th; `before` are all files that were named before
abbrev pub is_new_file : List (List ℕ) → List ℕ → Bool
is_new_file before file = is_new before file && nat_lt (length before) 64

-- J7: no other key
abbrev pub has_only_component_keys : Data → Bool
has_only_component_keys = has_only (codes "name" ∷ codes "files" ∷ [])

-- J8: an array of 1 to 256 strings; each a C identifier, no keyword, and none that was there before
abbrev pub is_entry_array : Option Data → Bool
is_entry_array = is_there (is_array 1 256 is_text)

abbrev pub is_entry : List (List ℕ) → List ℕ → Bool
is_entry before name = is_function_name name && is_new before name

-- J9: missing, or an array of at most 256 strings; each as in J8 and no entry
abbrev pub is_environment_array : Option Data → Bool
is_environment_array = is_missing_or (is_array 0 256 is_text)

abbrev pub is_environment : List (List ℕ) → List (List ℕ) → List ℕ → Bool
is_environment entries before name = is_entry before name && is_new entries name

-- J10: missing, or an array of at most 1,000 tables
abbrev pub is_test_array : Option Data → Bool
is_test_array = is_missing_or (is_array 0 1000 is_table)

-- J11: a name that no earlier test has; `before` are the names of those
abbrev pub is_test_name : List (List ℕ) → Option Data → Bool
is_test_name before value = is_there (is_text_that is_name) value && is_new before (text_in value)

-- J12: an integer from 1 to 10,000,000
abbrev pub is_turn_number : Data → Bool
is_turn_number (integer z) = int_le (pos 1) z && int_le z (pos 10000000)
is_turn_number _ = false

abbrev pub is_turns : Option Data → Bool
is_turns = is_there is_turn_number

-- J13, the calls: an array of at most 10,000; each an array of one string followed by at most 32 integers
abbrev pub is_call_array : Option Data → Bool
is_call_array = is_there (is_array 0 10000 is_any)

abbrev pub is_call_list : List Data → Bool
is_call_list [] = false
is_call_list (entry ∷ arguments) = is_text entry && (nat_le (length arguments) 32 && list_all is_integer arguments)

abbrev pub is_call : Data → Bool
is_call (array items) = is_call_list (list_of items)
is_call _ = false

-- J13, the answers: missing, or an array of at most 100,000; each an integer
abbrev pub is_answer_array : Option Data → Bool
is_answer_array = is_missing_or (is_array 0 100000 is_any)

-- J13, the requirements: missing, or an array of at most 100; each a requirement
abbrev pub is_requirement_array : Option Data → Bool
is_requirement_array = is_missing_or (is_array 0 100 is_any)

abbrev pub is_requirement_text : Data → Bool
is_requirement_text = is_text_that is_requirement

-- J14: no other key, in a test and in the document, which has one more in format 2
abbrev pub has_only_test_keys : Data → Bool
has_only_test_keys = has_only (codes "name" ∷ codes "turns" ∷ codes "calls" ∷ codes "answers" ∷ codes "requirements" ∷ [])

abbrev pub keys_behind : Bool → List (List ℕ)
keys_behind second = if second then codes "justified" ∷ [] else []

abbrev pub document_keys : Bool → List (List ℕ)
document_keys second = codes "format" ∷ codes "component" ∷ codes "entries" ∷ codes "environment" ∷ codes "test" ∷ keys_behind second

abbrev pub has_only_document_keys : Data → Bool
has_only_document_keys document = has_only (document_keys (is_second document)) document

-- J15: missing, or an array of at most 1,000 tables
abbrev pub is_justified_array : Option Data → Bool
is_justified_array = is_missing_or (is_array 0 1000 is_table)

-- J16: a string that no earlier line equals; `before` are those lines
abbrev pub is_line : List (List ℕ) → Option Data → Bool
is_line before value = is_there is_text value && is_new before (text_in value)

-- J17: a reason
abbrev pub is_reason_value : Option Data → Bool
is_reason_value = is_there (is_text_that is_reason)

-- J18: no other key
abbrev pub has_only_justified_keys : Data → Bool
has_only_justified_keys = has_only (codes "line" ∷ codes "reason" ∷ [])
