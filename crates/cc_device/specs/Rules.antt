-- The rules V1 to V5 of a file of devices, each as a test of a value of the document.
use Rattle.std.specs.Prelude.{ℕ, Bool, ◌&&◌, List, [], ◌∷◌, Option, codes}
use Rattle.toml.specs.Data.{Data}
use Rattle.cc_project.specs.Names.{is_name, is_among, is_new}
use Rattle.cc_project.specs.Values.{is_text, is_table, is_text_that, is_there, is_missing_or, is_array, has_only, text_in}

-- V1: an array of 1 to 64 tables
abbrev pub is_device_array : Option Data → Bool
is_device_array = is_there (is_array 1 64 is_table)

-- V2: a name that no earlier device has; `before` are the names of those
abbrev pub is_device_name : List (List ℕ) → Option Data → Bool
is_device_name before value = is_there (is_text_that is_name) value && is_new before (text_in value)

-- V3 and V4, the array: missing, or an array of at most 256 strings
abbrev pub is_function_array : Option Data → Bool
is_function_array = is_missing_or (is_array 0 256 is_text)

-- V3 and V4, an item: a function of the environment that no device named before; `before` are all items that were there before
abbrev pub is_free : (environment : List (List ℕ)) → List (List ℕ) → List ℕ → Bool
is_free environment before text = is_among environment text && is_new before text

-- V5: no other key, in a device and in the document
abbrev pub has_only_device_keys : Data → Bool
has_only_device_keys = has_only (codes "name" ∷ codes "writes" ∷ codes "reads" ∷ [])

abbrev pub has_only_document_keys : Data → Bool
has_only_document_keys = has_only (codes "device" ∷ [])
