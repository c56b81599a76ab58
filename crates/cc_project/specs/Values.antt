-- What a value of a document says. A value may be missing, and may be of another kind than the one that is asked for: the
-- rules say that it isn't, so what is read of it then doesn't matter.
use Rattle.std.specs.Prelude.{ℕ, ℤ, pos, Bool, true, false, ◌&&◌, nat_le, length, List, [], ◌∷◌, map, Option, Some, None}
use Rattle.std.specs.List.{list_all}
use Rattle.toml.specs.Data.{Data, Items, Members, string, integer, array, table, item, no_items, member, no_members}
use Rattle.cc_project.specs.Names.{is_among}

-- ---- Kinds

abbrev pub is_any : Data → Bool
is_any d = true

abbrev pub is_text : Data → Bool
is_text (string text) = true
is_text _ = false

abbrev pub is_integer : Data → Bool
is_integer (integer z) = true
is_integer _ = false

abbrev pub is_table : Data → Bool
is_table (table found) = true
is_table _ = false

-- a text that passes the test
abbrev pub is_text_that : (List ℕ → Bool) → Data → Bool
is_text_that test (string text) = test text
is_text_that test _ = false

-- ---- What a value has in it

abbrev pub text_of : Data → List ℕ
text_of (string text) = text
text_of _ = []

abbrev pub integer_of : Data → ℤ
integer_of (integer z) = z
integer_of _ = pos 0

abbrev pub list_of : Items → List Data
list_of no_items = []
list_of (item d rest) = d ∷ list_of rest

abbrev pub items_of : Data → List Data
items_of (array items) = list_of items
items_of _ = []

abbrev pub keys_of : Members → List (List ℕ)
keys_of no_members = []
keys_of (member key d rest) = key ∷ keys_of rest

-- a table without keys other than these
abbrev pub has_only : List (List ℕ) → Data → Bool
has_only keys (table found) = list_all (is_among keys) (keys_of found)
has_only keys _ = false

-- ---- Values that may be missing

-- the value is there, and passes the test
abbrev pub is_there : (Data → Bool) → Option Data → Bool
is_there test None = false
is_there test (Some d) = test d

-- the value is missing, or passes the test
abbrev pub is_missing_or : (Data → Bool) → Option Data → Bool
is_missing_or test None = true
is_missing_or test (Some d) = test d

-- `least` to `most` items that pass the test
abbrev pub is_list : ℕ → ℕ → (Data → Bool) → List Data → Bool
is_list least most test items = (nat_le least (length items) && nat_le (length items) most) && list_all test items

-- an array of such items
abbrev pub is_array : ℕ → ℕ → (Data → Bool) → Data → Bool
is_array least most test (array items) = is_list least most test (list_of items)
is_array least most test _ = false

abbrev pub text_in : Option Data → List ℕ
text_in None = []
text_in (Some d) = text_of d

abbrev pub items_in : Option Data → List Data
items_in None = []
items_in (Some d) = items_of d

abbrev pub texts_in : Option Data → List (List ℕ)
texts_in value = map text_of (items_in value)
