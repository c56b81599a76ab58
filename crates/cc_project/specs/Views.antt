-- What the values of the code stand for.
use Rattle.std.specs.Prelude.{ℕ, List, map, Bool, Option, option_map}
use Rattle.std.specs.Borrow.{Bor}
use Rattle.toml.specs.Data.{Data}
use Rattle.toml.specs.View.{view}
use Rattle.toml.specs.declared.value.Value.{Value}
use Rattle.cc_project.specs.Values.{is_any, is_text, is_integer, is_table, text_of}
use Rattle.cc_project.specs.Rules.{is_file, is_call, is_requirement_text}
use Rattle.cc_project.specs.declared.value.Kind.{Kind}
use Rattle.cc_project.specs.declared.value.Kind.TheVariants.{Any, Text, Integer, Table, File, Call, Requirement}

-- the data of a value that may be missing
abbrev pub data_in : Option (Bor Value) → Option Data
data_in = option_map (λ value. view value.now)

-- the data of values
abbrev pub all_data : List Value → List Data
all_data = map view

-- the texts of values
abbrev pub texts_of : List Value → List (List ℕ)
texts_of values = map text_of (all_data values)

-- what is asked of each item of an array
abbrev pub test_of : Kind → Data → Bool
test_of Any = is_any
test_of Text = is_text
test_of Integer = is_integer
test_of Table = is_table
test_of File = is_file
test_of Call = is_call
test_of Requirement = is_requirement_text
