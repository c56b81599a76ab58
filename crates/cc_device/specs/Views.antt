-- What is asked of each item of an array.
use Rattle.std.specs.Prelude.{Bool}
use Rattle.toml.specs.Data.{Data}
use Rattle.cc_project.specs.Values.{is_text, is_table}
use Rattle.cc_device.specs.declared.value.Kind.{Kind}
use Rattle.cc_device.specs.declared.value.Kind.TheVariants.{Text, Table}

abbrev pub test_of : Kind → Data → Bool
test_of Text = is_text
test_of Table = is_table
