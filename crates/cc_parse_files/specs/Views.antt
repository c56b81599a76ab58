-- What the code's values stand for.
use Rattle.std.specs.Prelude.{Bool, List, map}
use Rattle.cc_base.specs.declared.place.Spot.{Spot}
use Rattle.cc_tree.specs.Trees.{ValueTree}
use Rattle.cc_tree.specs.Views.{view_value}
use Rattle.cc_parse_files.specs.declared.initialiser.Braced.{Braced}

abbrev pub braced : Braced → List (ValueTree Spot) × Bool
braced b = (map view_value b.values, b.trailing)
