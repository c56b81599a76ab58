-- Trees that the grammar allows at their places.
use Rattle.std.specs.Prelude.{List}
use Rattle.cc_base.specs.declared.place.Spot.{Spot}
use Rattle.cc_tree.specs.Trees.{ExternalTree}
use Rattle.cc_grammar.specs.Outline.{AllHold}
use Rattle.cc_grammar.specs.Outlines.{file}

-- each part is of the production that the grammar asks at its place, each `else` belongs to the nearest `if`, each name is
-- an identifier or a typedef name as its place demands, and each node has the spot of the token that fixes its place
abbrev pub Orderly : List (ExternalTree Spot) → Type 0
Orderly f = AllHold (file f)
