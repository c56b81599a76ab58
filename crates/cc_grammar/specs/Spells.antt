-- How a file is spelled.
use Rattle.std.specs.Prelude.{List, []}
use Rattle.cc_base.specs.declared.place.Spot.{Spot}
use Rattle.cc_lex.specs.declared.token.Token.{Token}
use Rattle.cc_tree.specs.Trees.{ExternalTree}
use Rattle.cc_grammar.specs.Outline.{spell, Meets}
use Rattle.cc_grammar.specs.Outlines.{file}

-- the tokens are the spelling of the file
abbrev pub Spells : List (ExternalTree Spot) → List Token → Type 0
Spells f tokens = Meets tokens (spell (file f) [])
