-- Files of the grammar.
use Rattle.std.specs.Prelude.{ℕ, ◌≤◌, List}
use Rattle.cc_base.specs.declared.place.Spot.{Spot}
use Rattle.cc_lex.specs.declared.token.Token.{Token}
use Rattle.cc_tree.specs.Trees.{ExternalTree}
use Rattle.cc_grammar.specs.Outline.{depth}
use Rattle.cc_grammar.specs.Outlines.{file}
use Rattle.cc_grammar.specs.Orderly.{Orderly}
use Rattle.cc_grammar.specs.Spells.{Spells}

-- the tokens are a file of the grammar, which is no deeper
pub record WellFormed (deepest : ℕ) (tokens : List Token) (f : List (ExternalTree Spot)) : Type 0 where
  pub orderly : Orderly f
  pub shallow : depth (file f) ≤ deepest
  pub spelled : Spells f tokens
