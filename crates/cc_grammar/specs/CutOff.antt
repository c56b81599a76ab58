-- Beginnings of files.
use Rattle.std.specs.Prelude.{ℕ, ◌≤◌, List, []}
use Rattle.cc_base.specs.declared.place.Spot.{Spot}
use Rattle.cc_lex.specs.declared.token.Token.{Token}
use Rattle.cc_tree.specs.Trees.{ExternalTree}
use Rattle.cc_grammar.specs.Outline.{AllHold, depth, first, spell, Meets}
use Rattle.cc_grammar.specs.Outlines.{file}

-- The tokens are the spelling of a tree that is cut off behind them: orderly as far as it is there, and no deeper there.
pub record CutOff (deepest : ℕ) (tokens : List Token) : Type 0 where
  pub tree : List (ExternalTree Spot)
  pub there : ℕ
  pub orderly : AllHold (first there (file tree))
  pub shallow : depth (first there (file tree)) ≤ deepest
  pub spelled : Meets tokens (spell (first there (file tree)) [])
