-- Tokens are the spelling of one orderly file at most.
use Rattle.std.proofs.Common.{◌≡◌, ℕ, max, List, [], Ok, arith, sym, ap, ◌∙◌}
use Rattle.cc_base.specs.declared.place.Spot.{Spot}
use Rattle.cc_lex.specs.declared.token.Token.{Token}
use Rattle.cc_tree.specs.Trees.{ExternalTree}
use Rattle.cc_grammar.specs.Outline.{depth}
use Rattle.cc_grammar.specs.Outlines as outlines
use Rattle.cc_grammar.specs.Outcomes.{Outcome}
use Rattle.cc_grammar.specs.Names.{Names}
use Rattle.cc_grammar.specs.Reading.{readers, reading}
use Rattle.cc_grammar.specs.Orderly.{Orderly}
use Rattle.cc_grammar.specs.Spells.{Spells}
use Rattle.cc_parse_laws.proofs.Steps.{ok_is}
use Rattle.cc_parse_laws.proofs.Inner.{CompleteInner}
use Rattle.cc_parse_laws.proofs.CompleteFiles.{spelled_file_is_read}

whole : List (ExternalTree Spot) → Outcome (List (ExternalTree Spot))
whole f = Ok (f, [])

same_file : (f g : List (ExternalTree Spot)) → whole f ≡ whole g → f ≡ g
unfolding whole
same_file f g e = ap (λ (y : List (ExternalTree Spot) × List Token). y.0) (ok_is (f, []) (g, []) e)

module _ (readers_complete : (names : Names) (d : ℕ) → CompleteInner names (readers names d) d) where
  -- Both are read at the greater of their depths, and reading gives one file.
  pub one_tree : (tokens : List Token) (f g : List (ExternalTree Spot)) → Orderly f → Spells f tokens → Orderly g → Spells g tokens → f ≡ g
  unfolding whole
  one_tree tokens f g orderly_f spells_f orderly_g spells_g =
      let d = max (depth (outlines.file f)) (depth (outlines.file g)) in
      let p : reading d tokens ≡ whole f = spelled_file_is_read readers_complete d tokens f orderly_f (omega arith) spells_f in
      let q : reading d tokens ≡ whole g = spelled_file_is_read readers_complete d tokens g orderly_g (omega arith) spells_g in
      same_file f g (sym p ∙ q)
