-- A declaration in a file behind its first declarator, step by step.
use Rattle.std.proofs.Common.{◌≡◌, ℕ, Bool, List, Ok, Err, sym, ap, ◌∙◌}
use Rattle.cc_base.specs.declared.place.Spot.{Spot}
use Rattle.cc_lex.specs.declared.token.Token.{Token}
use Rattle.cc_lex.specs.declared.punct.Punct.TheVariants as the_punct
use Rattle.cc_tree.specs.Trees.{SpecTrees, DeclTree, InitTree, ExternalTree, outer_declaration, declaration}
use Rattle.cc_grammar.specs.Names.{Names, has_typedef}
use Rattle.cc_grammar.specs.Outcomes.{Outcome, Parser, and_then, ◌>>◌, pure, take}
use Rattle.cc_grammar.specs.Reading.{inits}
use Rattle.cc_parse_files.specs.Parts.{outer_at}

-- what goes on behind the declarators
abbrev with_punct : Spot → SpecTrees Spot → List (InitTree Spot) → Parser (ExternalTree Spot)
with_punct n ss is = take the_punct.Semicolon >> pure (outer_declaration (declaration n ss is))

module _ (d : ℕ) (names : Names) (n : Spot) (ss : SpecTrees Spot) (e : DeclTree Spot) (ts : List Token) (typedef : Bool) (is : typedef ≡ has_typedef ss) where
  inits_are : (o : Outcome (List (InitTree Spot))) → inits d typedef names e ts ≡ o → outer_at d names n ss e ts ≡ and_then o (with_punct n ss)
  inits_are o f = ap (λ x. and_then x (with_punct n ss)) (ap (λ t. inits d t names e ts) (sym is) ∙ f)

  pub inits_fail : (r : List Token) → inits d typedef names e ts ≡ Err r → outer_at d names n ss e ts ≡ Err r
  inits_fail r f = inits_are (Err r) f

  pub punct_fails : (x : List (InitTree Spot)) (us r : List Token) → inits d typedef names e ts ≡ Ok (x, us) → take the_punct.Semicolon us ≡ Err r → outer_at d names n ss e ts ≡ Err r
  punct_fails x us r f g = inits_are (Ok (x, us)) f ∙ ap (λ o. and_then o (λ _. pure (outer_declaration (declaration n ss x)))) g

  pub outer_read : (x : List (InitTree Spot)) (us ws : List Token) → inits d typedef names e ts ≡ Ok (x, us) → take the_punct.Semicolon us ≡ Ok (tt, ws)
      → outer_at d names n ss e ts ≡ Ok (outer_declaration (declaration n ss x), ws)
  outer_read x us ws f g = inits_are (Ok (x, us)) f ∙ ap (λ o. and_then o (λ _. pure (outer_declaration (declaration n ss x)))) g
