-- The declarators of a declaration, what stands in a file and the items of a block round by round, with what was found so far:
-- as loops read them.
use Rattle.std.specs.Prelude.{ℕ, zero, suc, Bool, List, [], ◌∷◌, ◌++◌}
use Rattle.cc_base.specs.declared.place.Spot.{Spot}
use Rattle.cc_lex.specs.declared.punct.Punct.TheVariants as the_punct
use Rattle.cc_tree.specs.Trees.{DeclTree, InitTree, init, StmtTree, ItemTree, ExternalTree}
use Rattle.cc_grammar.specs.Classes.{next_is}
use Rattle.cc_grammar.specs.Names.{Names, after_declarator, after_item, after_external}
use Rattle.cc_grammar.specs.Outcomes.{Parser, ◌>>=◌, pure, refuse}
use Rattle.cc_grammar.specs.Reading.{where_next, skipping, given, readers, with_name, item, ended, external}

unfoldable pub inits_from : ℕ → Bool → ℕ → Names → DeclTree Spot → List (InitTree Spot) → Parser (List (InitTree Spot))
inits_from d typedef zero names e found = refuse
inits_from d typedef (suc rounds) names e found = given (after_declarator typedef e names) d >>= (λ v. where_next (next_is the_punct.Comma)
    (skipping ((readers (after_declarator typedef e names) d).declarator with_name >>= (λ f. inits_from d typedef rounds (after_declarator typedef e names) f (found ++ init e v ∷ []))))
    (pure (found ++ init e v ∷ [])))

-- what stands in a file, up to the end of the tokens
unfoldable pub externals_from : ℕ → ℕ → Names → List (ExternalTree Spot) → Parser (List (ExternalTree Spot))
externals_from d zero names found = refuse
externals_from d (suc rounds) names found = where_next ended (pure found) (external d names >>= (λ x. externals_from d rounds (after_external x names) (found ++ x ∷ [])))

-- where this reads the statements inside
unfoldable pub items_from : (Names → Parser (StmtTree Spot)) → ℕ → ℕ → Names → List (ItemTree Spot) → Parser (List (ItemTree Spot))
items_from inner d zero names found = refuse
items_from inner d (suc rounds) names found = where_next (next_is the_punct.RightBrace) (skipping (pure found))
    (item inner d names >>= (λ i. items_from inner d rounds (after_item i names) (found ++ i ∷ [])))
