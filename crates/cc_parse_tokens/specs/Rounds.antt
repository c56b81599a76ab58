-- The lists of the grammar round by round, with what was found so far: as loops read them.
use Rattle.std.specs.Prelude.{ℕ, zero, suc, Bool, true, false, List, [], ◌∷◌, ◌++◌}
use Rattle.cc_lex.specs.declared.token.Token.{Token}
use Rattle.cc_lex.specs.declared.punct.Punct.TheVariants as the_punct
use Rattle.cc_grammar.specs.Classes.{next_is}
use Rattle.cc_grammar.specs.Outcomes.{Parser, ◌>>=◌, ◌>>◌, pure, refuse, take}
use Rattle.cc_grammar.specs.Reading.{where_next, skipping}

-- with commas between them
unfoldable pub separated_from : {A : Type 0} → Parser A → ℕ → List A → Parser (List A)
separated_from one zero found = refuse
separated_from one (suc rounds) found = one >>= (λ x. where_next (next_is the_punct.Comma) (skipping (separated_from one rounds (found ++ x ∷ []))) (pure (found ++ x ∷ [])))

-- the same up to a brace, and whether a comma stands before it
unfoldable pub enclosed_from : {A : Type 0} → Parser A → ℕ → List A → Parser (List A × Bool)
enclosed_from one zero found = refuse
enclosed_from one (suc rounds) found = one >>= (λ x. where_next (next_is the_punct.Comma)
    (skipping (where_next (next_is the_punct.RightBrace) (skipping (pure (found ++ x ∷ [], true))) (enclosed_from one rounds (found ++ x ∷ []))))
    (take the_punct.RightBrace >> pure (found ++ x ∷ [], false)))

-- as long as what comes next begins another
unfoldable pub repeated_from : {A : Type 0} → (List Token → Bool) → Parser A → ℕ → List A → Parser (List A)
repeated_from more one zero found = refuse
repeated_from more one (suc rounds) found = one >>= (λ x. where_next more (repeated_from more one rounds (found ++ x ∷ [])) (pure (found ++ x ∷ [])))
