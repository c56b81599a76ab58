-- The declarators of a declaration round by round are those of the grammar, and so are the names after them.
use Rattle.std.proofs.Common.{◌≡◌, refl, ℕ, zero, suc, Bool, true, false, List, [], ◌∷◌, ◌++◌, length, Option, Ok, Err, sym, ◌∙◌}
use Rattle.cc_base.specs.declared.place.Spot.{Spot}
use Rattle.cc_lex.specs.declared.token.Token.{Token}
use Rattle.cc_lex.specs.declared.punct.Punct.TheVariants as the_punct
use Rattle.cc_tree.specs.Trees.{DeclTree, InitTree, init, ValueTree}
use Rattle.cc_grammar.specs.Classes.{next_is, skip}
use Rattle.cc_grammar.specs.Names.{Names, after_declarator, after_inits}
use Rattle.cc_grammar.specs.Outcomes.{Outcome, and_then, ◌>>=◌, pure, ◌<$>◌}
use Rattle.cc_grammar.specs.Reading.{branch, where_next, skipping, given, readers, with_name, inits_behind, inits}
use Rattle.cc_parse_tokens.proofs.ByRounds.{before, nothing_before, one_more}
use Rattle.cc_parse_files.specs.Rounds.{inits_from}

abbrev Same : ℕ → Bool → ℕ → Type 0
Same d typedef rounds = (names : Names) (e : DeclTree Spot) (found : List (InitTree Spot)) (ts : List Token) → inits_from d typedef rounds names e found ts ≡ before found (inits_behind d typedef rounds names e ts)

next_declarator : (d : ℕ) (typedef : Bool) (rounds : ℕ) → Same d typedef rounds → (names : Names) (i : InitTree Spot) (found : List (InitTree Spot)) (o : Outcome (DeclTree Spot))
    → and_then o (λ f. inits_from d typedef rounds names f (found ++ i ∷ [])) ≡ before found (and_then o (λ f. (λ is. i ∷ is) <$> inits_behind d typedef rounds names f))
next_declarator d typedef rounds again names i found (Ok y) = again names y.0 (found ++ i ∷ []) y.1 ∙ one_more found i (inits_behind d typedef rounds names y.0 y.1)
next_declarator d typedef rounds again names i found (Err r) = refl

behind_value : (d : ℕ) (typedef : Bool) (rounds : ℕ) → Same d typedef rounds → (names : Names) (i : InitTree Spot) (found : List (InitTree Spot)) (us : List Token) (b : Bool)
    → branch b (skipping ((readers names d).declarator with_name >>= (λ f. inits_from d typedef rounds names f (found ++ i ∷ [])))) (pure (found ++ i ∷ [])) us
    ≡ before found (branch b (skipping ((readers names d).declarator with_name >>= (λ f. (λ is. i ∷ is) <$> inits_behind d typedef rounds names f))) (pure (i ∷ [])) us)
behind_value d typedef rounds again names i found us true = next_declarator d typedef rounds again names i found ((readers names d).declarator with_name (skip us))
behind_value d typedef rounds again names i found us false = refl

with_value : (d : ℕ) (typedef : Bool) (rounds : ℕ) → Same d typedef rounds → (names : Names) (e : DeclTree Spot) (found : List (InitTree Spot)) (o : Outcome (Option (ValueTree Spot)))
    → and_then o (λ v. where_next (next_is the_punct.Comma) (skipping ((readers names d).declarator with_name >>= (λ f. inits_from d typedef rounds names f (found ++ init e v ∷ [])))) (pure (found ++ init e v ∷ [])))
    ≡ before found (and_then o (λ v. where_next (next_is the_punct.Comma) (skipping ((readers names d).declarator with_name >>= (λ f. (λ is. init e v ∷ is) <$> inits_behind d typedef rounds names f))) (pure (init e v ∷ []))))
with_value d typedef rounds again names e found (Ok y) = behind_value d typedef rounds again names (init e y.0) found y.1 (next_is the_punct.Comma y.1)
with_value d typedef rounds again names e found (Err r) = refl

pub inits_rounds : (d : ℕ) (typedef : Bool) (rounds : ℕ) → Same d typedef rounds
unfolding inits_from
inits_rounds d typedef zero names e found ts = refl
inits_rounds d typedef (suc rounds) names e found ts =
    with_value d typedef rounds (inits_rounds d typedef rounds) (after_declarator typedef e names) e found (given (after_declarator typedef e names) d ts)

pub inits_is : (d : ℕ) (typedef : Bool) (names : Names) (e : DeclTree Spot) (ts : List Token) → inits d typedef names e ts ≡ inits_from d typedef (suc (length ts)) names e [] ts
inits_is d typedef names e ts = sym (nothing_before (inits_behind d typedef (suc (length ts)) names e ts)) ∙ sym (inits_rounds d typedef (suc (length ts)) names e [] ts)

-- one more declarator
pub after_push : (typedef : Bool) (is : List (InitTree Spot)) (e : DeclTree Spot) (v : Option (ValueTree Spot)) (names : Names) → after_inits typedef (is ++ init e v ∷ []) names ≡ after_declarator typedef e (after_inits typedef is names)
after_push typedef [] e v names = refl
after_push typedef (init f w ∷ is) e v names = after_push typedef is e v (after_declarator typedef f names)

-- ---- One round

module _ (d : ℕ) (typedef : Bool) (rounds : ℕ) (names after : Names) (e : DeclTree Spot) (found : List (InitTree Spot)) (ts : List Token) (is : after ≡ after_declarator typedef e names) where
  pub value_fails : (r : List Token) → given after d ts ≡ Err r → inits_from d typedef (suc rounds) names e found ts ≡ Err r
  unfolding inits_from
  value_fails r g = rw (sym is, g) refl

  pub last_one : (v : Option (ValueTree Spot)) (us : List Token) → given after d ts ≡ Ok (v, us) → next_is the_punct.Comma us ≡ false → inits_from d typedef (suc rounds) names e found ts ≡ Ok (found ++ init e v ∷ [], us)
  unfolding inits_from
  last_one v us g n = rw (sym is, g, n) refl

  pub next_fails : (v : Option (ValueTree Spot)) (us r : List Token) → given after d ts ≡ Ok (v, us) → next_is the_punct.Comma us ≡ true → (readers after d).declarator with_name (skip us) ≡ Err r
      → inits_from d typedef (suc rounds) names e found ts ≡ Err r
  unfolding inits_from
  next_fails v us r g n f = rw (sym is, g, n, f) refl

  pub goes_on : (v : Option (ValueTree Spot)) (us ws : List Token) (f : DeclTree Spot) → given after d ts ≡ Ok (v, us) → next_is the_punct.Comma us ≡ true → (readers after d).declarator with_name (skip us) ≡ Ok (f, ws)
      → inits_from d typedef (suc rounds) names e found ts ≡ inits_from d typedef rounds after f (found ++ init e v ∷ []) ws
  unfolding inits_from
  goes_on v us ws f g n r = rw (sym is, g, n, r) refl
