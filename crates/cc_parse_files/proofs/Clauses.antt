-- A clause with the punctuator behind it is read in one, and so `for` and `return` are those of the grammar.
use Rattle.std.proofs.Common.{◌≡◌, refl, ℕ, List, Option, Ok, Err, sym, ◌∙◌}
use Rattle.cc_base.specs.declared.place.Spot.{Spot}
use Rattle.cc_lex.specs.declared.token.Token.{Token}
use Rattle.cc_lex.specs.declared.punct.Punct.{Punct}
use Rattle.cc_lex.specs.declared.punct.Punct.TheVariants as the_punct
use Rattle.cc_tree.specs.Trees.{ExprTree, StartTree, return}
use Rattle.cc_grammar.specs.Classes.{next_is, skip}
use Rattle.cc_grammar.specs.Names.{Names, after_start}
use Rattle.cc_grammar.specs.Outcomes.{Outcome, Parser, and_then, ◌>>=◌, ◌>>◌, pure, take}
use Rattle.cc_grammar.specs.Reading.{stmt, clause_until, start_clause, for_behind}
use Rattle.cc_parse_files.specs.Parts.{for_body, for_each, for_test, for_at, return_at}

bind_same : {A B : Type 0} (o : Outcome A) (f g : A → Parser B) → ((x : A) (us : List Token) → f x us ≡ g x us) → and_then o f ≡ and_then o g
bind_same (Ok y) f g e = e y.0 y.1
bind_same (Err r) f g e = refl

behind : {A B : Type 0} (o : Outcome (Unit {0})) (x : A) (k : A → Parser B) → and_then (and_then o (λ _. pure x)) k ≡ and_then o (λ _. k x)
behind (Ok y) x k = refl
behind (Err r) x k = refl

punct_behind : {A B : Type 0} (s : Punct) (o : Outcome A) (k : A → Parser B) → and_then (and_then o (λ x. take s >> pure x)) k ≡ and_then o (λ x. take s >> k x)
punct_behind s (Ok y) k = behind (take s y.1) y.0 k
punct_behind s (Err r) k = refl

module _ (d : ℕ) (names : Names) (n : Spot) where
  clause : Punct → Parser (Option (ExprTree Spot))
  clause end = clause_until (stmt d) d names (next_is end)

  second : (start : StartTree Spot) (test : Option (ExprTree Spot)) (o : Outcome (Unit {0}))
      → and_then (and_then o (λ _. clause_until (stmt d) d names (next_is the_punct.RightParen))) (λ each. take the_punct.RightParen >> for_body d names n start test each) ≡ and_then o (λ _. for_each d names n start test)
  second start test (Ok y) = sym (punct_behind the_punct.RightParen (clause_until (stmt d) d names (next_is the_punct.RightParen) y.1) (for_body d names n start test))
  second start test (Err r) = refl

-- `for` behind its first clause
behind_is : (d : ℕ) (names : Names) (n : Spot) (start : StartTree Spot) (ts : List Token) → for_behind (stmt d) d names n start ts ≡ for_test d (after_start start names) n start ts
behind_is d names n start ts =
    let after = after_start start names in
    bind_same (clause_until (stmt d) d after (next_is the_punct.Semicolon) ts)
    (λ test. take the_punct.Semicolon >> clause_until (stmt d) d after (next_is the_punct.RightParen) >>= (λ each. take the_punct.RightParen >> for_body d after n start test each))
    (λ test. take the_punct.Semicolon >> for_each d after n start test)
    (λ test us. second d after n start test (take the_punct.Semicolon us))
    ∙ sym (punct_behind the_punct.Semicolon (clause_until (stmt d) d after (next_is the_punct.Semicolon) ts) (for_each d after n start))

pub for_is : (d : ℕ) (names : Names) (n : Spot) (ts : List Token) → (take the_punct.LeftParen >> start_clause (stmt d) d names >>= for_behind (stmt d) d names n) (skip ts) ≡ for_at d names n ts
for_is d names n ts =
    bind_same ((take the_punct.LeftParen >> start_clause (stmt d) d names) (skip ts)) (for_behind (stmt d) d names n) (λ start. for_test d (after_start start names) n start) (λ start us. behind_is d names n start us)

pub return_is : (d : ℕ) (names : Names) (n : Spot) (ts : List Token)
    → (clause_until (stmt d) d names (next_is the_punct.Semicolon) >>= (λ e. take the_punct.Semicolon >> pure (return n e))) (skip ts) ≡ return_at d names n ts
return_is d names n ts = sym (punct_behind the_punct.Semicolon (clause_until (stmt d) d names (next_is the_punct.Semicolon) (skip ts)) (λ e. pure (return n e)))

-- `for` up to its first clause, step by step
pub for_from : (d : ℕ) (names after : Names) (n : Spot) (ts us vs ws : List Token) (start : StartTree Spot) → us ≡ skip ts → take the_punct.LeftParen us ≡ Ok (tt, vs)
    → start_clause (stmt d) d names vs ≡ Ok (start, ws) → after ≡ after_start start names → for_at d names n ts ≡ for_test d after n start ws
for_from d names after n ts us vs ws start is paren first behind = rw (sym is, paren, first, behind) refl
