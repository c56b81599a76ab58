-- Lists, tokens and identifiers are read alike on two texts that part behind a token.
use Rattle.std.proofs.Common.{◌≤◌, refl, ℕ, suc, Bool, true, false, List, [], ◌∷◌, Option, Some, None, Ok, Err, arith, if◌then◌else◌}
use Rattle.cc_lex.specs.declared.token.Token.{Token}
use Rattle.cc_lex.specs.declared.keyword.Keyword.{Keyword}
use Rattle.cc_lex.specs.declared.punct.Punct.{Punct}
use Rattle.cc_lex.specs.declared.punct.Punct.TheVariants as the_punct
use Rattle.cc_tree.specs.Trees.{Name}
use Rattle.cc_grammar.specs.Names.{Names, is_type}
use Rattle.cc_grammar.specs.Classes.{next_is, next_is_keyword, next_ident, skip}
use Rattle.cc_grammar.specs.Outcomes.{Parser, pure, take, take_keyword, ◌>>◌}
use Rattle.cc_grammar.specs.Reading as reader
use Rattle.cc_grammar.specs.Reading.{where_next, skipping}
use Rattle.cc_parse_places.proofs.Forks.{Fork, whole, Alike, Peeks, alike_pure, alike_refuse, weak, lower, alike_bind, bind_within, alike_map, skip_on, alike_skipping, alike_view, alike_branch, alike_where, enough_turns}

-- the reader does the same with the two texts, and takes some tokens at least
abbrev pub Tame : Fork → {A : Type 0} → ℕ → ℕ → Parser A → Type 0
Tame t n u p = Alike t n (suc u) p p

-- ---- Tokens

abbrev take_by : Bool → Parser (Unit {0})
take_by b = λ ts. if b then Ok (tt, skip ts) else Err ts

module _ {t : Fork} {u : ℕ} where
  tame_take_by : (b : Bool) → Tame t 1 u (take_by b)
  tame_take_by true = alike_skipping _ _ (alike_pure {A = Unit {0}} tt)
  tame_take_by false = alike_refuse

  pub tame_take : (s : Punct) → Tame t 1 u (take s)
  tame_take s = alike_view (next_is s) take_by take_by (λ k us vs. refl) tame_take_by

  pub tame_take_keyword : (w : Keyword) → Tame t 1 u (take_keyword w)
  tame_take_keyword w = alike_view (next_is_keyword w) take_by take_by (λ k us vs. refl) tame_take_by

  tame_id_by : (names : Names) (x : Option Name) → Tame t 1 u (reader.id_by names x)
  tame_id_by names None = alike_refuse
  tame_id_by names (Some x) = alike_branch (is_type names x) _ _ _ _ alike_refuse (alike_skipping _ _ (alike_pure x))

  pub tame_id : (names : Names) → Tame t 1 u (reader.id names)
  tame_id names = alike_view next_ident (reader.id_by names) (reader.id_by names) (λ k us vs. refl) (tame_id_by names)

  -- what stands before a token that ends it
  pub tame_until : {A : Type 0} (s : Punct) (a : A) → Tame t 1 u (take s >> pure a)
  tame_until s a = alike_bind (take s) (take s) (λ z. pure a) (λ z. pure a) (tame_take s) (λ z. alike_pure a)

  -- ---- Lists

  module _ {A : Type 0} {n : ℕ} (one : Parser A) where
    separated_turn : Tame t n u one → (k j v : ℕ) → v ≤ u → ((s : Unit {0}) → Alike t n v (reader.separated_by one k) (reader.separated_by one j)) → (s : Unit {0}) → Alike t n (suc v) (reader.separated_by one (suc k)) (reader.separated_by one (suc j))
    separated_turn item k j v low rec s =
        alike_bind one one _ _ (lower (suc v) (omega (arith, low)) item) (λ x. alike_where (next_is the_punct.Comma) _ _ _ _ (λ w us vs. refl) (weak (skip_on _ _ (alike_map (λ xs. x ∷ xs) _ _ (rec tt)))) (alike_pure (x ∷ [])))

    pub tame_separated : Tame t n u one → Tame t n u (reader.separated one)
    tame_separated item = enough_turns u (λ k s. reader.separated_by one k) (λ m. m) (λ m. omega arith) (λ s. whole) (separated_turn item) tt

    enclosed_turn : Tame t n u one → (k j v : ℕ) → v ≤ u → ((s : Unit {0}) → Alike t n v (reader.enclosed_by one k) (reader.enclosed_by one j)) → (s : Unit {0}) → Alike t n (suc v) (reader.enclosed_by one (suc k)) (reader.enclosed_by one (suc j))
    enclosed_turn item k j v low rec s =
        alike_bind one one _ _ (lower (suc v) (omega (arith, low)) item) (λ x. alike_where (next_is the_punct.Comma) _ _ _ _ (λ w us vs. refl)
        (weak (skip_on _ _ (alike_where (next_is the_punct.RightBrace) _ _ _ _ (λ w us vs. refl) (weak (alike_skipping _ _ (alike_pure (x ∷ [], true)))) (weak (alike_map (λ (xs : List A × Bool). (x ∷ xs.0, xs.1)) _ _ (rec tt))))))
        (weak (lower (suc v) (omega (arith, low)) (tame_until the_punct.RightBrace (x ∷ [], false)))))

    pub tame_enclosed : Tame t n u one → Tame t 1 u (reader.enclosed one)
    tame_enclosed item = alike_bind (take the_punct.LeftBrace) (take the_punct.LeftBrace) _ _ (tame_take the_punct.LeftBrace) (λ z. weak (enough_turns u (λ k s. reader.enclosed_by one k) (λ m. m) (λ m. omega arith) (λ s. whole) (enclosed_turn item) tt))

  -- each item takes a token
  module _ {A : Type 0} (more : List Token → Bool) (peeks : Peeks more) (one : Parser A) where
    repeated_turn : Tame t 1 u one → (k j v : ℕ) → v ≤ u → ((s : Unit {0}) → Alike t 1 v (reader.repeated_by more one k) (reader.repeated_by more one j)) → (s : Unit {0}) → Alike t 1 (suc v) (reader.repeated_by more one (suc k)) (reader.repeated_by more one (suc j))
    repeated_turn item k j v low rec s = bind_within v one one _ _ (omega arith) (lower (suc v) (omega (arith, low)) item) (λ x. alike_where more _ _ _ _ peeks (weak (alike_map (λ xs. x ∷ xs) _ _ (rec tt))) (alike_pure (x ∷ [])))

    pub tame_repeated : Tame t 1 u one → Tame t 1 u (reader.repeated more one)
    tame_repeated item = enough_turns u (λ k s. reader.repeated_by more one k) (λ m. m) (λ m. omega arith) (λ s. whole) (repeated_turn item) tt
