-- A list of which only a beginning is there is taken.
use Rattle.std.proofs.Common.{◌≡◌, ◌≤◌, ◌<◌, refl, ℕ, zero, suc, Bool, true, false, List, [], ◌∷◌, length, arith, ap, ◌∙◌, ◌⊎◌, inl, inr}
use Rattle.cc_lex.specs.declared.token.Token.{Token}
use Rattle.cc_lex.specs.declared.punct.Punct.TheVariants as the_punct
use Rattle.cc_grammar.specs.Classes.{next_is, skip}
use Rattle.cc_grammar.specs.Outcomes.{Parser, and_then, take, pure, ◌>>◌, ◌<$>◌}
use Rattle.cc_grammar.specs.Reading.{where_next, skipping, separated_by, separated, enclosed_by, repeated_by, repeated}
use Rattle.cc_parse_laws.proofs.Steps.{branch_true, branch_false}
use Rattle.cc_parse_laws.proofs.Lists.{Span, Again}
use Rattle.cc_parse_places.proofs.Spent.{Spent, spent_bind, spent_map, spent_branch, spent_is, HasNext, no_next}

-- each behind a comma, up to the end of the text
abbrev pub OthersCut : {A : Type 0} → Span A → (A → List Token → Type 0) → List A → List Token → Type 0
OthersCut P Q [] ts = ts ≡ []
OthersCut P Q (x ∷ xs) ts = (ts ≡ []) ⊎ ((next_is the_punct.Comma ts ≡ true) × (Q x (skip ts) ⊎ ((m : List Token) × HasNext m × P x (skip ts) m × OthersCut P Q xs m)))

abbrev pub SomeCut : {A : Type 0} → Span A → (A → List Token → Type 0) → A → List A → List Token → Type 0
SomeCut P Q x xs ts = Q x ts ⊎ ((m : List Token) × HasNext m × P x ts m × OthersCut P Q xs m)

no_tokens : (ts : List Token) → length ts ≤ 0 → ts ≡ []
no_tokens [] h = refl
no_tokens (t ∷ ts) h = absurd (omega (arith, h))

pub skip_length : (ts : List Token) → HasNext ts → suc (length (skip ts)) ≤ length ts
skip_length [] h = absurd h
skip_length (t ∷ ts) h = omega arith

module _ {A : Type 0} (read : Parser A) (P : Span A) (Q : A → List Token → Type 0) (Follows : List Token → Type 0) (comma : (ts : List Token) → next_is the_punct.Comma ts ≡ true → Follows ts)
    (again : (x : A) → Again read P Follows x) (shrinks : (x : A) (ts m : List Token) → P x ts m → length m ≤ length ts) (spent : (x : A) (ts : List Token) → Q x ts → Spent (read ts)) where
  separated_by_spent : (turns : ℕ) (xs : List A) (x : A) (ts : List Token) → length ts ≤ turns → SomeCut P Q x xs ts → Spent (separated_by read turns ts)
  separated_by_spent zero xs x ts h s = no_tokens ts h
  separated_by_spent (suc turns) xs x ts h (inl q) = spent_bind (read ts) _ (spent x ts q) (λ y. refl)
  separated_by_spent (suc turns) [] x ts h (inr s) = no_next s.0 s.1 s.3
  separated_by_spent (suc turns) (y ∷ ys) x ts h (inr (m, more, here, inl e)) = no_next m more e
  separated_by_spent (suc turns) (y ∷ ys) x ts h (inr (m, more, here, inr (c, rest))) =
      spent_is _ _
      (ap (λ z. and_then z (λ w. where_next (next_is the_punct.Comma) (skipping ((λ zs. w ∷ zs) <$> separated_by read turns)) (pure (w ∷ [])))) (again x ts m here (comma m c))
      ∙ branch_true (next_is the_punct.Comma m) (skipping ((λ zs. x ∷ zs) <$> separated_by read turns)) (pure (x ∷ [])) m c)
      (spent_map (separated_by read turns (skip m)) (λ zs. x ∷ zs) (separated_by_spent turns ys y (skip m) (omega (arith, h, shrinks x ts m here, skip_length m more)) rest))

  pub separated_spent : (x : A) (xs : List A) (ts : List Token) → SomeCut P Q x xs ts → Spent (separated read ts)
  separated_spent x xs ts s = separated_by_spent (length ts) xs x ts (omega arith) s

  -- up to a brace that is missing; an item doesn't begin with one
  module _ (brace : (x : A) (ts : List Token) → Q x ts → next_is the_punct.RightBrace ts ≡ false) (braces : (x : A) (ts m : List Token) → P x ts m → next_is the_punct.RightBrace ts ≡ false) where
    item_no_brace : (x : A) (xs : List A) (ts : List Token) → SomeCut P Q x xs ts → next_is the_punct.RightBrace ts ≡ false
    item_no_brace x xs ts (inl q) = brace x ts q
    item_no_brace x xs ts (inr s) = braces x ts s.0 s.2

    pub enclosed_by_spent : (turns : ℕ) (xs : List A) (x : A) (ts : List Token) → length ts ≤ turns → SomeCut P Q x xs ts → Spent (enclosed_by read turns ts)
    enclosed_by_spent zero xs x ts h s = no_tokens ts h
    enclosed_by_spent (suc turns) xs x ts h (inl q) = spent_bind (read ts) _ (spent x ts q) (λ y. refl)
    enclosed_by_spent (suc turns) [] x ts h (inr s) = no_next s.0 s.1 s.3
    enclosed_by_spent (suc turns) (y ∷ ys) x ts h (inr (m, more, here, inl e)) = no_next m more e
    enclosed_by_spent (suc turns) (y ∷ ys) x ts h (inr (m, more, here, inr (c, rest))) =
        spent_is _ _
        (ap (λ z. and_then z (λ w. where_next (next_is the_punct.Comma) (skipping (where_next (next_is the_punct.RightBrace) (skipping (pure (w ∷ [], true))) ((λ zs. (w ∷ zs.0, zs.1)) <$> enclosed_by read turns))) (take the_punct.RightBrace >> pure (w ∷ [], false)))) (again x ts m here (comma m c))
        ∙ branch_true (next_is the_punct.Comma m) (skipping (where_next (next_is the_punct.RightBrace) (skipping (pure (x ∷ [], true))) ((λ zs. (x ∷ zs.0, zs.1)) <$> enclosed_by read turns))) (take the_punct.RightBrace >> pure (x ∷ [], false)) m c
        ∙ branch_false (next_is the_punct.RightBrace (skip m)) (skipping (pure (x ∷ [], true))) ((λ zs. (x ∷ zs.0, zs.1)) <$> enclosed_by read turns) (skip m) (item_no_brace y ys (skip m) rest))
        (spent_map (enclosed_by read turns (skip m)) (λ zs. (x ∷ zs.0, zs.1)) (enclosed_by_spent turns ys y (skip m) (omega (arith, h, shrinks x ts m here, skip_length m more)) rest))

-- as long as another begins
abbrev pub FollowingCut : {A : Type 0} → Span A → (A → List Token → Type 0) → List A → List Token → Type 0
FollowingCut P Q [] ts = ts ≡ []
FollowingCut P Q (x ∷ xs) ts = Q x ts ⊎ ((m : List Token) × HasNext m × P x ts m × FollowingCut P Q xs m)

module _ {A : Type 0} (more : List Token → Bool) (read : Parser A) (P : Span A) (Q : A → List Token → Type 0) (Follows : List Token → Type 0) (follows : (ts : List Token) → more ts ≡ true → Follows ts)
    (again : (x : A) → Again read P Follows x) (shrinks : (x : A) (ts m : List Token) → P x ts m → length m < length ts) (spent : (x : A) (ts : List Token) → Q x ts → Spent (read ts)) (nil : Spent (read []))
    (begins : (x : A) (ts : List Token) → HasNext ts → Q x ts → more ts ≡ true) (begin : (x : A) (ts m : List Token) → P x ts m → more ts ≡ true) where
  after_nil : (turns : ℕ) → Spent (repeated_by more read turns []) → (y : A) → Spent (where_next more ((λ xs. y ∷ xs) <$> repeated_by more read turns) (pure (y ∷ [])) [])
  after_nil turns s y = spent_branch (more []) ((λ xs. y ∷ xs) <$> repeated_by more read turns) (pure (y ∷ [])) [] (λ e. spent_map (repeated_by more read turns []) (λ xs. y ∷ xs) s) (λ e. refl)

  repeated_nil : (turns : ℕ) → Spent (repeated_by more read turns [])
  repeated_nil zero = refl
  repeated_nil (suc turns) = spent_bind (read []) _ nil (after_nil turns (repeated_nil turns))

  next_begins : (xs : List A) (ts : List Token) → HasNext ts → FollowingCut P Q xs ts → more ts ≡ true
  next_begins [] ts h e = no_next ts h e
  next_begins (x ∷ xs) ts h (inl q) = begins x ts h q
  next_begins (x ∷ xs) ts h (inr s) = begin x ts s.0 s.2

  repeated_by_spent : (turns : ℕ) (x : A) (xs : List A) (ts : List Token) → length ts ≤ turns → FollowingCut P Q (x ∷ xs) ts → Spent (repeated_by more read turns ts)
  repeated_by_spent zero x xs ts h s = no_tokens ts h
  repeated_by_spent (suc turns) x xs ts h (inl q) = spent_bind (read ts) _ (spent x ts q) (after_nil turns (repeated_nil turns))
  repeated_by_spent (suc turns) x [] ts h (inr s) = no_next s.0 s.1 s.3
  repeated_by_spent (suc turns) x (y ∷ ys) ts h (inr s) =
      let on : more s.0 ≡ true = next_begins (y ∷ ys) s.0 s.1 s.3 in
      spent_is _ _
      (ap (λ z. and_then z (λ w. where_next more ((λ zs. w ∷ zs) <$> repeated_by more read turns) (pure (w ∷ [])))) (again x ts s.0 s.2 (follows s.0 on))
      ∙ branch_true (more s.0) ((λ zs. x ∷ zs) <$> repeated_by more read turns) (pure (x ∷ [])) s.0 on)
      (spent_map (repeated_by more read turns s.0) (λ zs. x ∷ zs) (repeated_by_spent turns y ys s.0 (omega (arith, h, shrinks x ts s.0 s.2)) s.3))

  pub repeated_spent : (x : A) (xs : List A) (ts : List Token) → FollowingCut P Q (x ∷ xs) ts → Spent (repeated more read ts)
  repeated_spent x xs ts s = repeated_by_spent (length ts) x xs ts (omega arith) s
