-- The lists of the grammar round by round are the lists of the grammar.
use Rattle.std.proofs.Common.{◌≡◌, refl, ℕ, zero, suc, Bool, true, false, List, [], ◌∷◌, ◌++◌, length, Ok, Err, sym, ap, ◌∙◌}
use Rattle.std.proofs.lemmas.List.{append_assoc}
use Rattle.cc_lex.specs.declared.token.Token.{Token}
use Rattle.cc_lex.specs.declared.punct.Punct.TheVariants as the_punct
use Rattle.cc_grammar.specs.Classes.{next_is, skip}
use Rattle.cc_grammar.specs.Outcomes.{Outcome, Parser, and_then, ◌>>◌, pure, ◌<$>◌, take}
use Rattle.cc_grammar.specs.Reading.{branch, where_next, skipping, separated_by, separated, enclosed_by, repeated_by, repeated}
use Rattle.cc_parse_tokens.specs.Rounds.{separated_from, enclosed_from, repeated_from}

-- what was found, before what is read
abbrev pub before : {A : Type 0} → List A → Outcome (List A) → Outcome (List A)
before found (Ok x) = Ok (found ++ x.0, x.1)
before found (Err r) = Err r

abbrev pub before_marked : {A : Type 0} → List A → Outcome (List A × Bool) → Outcome (List A × Bool)
before_marked found (Ok x) = Ok ((found ++ x.0.0, x.0.1), x.1)
before_marked found (Err r) = Err r

pub one_more : {A : Type 0} (found : List A) (x : A) (o : Outcome (List A)) → before (found ++ x ∷ []) o ≡ before found (and_then o (λ xs r. Ok (x ∷ xs, r)))
one_more found x (Ok y) = ap (λ zs. Ok (zs, y.1)) (append_assoc found (x ∷ []) y.0)
one_more found x (Err r) = refl

pub one_more_marked : {A : Type 0} (found : List A) (x : A) (o : Outcome (List A × Bool)) → before_marked (found ++ x ∷ []) o ≡ before_marked found (and_then o (λ xs r. Ok ((x ∷ xs.0, xs.1), r)))
one_more_marked found x (Ok y) = ap (λ zs. Ok ((zs, y.0.1), y.1)) (append_assoc found (x ∷ []) y.0.0)
one_more_marked found x (Err r) = refl

pub nothing_before : {A : Type 0} (o : Outcome (List A)) → before [] o ≡ o
nothing_before (Ok x) = refl
nothing_before (Err r) = refl

pub nothing_before_marked : {A : Type 0} (o : Outcome (List A × Bool)) → before_marked [] o ≡ o
nothing_before_marked (Ok x) = refl
nothing_before_marked (Err r) = refl

-- ---- With commas between them

separated_then : {A : Type 0} (one : Parser A) (rounds : ℕ) (found : List A) → ((found : List A) (ts : List Token) → separated_from one rounds found ts ≡ before found (separated_by one rounds ts))
    → (x : A) (us : List Token) (b : Bool) → branch b (skipping (separated_from one rounds (found ++ x ∷ []))) (pure (found ++ x ∷ [])) us ≡ before found (branch b (skipping ((λ xs. x ∷ xs) <$> separated_by one rounds)) (pure (x ∷ [])) us)
separated_then one rounds found again x us true = again (found ++ x ∷ []) (skip us) ∙ one_more found x (separated_by one rounds (skip us))
separated_then one rounds found again x us false = refl

separated_first : {A : Type 0} (one : Parser A) (rounds : ℕ) (found : List A) → ((found : List A) (ts : List Token) → separated_from one rounds found ts ≡ before found (separated_by one rounds ts))
    → (o : Outcome A) → and_then o (λ x. where_next (next_is the_punct.Comma) (skipping (separated_from one rounds (found ++ x ∷ []))) (pure (found ++ x ∷ []))) ≡ before found (and_then o (λ x. where_next (next_is the_punct.Comma) (skipping ((λ xs. x ∷ xs) <$> separated_by one rounds)) (pure (x ∷ []))))
separated_first one rounds found again (Ok y) = separated_then one rounds found again y.0 y.1 (next_is the_punct.Comma y.1)
separated_first one rounds found again (Err r) = refl

pub separated_rounds : {A : Type 0} (one : Parser A) (rounds : ℕ) (found : List A) (ts : List Token) → separated_from one rounds found ts ≡ before found (separated_by one rounds ts)
unfolding separated_from
separated_rounds one zero found ts = refl
separated_rounds one (suc rounds) found ts = separated_first one rounds found (λ f us. separated_rounds one rounds f us) (one ts)

pub separated_is : {A : Type 0} (one : Parser A) (ts : List Token) → separated one ts ≡ separated_from one (length ts) [] ts
separated_is one ts = sym (nothing_before (separated_by one (length ts) ts)) ∙ sym (separated_rounds one (length ts) [] ts)

-- ---- As long as another begins

repeated_then : {A : Type 0} (more : List Token → Bool) (one : Parser A) (rounds : ℕ) (found : List A) → ((found : List A) (ts : List Token) → repeated_from more one rounds found ts ≡ before found (repeated_by more one rounds ts))
    → (x : A) (us : List Token) (b : Bool) → branch b (repeated_from more one rounds (found ++ x ∷ [])) (pure (found ++ x ∷ [])) us ≡ before found (branch b ((λ xs. x ∷ xs) <$> repeated_by more one rounds) (pure (x ∷ [])) us)
repeated_then more one rounds found again x us true = again (found ++ x ∷ []) us ∙ one_more found x (repeated_by more one rounds us)
repeated_then more one rounds found again x us false = refl

repeated_first : {A : Type 0} (more : List Token → Bool) (one : Parser A) (rounds : ℕ) (found : List A) → ((found : List A) (ts : List Token) → repeated_from more one rounds found ts ≡ before found (repeated_by more one rounds ts))
    → (o : Outcome A) → and_then o (λ x. where_next more (repeated_from more one rounds (found ++ x ∷ [])) (pure (found ++ x ∷ []))) ≡ before found (and_then o (λ x. where_next more ((λ xs. x ∷ xs) <$> repeated_by more one rounds) (pure (x ∷ []))))
repeated_first more one rounds found again (Ok y) = repeated_then more one rounds found again y.0 y.1 (more y.1)
repeated_first more one rounds found again (Err r) = refl

pub repeated_rounds : {A : Type 0} (more : List Token → Bool) (one : Parser A) (rounds : ℕ) (found : List A) (ts : List Token) → repeated_from more one rounds found ts ≡ before found (repeated_by more one rounds ts)
unfolding repeated_from
repeated_rounds more one zero found ts = refl
repeated_rounds more one (suc rounds) found ts = repeated_first more one rounds found (λ f us. repeated_rounds more one rounds f us) (one ts)

pub repeated_is : {A : Type 0} (more : List Token → Bool) (one : Parser A) (ts : List Token) → repeated more one ts ≡ repeated_from more one (length ts) [] ts
repeated_is more one ts = sym (nothing_before (repeated_by more one (length ts) ts)) ∙ sym (repeated_rounds more one (length ts) [] ts)

-- ---- Up to a brace

enclosed_then : {A : Type 0} (one : Parser A) (rounds : ℕ) (found : List A) → ((found : List A) (ts : List Token) → enclosed_from one rounds found ts ≡ before_marked found (enclosed_by one rounds ts))
    → (x : A) (us : List Token) (b : Bool) → branch b (skipping (pure (found ++ x ∷ [], true))) (enclosed_from one rounds (found ++ x ∷ [])) us
    ≡ before_marked found (branch b (skipping (pure (x ∷ [], true))) ((λ xs. (x ∷ xs.0, xs.1)) <$> enclosed_by one rounds) us)
enclosed_then one rounds found again x us true = refl
enclosed_then one rounds found again x us false = again (found ++ x ∷ []) us ∙ one_more_marked found x (enclosed_by one rounds us)

enclosed_ends : {A : Type 0} (found : List A) (x : A) (o : Outcome (Unit {0})) → and_then o (λ z. pure (found ++ x ∷ [], false)) ≡ before_marked found (and_then o (λ z. pure (x ∷ [], false)))
enclosed_ends found x (Ok y) = refl
enclosed_ends found x (Err r) = refl

enclosed_comma : {A : Type 0} (one : Parser A) (rounds : ℕ) (found : List A) → ((found : List A) (ts : List Token) → enclosed_from one rounds found ts ≡ before_marked found (enclosed_by one rounds ts))
    → (x : A) (us : List Token) (b : Bool) → branch b (skipping (where_next (next_is the_punct.RightBrace) (skipping (pure (found ++ x ∷ [], true))) (enclosed_from one rounds (found ++ x ∷ [])))) (take the_punct.RightBrace >> pure (found ++ x ∷ [], false)) us
    ≡ before_marked found (branch b (skipping (where_next (next_is the_punct.RightBrace) (skipping (pure (x ∷ [], true))) ((λ xs. (x ∷ xs.0, xs.1)) <$> enclosed_by one rounds))) (take the_punct.RightBrace >> pure (x ∷ [], false)) us)
enclosed_comma one rounds found again x us true = enclosed_then one rounds found again x (skip us) (next_is the_punct.RightBrace (skip us))
enclosed_comma one rounds found again x us false = enclosed_ends found x (take the_punct.RightBrace us)

enclosed_first : {A : Type 0} (one : Parser A) (rounds : ℕ) (found : List A) → ((found : List A) (ts : List Token) → enclosed_from one rounds found ts ≡ before_marked found (enclosed_by one rounds ts))
    → (o : Outcome A) → and_then o (λ x. where_next (next_is the_punct.Comma) (skipping (where_next (next_is the_punct.RightBrace) (skipping (pure (found ++ x ∷ [], true))) (enclosed_from one rounds (found ++ x ∷ [])))) (take the_punct.RightBrace >> pure (found ++ x ∷ [], false)))
    ≡ before_marked found (and_then o (λ x. where_next (next_is the_punct.Comma) (skipping (where_next (next_is the_punct.RightBrace) (skipping (pure (x ∷ [], true))) ((λ xs. (x ∷ xs.0, xs.1)) <$> enclosed_by one rounds))) (take the_punct.RightBrace >> pure (x ∷ [], false))))
enclosed_first one rounds found again (Ok y) = enclosed_comma one rounds found again y.0 y.1 (next_is the_punct.Comma y.1)
enclosed_first one rounds found again (Err r) = refl

pub enclosed_rounds : {A : Type 0} (one : Parser A) (rounds : ℕ) (found : List A) (ts : List Token) → enclosed_from one rounds found ts ≡ before_marked found (enclosed_by one rounds ts)
unfolding enclosed_from
enclosed_rounds one zero found ts = refl
enclosed_rounds one (suc rounds) found ts = enclosed_first one rounds found (λ f us. enclosed_rounds one rounds f us) (one ts)

pub enclosed_by_is : {A : Type 0} (one : Parser A) (rounds : ℕ) (ts : List Token) → enclosed_by one rounds ts ≡ enclosed_from one rounds [] ts
enclosed_by_is one rounds ts = sym (nothing_before_marked (enclosed_by one rounds ts)) ∙ sym (enclosed_rounds one rounds [] ts)
