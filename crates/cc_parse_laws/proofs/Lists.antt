-- Lists as they are read: one item after another, with commas between them, up to a brace or as long as another begins.
use Rattle.std.proofs.Common.{◌≡◌, ◌≤◌, ◌<◌, ◌+◌, refl, ℕ, zero, suc, Bool, true, false, List, [], ◌∷◌, length, Ok, arith, sym, ap, ◌∙◌, subst, inl, inr}
use Rattle.cc_lex.specs.declared.token.Token.{Token}
use Rattle.cc_lex.specs.declared.punct.Punct.{Punct}
use Rattle.cc_lex.specs.declared.punct.Punct.TheVariants as the_punct
use Rattle.cc_grammar.specs.Classes.{next_is, is_punct, skip}
use Rattle.cc_grammar.specs.Outcomes.{Parser, and_then, take, ◌>>◌, pure, ◌<$>◌}
use Rattle.cc_grammar.specs.Reading.{where_next, skipping, separated_by, separated, enclosed_by, enclosed, repeated_by, repeated}
use Rattle.cc_parse_laws.proofs.Steps.{punct_kind, bind_ok, map_ok, ok_is, branched, branch_true, branch_false, take_ok}

-- what an item of a list reads, from some tokens to others
abbrev pub Span : Type 0 → Type 1
Span A = A → List Token → List Token → Type 0

-- what is read has this span
abbrev pub IsSound : {A : Type 0} → Parser A → Span A → Type 0
IsSound {A} read P = (ts : List Token) (x : A × List Token) → read ts ≡ Ok x → P x.0 ts x.1

-- ---- With commas between them

-- each behind a comma
abbrev pub Others : {A : Type 0} → Span A → List A → List Token → List Token → Type 0
Others P [] ts r = ts ≡ r
Others P (x ∷ xs) ts r = (m : List Token) × (next_is the_punct.Comma ts ≡ true) × P x (skip ts) m × Others P xs m r

abbrev pub Separated : {A : Type 0} → Span A → List A → List Token → List Token → Type 0
Separated P [] ts r = ⊥
Separated P (x ∷ xs) ts r = (m : List Token) × P x ts m × Others P xs m r

-- a list of which the first is known
behind : {A : Type 0} (P : Span A) (xs : List A) (ts r : List Token) → next_is the_punct.Comma ts ≡ true → Separated P xs (skip ts) r → Others P xs ts r
behind P [] ts r e s = absurd s
behind P (x ∷ xs) ts r e s = (s.0, e, s.1, s.2)

pub separated_by_sound : {A : Type 0} (read : Parser A) (P : Span A) → IsSound read P → (turns : ℕ) → IsSound (separated_by read turns) (Separated P)
separated_by_sound read P sound zero ts x e = absurd cc
separated_by_sound {A} read P sound (suc turns) ts x e =
    let a = bind_ok (read ts) (λ y. where_next (next_is the_punct.Comma) (skipping ((λ xs. y ∷ xs) <$> separated_by read turns)) (pure (y ∷ []))) x e in
    let here = sound ts a.0 a.1 in
    elim (branched (next_is the_punct.Comma a.0.1) (skipping ((λ xs. a.0.0 ∷ xs) <$> separated_by read turns)) (pure (a.0.0 ∷ [])) a.0.1 (Ok x) a.2) [
      | inl c ↦
          let m = map_ok (separated_by read turns (skip a.0.1)) (λ xs. a.0.0 ∷ xs) x c.1 in
          let more = separated_by_sound read P sound turns (skip a.0.1) m.0 m.1 in
          subst (λ (y : List A × List Token). Separated P y.0 ts y.1) m.2 (a.0.1, here, behind P m.0.0 a.0.1 m.0.1 c.0 more)
      | inr c ↦ subst (λ (y : List A × List Token). Separated P y.0 ts y.1) (ok_is (a.0.0 ∷ [], a.0.1) x c.1) (a.0.1, here, refl)
    ]

pub separated_sound : {A : Type 0} (read : Parser A) (P : Span A) → IsSound read P → IsSound (separated read) (Separated P)
separated_sound read P sound ts x e = separated_by_sound read P sound (length ts) ts x e

-- An item is read back where this holds of what follows: of a comma, and of what follows the list.
abbrev pub Again : {A : Type 0} → Parser A → Span A → (List Token → Type 0) → A → Type 0
Again read P Follows x = (ts r : List Token) → P x ts r → Follows r → read ts ≡ Ok (x, r)

abbrev pub AllAgain : {A : Type 0} → Parser A → Span A → (List Token → Type 0) → List A → Type 0
AllAgain read P Follows [] = Unit {0}
AllAgain read P Follows (x ∷ xs) = Again read P Follows x × AllAgain read P Follows xs

module _ {A : Type 0} (read : Parser A) (P : Span A) (Follows : List Token → Type 0) (comma : (ts : List Token) → next_is the_punct.Comma ts ≡ true → Follows ts) where
  others_follow : (xs : List A) (ts r : List Token) → Others P xs ts r → Follows r → Follows ts
  others_follow [] ts r o f = subst Follows (sym o) f
  others_follow (x ∷ xs) ts r o f = comma ts o.1

  pub separated_by_again : (xs : List A) (x : A) (ts m r : List Token) (turns : ℕ) → Again read P Follows x → AllAgain read P Follows xs → P x ts m → Others P xs m r → next_is the_punct.Comma r ≡ false → Follows r → length xs < turns
      → separated_by read turns ts ≡ Ok (x ∷ xs, r)
  separated_by_again xs x ts m r zero a all s o e f h = absurd (omega (arith, h))
  separated_by_again [] x ts m r (suc turns) a all s o e f h =
      let first : read ts ≡ Ok (x, m) = a ts m s (others_follow [] m r o f) in
      let ends : next_is the_punct.Comma m ≡ false = ap (next_is the_punct.Comma) o ∙ e in
      ap (λ y. and_then y (λ z. where_next (next_is the_punct.Comma) (skipping ((λ zs. z ∷ zs) <$> separated_by read turns)) (pure (z ∷ [])))) first
      ∙ branch_false (next_is the_punct.Comma m) (skipping ((λ zs. x ∷ zs) <$> separated_by read turns)) (pure (x ∷ [])) m ends
      ∙ ap (λ us. Ok (x ∷ [], us)) o
  separated_by_again (y ∷ ys) x ts m r (suc turns) a all s o e f h =
      let first : read ts ≡ Ok (x, m) = a ts m s (others_follow (y ∷ ys) m r o f) in
      let rest : separated_by read turns (skip m) ≡ Ok (y ∷ ys, r) = separated_by_again ys y (skip m) o.0 r turns all.0 all.1 o.2 o.3 e f (omega (arith, h)) in
      ap (λ z. and_then z (λ w. where_next (next_is the_punct.Comma) (skipping ((λ zs. w ∷ zs) <$> separated_by read turns)) (pure (w ∷ [])))) first
      ∙ branch_true (next_is the_punct.Comma m) (skipping ((λ zs. x ∷ zs) <$> separated_by read turns)) (pure (x ∷ [])) m o.1
      ∙ ap (λ z. and_then z (λ w us. Ok (x ∷ w, us))) rest

-- ---- Up to a brace, with a last comma or without

abbrev pub Enclosed : {A : Type 0} → Span A → List A → Bool → List Token → List Token → Type 0
Enclosed P xs true ts r = (m : List Token) × Separated P xs ts m × (next_is the_punct.Comma m ≡ true) × (next_is the_punct.RightBrace (skip m) ≡ true) × (skip (skip m) ≡ r)
Enclosed P xs false ts r = (m : List Token) × Separated P xs ts m × (next_is the_punct.RightBrace m ≡ true) × (skip m ≡ r)

enclosed_more : {A : Type 0} (P : Span A) (x : A) (xs : List A) (last : Bool) (ts m r : List Token) → P x ts m → next_is the_punct.Comma m ≡ true → Enclosed P xs last (skip m) r → Enclosed P (x ∷ xs) last ts r
enclosed_more P x xs true ts m r here e s = (s.0, (m, here, behind P xs m s.0 e s.1), s.2, s.3, s.4)
enclosed_more P x xs false ts m r here e s = (s.0, (m, here, behind P xs m s.0 e s.1), s.2, s.3)

pub enclosed_by_sound : {A : Type 0} (read : Parser A) (P : Span A) → IsSound read P → (turns : ℕ) → IsSound (enclosed_by read turns) (λ xs ts r. Enclosed P xs.0 xs.1 ts r)
enclosed_by_sound read P sound zero ts x e = absurd cc
enclosed_by_sound {A} read P sound (suc turns) ts x e =
    let inner : A → Parser (List A × Bool) = (λ y. where_next (next_is the_punct.RightBrace) (skipping (pure (y ∷ [], true))) ((λ xs. (y ∷ xs.0, xs.1)) <$> enclosed_by read turns)) in
    let ends : A → Parser (List A × Bool) = (λ y. take the_punct.RightBrace >> pure (y ∷ [], false)) in
    let a = bind_ok (read ts) (λ y. where_next (next_is the_punct.Comma) (skipping (inner y)) (ends y)) x e in
    let here = sound ts a.0 a.1 in
    let is : (y : (List A × Bool) × List Token) → Type 0 = (λ y. Enclosed P y.0.0 y.0.1 ts y.1) in
    elim (branched (next_is the_punct.Comma a.0.1) (skipping (inner a.0.0)) (ends a.0.0) a.0.1 (Ok x) a.2) [
      | inl c ↦ elim (branched (next_is the_punct.RightBrace (skip a.0.1)) (skipping (pure (a.0.0 ∷ [], true))) ((λ xs. (a.0.0 ∷ xs.0, xs.1)) <$> enclosed_by read turns) (skip a.0.1) (Ok x) c.1) [
        | inl b ↦ subst is (ok_is ((a.0.0 ∷ [], true), skip (skip a.0.1)) x b.1) (a.0.1, (a.0.1, here, refl), c.0, b.0, refl)
        | inr b ↦
            let m = map_ok (enclosed_by read turns (skip a.0.1)) (λ (xs : List A × Bool). (a.0.0 ∷ xs.0, xs.1)) x b.1 in
            let rest = enclosed_by_sound read P sound turns (skip a.0.1) m.0 m.1 in
            subst is m.2 (enclosed_more P a.0.0 m.0.0.0 m.0.0.1 ts a.0.1 m.0.1 here c.0 rest)
      ]
      | inr c ↦
          let t = map_ok (take the_punct.RightBrace a.0.1) (λ z. (a.0.0 ∷ [], false)) x c.1 in
          let k = take_ok the_punct.RightBrace a.0.1 t.0 t.1 in
          subst is t.2 (a.0.1, (a.0.1, here, refl), k.0, k.1)
    ]

-- with its first brace
abbrev pub Braced : {A : Type 0} → Span A → List A → Bool → List Token → List Token → Type 0
Braced P xs last ts r = (next_is the_punct.LeftBrace ts ≡ true) × Enclosed P xs last (skip ts) r

pub enclosed_sound : {A : Type 0} (read : Parser A) (P : Span A) → IsSound read P → IsSound (enclosed read) (λ xs ts r. Braced P xs.0 xs.1 ts r)
enclosed_sound {A} read P sound ts x e =
    let t = bind_ok (take the_punct.LeftBrace ts) (λ z us. enclosed_by read (length us) us) x e in
    let k = take_ok the_punct.LeftBrace ts t.0 t.1 in
    let rest : Enclosed P x.0.0 x.0.1 t.0.1 x.1 = enclosed_by_sound read P sound (length t.0.1) t.0.1 x t.2 in
    (k.0, subst (λ us. Enclosed P x.0.0 x.0.1 us x.1) (sym k.1) rest)

-- ---- As long as another begins

abbrev pub Following : {A : Type 0} → (List Token → Bool) → Span A → List A → List Token → List Token → Type 0
Following more P [] ts r = ts ≡ r
Following more P (x ∷ xs) ts r = (m : List Token) × (more ts ≡ true) × P x ts m × Following more P xs m r

abbrev pub Repeated : {A : Type 0} → (List Token → Bool) → Span A → List A → List Token → List Token → Type 0
Repeated more P [] ts r = ⊥
Repeated more P (x ∷ xs) ts r = (m : List Token) × P x ts m × Following more P xs m r

following : {A : Type 0} (more : List Token → Bool) → (P : Span A) (xs : List A) (ts r : List Token) → more ts ≡ true → Repeated more P xs ts r → Following more P xs ts r
following more P [] ts r e s = absurd s
following more P (x ∷ xs) ts r e s = (s.0, e, s.1, s.2)

pub repeated_by_sound : {A : Type 0} (more : List Token → Bool) (read : Parser A) (P : Span A) → IsSound read P → (turns : ℕ) → IsSound (repeated_by more read turns) (Repeated more P)
repeated_by_sound more read P sound zero ts x e = absurd cc
repeated_by_sound {A} more read P sound (suc turns) ts x e =
    let a = bind_ok (read ts) (λ y. where_next more ((λ xs. y ∷ xs) <$> repeated_by more read turns) (pure (y ∷ []))) x e in
    let here = sound ts a.0 a.1 in
    elim (branched (more a.0.1) ((λ xs. a.0.0 ∷ xs) <$> repeated_by more read turns) (pure (a.0.0 ∷ [])) a.0.1 (Ok x) a.2) [
      | inl c ↦
          let m = map_ok (repeated_by more read turns a.0.1) (λ xs. a.0.0 ∷ xs) x c.1 in
          let rest = repeated_by_sound more read P sound turns a.0.1 m.0 m.1 in
          subst (λ (y : List A × List Token). Repeated more P y.0 ts y.1) m.2 (a.0.1, here, following more P m.0.0 a.0.1 m.0.1 c.0 rest)
      | inr c ↦ subst (λ (y : List A × List Token). Repeated more P y.0 ts y.1) (ok_is (a.0.0 ∷ [], a.0.1) x c.1) (a.0.1, here, refl)
    ]

pub repeated_sound : {A : Type 0} (more : List Token → Bool) (read : Parser A) (P : Span A) → IsSound read P → IsSound (repeated more read) (Repeated more P)
repeated_sound more read P sound ts x e = repeated_by_sound more read P sound (length ts) ts x e

-- ---- Read back

pub all_again : {A : Type 0} (read : Parser A) (P : Span A) (Follows : List Token → Type 0) → ((x : A) → Again read P Follows x) → (xs : List A) → AllAgain read P Follows xs
all_again read P Follows again [] = tt
all_again read P Follows again (x ∷ xs) = (again x, all_again read P Follows again xs)

-- each item has a token
abbrev pub Shorter : {A : Type 0} → Span A → Type 0
Shorter {A} P = (x : A) (ts r : List Token) → P x ts r → length r < length ts

-- the comma is no brace
not_comma : (ts : List Token) → next_is the_punct.RightBrace ts ≡ true → next_is the_punct.Comma ts ≡ false
not_comma [] e = absurd cc
not_comma (t ∷ ts) e = ap (is_punct the_punct.Comma) (punct_kind the_punct.RightBrace t.kind e)

pub takes : (s : Punct) (ts : List Token) → next_is s ts ≡ true → take s ts ≡ Ok (tt, skip ts)
takes s [] e = absurd cc
takes s (t ∷ ts) e = rw e refl

skip_length : (ts : List Token) → length (skip ts) ≤ length ts
skip_length [] = omega arith
skip_length (t ∷ ts) = omega arith

module _ {A : Type 0} (read : Parser A) (P : Span A) (Follows : List Token → Type 0) (again : (x : A) → Again read P Follows x) (shorter : Shorter P) where
  -- an item takes one turn
  others_length : (xs : List A) (ts r : List Token) → Others P xs ts r → length xs + length r ≤ length ts
  others_length [] ts r o = omega (arith, ap length o)
  others_length (x ∷ xs) ts r o = omega (arith, skip_length ts, shorter x (skip ts) o.0 o.2, others_length xs o.0 r o.3)

  following_length : (more : List Token → Bool) (xs : List A) (ts r : List Token) → Following more P xs ts r → length xs + length r ≤ length ts
  following_length more [] ts r o = omega (arith, ap length o)
  following_length more (x ∷ xs) ts r o = omega (arith, shorter x ts o.0 o.2, following_length more xs o.0 r o.3)

  pub separated_again : (comma : (ts : List Token) → next_is the_punct.Comma ts ≡ true → Follows ts) (xs : List A) (ts r : List Token) → Separated P xs ts r → next_is the_punct.Comma r ≡ false → Follows r → separated read ts ≡ Ok (xs, r)
  separated_again comma [] ts r s e f = absurd s
  separated_again comma (x ∷ xs) ts r s e f =
      separated_by_again read P Follows comma xs x ts s.0 r (length ts) (again x) (all_again read P Follows again xs) s.1 s.2 e f (omega (arith, shorter x ts s.0 s.1, others_length xs s.0 r s.2))

  pub repeated_by_again : (more : List Token → Bool) → ((ts : List Token) → more ts ≡ true → Follows ts) → (xs : List A) (x : A) (ts m r : List Token) (turns : ℕ) → P x ts m → Following more P xs m r → more r ≡ false → Follows r → length xs < turns
      → repeated_by more read turns ts ≡ Ok (x ∷ xs, r)
  repeated_by_again more goes xs x ts m r zero s o e f h = absurd (omega (arith, h))
  repeated_by_again more goes [] x ts m r (suc turns) s o e f h =
      let first : read ts ≡ Ok (x, m) = again x ts m s (subst Follows (sym o) f) in
      ap (λ y. and_then y (λ z. where_next more ((λ zs. z ∷ zs) <$> repeated_by more read turns) (pure (z ∷ [])))) first
      ∙ branch_false (more m) ((λ zs. x ∷ zs) <$> repeated_by more read turns) (pure (x ∷ [])) m (ap more o ∙ e)
      ∙ ap (λ us. Ok (x ∷ [], us)) o
  repeated_by_again more goes (y ∷ ys) x ts m r (suc turns) s o e f h =
      let first : read ts ≡ Ok (x, m) = again x ts m s (goes m o.1) in
      let rest : repeated_by more read turns m ≡ Ok (y ∷ ys, r) = repeated_by_again more goes ys y m o.0 r turns o.2 o.3 e f (omega (arith, h)) in
      ap (λ z. and_then z (λ w. where_next more ((λ zs. w ∷ zs) <$> repeated_by more read turns) (pure (w ∷ [])))) first
      ∙ branch_true (more m) ((λ zs. x ∷ zs) <$> repeated_by more read turns) (pure (x ∷ [])) m o.1
      ∙ ap (λ z. and_then z (λ w us. Ok (x ∷ w, us))) rest

  pub repeated_again : (more : List Token → Bool) → ((ts : List Token) → more ts ≡ true → Follows ts) → (xs : List A) (ts r : List Token) → Repeated more P xs ts r → more r ≡ false → Follows r → repeated more read ts ≡ Ok (xs, r)
  repeated_again more goes [] ts r s e f = absurd s
  repeated_again more goes (x ∷ xs) ts r s e f =
      repeated_by_again more goes xs x ts s.0 r (length ts) s.1 s.2 e f (omega (arith, shorter x ts s.0 s.1, following_length more xs s.0 r s.2))

  module _ (comma : (ts : List Token) → next_is the_punct.Comma ts ≡ true → Follows ts) (brace : (ts : List Token) → next_is the_punct.RightBrace ts ≡ true → Follows ts) (opens : (x : A) (ts r : List Token) → P x ts r → next_is the_punct.RightBrace ts ≡ false) where
    -- what is read after an item
    abbrev behind_item : ℕ → A → Parser (List A × Bool)
    behind_item turns z = where_next (next_is the_punct.Comma)
        (skipping (where_next (next_is the_punct.RightBrace) (skipping (pure (z ∷ [], true))) ((λ xs. (z ∷ xs.0, xs.1)) <$> enclosed_by read turns)))
        (take the_punct.RightBrace >> pure (z ∷ [], false))

    -- the end of a list in braces
    abbrev Closes : Bool → List Token → List Token → Type 0
    Closes true q r = (next_is the_punct.Comma q ≡ true) × (next_is the_punct.RightBrace (skip q) ≡ true) × (skip (skip q) ≡ r)
    Closes false q r = (next_is the_punct.RightBrace q ≡ true) × (skip q ≡ r)

    closes_follow : (last : Bool) (q r : List Token) → Closes last q r → Follows q
    closes_follow true q r c = comma q c.0
    closes_follow false q r c = brace q c.0

    closed : (last : Bool) (x : A) (turns : ℕ) (q r : List Token) → Closes last q r → behind_item turns x q ≡ Ok ((x ∷ [], last), r)
    closed true x turns q r c =
        branch_true (next_is the_punct.Comma q) (skipping (where_next (next_is the_punct.RightBrace) (skipping (pure (x ∷ [], true))) ((λ xs. (x ∷ xs.0, xs.1)) <$> enclosed_by read turns))) (take the_punct.RightBrace >> pure (x ∷ [], false)) q c.0
        ∙ branch_true (next_is the_punct.RightBrace (skip q)) (skipping (pure (x ∷ [], true))) ((λ xs. (x ∷ xs.0, xs.1)) <$> enclosed_by read turns) (skip q) c.1
        ∙ ap (λ us. Ok ((x ∷ [], true), us)) c.2
    closed false x turns q r c =
        branch_false (next_is the_punct.Comma q) (skipping (where_next (next_is the_punct.RightBrace) (skipping (pure (x ∷ [], true))) ((λ xs. (x ∷ xs.0, xs.1)) <$> enclosed_by read turns))) (take the_punct.RightBrace >> pure (x ∷ [], false)) q (not_comma q c.0)
        ∙ ap (λ y. and_then y (λ z us. Ok ((x ∷ [], false), us))) (takes the_punct.RightBrace q c.0)
        ∙ ap (λ us. Ok ((x ∷ [], false), us)) c.1

    pub enclosed_by_again : (last : Bool) (xs : List A) (x : A) (ts m q r : List Token) (turns : ℕ) → P x ts m → Others P xs m q → Closes last q r → length xs < turns → enclosed_by read turns ts ≡ Ok ((x ∷ xs, last), r)
    enclosed_by_again last xs x ts m q r zero s o c h = absurd (omega (arith, h))
    enclosed_by_again last [] x ts m q r (suc turns) s o c h =
        let first : read ts ≡ Ok (x, m) = again x ts m s (subst Follows (sym o) (closes_follow last q r c)) in
        ap (λ y. and_then y (behind_item turns)) first ∙ ap (behind_item turns x) o ∙ closed last x turns q r c
    enclosed_by_again last (y ∷ ys) x ts m q r (suc turns) s o c h =
        let first : read ts ≡ Ok (x, m) = again x ts m s (comma m o.1) in
        let rest : enclosed_by read turns (skip m) ≡ Ok ((y ∷ ys, last), r) = enclosed_by_again last ys y (skip m) o.0 q r turns o.2 o.3 c (omega (arith, h)) in
        ap (λ z. and_then z (behind_item turns)) first
        ∙ branch_true (next_is the_punct.Comma m) (skipping (where_next (next_is the_punct.RightBrace) (skipping (pure (x ∷ [], true))) ((λ xs. (x ∷ xs.0, xs.1)) <$> enclosed_by read turns))) (take the_punct.RightBrace >> pure (x ∷ [], false)) m o.1
        ∙ branch_false (next_is the_punct.RightBrace (skip m)) (skipping (pure (x ∷ [], true))) ((λ xs. (x ∷ xs.0, xs.1)) <$> enclosed_by read turns) (skip m) (opens y (skip m) o.0 o.2)
        ∙ ap (λ z. and_then z (λ w us. Ok ((x ∷ w.0, w.1), us))) rest

    enclosed_on : (last : Bool) (x : A) (xs : List A) (ts m q r : List Token) → P x ts m → Others P xs m q → Closes last q r → enclosed_by read (length ts) ts ≡ Ok ((x ∷ xs, last), r)
    enclosed_on last x xs ts m q r s o c = enclosed_by_again last xs x ts m q r (length ts) s o c (omega (arith, shorter x ts m s, others_length xs m q o))

    enclosed_inside : (xs : List A) (last : Bool) (ts r : List Token) → Enclosed P xs last ts r → enclosed_by read (length ts) ts ≡ Ok ((xs, last), r)
    enclosed_inside [] true ts r s = absurd (s.1)
    enclosed_inside [] false ts r s = absurd (s.1)
    enclosed_inside (x ∷ xs) true ts r s = enclosed_on true x xs ts s.1.0 s.0 r s.1.1 s.1.2 (s.2, s.3, s.4)
    enclosed_inside (x ∷ xs) false ts r s = enclosed_on false x xs ts s.1.0 s.0 r s.1.1 s.1.2 (s.2, s.3)

    pub enclosed_again : (xs : List A) (last : Bool) (ts r : List Token) → Braced P xs last ts r → enclosed read ts ≡ Ok ((xs, last), r)
    enclosed_again xs last ts r s =
        ap (λ z. and_then z (λ w us. enclosed_by read (length us) us)) (takes the_punct.LeftBrace ts s.0) ∙ enclosed_inside xs last (skip ts) r s.1
