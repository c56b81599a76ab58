-- Steps that failed: which of them did, and where.
use Rattle.std.proofs.Common.{◌≡◌, refl, Bool, true, false, List, [], ◌∷◌, Option, Some, None, Ok, Err, sym, ap, ◌∙◌}
use Rattle.cc_lex.specs.declared.token.Token.{Token}
use Rattle.cc_lex.specs.declared.keyword.Keyword.{Keyword}
use Rattle.cc_lex.specs.declared.punct.Punct.{Punct}
use Rattle.cc_tree.specs.Trees.{Name}
use Rattle.cc_grammar.specs.Names.{Names, is_type}
use Rattle.cc_grammar.specs.Classes.{is_punct, is_keyword, next_is, next_is_keyword, next_ident, skip}
use Rattle.cc_grammar.specs.Outcomes.{Outcome, Parser, and_then, pure, refuse, take, take_keyword}
use Rattle.cc_grammar.specs.Reading.{branch, skipping, id, id_by}

abbrev failed : {A : Type 0} → List Token → Outcome A
failed r = Err r

pub err_is : {A : Type 0} {ts r : List Token} → failed {A = A} ts ≡ Err r → ts ≡ r
err_is e = cc

-- one of two steps did
pub bind_err : {A B X : Type 0} {r : List Token} (o : Outcome A) (f : A → Parser B) → and_then o f ≡ Err r → (o ≡ Err r → X) → ((y : A × List Token) → o ≡ Ok y → f y.0 y.1 ≡ Err r → X) → X
bind_err (Ok y) f e a b = b y refl e
bind_err (Err q) f e a b = a (ap failed (err_is e))

pub map_err : {A B : Type 0} {r : List Token} (o : Outcome A) (g : A → B) → and_then o (λ x. pure (g x)) ≡ Err r → o ≡ Err r
map_err (Ok y) g e = absurd cc
map_err (Err q) g e = ap failed (err_is e)

pub branch_err : {A X : Type 0} {r : List Token} (b : Bool) (p q : Parser A) (ts : List Token) → branch b p q ts ≡ Err r → (b ≡ true → p ts ≡ Err r → X) → (b ≡ false → q ts ≡ Err r → X) → X
branch_err true p q ts e x y = x refl e
branch_err false p q ts e x y = y refl e

-- a token was taken or not
pub take_bind : {A X : Type 0} {r : List Token} (s : Punct) (ts : List Token) (f : Unit {0} → Parser A) → and_then (take s ts) f ≡ Err r → (ts ≡ r → X) → (next_is s ts ≡ true → f tt (skip ts) ≡ Err r → X) → X
take_bind s [] f e a b = a (err_is e)
take_bind {A} {X} {r} s (t ∷ ts) f e a b = by (is_punct s t.kind) refl
  where
    by : (c : Bool) → is_punct s t.kind ≡ c → X
    by true h = b h (let got : take s (t ∷ ts) ≡ Ok (tt, ts) = rw h refl in sym (ap (λ o. and_then o f) got) ∙ e)
    by false h = a (let got : take s (t ∷ ts) ≡ Err (t ∷ ts) = rw h refl in err_is (sym (ap (λ o. and_then o f) got) ∙ e))

pub take_keyword_bind : {A X : Type 0} {r : List Token} (w : Keyword) (ts : List Token) (f : Unit {0} → Parser A) → and_then (take_keyword w ts) f ≡ Err r → (ts ≡ r → X) → (next_is_keyword w ts ≡ true → f tt (skip ts) ≡ Err r → X) → X
take_keyword_bind w [] f e a b = a (err_is e)
take_keyword_bind {A} {X} {r} w (t ∷ ts) f e a b = by (is_keyword w t.kind) refl
  where
    by : (c : Bool) → is_keyword w t.kind ≡ c → X
    by true h = b h (let got : take_keyword w (t ∷ ts) ≡ Ok (tt, ts) = rw h refl in sym (ap (λ o. and_then o f) got) ∙ e)
    by false h = a (let got : take_keyword w (t ∷ ts) ≡ Err (t ∷ ts) = rw h refl in err_is (sym (ap (λ o. and_then o f) got) ∙ e))

-- the last token of a form
pub until_err : {A : Type 0} {r : List Token} (s : Punct) (a : A) (ts : List Token) → and_then (take s ts) (λ z. pure a) ≡ Err r → ts ≡ r
until_err s a ts e = take_bind s ts (λ z. pure a) e (λ h. h) (λ h f. absurd cc)

pub id_err : {r : List Token} (names : Names) (ts : List Token) → id names ts ≡ Err r → ts ≡ r
id_err {r} names ts e = by (next_ident ts) e
  where
    by : (x : Option Name) → id_by names x ts ≡ Err r → ts ≡ r
    by None f = err_is f
    by (Some x) f = branch_err (is_type names x) refuse (skipping (pure x)) ts f (λ h g. err_is g) (λ h g. absurd cc)

-- a token that was taken, where all went well
pub take_bind_ok : {A : Type 0} (s : Punct) (ts : List Token) (f : Unit {0} → Parser A) (y : A × List Token) → and_then (take s ts) f ≡ Ok y → (next_is s ts ≡ true) × (f tt (skip ts) ≡ Ok y)
take_bind_ok s [] f y e = absurd cc
take_bind_ok s (t ∷ ts) f y e = by (is_punct s t.kind) refl
  where
    by : (c : Bool) → is_punct s t.kind ≡ c → (is_punct s t.kind ≡ true) × (f tt ts ≡ Ok y)
    by true h = (h, let got : take s (t ∷ ts) ≡ Ok (tt, ts) = rw h refl in sym (ap (λ o. and_then o f) got) ∙ e)
    by false h = absurd (let got : take s (t ∷ ts) ≡ Err (t ∷ ts) = rw h refl in let no : and_then (take s (t ∷ ts)) f ≡ Err (t ∷ ts) = ap (λ o. and_then o f) got in cc)

pub take_keyword_bind_ok : {A : Type 0} (w : Keyword) (ts : List Token) (f : Unit {0} → Parser A) (y : A × List Token) → and_then (take_keyword w ts) f ≡ Ok y → (next_is_keyword w ts ≡ true) × (f tt (skip ts) ≡ Ok y)
take_keyword_bind_ok w [] f y e = absurd cc
take_keyword_bind_ok w (t ∷ ts) f y e = by (is_keyword w t.kind) refl
  where
    by : (c : Bool) → is_keyword w t.kind ≡ c → (is_keyword w t.kind ≡ true) × (f tt ts ≡ Ok y)
    by true h = (h, let got : take_keyword w (t ∷ ts) ≡ Ok (tt, ts) = rw h refl in sym (ap (λ o. and_then o f) got) ∙ e)
    by false h = absurd (let got : take_keyword w (t ∷ ts) ≡ Err (t ∷ ts) = rw h refl in let no : and_then (take_keyword w (t ∷ ts)) f ≡ Err (t ∷ ts) = ap (λ o. and_then o f) got in cc)
