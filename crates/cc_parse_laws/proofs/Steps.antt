-- Steps of reading: what a step that did not fail has read, and how a step reads what stands there.
use Rattle.std.proofs.Common.{◌≡◌, ◌+◌, refl, ℕ, Bool, true, false, List, [], ◌∷◌, length, Option, None, Ok, Err, arith, sym, ap, ◌∙◌, subst, ◌⊎◌, inl, inr}
use denote.Enum.Bare.{same_true, true_same}
use Rattle.cc_base.specs.declared.place.Spot.{Spot}
use Rattle.cc_lex.specs.declared.token.Token.{Token}
use Rattle.cc_lex.specs.declared.token.TokenKind.{TokenKind}
use Rattle.cc_lex.specs.declared.token.TokenKind.TheVariants as kind
use Rattle.cc_lex.specs.declared.keyword.Keyword.{Keyword}
use Rattle.cc_lex.specs.contracts.keyword.Keyword as keywords
use Rattle.cc_lex.specs.declared.punct.Punct.{Punct}
use Rattle.cc_lex.specs.contracts.punct.Punct as puncts
use Rattle.cc_grammar.specs.Outline.{Outline, end, token, part, size, FitsSpot}
use Rattle.cc_grammar.specs.Outlines.{punct, keyword}
use Rattle.cc_grammar.specs.Classes.{is_punct, is_keyword, next_is, next_is_keyword, skip, spot}
use Rattle.cc_grammar.specs.Outcomes.{Outcome, Parser, and_then, take, take_keyword}
use Rattle.cc_grammar.specs.Reading.{branch}
use Rattle.cc_parse_laws.proofs.Spans.{Reads, inside_holds}

-- ---- Steps that did not fail

pub bind_ok : {A B : Type 0} (r : Outcome A) (f : A → Parser B) (y : B × List Token) → and_then r f ≡ Ok y → (p : A × List Token) × (r ≡ Ok p) × (f p.0 p.1 ≡ Ok y)
bind_ok (Ok p) f y e = (p, refl, e)
bind_ok (Err d) f y e = absurd cc

pub map_ok : {A B : Type 0} (r : Outcome A) (f : A → B) (y : B × List Token) → and_then r (λ x s. Ok (f x, s)) ≡ Ok y → (p : A × List Token) × (r ≡ Ok p) × ((f p.0, p.1) ≡ y)
map_ok (Ok p) f y e = (p, refl, cc)
map_ok (Err d) f y e = absurd cc

abbrev done : {A : Type 0} → A × List Token → Outcome A
done x = Ok x

pub ok_is : {A : Type 0} (x y : A × List Token) → done x ≡ done y → x ≡ y
ok_is x y e = cc

-- which way a test went
pub branched : {A : Type 0} (b : Bool) (p q : Parser A) (ts : List Token) (y : Outcome A) → branch b p q ts ≡ y → ((b ≡ true) × (p ts ≡ y)) ⊎ ((b ≡ false) × (q ts ≡ y))
branched true p q ts y e = inl (refl, e)
branched false p q ts y e = inr (refl, e)

-- and where it goes
pub branch_true : {A : Type 0} (b : Bool) (p q : Parser A) (ts : List Token) → b ≡ true → branch b p q ts ≡ p ts
branch_true true p q ts e = refl
branch_true false p q ts e = absurd cc

pub branch_false : {A : Type 0} (b : Bool) (p q : Parser A) (ts : List Token) → b ≡ false → branch b p q ts ≡ q ts
branch_false true p q ts e = absurd cc
branch_false false p q ts e = refl

-- ---- Tokens

pub punct_kind : (s : Punct) (k : TokenKind) → is_punct s k ≡ true → k ≡ kind.Punct s
punct_kind s (kind.Punct t) e = ap (λ x. kind.Punct x) (sym (same_true puncts.the_type tt s t e))
punct_kind s (kind.Keyword w) e = absurd cc
punct_kind s (kind.Identifier x) e = absurd cc
punct_kind s (kind.Integer v c) e = absurd cc
punct_kind s (kind.Character v) e = absurd cc
punct_kind s (kind.Str bytes) e = absurd cc

pub kind_punct : (s : Punct) (k : TokenKind) → k ≡ kind.Punct s → is_punct s k ≡ true
kind_punct s k e = ap (is_punct s) e ∙ true_same puncts.the_type s s refl

pub keyword_kind : (w : Keyword) (k : TokenKind) → is_keyword w k ≡ true → k ≡ kind.Keyword w
keyword_kind w (kind.Keyword v) e = ap (λ x. kind.Keyword x) (sym (same_true keywords.the_type tt w v e))
keyword_kind w (kind.Punct t) e = absurd cc
keyword_kind w (kind.Identifier x) e = absurd cc
keyword_kind w (kind.Integer v c) e = absurd cc
keyword_kind w (kind.Character v) e = absurd cc
keyword_kind w (kind.Str bytes) e = absurd cc

pub kind_keyword : (w : Keyword) (k : TokenKind) → k ≡ kind.Keyword w → is_keyword w k ≡ true
kind_keyword w k e = ap (is_keyword w) e ∙ true_same keywords.the_type w w refl

-- a punctuator that comes next is read
pub next_reads : (s : Punct) (n : Option Spot) (o : Outline) (d : ℕ) (ts r : List Token) → next_is s ts ≡ true → FitsSpot n (spot ts) → Reads o d (skip ts) r → Reads (token (Unit {0}) (kind.Punct s) n o) d ts r
next_reads s n o d [] r e at x = absurd cc
next_reads s n o d (t ∷ ts) r e at x = (tt, punct_kind s t.kind e, at, x)

pub next_keyword_reads : (w : Keyword) (n : Option Spot) (o : Outline) (d : ℕ) (ts r : List Token) → next_is_keyword w ts ≡ true → FitsSpot n (spot ts) → Reads o d (skip ts) r → Reads (token (Unit {0}) (kind.Keyword w) n o) d ts r
next_keyword_reads w n o d [] r e at x = absurd cc
next_keyword_reads w n o d (t ∷ ts) r e at x = (tt, keyword_kind w t.kind e, at, x)

pub take_ok : (s : Punct) (ts : List Token) (x : Unit {0} × List Token) → take s ts ≡ Ok x → (next_is s ts ≡ true) × (skip ts ≡ x.1)
take_ok s [] x e = absurd cc
take_ok s (t ∷ ts) x e = taken (is_punct s t.kind) refl
  where
    taken : (b : Bool) → is_punct s t.kind ≡ b → (is_punct s t.kind ≡ true) × (ts ≡ x.1)
    taken true h = (h, let got : take s (t ∷ ts) ≡ Ok (tt, ts) = rw h refl in ap (λ (y : Unit {0} × List Token). y.1) (ok_is (tt, ts) x (sym got ∙ e)))
    taken false h = absurd (let got : take s (t ∷ ts) ≡ Err (t ∷ ts) = rw h refl in cc)

-- a punctuator that was taken is read
pub take_reads : (s : Punct) (o : Outline) (d : ℕ) (ts r : List Token) (x : Unit {0} × List Token) → take s ts ≡ Ok x → Reads o d x.1 r → Reads (punct s o) d ts r
take_reads s o d ts r x e h =
    let t = take_ok s ts x e in
    next_reads s None o d ts r t.0 tt (subst (λ us. Reads o d us r) (sym t.1) h)

pub take_keyword_ok : (w : Keyword) (ts : List Token) (x : Unit {0} × List Token) → take_keyword w ts ≡ Ok x → (next_is_keyword w ts ≡ true) × (skip ts ≡ x.1)
take_keyword_ok w [] x e = absurd cc
take_keyword_ok w (t ∷ ts) x e = taken (is_keyword w t.kind) refl
  where
    taken : (b : Bool) → is_keyword w t.kind ≡ b → (is_keyword w t.kind ≡ true) × (ts ≡ x.1)
    taken true h = (h, let got : take_keyword w (t ∷ ts) ≡ Ok (tt, ts) = rw h refl in ap (λ (y : Unit {0} × List Token). y.1) (ok_is (tt, ts) x (sym got ∙ e)))
    taken false h = absurd (let got : take_keyword w (t ∷ ts) ≡ Err (t ∷ ts) = rw h refl in cc)

pub take_keyword_reads : (w : Keyword) (o : Outline) (d : ℕ) (ts r : List Token) (x : Unit {0} × List Token) → take_keyword w ts ≡ Ok x → Reads o d x.1 r → Reads (keyword w o) d ts r
take_keyword_reads w o d ts r x e h =
    let t = take_keyword_ok w ts x e in
    next_keyword_reads w None o d ts r t.0 tt (subst (λ us. Reads o d us r) (sym t.1) h)

-- ---- What stands there

-- what a token of an outline says of the next one
pub record Next (h : Type 0) (k : TokenKind) (n : Option Spot) (o : Outline) (d : ℕ) (ts r : List Token) : Type 0 where
  pub holds : h
  pub head : Token
  pub is : ts ≡ head ∷ skip ts
  pub kind_is : head.kind ≡ k
  pub at : FitsSpot n (spot ts)
  pub after : Reads o d (skip ts) r

pub next_token : (h : Type 0) (k : TokenKind) (n : Option Spot) (o : Outline) (d : ℕ) (ts r : List Token) → Reads (token h k n o) d ts r → Next h k n o d ts r
next_token h k n o d [] r x = absurd x
next_token h k n o d (t ∷ ts) r x = record { holds = x.0; head = t; is = refl; kind_is = x.1; at = x.2; after = x.3 }

pub reads_next : (h : Type 0) (s : Punct) (n : Option Spot) (o : Outline) (d : ℕ) (ts r : List Token) → Reads (token h (kind.Punct s) n o) d ts r → next_is s ts ≡ true
reads_next h s n o d [] r x = absurd x
reads_next h s n o d (t ∷ ts) r x = kind_punct s t.kind x.1

pub reads_next_keyword : (h : Type 0) (w : Keyword) (n : Option Spot) (o : Outline) (d : ℕ) (ts r : List Token) → Reads (token h (kind.Keyword w) n o) d ts r → next_is_keyword w ts ≡ true
reads_next_keyword h w n o d [] r x = absurd x
reads_next_keyword h w n o d (t ∷ ts) r x = kind_keyword w t.kind x.1

take_it : (s : Punct) (t : Token) (ts : List Token) → is_punct s t.kind ≡ true → take s (t ∷ ts) ≡ Ok (tt, ts)
take_it s t ts e = rw e refl

-- it is taken
pub reads_take : (h : Type 0) (s : Punct) (n : Option Spot) (o : Outline) (d : ℕ) (ts r : List Token) → Reads (token h (kind.Punct s) n o) d ts r → take s ts ≡ Ok (tt, skip ts)
reads_take h s n o d [] r x = absurd x
reads_take h s n o d (t ∷ ts) r x = take_it s t ts (kind_punct s t.kind x.1)

take_that : (w : Keyword) (t : Token) (ts : List Token) → is_keyword w t.kind ≡ true → take_keyword w (t ∷ ts) ≡ Ok (tt, ts)
take_that w t ts e = rw e refl

pub reads_take_keyword : (h : Type 0) (w : Keyword) (n : Option Spot) (o : Outline) (d : ℕ) (ts r : List Token) → Reads (token h (kind.Keyword w) n o) d ts r → take_keyword w ts ≡ Ok (tt, skip ts)
reads_take_keyword h w n o d [] r x = absurd x
reads_take_keyword h w n o d (t ∷ ts) r x = take_that w t ts (kind_keyword w t.kind x.1)

-- ---- Lengths

-- each token counts
pub reads_length : (o : Outline) (d : ℕ) (ts r : List Token) → Reads o d ts r → length ts ≡ size o + length r
reads_length end d ts r x = ap length x ∙ omega arith
reads_length (token h k n o) d [] r x = absurd x
reads_length (token h k n o) d (t ∷ ts) r x = omega (arith, reads_length o d ts r x.3)
reads_length (part c h i o) d ts r x =
    let inner : length ts ≡ size i + length x.0 = inside_holds c (λ e. Reads i e ts x.0) (length ts ≡ size i + length x.0) (λ e y. reads_length i e ts x.0 y) d x.2 in
    omega (arith, inner, reads_length o d x.0 r x.3)
