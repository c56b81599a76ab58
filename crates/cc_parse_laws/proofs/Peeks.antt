-- What is known of the next token.
use Rattle.std.proofs.Common.{◌≡◌, ◌<◌, refl, ℕ, suc, true, false, List, [], ◌∷◌, length, Option, None, ap, ◌∙◌}
use Rattle.cc_base.specs.declared.place.Spot.{Spot}
use Rattle.cc_lex.specs.declared.token.Token.{Token}
use Rattle.cc_lex.specs.declared.token.TokenKind.{TokenKind}
use Rattle.cc_lex.specs.declared.token.TokenKind.TheVariants as kind
use Rattle.cc_lex.specs.declared.keyword.Keyword.{Keyword}
use Rattle.cc_lex.specs.declared.keyword.Keyword.TheVariants as the_keyword
use Rattle.cc_lex.specs.declared.punct.Punct.{Punct}
use Rattle.cc_lex.specs.declared.punct.Punct.TheVariants as the_punct
use Rattle.cc_grammar.specs.Names.{Names}
use Rattle.cc_grammar.specs.Outline.{Outline, end, token, part}
use Rattle.cc_grammar.specs.Classes.{next_is, next_is_keyword, skip, tail, tail_kind, next_ident, ident, next_literal, literal, is_punct, is_keyword, spec_kind, starts_spec, is_spec, binds, same_punct}
use Rattle.cc_parse_laws.proofs.Spans.{Reads}
use Rattle.cc_parse_laws.proofs.Steps.{punct_kind, keyword_kind}
use Rattle.cc_parse_laws.proofs.Inner.{Ends, EndsSpecs, EndsDeclarator}

-- what comes after the first of an outline, and what is in it
abbrev pub after : Outline → Outline
after end = end
after (token h k n o) = o
after (part c h i o) = o

abbrev pub inside : Outline → Outline
inside end = end
inside (token h k n o) = end
inside (part c h i o) = i

-- a test of the next token, where its kind is known
pub at_token : {B : Type 0} (f : List Token → B) (g : TokenKind → B) → ((t : Token) (ts : List Token) → f (t ∷ ts) ≡ g t.kind)
    → (h : Type 0) (k : TokenKind) (n : Option Spot) (o : Outline) (d : ℕ) (ts r : List Token) → Reads (token h k n o) d ts r → f ts ≡ g k
at_token f g same h k n o d [] r x = absurd x
at_token f g same h k n o d (t ∷ ts) r x = same t ts ∙ ap g x.1

pub at_punct : {B : Type 0} (f : List Token → B) (g : TokenKind → B) → ((t : Token) (ts : List Token) → f (t ∷ ts) ≡ g t.kind)
    → (s : Punct) (ts : List Token) → next_is s ts ≡ true → f ts ≡ g (kind.Punct s)
at_punct f g same s [] e = absurd cc
at_punct f g same s (t ∷ ts) e = same t ts ∙ ap g (punct_kind s t.kind e)

pub at_keyword : {B : Type 0} (f : List Token → B) (g : TokenKind → B) → ((t : Token) (ts : List Token) → f (t ∷ ts) ≡ g t.kind)
    → (w : Keyword) (ts : List Token) → next_is_keyword w ts ≡ true → f ts ≡ g (kind.Keyword w)
at_keyword f g same w [] e = absurd cc
at_keyword f g same w (t ∷ ts) e = same t ts ∙ ap g (keyword_kind w t.kind e)

pub punct_tail : (s : Punct) (ts : List Token) → next_is s ts ≡ true → tail ts ≡ tail_kind (kind.Punct s)
punct_tail s ts e = at_punct tail tail_kind (λ t us. refl) s ts e

pub punct_literal : (s : Punct) (ts : List Token) → next_is s ts ≡ true → next_literal ts ≡ None
punct_literal s ts e = at_punct next_literal literal (λ t us. refl) s ts e

pub punct_ident : (s : Punct) (ts : List Token) → next_is s ts ≡ true → next_ident ts ≡ None
punct_ident s ts e = at_punct next_ident ident (λ t us. refl) s ts e

pub punct_spec : (names : Names) (s : Punct) (ts : List Token) → next_is s ts ≡ true → starts_spec names ts ≡ false
punct_spec names s ts e = at_punct (starts_spec names) (λ c. is_spec (spec_kind names c)) (λ t us. refl) s ts e

pub punct_keyword : (w : Keyword) (s : Punct) (ts : List Token) → next_is s ts ≡ true → next_is_keyword w ts ≡ false
punct_keyword w s ts e = at_punct (next_is_keyword w) (is_keyword w) (λ t us. refl) s ts e

-- another punctuator
pub punct_other : (u s : Punct) (ts : List Token) → same_punct u s ≡ false → next_is s ts ≡ true → next_is u ts ≡ false
punct_other u s ts other e = at_punct (next_is u) (is_punct u) (λ t us. refl) s ts e ∙ other

pub punct_ends : (n : ℕ) (s : Punct) (ts : List Token) → binds (tail_kind (kind.Punct s)) < n → next_is s ts ≡ true → Ends n ts
punct_ends n s ts h e = record { looser = rw (punct_tail s ts e) h; no_literal = punct_literal s ts e }

pub punct_ends_specs : (names : Names) (s : Punct) (ts : List Token) → same_punct the_punct.LeftBrace s ≡ false → next_is s ts ≡ true → EndsSpecs names ts
punct_ends_specs names s ts other e = record { no_spec = punct_spec names s ts e; no_brace = punct_other the_punct.LeftBrace s ts other e }

pub punct_ends_declarator : (s : Punct) (ts : List Token) → same_punct the_punct.LeftBracket s ≡ false → same_punct the_punct.LeftParen s ≡ false → same_punct the_punct.Star s ≡ false → next_is s ts ≡ true → EndsDeclarator ts
punct_ends_declarator s ts a b c e = record {
  no_bracket = punct_other the_punct.LeftBracket s ts a e;
  no_paren = punct_other the_punct.LeftParen s ts b e;
  no_star = punct_other the_punct.Star s ts c e;
  no_name = punct_ident s ts e;
  no_const = punct_keyword the_keyword.Const s ts e;
}

-- a shorter list
pub skip_shorter : (s : Punct) (ts : List Token) → next_is s ts ≡ true → suc (length (skip ts)) ≡ length ts
skip_shorter s [] e = absurd cc
skip_shorter s (t ∷ ts) e = refl
