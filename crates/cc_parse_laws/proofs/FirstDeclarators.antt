-- With which tokens declarators begin, and what the tokens before a declarator are followed by.
use Rattle.std.proofs.Common.{◌≡◌, refl, ℕ, Bool, true, false, List, Option, Some, sym, ◌∙◌, subst}
use Rattle.cc_base.specs.declared.place.Spot.{Spot}
use Rattle.cc_lex.specs.declared.token.Token.{Token}
use Rattle.cc_lex.specs.declared.token.TokenKind.{TokenKind}
use Rattle.cc_lex.specs.declared.token.TokenKind.TheVariants as kind
use Rattle.cc_lex.specs.declared.keyword.Keyword.TheVariants as the_keyword
use Rattle.cc_lex.specs.declared.punct.Punct.TheVariants as the_punct
use Rattle.cc_tree.specs.Trees.{DeclTree, declared, nameless, pointer, array, function, grouped}
use Rattle.cc_grammar.specs.Names.{Names, is_type}
use Rattle.cc_grammar.specs.Outline.{Outline, end, token}
use Rattle.cc_grammar.specs.Outlines as outlines
use Rattle.cc_grammar.specs.Classes.{next_is, next_is_keyword, is_punct, spec_kind, starts_spec, is_spec}
use Rattle.cc_parse_laws.proofs.Spans.{Reads}
use Rattle.cc_parse_laws.proofs.Steps.{next_token}
use Rattle.cc_parse_laws.proofs.Peeks.{after, inside, at_token, at_keyword}
use Rattle.cc_parse_laws.proofs.Firsts.{inside_sinks, not_named}
use Rattle.cc_parse_laws.proofs.Inner.{ReadsDeclarator, EndsSpecs}

-- the next token goes on with no specifiers, and closes no parameters
pub record OpensDeclarator (names : Names) (ts : List Token) : Type 0 where
  pub no_spec : starts_spec names ts ≡ false
  pub no_brace : next_is the_punct.LeftBrace ts ≡ false
  pub no_close : next_is the_punct.RightParen ts ≡ false

opens_at : (names : Names) (h : Type 0) (k : TokenKind) (n : Option Spot) (i : Outline) (d : ℕ) (ts r : List Token) → is_spec (spec_kind names k) ≡ false → is_punct the_punct.LeftBrace k ≡ false → is_punct the_punct.RightParen k ≡ false
    → Reads (token h k n i) d ts r → OpensDeclarator names ts
opens_at names h k n i d ts r a b c x = record {
  no_spec = at_token (starts_spec names) (λ q. is_spec (spec_kind names q)) (λ t us. refl) h k n i d ts r x ∙ a;
  no_brace = at_token (next_is the_punct.LeftBrace) (is_punct the_punct.LeftBrace) (λ t us. refl) h k n i d ts r x ∙ b;
  no_close = at_token (next_is the_punct.RightParen) (is_punct the_punct.RightParen) (λ t us. refl) h k n i d ts r x ∙ c;
}

-- behind a declarator that may have no token
first_behind : (names : Names) (left : DeclTree Spot) (d : ℕ) (ts m : List Token) → (outlines.is_written left ≡ true → Reads (outlines.declarator names left) d ts m → OpensDeclarator names ts) → ReadsDeclarator names d left ts m → OpensDeclarator names m
    → OpensDeclarator names ts
first_behind names (declared n x) d ts m first y z = first refl (inside_sinks true (outlines.declarator names (declared n x)) d ts m y)
first_behind names nameless d ts m first y z = subst (OpensDeclarator names) (sym y) z
first_behind names (pointer n c f) d ts m first y z = first refl (inside_sinks true (outlines.declarator names (pointer n c f)) d ts m y)
first_behind names (array n f e) d ts m first y z = first refl (inside_sinks true (outlines.declarator names (array n f e)) d ts m y)
first_behind names (function n f ps) d ts m first y z = first refl (inside_sinks true (outlines.declarator names (function n f ps)) d ts m y)
first_behind names (grouped n f) d ts m first y z = first refl (inside_sinks true (outlines.declarator names (grouped n f)) d ts m y)

pub first_declarator : (names : Names) (f : DeclTree Spot) (d : ℕ) (ts r : List Token) → outlines.is_written f ≡ true → Reads (outlines.declarator names f) d ts r → OpensDeclarator names ts
first_declarator names (declared n x) d ts r w y =
    let t = next_token (is_type names x ≡ false) (kind.Identifier x) (Some n) end d ts r y in
    opens_at names (is_type names x ≡ false) (kind.Identifier x) (Some n) end d ts r (not_named names x t.holds) refl refl y
first_declarator names nameless d ts r w y = absurd cc
first_declarator names (pointer n c f) d ts r w y =
    opens_at names (Unit {0}) (kind.Punct the_punct.Star) (outlines.opening_spot f n) (after (inside (outlines.declarator names (pointer n c f)))) d ts y.0 refl refl refl y.2
first_declarator names (array n f e) d ts r w y =
    first_behind names f d ts y.2.0 (first_declarator names f d ts y.2.0) y.2.2
    (opens_at names (Unit {0}) (kind.Punct the_punct.LeftBracket) (outlines.suffix_spot f n) (after (after (inside (outlines.declarator names (array n f e))))) d y.2.0 y.0 refl refl refl y.2.3)
first_declarator names (function n f ps) d ts r w y =
    first_behind names f d ts y.2.0 (first_declarator names f d ts y.2.0) y.2.2
    (opens_at names (Unit {0}) (kind.Punct the_punct.LeftParen) (outlines.suffix_spot f n) (after (after (inside (outlines.declarator names (function n f ps))))) d y.2.0 y.0 refl refl refl y.2.3)
first_declarator names (grouped n f) d ts r w y =
    opens_at names (Unit {0}) (kind.Punct the_punct.LeftParen) (outlines.opening_spot f n) (after (inside (outlines.declarator names (grouped n f)))) d ts y.0 refl refl refl y.2

-- a declarator, or what follows where none is written
pub declarator_or : (names : Names) (P : List Token → Type 0) → ((ts : List Token) → OpensDeclarator names ts → P ts) → (f : DeclTree Spot) (d : ℕ) (ts r : List Token) → ReadsDeclarator names d f ts r → P r → P ts
declarator_or names P give (declared n x) d ts r y z = give ts (first_declarator names (declared n x) d ts r refl (inside_sinks true (outlines.declarator names (declared n x)) d ts r y))
declarator_or names P give nameless d ts r y z = subst P (sym y) z
declarator_or names P give (pointer n c f) d ts r y z = give ts (first_declarator names (pointer n c f) d ts r refl (inside_sinks true (outlines.declarator names (pointer n c f)) d ts r y))
declarator_or names P give (array n f e) d ts r y z = give ts (first_declarator names (array n f e) d ts r refl (inside_sinks true (outlines.declarator names (array n f e)) d ts r y))
declarator_or names P give (function n f ps) d ts r y z = give ts (first_declarator names (function n f ps) d ts r refl (inside_sinks true (outlines.declarator names (function n f ps)) d ts r y))
declarator_or names P give (grouped n f) d ts r y z = give ts (first_declarator names (grouped n f) d ts r refl (inside_sinks true (outlines.declarator names (grouped n f)) d ts r y))

-- specifiers end where a declarator comes
pub declarator_specs : (names : Names) (f : DeclTree Spot) (d : ℕ) (ts r : List Token) → ReadsDeclarator names d f ts r → EndsSpecs names r → EndsSpecs names ts
declarator_specs names f d ts r y z = declarator_or names (EndsSpecs names) (λ us x. record { no_spec = x.no_spec; no_brace = x.no_brace }) f d ts r y z

-- `const` is a specifier
pub no_const : (names : Names) (ts : List Token) → starts_spec names ts ≡ false → next_is_keyword the_keyword.Const ts ≡ false
no_const names ts x = by (next_is_keyword the_keyword.Const ts) refl
  where
    by : (b : Bool) → next_is_keyword the_keyword.Const ts ≡ b → next_is_keyword the_keyword.Const ts ≡ false
    by false e = e
    by true e = let is : starts_spec names ts ≡ true = at_keyword (starts_spec names) (λ q. is_spec (spec_kind names q)) (λ t us. refl) the_keyword.Const ts e in absurd cc

pub declarator_const : (names : Names) (f : DeclTree Spot) (d : ℕ) (ts r : List Token) → ReadsDeclarator names d f ts r → next_is_keyword the_keyword.Const r ≡ false → next_is_keyword the_keyword.Const ts ≡ false
declarator_const names f d ts r y z = declarator_or names (λ us. next_is_keyword the_keyword.Const us ≡ false) (λ us x. no_const names us x.no_spec) f d ts r y z
