-- Where the first token of an expression stands, and with which tokens a declarator with a name begins.
use Rattle.std.proofs.Common.{◌≡◌, refl, ℕ, true, false, List, [], ◌∷◌, Option, Some, sym, ◌∙◌}
use Rattle.cc_base.specs.declared.place.Spot.{Spot}
use Rattle.cc_lex.specs.declared.token.Token.{Token}
use Rattle.cc_lex.specs.declared.token.TokenKind.{TokenKind}
use Rattle.cc_lex.specs.declared.token.TokenKind.TheVariants as kind
use Rattle.cc_lex.specs.declared.keyword.Keyword.TheVariants as the_keyword
use Rattle.cc_lex.specs.declared.punct.Punct.TheVariants as the_punct
use Rattle.cc_tree.specs.declared.operator.Side.TheVariants as side
use Rattle.cc_tree.specs.Trees.{ExprTree, name, integer, character, string, paren, unary, binary, assign, step, choice, comma, call, member, arrow, index, cast, size_expr, size_type, DeclTree, declared, nameless, pointer, array, function, grouped}
use Rattle.cc_grammar.specs.Levels.{unary_punct, step_punct}
use Rattle.cc_grammar.specs.Outline.{Outline, end, token}
use Rattle.cc_grammar.specs.Outlines as outlines
use Rattle.cc_grammar.specs.Names.{Names, is_type}
use Rattle.cc_grammar.specs.Classes.{is_punct, next_is, spot, spec_kind, is_spec, starts_spec}
use Rattle.cc_parse_laws.proofs.Spans.{Reads}
use Rattle.cc_parse_laws.proofs.Steps.{next_token}
use Rattle.cc_parse_laws.proofs.Inner.{ReadsDeclarator}
use Rattle.cc_parse_laws.proofs.Peeks.{after, inside, at_token}
use Rattle.cc_parse_laws.proofs.Firsts.{inside_sinks, not_named}

-- ---- Expressions

token_stands : (h : Type 0) (k : TokenKind) (n : Spot) (i : Outline) (d : ℕ) (ts r : List Token) → Reads (token h k (Some n) i) d ts r → spot ts ≡ n
token_stands h k n i d ts r x = (next_token h k (Some n) i d ts r x).at

pub expr_stands : (names : Names) (e : ExprTree Spot) (d : ℕ) (ts r : List Token) → Reads (outlines.expr names e) d ts r → spot ts ≡ outlines.begins e
expr_stands names (name n x) d ts r y = token_stands (is_type names x ≡ false) (kind.Identifier x) n end d ts r y
expr_stands names (integer n v c) d ts r y = token_stands (Unit {0}) (kind.Integer v c) n end d ts r y
expr_stands names (character n v) d ts r y = token_stands (Unit {0}) (kind.Character v) n end d ts r y
expr_stands names (string n []) d ts r y = absurd y.1
expr_stands names (string n (b ∷ bs)) d ts r y = token_stands (Unit {0}) (kind.Str b) n (outlines.strings bs) d ts r y
expr_stands names (paren n e) d ts r y = token_stands (Unit {0}) (kind.Punct the_punct.LeftParen) n (after (outlines.expr names (paren n e))) d ts r y
expr_stands names (unary n op e) d ts r y = token_stands (Unit {0}) (kind.Punct (unary_punct op)) n (after (outlines.expr names (unary n op e))) d ts r y
expr_stands names (binary n op a b) d ts r y = expr_stands names a d ts y.0 (inside_sinks true (outlines.expr names a) d ts y.0 y.2)
expr_stands names (assign n op a b) d ts r y = expr_stands names a d ts y.0 (inside_sinks true (outlines.expr names a) d ts y.0 y.2)
expr_stands names (step n op side.Before e) d ts r y = token_stands (Unit {0}) (kind.Punct (step_punct op)) n (after (outlines.expr names (step n op side.Before e))) d ts r y
expr_stands names (step n op side.After e) d ts r y = expr_stands names e d ts y.0 (inside_sinks true (outlines.expr names e) d ts y.0 y.2)
expr_stands names (choice n c a b) d ts r y = expr_stands names c d ts y.0 (inside_sinks true (outlines.expr names c) d ts y.0 y.2)
expr_stands names (comma n a b) d ts r y = expr_stands names a d ts y.0 (inside_sinks true (outlines.expr names a) d ts y.0 y.2)
expr_stands names (call n f es) d ts r y = expr_stands names f d ts y.2.0 (inside_sinks true (outlines.expr names f) d ts y.2.0 y.2.2) ∙ sym y.1
expr_stands names (member n e x) d ts r y = expr_stands names e d ts y.0 (inside_sinks true (outlines.expr names e) d ts y.0 y.2)
expr_stands names (arrow n e x) d ts r y = expr_stands names e d ts y.0 (inside_sinks true (outlines.expr names e) d ts y.0 y.2)
expr_stands names (index n a i) d ts r y = expr_stands names a d ts y.0 (inside_sinks true (outlines.expr names a) d ts y.0 y.2)
expr_stands names (cast n t e) d ts r y = token_stands (Unit {0}) (kind.Punct the_punct.LeftParen) n (after (outlines.expr names (cast n t e))) d ts r y
expr_stands names (size_expr n e) d ts r y = token_stands (Unit {0}) (kind.Keyword the_keyword.Sizeof) n (after (outlines.expr names (size_expr n e))) d ts r y
expr_stands names (size_type n t) d ts r y = token_stands (Unit {0}) (kind.Keyword the_keyword.Sizeof) n (after (outlines.expr names (size_type n t))) d ts r y

-- ---- Declarators

-- neither a specifier, `{` nor `;` comes next
pub record BeginsDeclarator (names : Names) (ts : List Token) : Type 0 where
  pub no_spec : starts_spec names ts ≡ false
  pub no_brace : next_is the_punct.LeftBrace ts ≡ false
  pub no_semicolon : next_is the_punct.Semicolon ts ≡ false

begins_at : (names : Names) (h : Type 0) (k : TokenKind) (n : Option Spot) (i : Outline) (d : ℕ) (ts r : List Token) → is_spec (spec_kind names k) ≡ false → is_punct the_punct.LeftBrace k ≡ false → is_punct the_punct.Semicolon k ≡ false
    → Reads (token h k n i) d ts r → BeginsDeclarator names ts
begins_at names h k n i d ts r a b c x = record {
  no_spec = at_token (starts_spec names) (λ q. is_spec (spec_kind names q)) (λ t us. refl) h k n i d ts r x ∙ a;
  no_brace = at_token (next_is the_punct.LeftBrace) (is_punct the_punct.LeftBrace) (λ t us. refl) h k n i d ts r x ∙ b;
  no_semicolon = at_token (next_is the_punct.Semicolon) (is_punct the_punct.Semicolon) (λ t us. refl) h k n i d ts r x ∙ c;
}

declarator_begins : (names : Names) (f : DeclTree Spot) (d : ℕ) (ts r : List Token) → outlines.is_named f ≡ true → Reads (outlines.declarator names f) d ts r → BeginsDeclarator names ts
declarator_begins names (declared n y) d ts r h x =
    let t = next_token (is_type names y ≡ false) (kind.Identifier y) (Some n) end d ts r x in
    begins_at names (is_type names y ≡ false) (kind.Identifier y) (Some n) end d ts r (not_named names y t.holds) refl refl x
declarator_begins names nameless d ts r h x = absurd cc
declarator_begins names (pointer n c f) d ts r h x = begins_at names (Unit {0}) (kind.Punct the_punct.Star) (outlines.opening_spot f n) (after (inside (outlines.declarator names (pointer n c f)))) d ts x.0 refl refl refl x.2
declarator_begins names (array n f e) d ts r h x = declarator_begins names f d ts x.2.0 h (inside_sinks (outlines.is_written f) (outlines.declarator names f) d ts x.2.0 x.2.2)
declarator_begins names (function n f ps) d ts r h x = declarator_begins names f d ts x.2.0 h (inside_sinks (outlines.is_written f) (outlines.declarator names f) d ts x.2.0 x.2.2)
declarator_begins names (grouped n f) d ts r h x = begins_at names (Unit {0}) (kind.Punct the_punct.LeftParen) (outlines.opening_spot f n) (after (inside (outlines.declarator names (grouped n f)))) d ts x.0 refl refl refl x.2

pub named_begins : (names : Names) (f : DeclTree Spot) (d : ℕ) (ts r : List Token) → outlines.is_named f ≡ true → ReadsDeclarator names d f ts r → BeginsDeclarator names ts
named_begins names f d ts r h x = declarator_begins names f d ts r h (inside_sinks (outlines.is_written f) (outlines.declarator names f) d ts r x)
