-- What a keyword that comes next tells, and what the first token of an expression and of a specifier tells of statements.
use Rattle.std.proofs.Common.{◌≡◌, refl, true, false, List, [], ◌∷◌, ◌∙◌}
use Rattle.cc_lex.specs.declared.token.Token.{Token}
use Rattle.cc_lex.specs.declared.token.TokenKind.{TokenKind}
use Rattle.cc_lex.specs.declared.token.TokenKind.TheVariants as kind
use Rattle.cc_lex.specs.declared.keyword.Keyword.{Keyword}
use Rattle.cc_lex.specs.declared.keyword.Keyword.TheVariants as the_keyword
use Rattle.cc_lex.specs.declared.punct.Punct.{Punct}
use Rattle.cc_lex.specs.declared.punct.Punct.TheVariants as the_punct
use Rattle.cc_grammar.specs.Names.{Names}
use Rattle.cc_grammar.specs.Classes.{same_keyword, is_punct, is_keyword, next_is, next_is_keyword, start_punct, start_keyword, start_kind, spec_keyword, spec_kind, is_spec, starts_spec, begins_other, stmt_punct, stmt_keyword, stmt_kind, stmt_start}
use Rattle.cc_parse_laws.proofs.Peeks.{at_punct, at_keyword}
use Rattle.cc_parse_laws.proofs.Firsts.{opens, OpensExpr}

pub punct_stmt : (s : Punct) (ts : List Token) → next_is s ts ≡ true → stmt_start ts ≡ stmt_punct s
punct_stmt s ts e = at_punct stmt_start stmt_kind (λ t us. refl) s ts e

-- ---- A keyword

pub keyword_other : (v w : Keyword) (ts : List Token) → same_keyword v w ≡ false → next_is_keyword w ts ≡ true → next_is_keyword v ts ≡ false
keyword_other v w ts other e = at_keyword (next_is_keyword v) (is_keyword v) (λ t us. refl) w ts e ∙ other

pub keyword_punct : (q : Punct) (w : Keyword) (ts : List Token) → next_is_keyword w ts ≡ true → next_is q ts ≡ false
keyword_punct q w ts e = at_keyword (next_is q) (is_punct q) (λ t us. refl) w ts e

pub keyword_spec : (names : Names) (w : Keyword) (ts : List Token) → is_spec (spec_keyword w) ≡ false → next_is_keyword w ts ≡ true → starts_spec names ts ≡ false
keyword_spec names w ts other e = at_keyword (starts_spec names) (λ c. is_spec (spec_kind names c)) (λ t us. refl) w ts e ∙ other

pub keyword_stmt : (w : Keyword) (ts : List Token) → next_is_keyword w ts ≡ true → stmt_start ts ≡ stmt_keyword w
keyword_stmt w ts e = at_keyword stmt_start stmt_kind (λ t us. refl) w ts e

-- ---- A specifier

spec_keyword_else : (w : Keyword) → is_spec (spec_keyword w) ≡ true → same_keyword the_keyword.Else w ≡ false
spec_keyword_else the_keyword.Else e = absurd cc
spec_keyword_else _ e = refl

spec_kind_else : (names : Names) (x : TokenKind) → is_spec (spec_kind names x) ≡ true → is_keyword the_keyword.Else x ≡ false
spec_kind_else names (kind.Punct t) e = refl
spec_kind_else names (kind.Keyword w) e = spec_keyword_else w e
spec_kind_else names (kind.Identifier x) e = refl
spec_kind_else names (kind.Integer v c) e = refl
spec_kind_else names (kind.Character v) e = refl
spec_kind_else names (kind.Str bytes) e = refl

-- `else` begins none
pub spec_no_else : (names : Names) (ts : List Token) → starts_spec names ts ≡ true → next_is_keyword the_keyword.Else ts ≡ false
spec_no_else names [] e = refl
spec_no_else names (t ∷ ts) e = spec_kind_else names t.kind e

-- ---- An expression

start_keyword_stmt : (w : Keyword) → opens (start_keyword w) ≡ true → stmt_keyword w ≡ begins_other
start_keyword_stmt the_keyword.Sizeof h = refl
start_keyword_stmt _ h = absurd cc

start_punct_stmt : (s : Punct) → opens (start_punct s) ≡ true → stmt_punct s ≡ begins_other
start_punct_stmt the_punct.LeftBrace h = absurd cc
start_punct_stmt the_punct.Semicolon h = absurd cc
start_punct_stmt _ h = refl

kind_other : (x : TokenKind) → opens (start_kind x) ≡ true → stmt_kind x ≡ begins_other
kind_other (kind.Punct t) h = start_punct_stmt t h
kind_other (kind.Keyword w) h = start_keyword_stmt w h
kind_other (kind.Identifier x) h = refl
kind_other (kind.Integer v c) h = refl
kind_other (kind.Character v) h = refl
kind_other (kind.Str bytes) h = refl

-- no other statement begins as one
pub expr_other : (names : Names) (ts : List Token) → OpensExpr names ts → stmt_start ts ≡ begins_other
expr_other names [] x = refl
expr_other names (t ∷ ts) x = kind_other t.kind x.begins

start_keyword_else : (w : Keyword) → opens (start_keyword w) ≡ true → same_keyword the_keyword.Else w ≡ false
start_keyword_else the_keyword.Sizeof h = refl
start_keyword_else _ h = absurd cc

kind_no_else : (x : TokenKind) → opens (start_kind x) ≡ true → is_keyword the_keyword.Else x ≡ false
kind_no_else (kind.Punct t) h = refl
kind_no_else (kind.Keyword w) h = start_keyword_else w h
kind_no_else (kind.Identifier x) h = refl
kind_no_else (kind.Integer v c) h = refl
kind_no_else (kind.Character v) h = refl
kind_no_else (kind.Str bytes) h = refl

pub expr_no_else : (names : Names) (ts : List Token) → OpensExpr names ts → next_is_keyword the_keyword.Else ts ≡ false
expr_no_else names [] x = refl
expr_no_else names (t ∷ ts) x = kind_no_else t.kind x.begins
