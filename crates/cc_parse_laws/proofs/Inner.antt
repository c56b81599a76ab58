-- What is shown of the readers of what stands in a counted node: that what they read is there, and that what is there is read.
use Rattle.std.proofs.Common.{◌≡◌, ◌≤◌, ◌<◌, ℕ, true, false, List, None, Ok}
use Rattle.cc_base.specs.declared.place.Spot.{Spot}
use Rattle.cc_lex.specs.declared.token.Token.{Token}
use Rattle.cc_lex.specs.declared.keyword.Keyword.TheVariants as the_keyword
use Rattle.cc_lex.specs.declared.punct.Punct.TheVariants as the_punct
use Rattle.cc_tree.specs.Trees.{ExprTree, SpecTrees, DeclTree}
use Rattle.cc_grammar.specs.Levels.{level}
use Rattle.cc_grammar.specs.Names.{Names}
use Rattle.cc_grammar.specs.Outlines as outlines
use Rattle.cc_grammar.specs.Classes.{next_is, next_is_keyword, next_ident, next_literal, spot, starts_spec, tail, binds}
use Rattle.cc_grammar.specs.Reading.{Inner, Mode, with_name, without_name, with_or_without}
use Rattle.cc_parse_laws.proofs.Spans.{Inside, Reads}

-- an expression, itself counted
abbrev pub ReadsExpr : Names → ℕ → ExprTree Spot → List Token → List Token → Type 0
ReadsExpr names d e ts r = Inside true (λ f. Reads (outlines.expr names e) f ts r) d

-- a declarator, itself counted where it is written
abbrev pub ReadsDeclarator : Names → ℕ → DeclTree Spot → List Token → List Token → Type 0
ReadsDeclarator names d f ts r = Inside (outlines.is_written f) (λ e. Reads (outlines.declarator names f) e ts r) d

-- with a name, without one, or either
abbrev pub Suits : Mode → DeclTree Spot → Type 0
Suits with_name f = outlines.is_named f ≡ true
Suits without_name f = outlines.is_named f ≡ false
Suits with_or_without f = Unit {0}

-- what is read is there
pub record SoundInner (names : Names) (inner : Inner) (d : ℕ) : Type 0 where
  pub expr : (least : ℕ) → least ≤ 15 → (ts : List Token) (x : ExprTree Spot × List Token) → inner.expr least ts ≡ Ok x → (least ≤ level x.0) × ReadsExpr names d x.0 ts x.1
  pub specs : (ts : List Token) (x : SpecTrees Spot × List Token) → inner.specs ts ≡ Ok x → outlines.BeginAt x.0 (spot ts) × Reads (outlines.specs names x.0) d ts x.1
  pub declarator : (mode : Mode) (ts : List Token) (x : DeclTree Spot × List Token) → inner.declarator mode ts ≡ Ok x → Suits mode x.0 × ReadsDeclarator names d x.0 ts x.1

-- a token that binds less than this follows, or none, and no string literal, which would go on with one
pub record Ends (n : ℕ) (r : List Token) : Type 0 where
  pub looser : binds (tail r) < n
  pub no_literal : next_literal r ≡ None

-- no token follows that could go on with specifiers
pub record EndsSpecs (names : Names) (r : List Token) : Type 0 where
  pub no_spec : starts_spec names r ≡ false
  pub no_brace : next_is the_punct.LeftBrace r ≡ false

-- no token follows that could go on with a declarator, or begin one
pub record EndsDeclarator (r : List Token) : Type 0 where
  pub no_bracket : next_is the_punct.LeftBracket r ≡ false
  pub no_paren : next_is the_punct.LeftParen r ≡ false
  pub no_star : next_is the_punct.Star r ≡ false
  pub no_name : next_ident r ≡ None
  pub no_const : next_is_keyword the_keyword.Const r ≡ false

-- what is there is read
pub record CompleteInner (names : Names) (inner : Inner) (d : ℕ) : Type 0 where
  pub expr : (least : ℕ) (e : ExprTree Spot) (ts r : List Token) → least ≤ level e → ReadsExpr names d e ts r → Ends least r → inner.expr least ts ≡ Ok (e, r)
  pub specs : (ss : SpecTrees Spot) (n : Spot) (ts r : List Token) → outlines.BeginAt ss n → Reads (outlines.specs names ss) d ts r → EndsSpecs names r → inner.specs ts ≡ Ok (ss, r)
  pub declarator : (mode : Mode) (f : DeclTree Spot) (ts r : List Token) → Suits mode f → ReadsDeclarator names d f ts r → EndsDeclarator r → inner.declarator mode ts ≡ Ok (f, r)
