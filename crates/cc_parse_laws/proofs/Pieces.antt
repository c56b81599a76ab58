-- Pieces of declarations and statements as they are read, over readers of expressions, specifiers and declarators that read
-- what is there.
use Rattle.std.proofs.Common.{◌≡◌, ◌<◌, refl, ℕ, zero, suc, true, List, Option, None, Ok, arith, subst}
use Rattle.cc_base.specs.declared.place.Spot.{Spot}
use Rattle.cc_lex.specs.declared.token.Token.{Token}
use Rattle.cc_lex.specs.declared.token.TokenKind.TheVariants as kind
use Rattle.cc_lex.specs.declared.keyword.Keyword.{Keyword}
use Rattle.cc_lex.specs.declared.punct.Punct.{Punct}
use Rattle.cc_lex.specs.declared.punct.Punct.TheVariants as the_punct
use Rattle.cc_tree.specs.Trees.{ExprTree, SpecTrees, StmtTree}
use Rattle.cc_grammar.specs.Outline.{Outline, end, token, part, FitsSpot}
use Rattle.cc_grammar.specs.Outlines as outlines
use Rattle.cc_grammar.specs.Names.{Names}
use Rattle.cc_grammar.specs.Classes.{next_is, next_is_keyword, skip, spot, tail_punct, binds}
use Rattle.cc_grammar.specs.Outcomes.{Parser, take, take_keyword}
use Rattle.cc_grammar.specs.Reading.{readers, condition}
use Rattle.cc_parse_laws.proofs.Spans.{Inside, Reads}
use Rattle.cc_parse_laws.proofs.Steps.{next_token, reads_next, reads_next_keyword, reads_take, reads_take_keyword}
use Rattle.cc_parse_laws.proofs.Inner.{CompleteInner, Ends, EndsSpecs}
use Rattle.cc_parse_laws.proofs.Peeks.{punct_ends}

-- a step reads this, and the rest of the outline is what comes after
pub record Got {A : Type 0} (read : Parser A) (a : A) (o : Outline) (d : ℕ) (ts r : List Token) : Type 0 where
  pub rest : List Token
  pub reads : read ts ≡ Ok (a, rest)
  pub then : Reads o d rest r

-- what counts leaves one less of the depth
pub at_depth : (C : ℕ → Type 0) (h : Type 0) (i : Outline) (d : ℕ) (ts r : List Token) → Reads (part true h i end) d ts r → ((e : ℕ) → h → Reads i e ts r → C (suc e)) → C d
at_depth C h i zero ts r x give = absurd x.2
at_depth C h i (suc e) ts r x give = give e x.1 (subst (λ m. Reads i e ts m) x.3 x.2)

-- a punctuator comes next, or a keyword
pub record Comes (s : Punct) (n : Option Spot) (i : Outline) (d : ℕ) (ts r : List Token) : Type 0 where
  pub is : next_is s ts ≡ true
  pub taken : take s ts ≡ Ok (tt, skip ts)
  pub at : FitsSpot n (spot ts)
  pub then : Reads i d (skip ts) r

pub comes : (s : Punct) (n : Option Spot) (i : Outline) (d : ℕ) (ts r : List Token) → Reads (token (Unit {0}) (kind.Punct s) n i) d ts r → Comes s n i d ts r
comes s n i d ts r x =
    let t = next_token (Unit {0}) (kind.Punct s) n i d ts r x in
    record { is = reads_next (Unit {0}) s n i d ts r x; taken = reads_take (Unit {0}) s n i d ts r x; at = t.at; then = t.after }

pub record ComesKey (w : Keyword) (n : Option Spot) (h : Type 0) (i : Outline) (d : ℕ) (ts r : List Token) : Type 0 where
  pub holds : h
  pub is : next_is_keyword w ts ≡ true
  pub taken : take_keyword w ts ≡ Ok (tt, skip ts)
  pub at : FitsSpot n (spot ts)
  pub then : Reads i d (skip ts) r

pub comes_keyword : (w : Keyword) (n : Option Spot) (h : Type 0) (i : Outline) (d : ℕ) (ts r : List Token) → Reads (token h (kind.Keyword w) n i) d ts r → ComesKey w n h i d ts r
comes_keyword w n h i d ts r x =
    let t = next_token h (kind.Keyword w) n i d ts r x in
    record { holds = t.holds; is = reads_next_keyword h w n i d ts r x; taken = reads_take_keyword h w n i d ts r x; at = t.at; then = t.after }

-- the last part of an outline ends with it
pub only : (i : Outline) (d : ℕ) (ts r : List Token) → Reads (outlines.within i end) d ts r → Reads i d ts r
only i d ts r x = subst (λ m. Reads i d ts m) x.3 x.2

pub only_counted : (h : Type 0) (i : Outline) (d : ℕ) (ts r : List Token) → Reads (part true h i end) d ts r → h × Inside true (λ e. Reads i e ts r) d
only_counted h i d ts r x = (x.1, subst (λ m. Inside true (λ e. Reads i e ts m) d) x.3 x.2)

module _ (readers_complete : (names : Names) (d : ℕ) → CompleteInner names (readers names d) d) where
  -- an expression before a punctuator that ends it
  pub got_expr : (names : Names) (d least : ℕ) (e : ExprTree Spot) (s : Punct) (i : Outline) (ts r : List Token) → binds (tail_punct s) < least
      → Reads (outlines.operand least e (outlines.expr names e) (outlines.punct s i)) d ts r → Got ((readers names d).expr least) e (outlines.punct s i) d ts r
  got_expr names d least e s i ts r h x =
      let ends : Ends least x.0 = punct_ends least s x.0 h (reads_next (Unit {0}) s None i d x.0 r x.3) in
      record { rest = x.0; reads = (readers_complete names d).expr least e ts x.0 x.1 x.2 ends; then = x.3 }

  -- specifiers, where what comes after goes on with none
  pub got_specs : (names : Names) (d : ℕ) (ss : SpecTrees Spot) (n : Spot) (i : Outline) (ts r : List Token) → outlines.BeginAt ss n → ((m : List Token) → Reads i d m r → EndsSpecs names m)
      → Reads (outlines.within (outlines.specs names ss) i) d ts r → Got (readers names d).specs ss i d ts r
  got_specs names d ss n i ts r b ends x = record { rest = x.0; reads = (readers_complete names d).specs ss n ts x.0 b x.2 (ends x.0 x.3); then = x.3 }

  -- an expression in parentheses
  pub got_condition : (inner : Names → Parser (StmtTree Spot)) (names : Names) (d : ℕ) (c : ExprTree Spot) (i : Outline) (ts r : List Token)
      → Reads (outlines.punct the_punct.LeftParen (outlines.operand 1 c (outlines.expr names c) (outlines.punct the_punct.RightParen i))) d ts r → Got (condition inner d names) c i d ts r
  got_condition inner names d c i ts r x =
      let a = comes the_punct.LeftParen None (outlines.operand 1 c (outlines.expr names c) (outlines.punct the_punct.RightParen i)) d ts r x in
      let e = got_expr names d 1 c the_punct.RightParen i (skip ts) r (omega arith) a.then in
      let b = comes the_punct.RightParen None i d e.rest r e.then in
      record { rest = skip e.rest; reads = rw (a.taken, e.reads, b.taken) refl; then = b.then }
