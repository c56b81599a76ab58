-- Statements are read back, production by production, over the statements that stand in them.
use Rattle.std.proofs.Common.{◌≡◌, ◌≤◌, ◌<◌, refl, ℕ, suc, true, false, List, Option, Some, None, Ok, arith, sym, ◌∙◌, subst}
use Rattle.cc_base.specs.declared.place.Spot.{Spot}
use Rattle.cc_lex.specs.declared.token.Token.{Token}
use Rattle.cc_lex.specs.declared.keyword.Keyword.TheVariants as the_keyword
use Rattle.cc_lex.specs.declared.punct.Punct.{Punct}
use Rattle.cc_lex.specs.declared.punct.Punct.TheVariants as the_punct
use Rattle.cc_tree.specs.Trees.{ExprTree, DeclarationTree, declaration, StartTree, start_declaration, start_expr, no_start, StmtTree, compound, plain, empty, if_then, if_else, switch, while_loop, do_loop, for_loop, break, continue, return, BlockTree, block}
use Rattle.cc_grammar.specs.Outline.{Outline, end}
use Rattle.cc_grammar.specs.Outlines as outlines
use Rattle.cc_grammar.specs.Levels.{level}
use Rattle.cc_grammar.specs.Names.{Names, after_start, after_stmt}
use Rattle.cc_grammar.specs.Classes.{next_is, next_is_keyword, skip, spot, tail_punct, binds, start_punct, begins_nothing, starts_spec}
use Rattle.cc_grammar.specs.Outcomes.{Parser}
use Rattle.cc_grammar.specs.Reading.{readers, body, clause_until, start_clause, stmt}
use Rattle.cc_parse_laws.proofs.Spans.{Reads}
use Rattle.cc_parse_laws.proofs.Inner.{CompleteInner}
use Rattle.cc_parse_laws.proofs.Peeks.{after, inside, punct_spec, punct_ends}
use Rattle.cc_parse_laws.proofs.Firsts.{inside_sinks, first_operand, opens_not, first_specs}
use Rattle.cc_parse_laws.proofs.Nexts.{punct_stmt, keyword_other, keyword_stmt, expr_other}
use Rattle.cc_parse_laws.proofs.FirstTokens.{expr_stands}
use Rattle.cc_parse_laws.proofs.Pieces.{Got, only, only_counted, at_depth, comes, comes_keyword, got_expr, got_condition}
use Rattle.cc_parse_laws.proofs.CompleteDeclarations.{declaration_again}

-- The statement is read back wherever it stands, but not before an `else` that it would take.
abbrev pub IsStmt : StmtTree Spot → Type 0
IsStmt s = (names : Names) (d : ℕ) (ts r : List Token) → Reads (outlines.stmt names s) d ts r → (outlines.is_open s ≡ true → next_is_keyword the_keyword.Else r ≡ false) → stmt d names ts ≡ Ok (s, r)

-- ---- Statements of a few tokens

pub empty_again : (names : Names) (d : ℕ) (n : Spot) (ts r : List Token) → Reads (inside (outlines.stmt names (empty n))) d ts r → stmt (suc d) names ts ≡ Ok (empty n, r)
empty_again names d n ts r x =
    let semicolon = comes the_punct.Semicolon (Some n) end d ts r x in
    rw (punct_stmt the_punct.Semicolon ts semicolon.is, semicolon.at, semicolon.then) refl

pub break_again : (names : Names) (d : ℕ) (n : Spot) (ts r : List Token) → Reads (inside (outlines.stmt names (break n))) d ts r → stmt (suc d) names ts ≡ Ok (break n, r)
break_again names d n ts r x =
    let word = comes_keyword the_keyword.Break (Some n) (Unit {0}) (after (inside (outlines.stmt names (break n)))) d ts r x in
    let semicolon = comes the_punct.Semicolon None end d (skip ts) r word.then in
    rw (keyword_stmt the_keyword.Break ts word.is, word.at, semicolon.taken, semicolon.then) refl

pub continue_again : (names : Names) (d : ℕ) (n : Spot) (ts r : List Token) → Reads (inside (outlines.stmt names (continue n))) d ts r → stmt (suc d) names ts ≡ Ok (continue n, r)
continue_again names d n ts r x =
    let word = comes_keyword the_keyword.Continue (Some n) (Unit {0}) (after (inside (outlines.stmt names (continue n)))) d ts r x in
    let semicolon = comes the_punct.Semicolon None end d (skip ts) r word.then in
    rw (keyword_stmt the_keyword.Continue ts word.is, word.at, semicolon.taken, semicolon.then) refl

-- a block behind `switch (..)`, or the body of a function
pub body_again : (names : Names) (d : ℕ) (b : BlockTree Spot) (ts r : List Token) → IsStmt (compound b) → Reads (outlines.block_of names b) d ts r → (next_is the_punct.LeftBrace ts ≡ true) × (body (stmt d) d names ts ≡ Ok (b, r))
body_again names d (block n is) ts r again x =
    let y = only_counted (Unit {0}) (inside (outlines.block_of names (block n is))) d ts r x in
    let brace = comes the_punct.LeftBrace (Some n) (after (inside (outlines.block_of names (block n is)))) d ts r (inside_sinks true (inside (outlines.block_of names (block n is))) d ts r y.1) in
    (brace.is, rw (brace.is, again names d ts r x (λ e. absurd cc)) refl)

module _ (readers_complete : (names : Names) (d : ℕ) → CompleteInner names (readers names d) d) where
  -- ---- Clauses

  -- an expression or none, up to a punctuator
  pub got_clause : (inner : Names → Parser (StmtTree Spot)) (names : Names) (d : ℕ) (c : Option (ExprTree Spot)) (s : Punct) (i : Outline) (ts r : List Token) → binds (tail_punct s) < 1 → start_punct s ≡ begins_nothing
      → Reads (outlines.within (outlines.clause names c) (outlines.punct s i)) d ts r → Got (clause_until inner d names (next_is s)) c (outlines.punct s i) d ts r
  got_clause inner names d None s i ts r h none x =
      let here = comes s None i d ts r (subst (λ m. Reads (outlines.punct s i) d m r) (sym x.2) x.3) in
      record { rest = x.0; reads = rw (here.is, x.2) refl; then = x.3 }
  got_clause inner names d (Some e) s i ts r h none x =
      let y = only_counted (1 ≤ level e) (outlines.expr names e) d ts x.0 x.2 in
      let there = comes s None i d x.0 r x.3 in
      let other : next_is s ts ≡ false = opens_not names s ts none (first_operand names e d ts x.0 y.1) in
      let read : (readers names d).expr 1 ts ≡ Ok (e, x.0) = (readers_complete names d).expr 1 e ts x.0 y.0 y.1 (punct_ends 1 s x.0 h there.is) in
      record { rest = x.0; reads = rw (other, read) refl; then = x.3 }

  start_declaration_again : (inner : Names → Parser (StmtTree Spot)) (names : Names) (d : ℕ) (a : DeclarationTree Spot) (ts r : List Token) → outlines.declaration_spot a → Reads (outlines.declaration_of names a) d ts r
      → start_clause inner (suc d) names ts ≡ Ok (start_declaration a, r)
  start_declaration_again inner names d (declaration n ss is) ts r b x =
      let starts : starts_spec names ts ≡ true = (first_specs names ss n d ts x.0 b x.2).0 in
      rw (starts, declaration_again readers_complete names d n ss is ts r b x) refl

  pub start_again : (inner : Names → Parser (StmtTree Spot)) (names : Names) (d : ℕ) (a : StartTree Spot) (ts r : List Token) → Reads (outlines.start_of names a) d ts r → start_clause inner d names ts ≡ Ok (a, r)
  start_again inner names d (start_declaration a) ts r x =
      at_depth (λ e. start_clause inner e names ts ≡ Ok (start_declaration a, r)) (outlines.declaration_spot a) (outlines.declaration_of names a) d ts r x (λ e b y. start_declaration_again inner names e a ts r b y)
  start_again inner names d (start_expr e) ts r x =
      let read = got_expr readers_complete names d 1 e the_punct.Semicolon end ts r (omega arith) x in
      let begins = first_operand names e d ts x.0 x.2 in
      let semicolon = comes the_punct.Semicolon None end d read.rest r read.then in
      rw (begins.no_spec, opens_not names the_punct.Semicolon ts refl begins, read.reads, semicolon.taken, semicolon.then) refl
  start_again inner names d no_start ts r x =
      let semicolon = comes the_punct.Semicolon None end d ts r x in
      rw (punct_spec names the_punct.Semicolon ts semicolon.is, semicolon.is, semicolon.then) refl

  -- ---- Statements with expressions

  pub plain_again : (names : Names) (d : ℕ) (n : Spot) (e : ExprTree Spot) (ts r : List Token) → n ≡ outlines.begins e → Reads (inside (outlines.stmt names (plain n e))) d ts r → stmt (suc d) names ts ≡ Ok (plain n e, r)
  plain_again names d n e ts r at x =
      let stands : spot ts ≡ n = expr_stands names e d ts x.0 (inside_sinks true (outlines.expr names e) d ts x.0 x.2) ∙ sym at in
      let read = got_expr readers_complete names d 1 e the_punct.Semicolon end ts r (omega arith) x in
      let semicolon = comes the_punct.Semicolon None end d read.rest r read.then in
      rw (expr_other names ts (first_operand names e d ts x.0 x.2), stands, read.reads, semicolon.taken, semicolon.then) refl

  pub return_again : (names : Names) (d : ℕ) (n : Spot) (c : Option (ExprTree Spot)) (ts r : List Token) → Reads (inside (outlines.stmt names (return n c))) d ts r → stmt (suc d) names ts ≡ Ok (return n c, r)
  return_again names d n c ts r x =
      let word = comes_keyword the_keyword.Return (Some n) (Unit {0}) (after (inside (outlines.stmt names (return n c)))) d ts r x in
      let read = got_clause (stmt d) names d c the_punct.Semicolon end (skip ts) r (omega arith) refl word.then in
      let semicolon = comes the_punct.Semicolon None end d read.rest r read.then in
      rw (keyword_stmt the_keyword.Return ts word.is, word.at, read.reads, semicolon.taken, semicolon.then) refl

  -- ---- Statements with statements

  pub if_then_again : (names : Names) (d : ℕ) (n : Spot) (c : ExprTree Spot) (s : StmtTree Spot) (ts r : List Token) → IsStmt s → next_is_keyword the_keyword.Else r ≡ false
      → Reads (inside (outlines.stmt names (if_then n c s))) d ts r → stmt (suc d) names ts ≡ Ok (if_then n c s, r)
  if_then_again names d n c s ts r again no_else x =
      let word = comes_keyword the_keyword.If (Some n) (Unit {0}) (after (inside (outlines.stmt names (if_then n c s)))) d ts r x in
      let test = got_condition readers_complete (stmt d) names d c (outlines.within (outlines.stmt names s) end) (skip ts) r word.then in
      let inner = again names d test.rest r (only (outlines.stmt names s) d test.rest r test.then) (λ _. no_else) in
      rw (keyword_stmt the_keyword.If ts word.is, word.at, test.reads, inner, no_else) refl

  pub if_else_again : (names : Names) (d : ℕ) (n : Spot) (c : ExprTree Spot) (s t : StmtTree Spot) (ts r : List Token) → IsStmt s → IsStmt t → (outlines.is_open t ≡ true → next_is_keyword the_keyword.Else r ≡ false)
      → Reads (inside (outlines.stmt names (if_else n c s t))) d ts r → stmt (suc d) names ts ≡ Ok (if_else n c s t, r)
  if_else_again names d n c s t ts r again_s again_t ends x =
      let word = comes_keyword the_keyword.If (Some n) (Unit {0}) (after (inside (outlines.stmt names (if_else n c s t)))) d ts r x in
      let test = got_condition readers_complete (stmt d) names d c (after (after (after (after (inside (outlines.stmt names (if_else n c s t))))))) (skip ts) r word.then in
      let y = test.then in
      let other = comes_keyword the_keyword.Else None (outlines.is_open s ≡ false) (outlines.within (outlines.stmt (after_stmt s names) t) end) d y.0 r y.3 in
      let first = again_s names d test.rest y.0 y.2 (λ yes. let no_more : outlines.is_open s ≡ false = other.holds in absurd cc) in
      let second = again_t (after_stmt s names) d (skip y.0) r (only (outlines.stmt (after_stmt s names) t) d (skip y.0) r other.then) ends in
      rw (keyword_stmt the_keyword.If ts word.is, word.at, test.reads, first, other.is, second) refl

  pub switch_again : (names : Names) (d : ℕ) (n : Spot) (e : ExprTree Spot) (b : BlockTree Spot) (ts r : List Token) → IsStmt (compound b)
      → Reads (inside (outlines.stmt names (switch n e b))) d ts r → stmt (suc d) names ts ≡ Ok (switch n e b, r)
  switch_again names d n e b ts r again x =
      let word = comes_keyword the_keyword.Switch (Some n) (Unit {0}) (after (inside (outlines.stmt names (switch n e b)))) d ts r x in
      let test = got_condition readers_complete (stmt d) names d e (outlines.within (outlines.block_of names b) end) (skip ts) r word.then in
      let inner = (body_again names d b test.rest r again (only (outlines.block_of names b) d test.rest r test.then)).1 in
      rw (keyword_stmt the_keyword.Switch ts word.is, word.at, test.reads, inner) refl

  pub while_again : (names : Names) (d : ℕ) (n : Spot) (c : ExprTree Spot) (s : StmtTree Spot) (ts r : List Token) → IsStmt s → (outlines.is_open s ≡ true → next_is_keyword the_keyword.Else r ≡ false)
      → Reads (inside (outlines.stmt names (while_loop n c s))) d ts r → stmt (suc d) names ts ≡ Ok (while_loop n c s, r)
  while_again names d n c s ts r again ends x =
      let word = comes_keyword the_keyword.While (Some n) (Unit {0}) (after (inside (outlines.stmt names (while_loop n c s)))) d ts r x in
      let test = got_condition readers_complete (stmt d) names d c (outlines.within (outlines.stmt names s) end) (skip ts) r word.then in
      let inner = again names d test.rest r (only (outlines.stmt names s) d test.rest r test.then) ends in
      rw (keyword_stmt the_keyword.While ts word.is, word.at, test.reads, inner) refl

  pub do_again : (names : Names) (d : ℕ) (n : Spot) (s : StmtTree Spot) (c : ExprTree Spot) (ts r : List Token) → IsStmt s
      → Reads (inside (outlines.stmt names (do_loop n s c))) d ts r → stmt (suc d) names ts ≡ Ok (do_loop n s c, r)
  do_again names d n s c ts r again x =
      let word = comes_keyword the_keyword.Do (Some n) (Unit {0}) (after (inside (outlines.stmt names (do_loop n s c)))) d ts r x in
      let y = word.then in
      let loop = comes_keyword the_keyword.While None (Unit {0}) (after (after (after (inside (outlines.stmt names (do_loop n s c)))))) d y.0 r y.3 in
      let inner = again names d (skip ts) y.0 y.2 (λ _. keyword_other the_keyword.Else the_keyword.While y.0 refl loop.is) in
      let test = got_condition readers_complete (stmt d) (after_stmt s names) d c (outlines.punct the_punct.Semicolon end) (skip y.0) r loop.then in
      let semicolon = comes the_punct.Semicolon None end d test.rest r test.then in
      rw (keyword_stmt the_keyword.Do ts word.is, word.at, inner, loop.taken, test.reads, semicolon.taken, semicolon.then) refl

  pub for_again : (names : Names) (d : ℕ) (n : Spot) (a : StartTree Spot) (test each : Option (ExprTree Spot)) (s : StmtTree Spot) (ts r : List Token) → IsStmt s → (outlines.is_open s ≡ true → next_is_keyword the_keyword.Else r ≡ false)
      → Reads (inside (outlines.stmt names (for_loop n a test each s))) d ts r → stmt (suc d) names ts ≡ Ok (for_loop n a test each s, r)
  for_again names d n a test each s ts r again ends x =
      let i = after (inside (outlines.stmt names (for_loop n a test each s))) in
      let known = after_start a names in
      let word = comes_keyword the_keyword.For (Some n) (Unit {0}) i d ts r x in
      let paren = comes the_punct.LeftParen None (after i) d (skip ts) r word.then in
      let y = paren.then in
      let first = start_again (stmt d) names d a (skip (skip ts)) y.0 y.2 in
      let second = got_clause (stmt d) known d test the_punct.Semicolon (after (after (after (after i)))) y.0 r (omega arith) refl y.3 in
      let semicolon = comes the_punct.Semicolon None (after (after (after (after i)))) d second.rest r second.then in
      let third = got_clause (stmt d) known d each the_punct.RightParen (outlines.within (outlines.stmt known s) end) (skip second.rest) r (omega arith) refl semicolon.then in
      let close = comes the_punct.RightParen None (outlines.within (outlines.stmt known s) end) d third.rest r third.then in
      let inner = again known d (skip third.rest) r (only (outlines.stmt known s) d (skip third.rest) r close.then) ends in
      rw (keyword_stmt the_keyword.For ts word.is, word.at, paren.taken, first, second.reads, semicolon.taken, third.reads, close.taken, inner) refl
