-- What is read as a statement is there, and no `else` stands behind one that it would belong to.
use Rattle.std.proofs.Common.{◌≡◌, refl, ℕ, zero, suc, Bool, true, false, List, [], ◌∷◌, Option, Some, None, Ok, arith, sym, subst, inl, inr}
use Rattle.cc_base.specs.declared.place.Spot.{Spot}
use Rattle.cc_lex.specs.declared.token.Token.{Token}
use Rattle.cc_lex.specs.declared.token.TokenKind.TheVariants as kind
use Rattle.cc_lex.specs.declared.keyword.Keyword.{Keyword}
use Rattle.cc_lex.specs.declared.keyword.Keyword.TheVariants as the_keyword
use Rattle.cc_lex.specs.declared.punct.Punct.TheVariants as the_punct
use Rattle.cc_tree.specs.Trees.{ExprTree, StartTree, StmtTree, compound, plain, empty, if_then, if_else, switch, while_loop, do_loop, for_loop, break, continue, return, block}
use Rattle.cc_tree.specs.Views.{gathered_items}
use Rattle.cc_grammar.specs.Outline.{Outline, end, token, part, ◌▸◌}
use Rattle.cc_grammar.specs.Outlines as outlines
use Rattle.cc_grammar.specs.Names.{Names, after_start, after_stmt}
use Rattle.cc_grammar.specs.Classes.{next_is, next_is_keyword, skip, spot, StmtStart, begins_block, begins_empty, begins_if, begins_switch, begins_while, begins_do, begins_for, begins_break, begins_continue, begins_return, begins_case, begins_default, begins_other, stmt_start}
use Rattle.cc_grammar.specs.Outcomes.{Parser, and_then, ◌>>=◌, ◌>>◌, pure, ◌<$>◌, take, take_keyword}
use Rattle.cc_grammar.specs.Reading as reads
use Rattle.cc_grammar.specs.Reading.{skipping, readers, body, items, condition, else_behind, clause_until, start_clause, for_behind, stmt_by}
use Rattle.cc_parse_laws.proofs.Spans.{Reads}
use Rattle.cc_parse_laws.proofs.Steps.{bind_ok, map_ok, ok_is, branched, next_reads, next_keyword_reads, take_reads, take_keyword_reads}
use Rattle.cc_parse_laws.proofs.Lists.{IsSound}
use Rattle.cc_parse_laws.proofs.Inner.{SoundInner}
use Rattle.cc_parse_laws.proofs.Begins.{Opens, opens}
use Rattle.cc_parse_laws.proofs.Endings.{ReadsTo, Leads, taken, last_part}
use Rattle.cc_parse_laws.proofs.SoundClauses.{expr_then, condition_sound, clause_sound, start_sound}
use Rattle.cc_parse_laws.proofs.SoundBlocks.{ReadsStmt, body_sound, items_sound}

-- an `else` behind a closed statement
else_reads : (h : Type 0) (i : Outline) (d : ℕ) (ts r : List Token) → h → next_is_keyword the_keyword.Else ts ≡ true → Reads i d (skip ts) r → Reads (token h (kind.Keyword the_keyword.Else) None i) d ts r
else_reads h i d [] r holds e s = absurd cc
else_reads h i d (t ∷ ts) r holds e s =
    let plainly : Reads (outlines.keyword the_keyword.Else i) d (t ∷ ts) r = next_keyword_reads the_keyword.Else None i d (t ∷ ts) r e tt s in
    (holds, plainly.1, plainly.2, plainly.3)

pub shut : (b c : Bool) → (b ≡ true → c ≡ false) → c ≡ true → b ≡ false
shut true c h e = absurd (let no : c ≡ false = h refl in cc)
shut false c h e = refl

-- a `for` up to the end of its first clause, up to the end of the second, and up to the end of the third
abbrev for_start : Names → Spot → StartTree Spot → Outline → Outline
for_start names n start j = outlines.keyword_of n the_keyword.For ▸ outlines.punct the_punct.LeftParen ▸ outlines.within (outlines.start_of names start) ▸ j

abbrev for_test : Names → Spot → StartTree Spot → Option (ExprTree Spot) → Outline → Outline
for_test names n start test j = for_start names n start (outlines.within (outlines.clause (after_start start names) test) ▸ j)

abbrev for_each : Names → Spot → StartTree Spot → Option (ExprTree Spot) → Option (ExprTree Spot) → Outline → Outline
for_each names n start test each j = for_test names n start test (outlines.punct the_punct.Semicolon ▸ outlines.within (outlines.clause (after_start start names) each) ▸ j)

module _ (readers_sound : (names : Names) (d : ℕ) → SoundInner names (readers names d) d) where
  module _ (inner : Names → Parser (StmtTree Spot)) (d : ℕ) (inner_sound : (names : Names) → IsSound (inner names) (ReadsStmt names d)) where
    -- what stands before the branches of an `if` is there
    else_sound : (names : Names) (n : Spot) (c : ExprTree Spot) (s : StmtTree Spot) (from middle ts : List Token) (x : StmtTree Spot × List Token)
        → Leads (λ j. outlines.keyword_of n the_keyword.If ▸ outlines.punct the_punct.LeftParen ▸ outlines.operand 1 c (outlines.expr names c) ▸ outlines.punct the_punct.RightParen ▸ j) d from middle → ReadsStmt names d s middle ts
        → else_behind inner d names n c s ts ≡ Ok x → ReadsStmt names (suc d) x.0 from x.1
    else_sound names n c s from middle ts x before first e =
        elim (branched (next_is_keyword the_keyword.Else ts) (skipping (if_else n c s <$> inner (after_stmt s names))) (pure (if_then n c s)) ts (Ok x) e) [
          | inl b ↦
              let m = map_ok (inner (after_stmt s names) (skip ts)) (if_else n c s) x b.1 in
              let second = inner_sound (after_stmt s names) (skip ts) m.0 m.1 in
              let branches = outlines.within (outlines.stmt names s) ▸ token (outlines.is_open s ≡ false) (kind.Keyword the_keyword.Else) None ▸ outlines.within (outlines.stmt (after_stmt s names) m.0.0) ▸ end in
              let other = else_reads (outlines.is_open s ≡ false) (outlines.within (outlines.stmt (after_stmt s names) m.0.0) ▸ end) d ts m.0.1 (shut (outlines.is_open s) (next_is_keyword the_keyword.Else ts) first.closed b.0) b.0 (m.0.1, tt, second.there, refl) in
              subst (ReadsTo (ReadsStmt names (suc d)) from) m.2
              (record { there = (m.0.1, tt, before branches m.0.1 (ts, tt, first.there, other), refl); closed = second.closed })
          | inr b ↦
              subst (ReadsTo (ReadsStmt names (suc d)) from) (ok_is (if_then n c s, ts) x b.1)
              (record { there = (ts, tt, before (outlines.within (outlines.stmt names s) ▸ end) ts (ts, tt, first.there, refl), refl); closed = λ h. b.0 })
        ]

    block_sound : (names : Names) (ts : List Token) (x : StmtTree Spot × List Token) → next_is the_punct.LeftBrace ts ≡ true → stmt_by inner d begins_block names (spot ts) ts ≡ Ok x → ReadsStmt names (suc d) x.0 ts x.1
    block_sound names ts x opening e =
        let m = map_ok (items inner d names (skip ts)) (λ is. compound (block (spot ts) (gathered_items is))) x e in
        let s = items_sound readers_sound inner d inner_sound names (skip ts) m.0 m.1 in
        subst (ReadsTo (ReadsStmt names (suc d)) ts) m.2
        (record { there = (m.0.1, tt, next_reads the_punct.LeftBrace (Some (spot ts)) (outlines.within (outlines.items names (gathered_items m.0.0)) ▸ outlines.punct the_punct.RightBrace ▸ end) d ts m.0.1 opening refl s, refl); closed = λ h. absurd cc })

    empty_sound : (names : Names) (ts : List Token) (x : StmtTree Spot × List Token) → next_is the_punct.Semicolon ts ≡ true → stmt_by inner d begins_empty names (spot ts) ts ≡ Ok x → ReadsStmt names (suc d) x.0 ts x.1
    empty_sound names ts x opening e =
        subst (ReadsTo (ReadsStmt names (suc d)) ts) (ok_is (empty (spot ts), skip ts) x e)
        (record { there = (skip ts, tt, next_reads the_punct.Semicolon (Some (spot ts)) end d ts (skip ts) opening refl refl, refl); closed = λ h. absurd cc })

    if_sound : (names : Names) (ts : List Token) (x : StmtTree Spot × List Token) → next_is_keyword the_keyword.If ts ≡ true → stmt_by inner d begins_if names (spot ts) ts ≡ Ok x → ReadsStmt names (suc d) x.0 ts x.1
    if_sound names ts x opening e =
        let a = bind_ok (condition inner d names (skip ts)) (λ c. inner names >>= else_behind inner d names (spot ts) c) x e in
        let b = bind_ok (inner names a.0.1) (else_behind inner d names (spot ts) a.0.0) x a.2 in
        let test = condition_sound readers_sound inner d names (skip ts) a.0 a.1 in
        let first = inner_sound names a.0.1 b.0 b.1 in
        else_sound names (spot ts) a.0.0 b.0.0 ts a.0.1 b.0.1 x
        (λ j r h. next_keyword_reads the_keyword.If (Some (spot ts)) (outlines.punct the_punct.LeftParen ▸ outlines.operand 1 a.0.0 (outlines.expr names a.0.0) ▸ outlines.punct the_punct.RightParen ▸ j) d ts r opening refl (test j r h)) first b.2

    switch_sound : (names : Names) (ts : List Token) (x : StmtTree Spot × List Token) → next_is_keyword the_keyword.Switch ts ≡ true → stmt_by inner d begins_switch names (spot ts) ts ≡ Ok x → ReadsStmt names (suc d) x.0 ts x.1
    switch_sound names ts x opening e =
        let a = bind_ok (condition inner d names (skip ts)) (λ c. switch (spot ts) c <$> body inner d names) x e in
        let m = map_ok (body inner d names a.0.1) (switch (spot ts) a.0.0) x a.2 in
        let test = condition_sound readers_sound inner d names (skip ts) a.0 a.1 in
        let inside = body_sound readers_sound inner d inner_sound names a.0.1 m.0 m.1 in
        let last = outlines.within (outlines.block_of names m.0.0) ▸ end in
        subst (ReadsTo (ReadsStmt names (suc d)) ts) m.2
        (record { there = (m.0.1, tt, next_keyword_reads the_keyword.Switch (Some (spot ts)) (outlines.punct the_punct.LeftParen ▸ outlines.operand 1 a.0.0 (outlines.expr names a.0.0) ▸ outlines.punct the_punct.RightParen ▸ last) d ts m.0.1 opening refl (test last m.0.1 (m.0.1, tt, inside, refl)), refl); closed = λ h. absurd cc })

    while_sound : (names : Names) (ts : List Token) (x : StmtTree Spot × List Token) → next_is_keyword the_keyword.While ts ≡ true → stmt_by inner d begins_while names (spot ts) ts ≡ Ok x → ReadsStmt names (suc d) x.0 ts x.1
    while_sound names ts x opening e =
        let a = bind_ok (condition inner d names (skip ts)) (λ c. while_loop (spot ts) c <$> inner names) x e in
        let m = map_ok (inner names a.0.1) (while_loop (spot ts) a.0.0) x a.2 in
        let test = condition_sound readers_sound inner d names (skip ts) a.0 a.1 in
        let inside = inner_sound names a.0.1 m.0 m.1 in
        let last = outlines.within (outlines.stmt names m.0.0) ▸ end in
        subst (ReadsTo (ReadsStmt names (suc d)) ts) m.2
        (record { there = (m.0.1, tt, next_keyword_reads the_keyword.While (Some (spot ts)) (outlines.punct the_punct.LeftParen ▸ outlines.operand 1 a.0.0 (outlines.expr names a.0.0) ▸ outlines.punct the_punct.RightParen ▸ last) d ts m.0.1 opening refl (test last m.0.1 (m.0.1, tt, inside.there, refl)), refl); closed = inside.closed })

    do_sound : (names : Names) (ts : List Token) (x : StmtTree Spot × List Token) → next_is_keyword the_keyword.Do ts ≡ true → stmt_by inner d begins_do names (spot ts) ts ≡ Ok x → ReadsStmt names (suc d) x.0 ts x.1
    do_sound names ts x opening e =
        let after : StmtTree Spot → Parser (StmtTree Spot) = (λ s. take_keyword the_keyword.While >> condition inner d (after_stmt s names) >>= (λ c. take the_punct.Semicolon >> pure (do_loop (spot ts) s c))) in
        let a = bind_ok (inner names (skip ts)) after x e in
        let first = inner_sound names (skip ts) a.0 a.1 in
        let later : Names = after_stmt a.0.0 names in
        let b = bind_ok (and_then (take_keyword the_keyword.While a.0.1) (λ z. condition inner d later)) (λ c. take the_punct.Semicolon >> pure (do_loop (spot ts) a.0.0 c)) x a.2 in
        let w = bind_ok (take_keyword the_keyword.While a.0.1) (λ z. condition inner d later) b.0 b.1 in
        let test = condition_sound readers_sound inner d later w.0.1 b.0 w.2 in
        let t = taken the_punct.Semicolon (do_loop (spot ts) a.0.0 b.0.0) d b.0.1 x b.2 in
        let last = outlines.punct the_punct.LeftParen ▸ outlines.operand 1 b.0.0 (outlines.expr later b.0.0) ▸ outlines.punct the_punct.RightParen ▸ outlines.punct the_punct.Semicolon ▸ end in
        let loops : Reads (outlines.keyword the_keyword.While ▸ last) d a.0.1 x.1 = take_keyword_reads the_keyword.While last d a.0.1 x.1 w.0 w.1 (test (outlines.punct the_punct.Semicolon ▸ end) x.1 (t.1 end x.1 refl)) in
        subst (ReadsTo (ReadsStmt names (suc d)) ts) t.0
        (record { there = (x.1, tt, next_keyword_reads the_keyword.Do (Some (spot ts)) (outlines.within (outlines.stmt names a.0.0) ▸ outlines.keyword the_keyword.While ▸ last) d ts x.1 opening refl (a.0.1, tt, first.there, loops), refl); closed = λ h. absurd cc })

    -- behind the last clause of a `for`
    loop_sound : (names : Names) (n : Spot) (start : StartTree Spot) (test each : Option (ExprTree Spot)) (from ts : List Token) (x : StmtTree Spot × List Token) → Leads (for_each names n start test each) d from ts
        → and_then (take the_punct.RightParen ts) (λ z. for_loop n start test each <$> inner (after_start start names)) ≡ Ok x → ReadsStmt names (suc d) x.0 from x.1
    loop_sound names n start test each from ts x before e =
        let later : Names = after_start start names in
        let a = bind_ok (take the_punct.RightParen ts) (λ z. for_loop n start test each <$> inner later) x e in
        let m = map_ok (inner later a.0.1) (for_loop n start test each) x a.2 in
        let inside = inner_sound later a.0.1 m.0 m.1 in
        let last = outlines.within (outlines.stmt later m.0.0) ▸ end in
        let closes : Reads (outlines.punct the_punct.RightParen ▸ last) d ts m.0.1 = take_reads the_punct.RightParen last d ts m.0.1 a.0 a.1 (last_part (outlines.stmt later m.0.0) d a.0.1 m.0.1 inside.there) in
        subst (ReadsTo (ReadsStmt names (suc d)) from) m.2 (record { there = (m.0.1, tt, before (outlines.punct the_punct.RightParen ▸ last) m.0.1 closes, refl); closed = inside.closed })

    -- behind the second clause
    each_sound : (names : Names) (n : Spot) (start : StartTree Spot) (test : Option (ExprTree Spot)) (from ts : List Token) (x : StmtTree Spot × List Token) → Leads (for_test names n start test) d from ts
        → and_then (and_then (take the_punct.Semicolon ts) (λ z. clause_until inner d (after_start start names) (next_is the_punct.RightParen))) (λ each. take the_punct.RightParen >> (for_loop n start test each <$> inner (after_start start names))) ≡ Ok x
        → ReadsStmt names (suc d) x.0 from x.1
    each_sound names n start test from ts x before e =
        let later : Names = after_start start names in
        let a = bind_ok (and_then (take the_punct.Semicolon ts) (λ z. clause_until inner d later (next_is the_punct.RightParen))) (λ each. take the_punct.RightParen >> (for_loop n start test each <$> inner later)) x e in
        let b = bind_ok (take the_punct.Semicolon ts) (λ z. clause_until inner d later (next_is the_punct.RightParen)) a.0 a.1 in
        let each = clause_sound readers_sound inner d later (next_is the_punct.RightParen) b.0.1 a.0 b.2 in
        loop_sound names n start test a.0.0 from a.0.1 x
        (λ j r h. before (outlines.punct the_punct.Semicolon ▸ outlines.within (outlines.clause later a.0.0) ▸ j) r (take_reads the_punct.Semicolon (outlines.within (outlines.clause later a.0.0) ▸ j) d ts r b.0 b.1 (a.0.1, tt, each, h))) a.2

    -- behind the first clause
    test_sound : (names : Names) (n : Spot) (start : StartTree Spot) (from ts : List Token) (x : StmtTree Spot × List Token) → Leads (for_start names n start) d from ts
        → for_behind inner d names n start ts ≡ Ok x → ReadsStmt names (suc d) x.0 from x.1
    test_sound names n start from ts x before e =
        let later : Names = after_start start names in
        let others : Option (ExprTree Spot) → Parser (StmtTree Spot) = (λ test. take the_punct.Semicolon >> clause_until inner d later (next_is the_punct.RightParen) >>= (λ each. take the_punct.RightParen >> (for_loop n start test each <$> inner later))) in
        let a = bind_ok (clause_until inner d later (next_is the_punct.Semicolon) ts) others x e in
        let test = clause_sound readers_sound inner d later (next_is the_punct.Semicolon) ts a.0 a.1 in
        each_sound names n start a.0.0 from a.0.1 x (λ j r h. before (outlines.within (outlines.clause later a.0.0) ▸ j) r (a.0.1, tt, test, h)) a.2

    for_sound : (names : Names) (ts : List Token) (x : StmtTree Spot × List Token) → next_is_keyword the_keyword.For ts ≡ true → stmt_by inner d begins_for names (spot ts) ts ≡ Ok x → ReadsStmt names (suc d) x.0 ts x.1
    for_sound names ts x opening e =
        let a = bind_ok (and_then (take the_punct.LeftParen (skip ts)) (λ z. start_clause inner d names)) (for_behind inner d names (spot ts)) x e in
        let b = bind_ok (take the_punct.LeftParen (skip ts)) (λ z. start_clause inner d names) a.0 a.1 in
        let first = start_sound readers_sound inner d names b.0.1 a.0 b.2 in
        let head : Outline → Outline = (λ j. outlines.within (outlines.start_of names a.0.0) ▸ j) in
        let paren : (j : Outline) (r : List Token) → Reads j d a.0.1 r → Reads (outlines.punct the_punct.LeftParen (head j)) d (skip ts) r = (λ j r h. take_reads the_punct.LeftParen (head j) d (skip ts) r b.0 b.1 (a.0.1, tt, first, h)) in
        test_sound names (spot ts) a.0.0 ts a.0.1 x (λ j r h. next_keyword_reads the_keyword.For (Some (spot ts)) (outlines.punct the_punct.LeftParen (head j)) d ts r opening refl (paren j r h)) a.2

    return_sound : (names : Names) (ts : List Token) (x : StmtTree Spot × List Token) → next_is_keyword the_keyword.Return ts ≡ true → stmt_by inner d begins_return names (spot ts) ts ≡ Ok x → ReadsStmt names (suc d) x.0 ts x.1
    return_sound names ts x opening e =
        let a = bind_ok (clause_until inner d names (next_is the_punct.Semicolon) (skip ts)) (λ c. take the_punct.Semicolon >> pure (return (spot ts) c)) x e in
        let s = clause_sound readers_sound inner d names (next_is the_punct.Semicolon) (skip ts) a.0 a.1 in
        let t = taken the_punct.Semicolon (return (spot ts) a.0.0) d a.0.1 x a.2 in
        subst (ReadsTo (ReadsStmt names (suc d)) ts) t.0
        (record { there = (x.1, tt, next_keyword_reads the_keyword.Return (Some (spot ts)) (outlines.within (outlines.clause names a.0.0) ▸ outlines.punct the_punct.Semicolon ▸ end) d ts x.1 opening refl (a.0.1, tt, s, t.1 end x.1 refl), refl); closed = λ h. absurd cc })

    -- a keyword and a semicolon
    jump_sound : (w : Keyword) (s : StmtTree Spot) (names : Names) (ts : List Token) (x : StmtTree Spot × List Token) → next_is_keyword w ts ≡ true → and_then (take the_punct.Semicolon (skip ts)) (λ z. pure s) ≡ Ok x
        → ((s, x.1) ≡ x) × Reads (part true (Unit {0}) (outlines.keyword_of (spot ts) w ▸ outlines.punct the_punct.Semicolon ▸ end) end) (suc d) ts x.1
    jump_sound w s names ts x opening e =
        let t = taken the_punct.Semicolon s d (skip ts) x e in
        (t.0, (x.1, tt, next_keyword_reads w (Some (spot ts)) (outlines.punct the_punct.Semicolon ▸ end) d ts x.1 opening refl (t.1 end x.1 refl), refl))

    other_sound : (names : Names) (ts : List Token) (x : StmtTree Spot × List Token) → stmt_by inner d begins_other names (spot ts) ts ≡ Ok x → ReadsStmt names (suc d) x.0 ts x.1
    other_sound names ts x e =
        let s = expr_then readers_sound names d 1 (omega arith) the_punct.Semicolon (plain (spot ts)) ts x e in
        subst (ReadsTo (ReadsStmt names (suc d)) ts) s.1
        (record { there = (x.1, sym s.3, s.2 end x.1 refl, refl); closed = λ h. absurd cc })

    by_sound : (b : StmtStart) (names : Names) (ts : List Token) (x : StmtTree Spot × List Token) → Opens b ts → stmt_by inner d b names (spot ts) ts ≡ Ok x → ReadsStmt names (suc d) x.0 ts x.1
    by_sound begins_block names ts x opening e = block_sound names ts x opening e
    by_sound begins_empty names ts x opening e = empty_sound names ts x opening e
    by_sound begins_if names ts x opening e = if_sound names ts x opening e
    by_sound begins_switch names ts x opening e = switch_sound names ts x opening e
    by_sound begins_while names ts x opening e = while_sound names ts x opening e
    by_sound begins_do names ts x opening e = do_sound names ts x opening e
    by_sound begins_for names ts x opening e = for_sound names ts x opening e
    by_sound begins_break names ts x opening e =
        let j = jump_sound the_keyword.Break (break (spot ts)) names ts x opening e in
        subst (ReadsTo (ReadsStmt names (suc d)) ts) j.0 (record { there = j.1; closed = λ h. absurd cc })
    by_sound begins_continue names ts x opening e =
        let j = jump_sound the_keyword.Continue (continue (spot ts)) names ts x opening e in
        subst (ReadsTo (ReadsStmt names (suc d)) ts) j.0 (record { there = j.1; closed = λ h. absurd cc })
    by_sound begins_return names ts x opening e = return_sound names ts x opening e
    by_sound begins_case names ts x opening e = absurd cc
    by_sound begins_default names ts x opening e = absurd cc
    by_sound begins_other names ts x opening e = other_sound names ts x e

  pub stmt_sound : (d : ℕ) (names : Names) → IsSound (reads.stmt d names) (ReadsStmt names d)
  stmt_sound zero names ts x e = absurd cc
  stmt_sound (suc d) names ts x e = by_sound (reads.stmt d) d (stmt_sound d) (stmt_start ts) names ts x (opens ts) e
