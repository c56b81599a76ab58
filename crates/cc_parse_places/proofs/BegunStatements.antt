-- Statements and blocks at which reading fails are begun.
use Rattle.std.proofs.Common.{◌≡◌, refl, ℕ, zero, suc, Bool, true, List, [], ◌∷◌, length, Option, Some, None, Ok, Err, arith, sym, ap, ◌∙◌}
use Rattle.cc_base.specs.declared.place.Spot.{Spot}
use Rattle.cc_base.specs.Spots as spots
use Rattle.cc_lex.specs.declared.token.Token.{Token}
use Rattle.cc_lex.specs.declared.keyword.Keyword.TheVariants as the_keyword
use Rattle.cc_lex.specs.declared.punct.Punct.TheVariants as the_punct
use Rattle.cc_tree.specs.Trees.{ExprTree, name, no_items, StartTree, start_declaration, start_expr, no_start, StmtTree, compound, plain, empty, if_then, if_else, switch, while_loop, do_loop, for_loop, break, continue, return, BlockTree, block, ItemTree, declares, case_label, default_label, does}
use Rattle.cc_tree.specs.Views.{gathered_items}
use Rattle.cc_grammar.specs.Names.{Names, after_start, after_stmt, after_item}
use Rattle.cc_grammar.specs.Outline.{Outline, end, ◌▸◌}
use Rattle.cc_grammar.specs.Outlines as outlines
use Rattle.cc_grammar.specs.Classes.{next_is, next_is_keyword, skip, spot, starts_spec, StmtStart, begins_block, begins_empty, begins_if, begins_switch, begins_while, begins_do, begins_for, begins_break, begins_continue, begins_return, begins_case, begins_default, begins_other, stmt_start, stmt_kind}
use Rattle.cc_grammar.specs.Outcomes.{Parser, and_then, take, take_keyword, pure, ◌<$>◌}
use Rattle.cc_grammar.specs.Reading as reader
use Rattle.cc_grammar.specs.Reading.{readers, declaration_at, counted_by}
use Rattle.cc_parse_laws.proofs.Spans.{Reads}
use Rattle.cc_parse_laws.proofs.Steps.{map_ok, next_reads, next_keyword_reads}
use Rattle.cc_parse_laws.proofs.Lists.{IsSound}
use Rattle.cc_parse_laws.proofs.Begins.{Opens, opens}
use Rattle.cc_parse_laws.proofs.Peeks.{at_punct}
use Rattle.cc_parse_laws.proofs.SoundReaders.{readers_sound}
use Rattle.cc_parse_laws.proofs.SoundClauses.{condition_sound, clause_sound, start_sound}
use Rattle.cc_parse_laws.proofs.SoundBlocks.{ReadsStmt}
use Rattle.cc_parse_laws.proofs.SoundStatements.{stmt_sound, shut}
use Rattle.cc_parse_laws.proofs.SoundBlocks.{item_sound}
use Rattle.cc_parse_places.proofs.Begun.{Begun, at, token_then, next_keyword, punct_then, keyword_then, part_in, part_past, part_of, within_in, within_past, read_past}
use Rattle.cc_parse_places.proofs.Failures.{err_is, bind_err, map_err, branch_err, take_bind, take_keyword_bind, until_err, take_bind_ok, take_keyword_bind_ok}
use Rattle.cc_parse_places.proofs.BegunTypes.{Fails}
use Rattle.cc_parse_places.proofs.BegunReaders.{readers_fail}
use Rattle.cc_parse_places.proofs.BegunDeclarations.{declaration_fails}

abbrev StmtBegun : Names → ℕ → StmtTree Spot → List Token → List Token → Type 0
StmtBegun names d s ts m = Begun (outlines.stmt names s) d ts m

abbrev ItemBegun : Names → ℕ → ItemTree Spot → List Token → List Token → Type 0
ItemBegun names d i ts m = Begun (outlines.item names i) d ts m

-- what stands where nothing is there
abbrev no_stmt : StmtTree Spot
no_stmt = empty spots.start

abbrev no_condition : ExprTree Spot
no_condition = name spots.start []

-- an expression in parentheses
abbrev tested : Names → ExprTree Spot → Outline
tested names c = outlines.punct the_punct.LeftParen ▸ outlines.operand 1 c (outlines.expr names c) ▸ outlines.punct the_punct.RightParen ▸ end

-- ---- What counts in a block

declares_fails : (d : ℕ) (names : Names) → Fails (counted_by d (λ e. declares <$> declaration_at e names)) (ItemBegun names d)
declares_fails zero names ts m e = (does no_stmt, at (err_is {A = ItemTree Spot} e))
declares_fails (suc d) names ts m e = let q = declaration_fails d names ts m (map_err _ _ e) in (declares q.0, part_in {c = true} q.1.0 q.1.1)

case_fails : (d : ℕ) (names : Names) (ts m : List Token) → next_is_keyword the_keyword.Case ts ≡ true
    → counted_by d (λ e us. and_then ((readers names e).expr 3 (skip us)) (λ x vs. and_then (take the_punct.Colon vs) (λ z. pure (case_label (spot ts) x)))) ts ≡ Err m → (i : ItemTree Spot) × ItemBegun names d i ts m
case_fails zero names ts m c e = (does no_stmt, at (err_is {A = ItemTree Spot} e))
case_fails (suc d) names ts m c e =
    let n = spot ts in
    bind_err ((readers names d).expr 3 (skip ts)) _ e
    (λ f. let q = (readers_fail names d).expr 3 (omega arith) (omega arith) (skip ts) m f in (case_label n q.0, part_in {c = true} tt (keyword_then c refl (part_of q.1 q.2))))
    (λ y ok f. let u = (readers_sound names d).expr 3 (omega arith) (skip ts) y ok in
    (case_label n y.0, part_in {c = true} tt (keyword_then c refl (part_past {c = true} y.1 u.0 u.1 (at (until_err the_punct.Colon (case_label n y.0) y.1 f))))))

default_fails : (d : ℕ) (names : Names) (ts m : List Token) → next_is_keyword the_keyword.Default ts ≡ true → counted_by d (λ e us. and_then (take the_punct.Colon (skip us)) (λ z. pure (default_label (spot ts)))) ts ≡ Err m → (i : ItemTree Spot) × ItemBegun names d i ts m
default_fails zero names ts m c e = (does no_stmt, at (err_is {A = ItemTree Spot} e))
default_fails (suc d) names ts m c e = (default_label (spot ts), part_in {c = true} tt (keyword_then c refl (at (until_err the_punct.Colon (default_label (spot ts)) (skip ts) e))))

start_declares_fails : (d : ℕ) (names : Names) → Fails (counted_by d (λ e. start_declaration <$> declaration_at e names)) (λ s ts m. Begun (outlines.start_of names s) d ts m)
start_declares_fails zero names ts m e = (no_start, at (err_is {A = StartTree Spot} e))
start_declares_fails (suc d) names ts m e = let q = declaration_fails d names ts m (map_err _ _ e) in (start_declaration q.0, part_in {c = true} q.1.0 q.1.1)

-- Over what is shown of the reader of the statements inside: what it has begun where it fails, that this is a block at a brace,
-- and that it reads one there.
module _ (inner : Names → Parser (StmtTree Spot)) (d : ℕ) (inner_sound : (names : Names) → IsSound (inner names) (ReadsStmt names d)) (inner_fails : (names : Names) → Fails (inner names) (StmtBegun names d))
    (block_fails : (names : Names) (ts m : List Token) → next_is the_punct.LeftBrace ts ≡ true → inner names ts ≡ Err m → (b : BlockTree Spot) × Begun (outlines.block_of names b) d ts m)
    (block_read : (names : Names) (ts : List Token) (y : StmtTree Spot × List Token) → next_is the_punct.LeftBrace ts ≡ true → inner names ts ≡ Ok y → (b : BlockTree Spot) × (y.0 ≡ compound b)) where
  -- ---- Clauses

  -- whatever comes behind it
  condition_fails : (j : ExprTree Spot → Outline) (names : Names) (ts m : List Token) → reader.condition inner d names ts ≡ Err m → (c : ExprTree Spot) × Begun (outlines.punct the_punct.LeftParen ▸ outlines.operand 1 c (outlines.expr names c) ▸ outlines.punct the_punct.RightParen ▸ j c) d ts m
  condition_fails j names ts m e =
      bind_err (and_then (take the_punct.LeftParen ts) (λ z. (readers names d).expr 1)) _ e
      (λ f. take_bind the_punct.LeftParen ts _ f
      (λ h. (no_condition, at h))
      (λ b g. let q = (readers_fail names d).expr 1 (omega arith) (omega arith) (skip ts) m g in (q.0, punct_then b tt (part_of q.1 q.2))))
      (λ y ok f.
      let t = take_bind_ok the_punct.LeftParen ts (λ z. (readers names d).expr 1) y ok in
      let u = (readers_sound names d).expr 1 (omega arith) (skip ts) y t.1 in
      (y.0, punct_then t.0 tt (part_past {c = true} y.1 u.0 u.1 (at (until_err the_punct.RightParen y.0 y.1 f)))))

  condition_read : (names : Names) (ts : List Token) (y : ExprTree Spot × List Token) → reader.condition inner d names ts ≡ Ok y → Reads (tested names y.0) d ts y.1
  condition_read names ts y e = condition_sound readers_sound inner d names ts y e end y.1 refl

  clause_fails : (names : Names) (ends : List Token → Bool) → Fails (reader.clause_until inner d names ends) (λ c ts m. Begun (outlines.clause names c) d ts m)
  clause_fails names ends ts m e =
      branch_err (ends ts) _ _ ts e (λ c f. absurd cc)
      (λ c f. let q = (readers_fail names d).expr 1 (omega arith) (omega arith) ts m (map_err _ _ f) in (Some q.0, part_of q.1 q.2))

  start_fails : (names : Names) → Fails (reader.start_clause inner d names) (λ s ts m. Begun (outlines.start_of names s) d ts m)
  start_fails names ts m e =
      branch_err (starts_spec names ts) _ _ ts e
      (λ c f. start_declares_fails d names ts m f)
      (λ c f. branch_err (next_is the_punct.Semicolon ts) _ _ ts f (λ b g. absurd cc)
      (λ b g. bind_err ((readers names d).expr 1 ts) _ g
      (λ h. let q = (readers_fail names d).expr 1 (omega arith) (omega arith) ts m h in (start_expr q.0, part_of q.1 q.2))
      (λ y ok h. let u = (readers_sound names d).expr 1 (omega arith) ts y ok in
      (start_expr y.0, part_past {c = true} y.1 u.0 u.1 (at (until_err the_punct.Semicolon (start_expr y.0) y.1 h))))))

  -- ---- Blocks

  pub body_fails : (names : Names) → Fails (reader.body inner d names) (λ b ts m. Begun (outlines.block_of names b) d ts m)
  body_fails names ts m e =
      branch_err (next_is the_punct.LeftBrace ts) _ _ ts e
      (λ c f. bind_err (inner names ts) _ f
      (λ g. block_fails names ts m c g)
      (λ y ok g. let b = block_read names ts y c ok in absurd (let no : reader.only_block (compound b.0) y.1 ≡ Err m = sym (ap (λ s. reader.only_block s y.1) b.1) ∙ g in cc)))
      (λ c f. (block spots.start no_items, at (err_is {A = BlockTree Spot} f)))

  label_fails : (b : StmtStart) (names : Names) (ts m : List Token) → Opens b ts → reader.label_by inner d b names (spot ts) ts ≡ Err m → (i : ItemTree Spot) × ItemBegun names d i ts m
  label_fails begins_case names ts m opening e = case_fails d names ts m opening e
  label_fails begins_default names ts m opening e = default_fails d names ts m opening e
  label_fails _ names ts m opening e = let q = inner_fails names ts m (map_err _ _ e) in (does q.0, q.1)

  item_fails : (names : Names) → Fails (reader.item inner d names) (ItemBegun names d)
  item_fails names ts m e =
      branch_err (starts_spec names ts) _ _ ts e
      (λ c f. declares_fails d names ts m f)
      (λ c f. label_fails (stmt_start ts) names ts m (opens ts) f)

  items_by_fail : (turns : ℕ) (names : Names) → Fails (reader.items_by inner d turns names) (λ is ts m. Begun (outlines.items names (gathered_items is)) d ts m)
  items_by_fail zero names ts m e = ([], at (err_is {A = List (ItemTree Spot)} e))
  items_by_fail (suc turns) names ts m e =
      branch_err (next_is the_punct.RightBrace ts) _ _ ts e (λ c f. absurd cc)
      (λ c f. bind_err (reader.item inner d names ts) _ f
      (λ g. let q = item_fails names ts m g in (q.0 ∷ [], within_in q.1))
      (λ y ok g.
      let q = items_by_fail turns (after_item y.0 names) y.1 m (map_err _ _ g) in
      (y.0 ∷ q.0, within_past y.1 (item_sound readers_sound inner d inner_sound names ts y ok) (within_in q.1))))

  -- ---- Statements

  block_begun : (names : Names) (ts m : List Token) → next_is the_punct.LeftBrace ts ≡ true → reader.stmt_by inner d begins_block names (spot ts) ts ≡ Err m → (b : BlockTree Spot) × Begun (outlines.block_of names b) (suc d) ts m
  block_begun names ts m opening e =
      let q = items_by_fail (suc (length (skip ts))) names (skip ts) m (map_err _ _ e) in
      (block (spot ts) (gathered_items q.0), part_in {c = true} tt (punct_then opening refl (within_in q.1)))

  if_fails : (names : Names) (ts m : List Token) → next_is_keyword the_keyword.If ts ≡ true → reader.stmt_by inner d begins_if names (spot ts) ts ≡ Err m → (s : StmtTree Spot) × StmtBegun names (suc d) s ts m
  if_fails names ts m opening e =
      let n = spot ts in
      bind_err (reader.condition inner d names (skip ts)) _ e
      (λ f. let q = condition_fails (λ c. outlines.within (outlines.stmt names no_stmt) ▸ end) names (skip ts) m f in (if_then n q.0 no_stmt, part_in {c = true} tt (keyword_then opening refl q.1)))
      (λ c ok f. let test = condition_read names (skip ts) c ok in bind_err (inner names c.1) _ f
      (λ g. let q = inner_fails names c.1 m g in (if_then n c.0 q.0, part_in {c = true} tt (keyword_then opening refl (read_past (tested names c.0) c.1 test (within_in q.1)))))
      (λ s done g. let first = inner_sound names c.1 s done in branch_err (next_is_keyword the_keyword.Else s.1) _ _ s.1 g
      (λ b h.
      let q = inner_fails (after_stmt s.0 names) (skip s.1) m (map_err _ _ h) in
      let closed = shut (outlines.is_open s.0) (next_is_keyword the_keyword.Else s.1) first.closed b in
      (if_else n c.0 s.0 q.0, part_in {c = true} tt (keyword_then opening refl (read_past (tested names c.0) c.1 test (within_past s.1 first.there (token_then closed (next_keyword the_keyword.Else s.1 b) tt (within_in q.1)))))))
      (λ b h. absurd cc)))

  switch_fails : (names : Names) (ts m : List Token) → next_is_keyword the_keyword.Switch ts ≡ true → reader.stmt_by inner d begins_switch names (spot ts) ts ≡ Err m → (s : StmtTree Spot) × StmtBegun names (suc d) s ts m
  switch_fails names ts m opening e =
      let n = spot ts in
      let none = block spots.start no_items in
      bind_err (reader.condition inner d names (skip ts)) _ e
      (λ f. let q = condition_fails (λ c. outlines.within (outlines.block_of names none) ▸ end) names (skip ts) m f in (switch n q.0 none, part_in {c = true} tt (keyword_then opening refl q.1)))
      (λ c ok f.
      let q = body_fails names c.1 m (map_err _ _ f) in
      (switch n c.0 q.0, part_in {c = true} tt (keyword_then opening refl (read_past (tested names c.0) c.1 (condition_read names (skip ts) c ok) (within_in q.1)))))

  while_fails : (names : Names) (ts m : List Token) → next_is_keyword the_keyword.While ts ≡ true → reader.stmt_by inner d begins_while names (spot ts) ts ≡ Err m → (s : StmtTree Spot) × StmtBegun names (suc d) s ts m
  while_fails names ts m opening e =
      let n = spot ts in
      bind_err (reader.condition inner d names (skip ts)) _ e
      (λ f. let q = condition_fails (λ c. outlines.within (outlines.stmt names no_stmt) ▸ end) names (skip ts) m f in (while_loop n q.0 no_stmt, part_in {c = true} tt (keyword_then opening refl q.1)))
      (λ c ok f.
      let q = inner_fails names c.1 m (map_err _ _ f) in
      (while_loop n c.0 q.0, part_in {c = true} tt (keyword_then opening refl (read_past (tested names c.0) c.1 (condition_read names (skip ts) c ok) (within_in q.1)))))

  do_fails : (names : Names) (ts m : List Token) → next_is_keyword the_keyword.Do ts ≡ true → reader.stmt_by inner d begins_do names (spot ts) ts ≡ Err m → (s : StmtTree Spot) × StmtBegun names (suc d) s ts m
  do_fails names ts m opening e =
      let n = spot ts in
      bind_err (inner names (skip ts)) _ e
      (λ f. let q = inner_fails names (skip ts) m f in (do_loop n q.0 no_condition, part_in {c = true} tt (keyword_then opening refl (within_in q.1))))
      (λ s ok f.
      let first = inner_sound names (skip ts) s ok in
      let later : Names = after_stmt s.0 names in
      bind_err (and_then (take_keyword the_keyword.While s.1) (λ z. reader.condition inner d later)) _ f
      (λ g. take_keyword_bind the_keyword.While s.1 _ g
      (λ h. (do_loop n s.0 no_condition, part_in {c = true} tt (keyword_then opening refl (within_past s.1 first.there (at h)))))
      (λ b h.
      let q = condition_fails (λ c. outlines.punct the_punct.Semicolon ▸ end) later (skip s.1) m h in
      (do_loop n s.0 q.0, part_in {c = true} tt (keyword_then opening refl (within_past s.1 first.there (keyword_then b tt q.1))))))
      (λ c done g.
      let t = take_keyword_bind_ok the_keyword.While s.1 (λ z. reader.condition inner d later) c done in
      let test = condition_read later (skip s.1) c t.1 in
      (do_loop n s.0 c.0, part_in {c = true} tt (keyword_then opening refl (within_past s.1 first.there (keyword_then t.0 tt (read_past (tested later c.0) c.1 test (at (until_err the_punct.Semicolon (do_loop n s.0 c.0) c.1 g)))))))))

  -- a `for` up to the end of its first clause
  abbrev for_start : Names → Spot → StartTree Spot → Outline
  for_start names n start = outlines.keyword_of n the_keyword.For ▸ outlines.punct the_punct.LeftParen ▸ outlines.within (outlines.start_of names start) ▸ end

  -- what was read of it stands before
  loop_fails : (names : Names) (n : Spot) (start : StartTree Spot) (from middle ts m : List Token) (test each : Option (ExprTree Spot)) (between : List Token) → Reads (for_start names n start) d from middle → Reads (outlines.clause (after_start start names) test) d middle between → next_is the_punct.Semicolon between ≡ true
      → Reads (outlines.clause (after_start start names) each) d (skip between) ts → and_then (take the_punct.RightParen ts) (λ z. for_loop n start test each <$> inner (after_start start names)) ≡ Err m → (s : StmtTree Spot) × StmtBegun names (suc d) s from m
  loop_fails names n start from middle ts m test each between before first semicolon second e =
      take_bind the_punct.RightParen ts _ e
      (λ h. (for_loop n start test each no_stmt, part_in {c = true} tt (read_past (for_start names n start) middle before (within_past between first (punct_then semicolon tt (within_past ts second (at h)))))))
      (λ b h.
      let q = inner_fails (after_start start names) (skip ts) m (map_err _ _ h) in
      (for_loop n start test each q.0, part_in {c = true} tt (read_past (for_start names n start) middle before (within_past between first (punct_then semicolon tt (within_past ts second (punct_then b tt (within_in q.1))))))))

  for_behind_fails : (names : Names) (n : Spot) (start : StartTree Spot) (from ts m : List Token) → Reads (for_start names n start) d from ts → reader.for_behind inner d names n start ts ≡ Err m → (s : StmtTree Spot) × StmtBegun names (suc d) s from m
  for_behind_fails names n start from ts m before e =
      let later : Names = after_start start names in
      bind_err (reader.clause_until inner d later (next_is the_punct.Semicolon) ts) _ e
      (λ f. let q = clause_fails later (next_is the_punct.Semicolon) ts m f in (for_loop n start q.0 None no_stmt, part_in {c = true} tt (read_past (for_start names n start) ts before (within_in q.1))))
      (λ y ok f.
      let first = clause_sound readers_sound inner d later (next_is the_punct.Semicolon) ts y ok in
      bind_err (and_then (take the_punct.Semicolon y.1) (λ z. reader.clause_until inner d later (next_is the_punct.RightParen))) _ f
      (λ g. take_bind the_punct.Semicolon y.1 _ g
      (λ h. (for_loop n start y.0 None no_stmt, part_in {c = true} tt (read_past (for_start names n start) ts before (within_past y.1 first (at h)))))
      (λ b h.
      let q = clause_fails later (next_is the_punct.RightParen) (skip y.1) m h in
      (for_loop n start y.0 q.0 no_stmt, part_in {c = true} tt (read_past (for_start names n start) ts before (within_past y.1 first (punct_then b tt (within_in q.1)))))))
      (λ z done g.
      let t = take_bind_ok the_punct.Semicolon y.1 (λ x. reader.clause_until inner d later (next_is the_punct.RightParen)) z done in
      let second = clause_sound readers_sound inner d later (next_is the_punct.RightParen) (skip y.1) z t.1 in
      loop_fails names n start from ts z.1 m y.0 z.0 y.1 before first t.0 second g))

  for_fails : (names : Names) (ts m : List Token) → next_is_keyword the_keyword.For ts ≡ true → reader.stmt_by inner d begins_for names (spot ts) ts ≡ Err m → (s : StmtTree Spot) × StmtBegun names (suc d) s ts m
  for_fails names ts m opening e =
      let n = spot ts in
      bind_err (and_then (take the_punct.LeftParen (skip ts)) (λ z. reader.start_clause inner d names)) _ e
      (λ f. take_bind the_punct.LeftParen (skip ts) _ f
      (λ h. (for_loop n no_start None None no_stmt, part_in {c = true} tt (keyword_then opening refl (at h))))
      (λ b g. let q = start_fails names (skip (skip ts)) m g in (for_loop n q.0 None None no_stmt, part_in {c = true} tt (keyword_then opening refl (punct_then b tt (within_in q.1))))))
      (λ y ok f.
      let t = take_bind_ok the_punct.LeftParen (skip ts) (λ z. reader.start_clause inner d names) y ok in
      let first = start_sound readers_sound inner d names (skip (skip ts)) y t.1 in
      let paren : Reads (outlines.punct the_punct.LeftParen ▸ outlines.within (outlines.start_of names y.0) ▸ end) d (skip ts) y.1 = next_reads the_punct.LeftParen None (outlines.within (outlines.start_of names y.0) ▸ end) d (skip ts) y.1 t.0 tt (y.1, tt, first, refl) in
      for_behind_fails names n y.0 ts y.1 m (next_keyword_reads the_keyword.For (Some n) (outlines.punct the_punct.LeftParen ▸ outlines.within (outlines.start_of names y.0) ▸ end) d ts y.1 opening refl paren) f)

  return_fails : (names : Names) (ts m : List Token) → next_is_keyword the_keyword.Return ts ≡ true → reader.stmt_by inner d begins_return names (spot ts) ts ≡ Err m → (s : StmtTree Spot) × StmtBegun names (suc d) s ts m
  return_fails names ts m opening e =
      let n = spot ts in
      bind_err (reader.clause_until inner d names (next_is the_punct.Semicolon) (skip ts)) _ e
      (λ f. let q = clause_fails names (next_is the_punct.Semicolon) (skip ts) m f in (return n q.0, part_in {c = true} tt (keyword_then opening refl (within_in q.1))))
      (λ y ok f.
      let first = clause_sound readers_sound inner d names (next_is the_punct.Semicolon) (skip ts) y ok in
      (return n y.0, part_in {c = true} tt (keyword_then opening refl (within_past y.1 first (at (until_err the_punct.Semicolon (return n y.0) y.1 f))))))

  other_fails : (names : Names) (ts m : List Token) → reader.stmt_by inner d begins_other names (spot ts) ts ≡ Err m → (s : StmtTree Spot) × StmtBegun names (suc d) s ts m
  other_fails names ts m e =
      bind_err ((readers names d).expr 1 ts) _ e
      (λ f. let q = (readers_fail names d).expr 1 (omega arith) (omega arith) ts m f in (plain (outlines.begins q.0) q.0, part_in {c = true} refl (part_of q.1 q.2)))
      (λ y ok f. let u = (readers_sound names d).expr 1 (omega arith) ts y ok in
      (plain (outlines.begins y.0) y.0, part_in {c = true} refl (part_past {c = true} y.1 u.0 u.1 (at (until_err the_punct.Semicolon (plain (spot ts) y.0) y.1 f)))))

  by_fails : (b : StmtStart) (names : Names) (ts m : List Token) → Opens b ts → reader.stmt_by inner d b names (spot ts) ts ≡ Err m → (s : StmtTree Spot) × StmtBegun names (suc d) s ts m
  by_fails begins_block names ts m opening e = let q = block_begun names ts m opening e in (compound q.0, q.1)
  by_fails begins_empty names ts m opening e = absurd cc
  by_fails begins_if names ts m opening e = if_fails names ts m opening e
  by_fails begins_switch names ts m opening e = switch_fails names ts m opening e
  by_fails begins_while names ts m opening e = while_fails names ts m opening e
  by_fails begins_do names ts m opening e = do_fails names ts m opening e
  by_fails begins_for names ts m opening e = for_fails names ts m opening e
  by_fails begins_break names ts m opening e = (break (spot ts), part_in {c = true} tt (keyword_then opening refl (at (until_err the_punct.Semicolon (break (spot ts)) (skip ts) e))))
  by_fails begins_continue names ts m opening e = (continue (spot ts), part_in {c = true} tt (keyword_then opening refl (at (until_err the_punct.Semicolon (continue (spot ts)) (skip ts) e))))
  by_fails begins_return names ts m opening e = return_fails names ts m opening e
  by_fails begins_case names ts m opening e = (no_stmt, at (err_is {A = StmtTree Spot} e))
  by_fails begins_default names ts m opening e = (no_stmt, at (err_is {A = StmtTree Spot} e))
  by_fails begins_other names ts m opening e = other_fails names ts m e

-- ---- Each depth

brace_begins : (ts : List Token) → next_is the_punct.LeftBrace ts ≡ true → stmt_start ts ≡ begins_block
brace_begins ts e = at_punct stmt_start stmt_kind (λ t us. refl) the_punct.LeftBrace ts e

pub block_read : (d : ℕ) (names : Names) (ts : List Token) (y : StmtTree Spot × List Token) → next_is the_punct.LeftBrace ts ≡ true → reader.stmt d names ts ≡ Ok y → (b : BlockTree Spot) × (y.0 ≡ compound b)
block_read zero names ts y c e = absurd cc
block_read (suc d) names ts y c e =
    let is : reader.stmt_by (reader.stmt d) d begins_block names (spot ts) ts ≡ Ok y = sym (ap (λ b. reader.stmt_by (reader.stmt d) d b names (spot ts) ts) (brace_begins ts c)) ∙ e in
    let m = map_ok (reader.items (reader.stmt d) d names (skip ts)) (λ is. compound (block (spot ts) (gathered_items is))) y is in
    (block (spot ts) (gathered_items m.0.0), sym (ap (λ (z : StmtTree Spot × List Token). z.0) m.2))

mutual
  pub stmt_fails : (d : ℕ) (names : Names) → Fails (reader.stmt d names) (StmtBegun names d)
  stmt_fails zero names ts m e = (no_stmt, at (err_is {A = StmtTree Spot} e))
  stmt_fails (suc d) names ts m e = by_fails (reader.stmt d) d (stmt_sound readers_sound d) (stmt_fails d) (block_fails d) (block_read d) (stmt_start ts) names ts m (opens ts) e

  pub block_fails : (d : ℕ) (names : Names) (ts m : List Token) → next_is the_punct.LeftBrace ts ≡ true → reader.stmt d names ts ≡ Err m → (b : BlockTree Spot) × Begun (outlines.block_of names b) d ts m
  block_fails zero names ts m c e = (block spots.start no_items, at (err_is {A = StmtTree Spot} e))
  block_fails (suc d) names ts m c e =
      let is : reader.stmt_by (reader.stmt d) d begins_block names (spot ts) ts ≡ Err m = sym (ap (λ b. reader.stmt_by (reader.stmt d) d b names (spot ts) ts) (brace_begins ts c)) ∙ e in
      block_begun (reader.stmt d) d (stmt_sound readers_sound d) (stmt_fails d) (block_fails d) (block_read d) names ts m c is
