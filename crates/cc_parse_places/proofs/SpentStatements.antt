-- Statements and blocks that are begun are taken.
use Rattle.std.proofs.Common.{◌≡◌, ◌<◌, refl, ℕ, zero, suc, true, false, List, [], ◌∷◌, length, Option, None, Ok, arith, sym, ap, subst, ◌∙◌, inl, inr}
use Rattle.cc_base.specs.declared.place.Spot.{Spot}
use Rattle.cc_lex.specs.declared.token.Token.{Token}
use Rattle.cc_lex.specs.declared.token.TokenKind.TheVariants as kind
use Rattle.cc_lex.specs.declared.keyword.Keyword.{Keyword}
use Rattle.cc_lex.specs.declared.keyword.Keyword.TheVariants as the_keyword
use Rattle.cc_lex.specs.declared.punct.Punct.{Punct}
use Rattle.cc_lex.specs.declared.punct.Punct.TheVariants as the_punct
use Rattle.cc_tree.specs.Trees.{ExprTree, StartTree, StmtTree, compound, plain, empty, if_then, if_else, switch, while_loop, do_loop, for_loop, break, continue, return, BlockTree, block, ItemTree, declares, case_label, default_label, does, ItemTrees, no_items, more_items, DeclarationTree}
use Rattle.cc_tree.specs.Views.{gathered_items}
use Rattle.cc_grammar.specs.Names.{Names, after_start, after_stmt, after_item}
use Rattle.cc_grammar.specs.Outline.{Outline, end, token, part, ◌▸◌}
use Rattle.cc_grammar.specs.Outlines as outlines
use Rattle.cc_grammar.specs.Classes.{next_is, next_is_keyword, same_keyword, same_punct, skip, spot, starts_spec, spec_keyword, is_spec, StmtStart, begins_block, begins_empty, begins_other, stmt_start, stmt_keyword, stmt_punct}
use Rattle.cc_grammar.specs.Outcomes.{Parser, and_then, take, take_keyword, pure, refuse, ◌<$>◌, ◌>>=◌, ◌>>◌}
use Rattle.cc_grammar.specs.Reading.{readers, stmt, stmt_by, body, only_block, condition, else_behind, clause_until, start_clause, for_behind, item, label_by, items_by, items, counted_by, declaration_at, skipping}
use Rattle.cc_parse_laws.proofs.Spans.{Reads}
use Rattle.cc_parse_laws.proofs.Steps.{branch_true, branch_false, reads_length}
use Rattle.cc_parse_laws.proofs.Lists.{takes}
use Rattle.cc_parse_laws.proofs.Peeks.{punct_spec, punct_other, punct_keyword}
use Rattle.cc_parse_laws.proofs.Nexts.{punct_stmt, keyword_other, keyword_punct, keyword_spec, keyword_stmt, spec_no_else, expr_other, expr_no_else}
use Rattle.cc_parse_laws.proofs.Firsts.{first_operand, opens_not, OpensExpr, spec_not}
use Rattle.cc_parse_laws.proofs.Climbs.{bound}
use Rattle.cc_parse_laws.proofs.CompleteReaders.{readers_complete}
use Rattle.cc_parse_laws.proofs.CompleteBlocks.{is_label, OpensStmt, OpensItem, item_opens, no_label_by, is_item, item_size, stmt_again, items_again, are_items, listed}
use Rattle.cc_parse_places.proofs.Begun.{Begun}
use Rattle.cc_parse_places.proofs.Spent.{Spent, spent_bind, spent_map, spent_is, HasNext, no_next, Within, token_elim, part_elim, last_within, begun_sinks, next_kind_punct}
use Rattle.cc_parse_places.proofs.SpentFirsts.{begun_opens}
use Rattle.cc_parse_places.proofs.SpentTypes.{by_next}
use Rattle.cc_parse_places.proofs.SpentDeclarations.{declaration_spent, declaration_starts}
use Rattle.cc_parse_places.proofs.SpentClauses.{next_kind_keyword, takes_keyword, until_spent, expr_nil, ended_spent, condition_elim, clause_nil, clause_in, clause_read, start_in, start_read}

-- ---- How statements that are begun begin

keyword_opens : (names : Names) (w : Keyword) (ts : List Token) → is_spec (spec_keyword w) ≡ false → same_keyword the_keyword.Else w ≡ false → is_label (stmt_keyword w) ≡ false → next_is_keyword w ts ≡ true → OpensStmt names ts
keyword_opens names w ts a b c e = record { no_spec = keyword_spec names w ts a e; no_brace = keyword_punct the_punct.RightBrace w ts e; no_else = keyword_other the_keyword.Else w ts b e; no_label = ap is_label (keyword_stmt w ts e) ∙ c }

punct_opens : (names : Names) (s : Punct) (ts : List Token) → same_punct the_punct.RightBrace s ≡ false → is_label (stmt_punct s) ≡ false → next_is s ts ≡ true → OpensStmt names ts
punct_opens names s ts a b e = record { no_spec = punct_spec names s ts e; no_brace = punct_other the_punct.RightBrace s ts a e; no_else = punct_keyword the_keyword.Else s ts e; no_label = ap is_label (punct_stmt s ts e) ∙ b }

-- the first token of a part that counts
keyword_within : {h : Type 0} {m : Option Spot} {i : Outline} (names : Names) (w : Keyword) (d : ℕ) (ts : List Token) → HasNext ts → is_spec (spec_keyword w) ≡ false → same_keyword the_keyword.Else w ≡ false → is_label (stmt_keyword w) ≡ false
    → Begun (part true h (token (Unit {0}) (kind.Keyword w) m i) end) d ts [] → OpensStmt names ts
keyword_within {h} {m} {i} names w d ts more a b c x = by (last_within ts x)
  where
    by : Within true h (token (Unit {0}) (kind.Keyword w) m i) d ts → OpensStmt names ts
    by (inl e) = no_next ts more e
    by (inr z) = token_elim ts (begun_sinks true (token (Unit {0}) (kind.Keyword w) m i) d ts [] z.1) (no_next ts more) (λ u next st rest. keyword_opens names w ts a b c (next_kind_keyword w ts next))

punct_within : {h : Type 0} {m : Option Spot} {i : Outline} (names : Names) (s : Punct) (d : ℕ) (ts : List Token) → HasNext ts → same_punct the_punct.RightBrace s ≡ false → is_label (stmt_punct s) ≡ false
    → Begun (part true h (token (Unit {0}) (kind.Punct s) m i) end) d ts [] → OpensStmt names ts
punct_within {h} {m} {i} names s d ts more a b x = by (last_within ts x)
  where
    by : Within true h (token (Unit {0}) (kind.Punct s) m i) d ts → OpensStmt names ts
    by (inl e) = no_next ts more e
    by (inr z) = token_elim ts (begun_sinks true (token (Unit {0}) (kind.Punct s) m i) d ts [] z.1) (no_next ts more) (λ u next st rest. punct_opens names s ts a b (next_kind_punct s ts next))

expr_opens : (names : Names) (ts : List Token) → OpensExpr names ts → OpensStmt names ts
unfolding is_label
expr_opens names ts x = record { no_spec = x.no_spec; no_brace = opens_not names the_punct.RightBrace ts refl x; no_else = expr_no_else names ts x; no_label = ap is_label (expr_other names ts x) }

operand_opens : {h : Type 0} {i : Outline} (names : Names) (e : ExprTree Spot) (d : ℕ) (ts : List Token) → HasNext ts → Begun (part true h (outlines.expr names e) i) d ts [] → OpensExpr names ts
operand_opens names e d ts more x = part_elim ts x (λ w. by w) (λ m next h y rest. first_operand names e d ts m y)
  where
    by : {h : Type 0} → Within true h (outlines.expr names e) d ts → OpensExpr names ts
    by (inl y) = no_next ts more y
    by (inr y) = begun_opens names e d ts more (begun_sinks true (outlines.expr names e) d ts [] y.1)

plain_opens : (names : Names) (n : Spot) (e : ExprTree Spot) (d : ℕ) (ts : List Token) → HasNext ts → Begun (outlines.stmt names (plain n e)) d ts [] → OpensExpr names ts
plain_opens names n e d ts more x = by (last_within ts x)
  where
    by : Within true (n ≡ outlines.begins e) (outlines.operand 1 e (outlines.expr names e) ▸ outlines.punct the_punct.Semicolon ▸ end) d ts → OpensExpr names ts
    by (inl z) = no_next ts more z
    by (inr z) = operand_opens names e d ts more (begun_sinks true (outlines.operand 1 e (outlines.expr names e) ▸ outlines.punct the_punct.Semicolon ▸ end) d ts [] z.1)

block_opens : (names : Names) (b : BlockTree Spot) (d : ℕ) (ts : List Token) → HasNext ts → Begun (outlines.block_of names b) d ts [] → OpensStmt names ts
unfolding is_label
block_opens names (block n is) d ts more x = punct_within names the_punct.LeftBrace d ts more refl refl x

begun_stmt : (names : Names) (s : StmtTree Spot) (d : ℕ) (ts : List Token) → HasNext ts → Begun (outlines.stmt names s) d ts [] → OpensStmt names ts
unfolding is_label
begun_stmt names (compound b) d ts more x = block_opens names b d ts more x
begun_stmt names (plain n e) d ts more x = expr_opens names ts (plain_opens names n e d ts more x)
begun_stmt names (empty n) d ts more x = punct_within names the_punct.Semicolon d ts more refl refl x
begun_stmt names (if_then n c s) d ts more x = keyword_within names the_keyword.If d ts more refl refl refl x
begun_stmt names (if_else n c s t) d ts more x = keyword_within names the_keyword.If d ts more refl refl refl x
begun_stmt names (switch n e b) d ts more x = keyword_within names the_keyword.Switch d ts more refl refl refl x
begun_stmt names (while_loop n c s) d ts more x = keyword_within names the_keyword.While d ts more refl refl refl x
begun_stmt names (do_loop n s c) d ts more x = keyword_within names the_keyword.Do d ts more refl refl refl x
begun_stmt names (for_loop n a test each s) d ts more x = keyword_within names the_keyword.For d ts more refl refl refl x
begun_stmt names (break n) d ts more x = keyword_within names the_keyword.Break d ts more refl refl refl x
begun_stmt names (continue n) d ts more x = keyword_within names the_keyword.Continue d ts more refl refl refl x
begun_stmt names (return n e) d ts more x = keyword_within names the_keyword.Return d ts more refl refl refl x

keyword_item : {h : Type 0} {m : Option Spot} {i : Outline} (w : Keyword) (d : ℕ) (ts : List Token) → HasNext ts → same_keyword the_keyword.Else w ≡ false → Begun (part true h (token (Unit {0}) (kind.Keyword w) m i) end) d ts [] → OpensItem ts
keyword_item {h} {m} {i} w d ts more b x = by (last_within ts x)
  where
    by : Within true h (token (Unit {0}) (kind.Keyword w) m i) d ts → OpensItem ts
    by (inl e) = no_next ts more e
    by (inr z) = token_elim ts (begun_sinks true (token (Unit {0}) (kind.Keyword w) m i) d ts [] z.1) (no_next ts more) (λ u next st rest. let e = next_kind_keyword w ts next in record { no_brace = keyword_punct the_punct.RightBrace w ts e; no_else = keyword_other the_keyword.Else w ts b e })

begun_item : (names : Names) (i : ItemTree Spot) (d : ℕ) (ts : List Token) → HasNext ts → Begun (outlines.item names i) d ts [] → OpensItem ts
begun_item names (declares a) d ts more x = by (last_within ts x)
  where
    by : Within true (outlines.declaration_spot a) (outlines.declaration_of names a) d ts → OpensItem ts
    by (inl e) = no_next ts more e
    by (inr z) = let starts = declaration_starts d names a ts more z.0 (begun_sinks true (outlines.declaration_of names a) d ts [] z.1) in record { no_brace = spec_not names the_punct.RightBrace ts starts; no_else = spec_no_else names ts starts }
begun_item names (case_label n e) d ts more x = keyword_item the_keyword.Case d ts more refl x
begun_item names (default_label n) d ts more x = keyword_item the_keyword.Default d ts more refl x
begun_item names (does s) d ts more x = let y = begun_stmt names s d ts more x in record { no_brace = y.no_brace; no_else = y.no_else }

-- items that come next don't begin with an `else`
items_no_else : (names : Names) (is : ItemTrees Spot) (d : ℕ) (ts : List Token) → HasNext ts → Within false (Unit {0}) (outlines.items names is) d ts → next_is_keyword the_keyword.Else ts ≡ false
items_no_else names is d ts more (inl e) = no_next ts more e
items_no_else names no_items d ts more (inr z) = let x = z.1 in no_next ts more x.cut
items_no_else names (more_items i is) d ts more (inr z) = part_elim ts z.1 (λ w. by w) (λ m next u y rest. (item_opens names i d ts m y).no_else)
  where
    by : Within false (Unit {0}) (outlines.item names i) d ts → next_is_keyword the_keyword.Else ts ≡ false
    by (inl e) = no_next ts more e
    by (inr y) = (begun_item names i d ts more y.1).no_else

-- ---- Statements

stmt_nil : (names : Names) (d : ℕ) (ts : List Token) → ts ≡ [] → Spent (stmt d names ts)
stmt_nil names zero ts e = e
stmt_nil names (suc d) ts e = subst (λ us. Spent (stmt (suc d) names us)) (sym e) (spent_bind ((readers names d).expr 1 []) _ (expr_nil names d 1 [] (omega arith) refl) (λ y. refl))

stmt_as : (names : Names) (d : ℕ) (b : StmtStart) (ts : List Token) → stmt_start ts ≡ b → Spent (stmt_by (stmt d) d b names (spot ts) ts) → Spent (stmt (suc d) names ts)
stmt_as names d b ts e s = subst (λ c. Spent (stmt_by (stmt d) d c names (spot ts) ts)) (sym e) s

-- what counts leaves one less of the depth
by_depth : {h : Type 0} {i : Outline} (names : Names) (d : ℕ) (ts : List Token) → Within true h i d ts → ((e : ℕ) → h → Begun i e ts [] → Spent (stmt (suc e) names ts)) → Spent (stmt d names ts)
by_depth names d ts (inl e) give = stmt_nil names d ts e
by_depth names zero ts (inr z) give = absurd z.1
by_depth names (suc d) ts (inr z) give = give d z.0 z.1

-- behind a keyword
behind_keyword : {i : Outline} {n : Option Spot} (w : Keyword) (names : Names) (d : ℕ) (ts : List Token) → Begun (token (Unit {0}) (kind.Keyword w) n i) d ts [] → (Begun i d (skip ts) [] → Spent (stmt_by (stmt d) d (stmt_keyword w) names (spot ts) ts)) → Spent (stmt (suc d) names ts)
behind_keyword w names d ts x give = token_elim ts x (stmt_nil names (suc d) ts) (λ u next st rest. stmt_as names d (stmt_keyword w) ts (keyword_stmt w ts (next_kind_keyword w ts next)) (give rest))

abbrev IsTaken : StmtTree Spot → Type 0
IsTaken s = (names : Names) (d : ℕ) (ts : List Token) → Begun (outlines.stmt names s) d ts [] → Spent (stmt d names ts)

-- a statement inside
inside_taken : (s : StmtTree Spot) → IsTaken s → (names : Names) (d : ℕ) (ts : List Token) → Within false (Unit {0}) (outlines.stmt names s) d ts → Spent (stmt d names ts)
inside_taken s taken names d ts (inl e) = stmt_nil names d ts e
inside_taken s taken names d ts (inr z) = taken names d ts z.1

block_spent : (s : StmtTree Spot) → Spent (only_block s [])
block_spent (compound b) = refl
block_spent (plain n e) = refl
block_spent (empty n) = refl
block_spent (if_then n c s) = refl
block_spent (if_else n c s t) = refl
block_spent (switch n e b) = refl
block_spent (while_loop n c s) = refl
block_spent (do_loop n s c) = refl
block_spent (for_loop n a test each s) = refl
block_spent (break n) = refl
block_spent (continue n) = refl
block_spent (return n e) = refl

pub body_nil : (names : Names) (d : ℕ) (ts : List Token) → ts ≡ [] → Spent (body (stmt d) d names ts)
body_nil names d ts e = spent_is _ _ (ap (body (stmt d) d names) e) refl

block_first : (names : Names) (b : BlockTree Spot) (d : ℕ) (ts : List Token) → HasNext ts → Begun (outlines.block_of names b) d ts [] → next_is the_punct.LeftBrace ts ≡ true
block_first names (block n is) d ts more x = by (last_within ts x)
  where
    by : Within true (Unit {0}) (outlines.punct_of n the_punct.LeftBrace ▸ outlines.within (outlines.items names is) ▸ outlines.punct the_punct.RightBrace ▸ end) d ts → next_is the_punct.LeftBrace ts ≡ true
    by (inl e) = no_next ts more e
    by (inr z) = token_elim ts (begun_sinks true (outlines.punct_of n the_punct.LeftBrace ▸ outlines.within (outlines.items names is) ▸ outlines.punct the_punct.RightBrace ▸ end) d ts [] z.1) (no_next ts more) (λ u next st rest. next_kind_punct the_punct.LeftBrace ts next)

body_taken : (b : BlockTree Spot) → IsTaken (compound b) → (names : Names) (d : ℕ) (ts : List Token) → Within false (Unit {0}) (outlines.block_of names b) d ts → Spent (body (stmt d) d names ts)
body_taken b taken names d ts (inl e) = body_nil names d ts e
body_taken b taken names d ts (inr z) =
    by_next ts (body_nil names d ts) (λ more.
    spent_is _ _ (branch_true (next_is the_punct.LeftBrace ts) (stmt d names >>= only_block) refuse ts (block_first names b d ts more z.1)) (spent_bind (stmt d names ts) only_block (taken names d ts z.1) block_spent))

take_if : (n : Spot) (c : ExprTree Spot) (s : StmtTree Spot) → IsTaken s → IsTaken (if_then n c s)
take_if n c s ts_s names d ts x = by_depth names d ts (last_within ts x) (λ e h y. behind_keyword the_keyword.If names e ts y (λ rest.
    condition_elim (stmt e) names e c (outlines.within (outlines.stmt names s) ▸ end) (skip ts) (λ c. stmt e names >>= else_behind (stmt e) e names (spot ts) c) rest
    (λ z. spent_bind (stmt e names []) (else_behind (stmt e) e names (spot ts) z) (stmt_nil names e [] refl) (λ t. refl))
    (λ m last. spent_bind (stmt e names m) (else_behind (stmt e) e names (spot ts) c) (inside_taken s ts_s names e m (last_within m last)) (λ t. refl))))

take_if_else : (n : Spot) (c : ExprTree Spot) (s t : StmtTree Spot) → IsTaken s → IsTaken t → IsTaken (if_else n c s t)
take_if_else n c s t ts_s ts_t names d ts x = by_depth names d ts (last_within ts x) (λ e h y. behind_keyword the_keyword.If names e ts y (λ rest.
    condition_elim (stmt e) names e c (outlines.within (outlines.stmt names s) ▸ token (outlines.is_open s ≡ false) (kind.Keyword the_keyword.Else) None ▸ outlines.within (outlines.stmt (after_stmt s names) t) ▸ end) (skip ts) (λ c. stmt e names >>= else_behind (stmt e) e names (spot ts) c) rest
    (λ z. spent_bind (stmt e names []) (else_behind (stmt e) e names (spot ts) z) (stmt_nil names e [] refl) (λ u. refl))
    (λ m branches. part_elim m branches
    (λ w. spent_bind (stmt e names m) (else_behind (stmt e) e names (spot ts) c) (inside_taken s ts_s names e m w) (λ u. refl))
    (λ q more u first others. token_elim q others (no_next q more) (λ shut next st last.
    let word = next_kind_keyword the_keyword.Else q next in
    spent_is _ _ (bound (else_behind (stmt e) e names (spot ts) c) (stmt e names m) s q (stmt_again readers_complete names e s m q first (λ yes. absurd cc))
    ∙ branch_true (next_is_keyword the_keyword.Else q) (skipping (if_else (spot ts) c s <$> stmt e (after_stmt s names))) (pure (if_then (spot ts) c s)) q word)
    (spent_map (stmt e (after_stmt s names) (skip q)) _ (inside_taken t ts_t (after_stmt s names) e (skip q) (last_within (skip q) last))))))))

take_switch : (n : Spot) (c : ExprTree Spot) (b : BlockTree Spot) → IsTaken (compound b) → IsTaken (switch n c b)
take_switch n c b taken names d ts x = by_depth names d ts (last_within ts x) (λ e h y. behind_keyword the_keyword.Switch names e ts y (λ rest.
    condition_elim (stmt e) names e c (outlines.within (outlines.block_of names b) ▸ end) (skip ts) (λ z. switch (spot ts) z <$> body (stmt e) e names) rest
    (λ z. spent_map (body (stmt e) e names []) (λ w. switch (spot ts) z w) (body_nil names e [] refl))
    (λ m last. spent_map (body (stmt e) e names m) (λ w. switch (spot ts) c w) (body_taken b taken names e m (last_within m last)))))

take_while : (n : Spot) (c : ExprTree Spot) (s : StmtTree Spot) → IsTaken s → IsTaken (while_loop n c s)
take_while n c s taken names d ts x = by_depth names d ts (last_within ts x) (λ e h y. behind_keyword the_keyword.While names e ts y (λ rest.
    condition_elim (stmt e) names e c (outlines.within (outlines.stmt names s) ▸ end) (skip ts) (λ z. while_loop (spot ts) z <$> stmt e names) rest
    (λ z. spent_map (stmt e names []) (λ w. while_loop (spot ts) z w) (stmt_nil names e [] refl))
    (λ m last. spent_map (stmt e names m) (λ w. while_loop (spot ts) c w) (inside_taken s taken names e m (last_within m last)))))

abbrev until_while : ℕ → Names → Spot → StmtTree Spot → Parser (StmtTree Spot)
until_while e names n s = take_keyword the_keyword.While >> condition (stmt e) e (after_stmt s names) >>= (λ c. take the_punct.Semicolon >> pure (do_loop n s c))

take_do : (n : Spot) (s : StmtTree Spot) (c : ExprTree Spot) → IsTaken s → IsTaken (do_loop n s c)
take_do n s c taken names d ts x = by_depth names d ts (last_within ts x) (λ e h y. behind_keyword the_keyword.Do names e ts y (λ rest.
    part_elim (skip ts) rest
    (λ w. spent_bind (stmt e names (skip ts)) (until_while e names (spot ts)) (inside_taken s taken names e (skip ts) w) (λ t. refl))
    (λ m more u first others. token_elim m others (no_next m more) (λ v next st last.
    let word = next_kind_keyword the_keyword.While m next in
    let later = after_stmt s names in
    spent_is _ _ (bound (until_while e names (spot ts)) (stmt e names (skip ts)) s m (stmt_again readers_complete names e s (skip ts) m first (λ yes. keyword_other the_keyword.Else the_keyword.While m refl word))
    ∙ ap (λ z. and_then (and_then z (λ w. condition (stmt e) e later)) (λ c. take the_punct.Semicolon >> pure (do_loop (spot ts) s c))) (takes_keyword the_keyword.While m word))
    (condition_elim (stmt e) later e c (outlines.punct the_punct.Semicolon ▸ end) (skip m) (λ c. take the_punct.Semicolon >> pure (do_loop (spot ts) s c)) last (λ z. refl)
    (λ q closing. until_spent the_punct.Semicolon (do_loop (spot ts) s c) e q closing))))))

-- ---- `for`

abbrev each_behind : ℕ → Names → Spot → StartTree Spot → Option (ExprTree Spot) → Option (ExprTree Spot) → Parser (StmtTree Spot)
each_behind e names n start test each = take the_punct.RightParen >> (for_loop n start test each <$> stmt e (after_start start names))

abbrev test_behind : ℕ → Names → Spot → StartTree Spot → Option (ExprTree Spot) → Parser (StmtTree Spot)
test_behind e names n start test = take the_punct.Semicolon >> clause_until (stmt e) e (after_start start names) (next_is the_punct.RightParen) >>= each_behind e names n start test

for_nil : (e : ℕ) (names : Names) (n : Spot) (start : StartTree Spot) → Spent (for_behind (stmt e) e names n start [])
for_nil e names n start = spent_bind (clause_until (stmt e) e (after_start start names) (next_is the_punct.Semicolon) []) (test_behind e names n start) (clause_nil (stmt e) (after_start start names) e the_punct.Semicolon [] refl) (λ y. refl)

each_taken : (e : ℕ) (names : Names) (n : Spot) (start : StartTree Spot) (test each : Option (ExprTree Spot)) (s : StmtTree Spot) → IsTaken s → (ts : List Token)
    → Begun (outlines.within (outlines.clause (after_start start names) each) ▸ outlines.punct the_punct.RightParen ▸ outlines.within (outlines.stmt (after_start start names) s) ▸ end) e ts [] → Spent (and_then (clause_until (stmt e) e (after_start start names) (next_is the_punct.RightParen) ts) (each_behind e names n start test))
each_taken e names n start test each s taken ts x =
    let later = after_start start names in
    part_elim ts x (λ w. spent_bind (clause_until (stmt e) e later (next_is the_punct.RightParen) ts) (each_behind e names n start test) (clause_in (stmt e) later e each the_punct.RightParen ts refl w) (λ y. refl))
    (λ m more u y rest. token_elim m rest (no_next m more) (λ v next st last. let c = next_kind_punct the_punct.RightParen m next in
    spent_is _ _ (bound (each_behind e names n start test) (clause_until (stmt e) e later (next_is the_punct.RightParen) ts) each m (clause_read (stmt e) later e each the_punct.RightParen ts m (omega arith) refl y c)
    ∙ ap (λ z. and_then z (λ w. for_loop n start test each <$> stmt e later)) (takes the_punct.RightParen m c))
    (spent_map (stmt e later (skip m)) _ (inside_taken s taken later e (skip m) (last_within (skip m) last)))))

test_taken : (e : ℕ) (names : Names) (n : Spot) (start : StartTree Spot) (test each : Option (ExprTree Spot)) (s : StmtTree Spot) → IsTaken s → (ts : List Token)
    → Begun (outlines.within (outlines.clause (after_start start names) test) ▸ outlines.punct the_punct.Semicolon ▸ outlines.within (outlines.clause (after_start start names) each) ▸ outlines.punct the_punct.RightParen ▸ outlines.within (outlines.stmt (after_start start names) s) ▸ end) e ts [] → Spent (for_behind (stmt e) e names n start ts)
test_taken e names n start test each s taken ts x =
    let later = after_start start names in
    part_elim ts x (λ w. spent_bind (clause_until (stmt e) e later (next_is the_punct.Semicolon) ts) (test_behind e names n start) (clause_in (stmt e) later e test the_punct.Semicolon ts refl w) (λ y. refl))
    (λ m more u y rest. token_elim m rest (no_next m more) (λ v next st last. let c = next_kind_punct the_punct.Semicolon m next in
    spent_is _ _ (bound (test_behind e names n start) (clause_until (stmt e) e later (next_is the_punct.Semicolon) ts) test m (clause_read (stmt e) later e test the_punct.Semicolon ts m (omega arith) refl y c)
    ∙ ap (λ z. and_then (and_then z (λ w. clause_until (stmt e) e later (next_is the_punct.RightParen))) (each_behind e names n start test)) (takes the_punct.Semicolon m c))
    (each_taken e names n start test each s taken (skip m) last)))

take_for : (n : Spot) (start : StartTree Spot) (test each : Option (ExprTree Spot)) (s : StmtTree Spot) → IsTaken s → IsTaken (for_loop n start test each s)
take_for n start test each s taken names d ts x = by_depth names d ts (last_within ts x) (λ e h y. behind_keyword the_keyword.For names e ts y (λ rest.
    token_elim (skip ts) rest
    (λ z. spent_bind (and_then (take the_punct.LeftParen (skip ts)) (λ w. start_clause (stmt e) e names)) (for_behind (stmt e) e names (spot ts)) (spent_is _ _ (ap (λ us. and_then (take the_punct.LeftParen us) (λ w. start_clause (stmt e) e names)) z) refl) (for_nil e names (spot ts)))
    (λ u next st inside. let c = takes the_punct.LeftParen (skip ts) (next_kind_punct the_punct.LeftParen (skip ts) next) in
    spent_is _ _ (ap (λ z. and_then (and_then z (λ w. start_clause (stmt e) e names)) (for_behind (stmt e) e names (spot ts))) c)
    (part_elim (skip (skip ts)) inside
    (λ w. spent_bind (start_clause (stmt e) e names (skip (skip ts))) (for_behind (stmt e) e names (spot ts)) (start_in (stmt e) names e start (skip (skip ts)) w) (for_nil e names (spot ts)))
    (λ m more v q others. spent_is _ _ (bound (for_behind (stmt e) e names (spot ts)) (start_clause (stmt e) e names (skip (skip ts))) start m (start_read (stmt e) names e start (skip (skip ts)) m q)) (test_taken e names (spot ts) start test each s taken m others))))))

take_return : (n : Spot) (c : Option (ExprTree Spot)) → IsTaken (return n c)
take_return n c names d ts x = by_depth names d ts (last_within ts x) (λ e h y. behind_keyword the_keyword.Return names e ts y (λ rest.
    part_elim (skip ts) rest
    (λ w. spent_bind (clause_until (stmt e) e names (next_is the_punct.Semicolon) (skip ts)) (λ z. take the_punct.Semicolon >> pure (return (spot ts) z)) (clause_in (stmt e) names e c the_punct.Semicolon (skip ts) refl w) (λ z. refl))
    (λ m more u q last. token_elim m last (no_next m more) (λ v next st closing. let s = next_kind_punct the_punct.Semicolon m next in
    spent_is _ _ (bound (λ z. take the_punct.Semicolon >> pure (return (spot ts) z)) (clause_until (stmt e) e names (next_is the_punct.Semicolon) (skip ts)) c m (clause_read (stmt e) names e c the_punct.Semicolon (skip ts) m (omega arith) refl q s)) (until_spent the_punct.Semicolon (return (spot ts) c) e m last)))))

take_plain : (n : Spot) (e : ExprTree Spot) → IsTaken (plain n e)
take_plain n e names d ts x = by_next ts (stmt_nil names d ts) (λ more. by_depth names d ts (last_within ts x) (λ f h y.
    stmt_as names f begins_other ts (expr_other names ts (plain_opens names n e d ts more x)) (ended_spent the_punct.Semicolon (plain (spot ts)) names f 1 e ts (omega arith) (omega arith) y)))

take_empty : (n : Spot) → IsTaken (empty n)
take_empty n names d ts x = by_depth names d ts (last_within ts x) (λ e h y. token_elim ts y (stmt_nil names (suc e) ts) (λ u next st rest. stmt_as names e begins_empty ts (punct_stmt the_punct.Semicolon ts (next_kind_punct the_punct.Semicolon ts next)) rest.cut))

take_break : (n : Spot) → IsTaken (break n)
take_break n names d ts x = by_depth names d ts (last_within ts x) (λ e h y. behind_keyword the_keyword.Break names e ts y (λ rest. until_spent the_punct.Semicolon (break (spot ts)) e (skip ts) rest))

take_continue : (n : Spot) → IsTaken (continue n)
take_continue n names d ts x = by_depth names d ts (last_within ts x) (λ e h y. behind_keyword the_keyword.Continue names e ts y (λ rest. until_spent the_punct.Semicolon (continue (spot ts)) e (skip ts) rest))

-- ---- Items

item_nil : (names : Names) (d : ℕ) (ts : List Token) → ts ≡ [] → Spent (item (stmt d) d names ts)
item_nil names d ts e = subst (λ us. Spent (item (stmt d) d names us)) (sym e) (spent_map (stmt d names []) does (stmt_nil names d [] refl))

abbrev ItemTaken : ItemTree Spot → Type 0
ItemTaken i = (names : Names) (d : ℕ) (ts : List Token) → Begun (outlines.item names i) d ts [] → Spent (item (stmt d) d names ts)

item_by_depth : {h : Type 0} {i : Outline} (names : Names) (d : ℕ) (ts : List Token) → Within true h i d ts → ((e : ℕ) → h → Begun i e ts [] → Spent (item (stmt (suc e)) (suc e) names ts)) → Spent (item (stmt d) d names ts)
item_by_depth names d ts (inl e) give = item_nil names d ts e
item_by_depth names zero ts (inr z) give = absurd z.1
item_by_depth names (suc d) ts (inr z) give = give d z.0 z.1

abbrev counts : ℕ → Names → Parser (ItemTree Spot)
counts d names = counted_by d (λ e. declares <$> declaration_at e names)

abbrev labels : ℕ → Names → Parser (ItemTree Spot)
labels d names = λ us. label_by (stmt d) d (stmt_start us) names (spot us) us

take_declares : (a : DeclarationTree Spot) → ItemTaken (declares a)
take_declares a names d ts x = item_by_depth names d ts (last_within ts x) (λ e b y. by_next ts (item_nil names (suc e) ts) (λ more.
    spent_is _ _ (branch_true (starts_spec names ts) (counts (suc e) names) (labels (suc e) names) ts (declaration_starts e names a ts more b y)) (spent_map (declaration_at e names ts) declares (declaration_spent e names a ts b y))))

label_as : (names : Names) (d : ℕ) (w : Keyword) (ts : List Token) → is_spec (spec_keyword w) ≡ false → next_is_keyword w ts ≡ true → Spent (label_by (stmt d) d (stmt_keyword w) names (spot ts) ts) → Spent (item (stmt d) d names ts)
label_as names d w ts a e s =
    spent_is _ _ (branch_false (starts_spec names ts) (counts d names) (labels d names) ts (keyword_spec names w ts a e)) (subst (λ c. Spent (label_by (stmt d) d c names (spot ts) ts)) (sym (keyword_stmt w ts e)) s)

take_case : (n : Spot) (c : ExprTree Spot) → ItemTaken (case_label n c)
take_case n c names d ts x = item_by_depth names d ts (last_within ts x) (λ e h y. token_elim ts y (item_nil names (suc e) ts) (λ u next st rest.
    label_as names (suc e) the_keyword.Case ts refl (next_kind_keyword the_keyword.Case ts next) (ended_spent the_punct.Colon (case_label (spot ts)) names e 3 c (skip ts) (omega arith) (omega arith) rest)))

take_default : (n : Spot) → ItemTaken (default_label n)
take_default n names d ts x = item_by_depth names d ts (last_within ts x) (λ e h y. token_elim ts y (item_nil names (suc e) ts) (λ u next st rest.
    label_as names (suc e) the_keyword.Default ts refl (next_kind_keyword the_keyword.Default ts next) (until_spent the_punct.Colon (default_label (spot ts)) e (skip ts) rest)))

take_does : (s : StmtTree Spot) → IsTaken s → ItemTaken (does s)
take_does s taken names d ts x = by_next ts (item_nil names d ts) (λ more. let y = begun_stmt names s d ts more x in
    spent_is _ _ (branch_false (starts_spec names ts) (counts d names) (labels d names) ts y.no_spec ∙ no_label_by (stmt d) d (stmt_start ts) names (spot ts) ts y.no_label) (spent_map (stmt d names ts) does (taken names d ts x)))

items_nil : (d turns : ℕ) (names : Names) → Spent (items_by (stmt d) d turns names [])
items_nil d zero names = refl
items_nil d (suc turns) names = spent_bind (item (stmt d) d names []) (λ i. (λ is. i ∷ is) <$> items_by (stmt d) d turns (after_item i names)) (item_nil names d [] refl) (λ i. spent_map (items_by (stmt d) d turns (after_item i names) []) _ (items_nil d turns (after_item i names)))

abbrev AllTaken : ItemTrees Spot → Type 0
AllTaken no_items = Unit {0}
AllTaken (more_items i is) = ItemTaken i × AllTaken is

abbrev item_then : ℕ → ℕ → Names → Parser (List (ItemTree Spot))
item_then d turns names = item (stmt d) d names >>= (λ i. (λ is. i ∷ is) <$> items_by (stmt d) d turns (after_item i names))

items_taken : (is : ItemTrees Spot) → AllTaken is → (names : Names) (d turns : ℕ) (ts : List Token) → length ts < turns → Within false (Unit {0}) (outlines.items names is) d ts → Spent (items_by (stmt d) d turns names ts)
items_taken is all names d turns ts h (inl e) = subst (λ us. Spent (items_by (stmt d) d turns names us)) (sym e) (items_nil d turns names)
items_taken is all names d zero ts h (inr z) = absurd (omega (arith, h))
items_taken no_items all names d (suc turns) ts h (inr z) = let x = z.1 in subst (λ us. Spent (items_by (stmt d) d (suc turns) names us)) (sym x.cut) (items_nil d (suc turns) names)
items_taken (more_items i is) all names d (suc turns) ts h (inr z) =
    part_elim ts z.1 (λ w. first w)
    (λ m more u y rest. let w = last_within m rest in
    spent_is _ _ (branch_false (next_is the_punct.RightBrace ts) (skipping (pure [])) (item_then d turns names) ts (item_opens names i d ts m y).no_brace
    ∙ bound (λ i. (λ is. i ∷ is) <$> items_by (stmt d) d turns (after_item i names)) (item (stmt d) d names ts) i m (is_item readers_complete i names d ts m y (items_no_else (after_item i names) is d m more w)))
    (spent_map (items_by (stmt d) d turns (after_item i names) m) _ (items_taken is all.1 (after_item i names) d turns m (omega (arith, h, item_size names i, reads_length (outlines.item names i) d ts m y)) w)))
  where
    first : Within false (Unit {0}) (outlines.item names i) d ts → Spent (items_by (stmt d) d (suc turns) names ts)
    first (inl e) = subst (λ us. Spent (items_by (stmt d) d (suc turns) names us)) (sym e) (items_nil d (suc turns) names)
    first (inr y) = by_next ts (λ e. subst (λ us. Spent (items_by (stmt d) d (suc turns) names us)) (sym e) (items_nil d (suc turns) names)) (λ more.
        spent_is _ _ (branch_false (next_is the_punct.RightBrace ts) (skipping (pure [])) (item_then d turns names) ts (begun_item names i d ts more y.1).no_brace)
        (spent_bind (item (stmt d) d names ts) (λ i. (λ is. i ∷ is) <$> items_by (stmt d) d turns (after_item i names)) (all.0 names d ts y.1) (λ j. spent_map (items_by (stmt d) d turns (after_item j names) []) _ (items_nil d turns (after_item j names)))))

take_block : (n : Spot) (is : ItemTrees Spot) → AllTaken is → IsTaken (compound (block n is))
take_block n is all names d ts x = by_depth names d ts (last_within ts x) (λ e h y. token_elim ts y (stmt_nil names (suc e) ts) (λ u next st rest.
    stmt_as names e begins_block ts (punct_stmt the_punct.LeftBrace ts (next_kind_punct the_punct.LeftBrace ts next))
    (spent_map (items (stmt e) e names (skip ts)) (λ is. compound (block (spot ts) (gathered_items is)))
    (part_elim (skip ts) rest (items_taken is all names e (suc (length (skip ts))) (skip ts) (omega arith))
    (λ m more v q last. closed e (skip ts) m q more last)))))
  where
    closed : (e : ℕ) (us m : List Token) → Reads (outlines.items names is) e us m → HasNext m → Begun (outlines.punct the_punct.RightBrace end) e m [] → Spent (items (stmt e) e names us)
    closed e us m q more last = token_elim m last (no_next m more) (λ v next st rest. spent_is _ _ (all_items e us m q (next_kind_punct the_punct.RightBrace m next)) rest.cut)
      where
        all_items : (e : ℕ) (us m : List Token) → Reads (outlines.items names is) e us m → next_is the_punct.RightBrace m ≡ true → items (stmt e) e names us ≡ Ok (listed is, skip m)
        all_items e us m q c = items_again is (are_items readers_complete is) names e (suc (length us)) us m q c (omega arith)

mutual
  pub stmt_taken : (s : StmtTree Spot) → IsTaken s
  stmt_taken (compound b) = block_taken b
  stmt_taken (plain n e) = take_plain n e
  stmt_taken (empty n) = take_empty n
  stmt_taken (if_then n c s) = take_if n c s (stmt_taken s)
  stmt_taken (if_else n c s t) = take_if_else n c s t (stmt_taken s) (stmt_taken t)
  stmt_taken (switch n e b) = take_switch n e b (block_taken b)
  stmt_taken (while_loop n c s) = take_while n c s (stmt_taken s)
  stmt_taken (do_loop n s c) = take_do n s c (stmt_taken s)
  stmt_taken (for_loop n a test each s) = take_for n a test each s (stmt_taken s)
  stmt_taken (break n) = take_break n
  stmt_taken (continue n) = take_continue n
  stmt_taken (return n e) = take_return n e

  block_taken : (b : BlockTree Spot) → IsTaken (compound b)
  block_taken (block n is) = take_block n is (items_all is)

  item_taken : (i : ItemTree Spot) → ItemTaken i
  item_taken (declares a) = take_declares a
  item_taken (case_label n e) = take_case n e
  item_taken (default_label n) = take_default n
  item_taken (does s) = take_does s (stmt_taken s)

  items_all : (is : ItemTrees Spot) → AllTaken is
  items_all no_items = tt
  items_all (more_items i is) = (item_taken i, items_all is)

-- the body of a function
pub body_spent : (b : BlockTree Spot) (names : Names) (d : ℕ) (ts : List Token) → Within false (Unit {0}) (outlines.block_of names b) d ts → Spent (body (stmt d) d names ts)
body_spent b names d ts w = body_taken b (stmt_taken (compound b)) names d ts w

pub block_begins : (names : Names) (b : BlockTree Spot) (d : ℕ) (ts : List Token) → HasNext ts → Begun (outlines.block_of names b) d ts [] → next_is the_punct.LeftBrace ts ≡ true
block_begins names b d ts more x = block_first names b d ts more x
