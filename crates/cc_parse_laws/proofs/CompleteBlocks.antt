-- Blocks are read back, and with them all statements.
use Rattle.std.proofs.Common.{◌≡◌, ◌≤◌, ◌<◌, refl, ℕ, zero, suc, Bool, true, false, List, [], ◌∷◌, length, Some, None, Ok, arith, ap, ◌∙◌}
use Rattle.cc_base.specs.declared.place.Spot.{Spot}
use Rattle.cc_lex.specs.declared.token.Token.{Token}
use Rattle.cc_lex.specs.declared.keyword.Keyword.{Keyword}
use Rattle.cc_lex.specs.declared.keyword.Keyword.TheVariants as the_keyword
use Rattle.cc_lex.specs.declared.punct.Punct.{Punct}
use Rattle.cc_lex.specs.declared.punct.Punct.TheVariants as the_punct
use Rattle.cc_tree.specs.Trees.{ExprTree, SpecTrees, InitTree, DeclarationTree, declaration, StmtTree, compound, plain, empty, if_then, if_else, switch, while_loop, do_loop, for_loop, break, continue, return, BlockTree, block, ItemTree, declares, case_label, default_label, does, ItemTrees, no_items, more_items}
use Rattle.cc_tree.specs.Views.{gathered_items}
use Rattle.cc_grammar.specs.Outline.{Outline, end, part, size}
use Rattle.cc_grammar.specs.Outlines as outlines
use Rattle.cc_grammar.specs.Names.{Names, after_item}
use Rattle.cc_grammar.specs.Classes.{same_punct, same_keyword, next_is, next_is_keyword, skip, spot, spec_keyword, is_spec, starts_spec, StmtStart, begins_case, begins_default, stmt_punct, stmt_keyword, stmt_start}
use Rattle.cc_grammar.specs.Outcomes.{Parser, ◌<$>◌}
use Rattle.cc_grammar.specs.Reading.{readers, label_by, item, items_by, stmt}
use Rattle.cc_parse_laws.proofs.Spans.{Reads}
use Rattle.cc_parse_laws.proofs.Steps.{reads_length}
use Rattle.cc_parse_laws.proofs.Inner.{CompleteInner}
use Rattle.cc_parse_laws.proofs.Peeks.{after, inside, punct_spec, punct_keyword, punct_other}
use Rattle.cc_parse_laws.proofs.Firsts.{inside_sinks, first_expr, opens_not, first_specs, spec_not}
use Rattle.cc_parse_laws.proofs.Nexts.{punct_stmt, keyword_other, keyword_punct, keyword_spec, keyword_stmt, spec_no_else, expr_other, expr_no_else}
use Rattle.cc_parse_laws.proofs.Pieces.{only, only_counted, at_depth, comes, comes_keyword, got_expr}
use Rattle.cc_parse_laws.proofs.CompleteDeclarations.{declaration_again}
use Rattle.cc_parse_laws.proofs.CompleteStatements.{IsStmt, empty_again, break_again, continue_again, plain_again, return_again, if_then_again, if_else_again, switch_again, while_again, do_again, for_again}

-- ---- With which tokens statements and items begin

unfoldable pub is_label : StmtStart → Bool
is_label begins_case = true
is_label begins_default = true
is_label _ = false

-- neither a declaration nor a label begins here, nor does a block end, nor an `else` come
pub record OpensStmt (names : Names) (ts : List Token) : Type 0 where
  pub no_spec : starts_spec names ts ≡ false
  pub no_brace : next_is the_punct.RightBrace ts ≡ false
  pub no_else : next_is_keyword the_keyword.Else ts ≡ false
  pub no_label : is_label (stmt_start ts) ≡ false

pub reads_keyword_opens : (names : Names) (w : Keyword) (n : Spot) (i : Outline) (d : ℕ) (ts r : List Token) → is_spec (spec_keyword w) ≡ false → same_keyword the_keyword.Else w ≡ false → is_label (stmt_keyword w) ≡ false
    → Reads (part true (Unit {0}) (outlines.keyword_of n w i) end) d ts r → OpensStmt names ts
reads_keyword_opens names w n i d ts r a b c x =
    let y = only_counted (Unit {0}) (outlines.keyword_of n w i) d ts r x in
    let word = comes_keyword w (Some n) (Unit {0}) i d ts r (inside_sinks true (outlines.keyword_of n w i) d ts r y.1) in
    record { no_spec = keyword_spec names w ts a word.is; no_brace = keyword_punct the_punct.RightBrace w ts word.is; no_else = keyword_other the_keyword.Else w ts b word.is; no_label = ap is_label (keyword_stmt w ts word.is) ∙ c }

pub reads_punct_opens : (names : Names) (s : Punct) (n : Spot) (i : Outline) (d : ℕ) (ts r : List Token) → same_punct the_punct.RightBrace s ≡ false → is_label (stmt_punct s) ≡ false
    → Reads (part true (Unit {0}) (outlines.punct_of n s i) end) d ts r → OpensStmt names ts
reads_punct_opens names s n i d ts r a b x =
    let y = only_counted (Unit {0}) (outlines.punct_of n s i) d ts r x in
    let here = comes s (Some n) i d ts r (inside_sinks true (outlines.punct_of n s i) d ts r y.1) in
    record { no_spec = punct_spec names s ts here.is; no_brace = punct_other the_punct.RightBrace s ts a here.is; no_else = punct_keyword the_keyword.Else s ts here.is; no_label = ap is_label (punct_stmt s ts here.is) ∙ b }

plain_opens : (names : Names) (n : Spot) (e : ExprTree Spot) (d : ℕ) (ts r : List Token) → Reads (outlines.stmt names (plain n e)) d ts r → OpensStmt names ts
unfolding is_label
plain_opens names n e d ts r x =
    let i = inside (outlines.stmt names (plain n e)) in
    let y = inside_sinks true i d ts r (only_counted (n ≡ outlines.begins e) i d ts r x).1 in
    let begins = first_expr names e d ts y.0 (inside_sinks true (outlines.expr names e) d ts y.0 y.2) in
    record { no_spec = begins.no_spec; no_brace = opens_not names the_punct.RightBrace ts refl begins; no_else = expr_no_else names ts begins; no_label = ap is_label (expr_other names ts begins) }

block_opens : (names : Names) (b : BlockTree Spot) (d : ℕ) (ts r : List Token) → Reads (outlines.block_of names b) d ts r → OpensStmt names ts
unfolding is_label
block_opens names (block n is) d ts r x = reads_punct_opens names the_punct.LeftBrace n (after (inside (outlines.block_of names (block n is)))) d ts r refl refl x

pub stmt_opens : (names : Names) (s : StmtTree Spot) (d : ℕ) (ts r : List Token) → Reads (outlines.stmt names s) d ts r → OpensStmt names ts
unfolding is_label
stmt_opens names (compound b) d ts r x = block_opens names b d ts r x
stmt_opens names (plain n e) d ts r x = plain_opens names n e d ts r x
stmt_opens names (empty n) d ts r x = reads_punct_opens names the_punct.Semicolon n (after (inside (outlines.stmt names (empty n)))) d ts r refl refl x
stmt_opens names (if_then n c s) d ts r x = reads_keyword_opens names the_keyword.If n (after (inside (outlines.stmt names (if_then n c s)))) d ts r refl refl refl x
stmt_opens names (if_else n c s t) d ts r x = reads_keyword_opens names the_keyword.If n (after (inside (outlines.stmt names (if_else n c s t)))) d ts r refl refl refl x
stmt_opens names (switch n e b) d ts r x = reads_keyword_opens names the_keyword.Switch n (after (inside (outlines.stmt names (switch n e b)))) d ts r refl refl refl x
stmt_opens names (while_loop n c s) d ts r x = reads_keyword_opens names the_keyword.While n (after (inside (outlines.stmt names (while_loop n c s)))) d ts r refl refl refl x
stmt_opens names (do_loop n s c) d ts r x = reads_keyword_opens names the_keyword.Do n (after (inside (outlines.stmt names (do_loop n s c)))) d ts r refl refl refl x
stmt_opens names (for_loop n a test each s) d ts r x = reads_keyword_opens names the_keyword.For n (after (inside (outlines.stmt names (for_loop n a test each s)))) d ts r refl refl refl x
stmt_opens names (break n) d ts r x = reads_keyword_opens names the_keyword.Break n (after (inside (outlines.stmt names (break n)))) d ts r refl refl refl x
stmt_opens names (continue n) d ts r x = reads_keyword_opens names the_keyword.Continue n (after (inside (outlines.stmt names (continue n)))) d ts r refl refl refl x
stmt_opens names (return n e) d ts r x = reads_keyword_opens names the_keyword.Return n (after (inside (outlines.stmt names (return n e)))) d ts r refl refl refl x

-- an item comes next: the block doesn't end, and no `else` comes
pub record OpensItem (ts : List Token) : Type 0 where
  pub no_brace : next_is the_punct.RightBrace ts ≡ false
  pub no_else : next_is_keyword the_keyword.Else ts ≡ false

keyword_item : (w : Keyword) (n : Spot) (i : Outline) (d : ℕ) (ts r : List Token) → same_keyword the_keyword.Else w ≡ false → Reads (part true (Unit {0}) (outlines.keyword_of n w i) end) d ts r → OpensItem ts
keyword_item w n i d ts r b x =
    let y = only_counted (Unit {0}) (outlines.keyword_of n w i) d ts r x in
    let word = comes_keyword w (Some n) (Unit {0}) i d ts r (inside_sinks true (outlines.keyword_of n w i) d ts r y.1) in
    record { no_brace = keyword_punct the_punct.RightBrace w ts word.is; no_else = keyword_other the_keyword.Else w ts b word.is }

declares_item : (names : Names) (a : DeclarationTree Spot) (d : ℕ) (ts r : List Token) → Reads (outlines.item names (declares a)) d ts r → OpensItem ts
declares_item names (declaration n ss is) d ts r x =
    let i = outlines.declaration_of names (declaration n ss is) in
    let y = only_counted (outlines.BeginAt ss n) i d ts r x in
    let z = inside_sinks true i d ts r y.1 in
    let starts = (first_specs names ss n d ts z.0 y.0 z.2).0 in
    record { no_brace = spec_not names the_punct.RightBrace ts starts; no_else = spec_no_else names ts starts }

pub item_opens : (names : Names) (i : ItemTree Spot) (d : ℕ) (ts r : List Token) → Reads (outlines.item names i) d ts r → OpensItem ts
item_opens names (declares a) d ts r x = declares_item names a d ts r x
item_opens names (case_label n e) d ts r x = keyword_item the_keyword.Case n (after (inside (outlines.item names (case_label n e)))) d ts r refl x
item_opens names (default_label n) d ts r x = keyword_item the_keyword.Default n (after (inside (outlines.item names (default_label n)))) d ts r refl x
item_opens names (does s) d ts r x = let y = stmt_opens names s d ts r x in record { no_brace = y.no_brace; no_else = y.no_else }

items_no_else : (names : Names) (is : ItemTrees Spot) (d : ℕ) (ts r : List Token) → Reads (outlines.items names is) d ts r → next_is the_punct.RightBrace r ≡ true → next_is_keyword the_keyword.Else ts ≡ false
items_no_else names no_items d ts r x e = punct_keyword the_keyword.Else the_punct.RightBrace ts (ap (next_is the_punct.RightBrace) x ∙ e)
items_no_else names (more_items i is) d ts r x e = (item_opens names i d ts x.0 x.2).no_else

-- ---- They have tokens

pub block_size : (names : Names) (b : BlockTree Spot) → 1 ≤ size (outlines.block_of names b)
block_size names (block n is) = omega arith

stmt_size : (names : Names) (s : StmtTree Spot) → 1 ≤ size (outlines.stmt names s)
stmt_size names (compound b) = block_size names b
stmt_size names (plain n e) = omega arith
stmt_size names (empty n) = omega arith
stmt_size names (if_then n c s) = omega arith
stmt_size names (if_else n c s t) = omega arith
stmt_size names (switch n e b) = omega arith
stmt_size names (while_loop n c s) = omega arith
stmt_size names (do_loop n s c) = omega arith
stmt_size names (for_loop n a test each s) = omega arith
stmt_size names (break n) = omega arith
stmt_size names (continue n) = omega arith
stmt_size names (return n e) = omega arith

declaration_size : (names : Names) (a : DeclarationTree Spot) → 1 ≤ size (outlines.declaration_of names a)
declaration_size names (declaration n ss is) = omega arith

pub item_size : (names : Names) (i : ItemTree Spot) → 1 ≤ size (outlines.item names i)
item_size names (declares a) = omega (arith, declaration_size names a)
item_size names (case_label n e) = omega arith
item_size names (default_label n) = omega arith
item_size names (does s) = stmt_size names s

-- ---- Items

abbrev pub IsItem : ItemTree Spot → Type 0
IsItem i = (names : Names) (d : ℕ) (ts r : List Token) → Reads (outlines.item names i) d ts r → next_is_keyword the_keyword.Else r ≡ false → item (stmt d) d names ts ≡ Ok (i, r)

abbrev AllItems : ItemTrees Spot → Type 0
AllItems no_items = Unit {0}
AllItems (more_items i is) = IsItem i × AllItems is

-- what begins no label is a statement
pub no_label_by : (inner : Names → Parser (StmtTree Spot)) (d : ℕ) (s : StmtStart) (names : Names) (n : Spot) (ts : List Token) → is_label s ≡ false → label_by inner d s names n ts ≡ (does <$> inner names) ts
unfolding is_label
no_label_by inner d begins_case names n ts e = absurd cc
no_label_by inner d begins_default names n ts e = absurd cc
no_label_by inner d _ names n ts e = refl

-- what is counted is read with one less of the depth
item_at : (names : Names) (i : ItemTree Spot) (h : Type 0) (d : ℕ) (ts r : List Token) → Reads (part true h (inside (outlines.item names i)) end) d ts r
    → ((e : ℕ) → h → Reads (inside (outlines.item names i)) e ts r → item (stmt (suc e)) (suc e) names ts ≡ Ok (i, r)) → item (stmt d) d names ts ≡ Ok (i, r)
item_at names i h d ts r x give = at_depth (λ e. item (stmt e) e names ts ≡ Ok (i, r)) h (inside (outlines.item names i)) d ts r x give

stmt_at : (names : Names) (s : StmtTree Spot) (h : Type 0) (d : ℕ) (ts r : List Token) → Reads (part true h (inside (outlines.stmt names s)) end) d ts r
    → ((e : ℕ) → h → Reads (inside (outlines.stmt names s)) e ts r → stmt (suc e) names ts ≡ Ok (s, r)) → stmt d names ts ≡ Ok (s, r)
stmt_at names s h d ts r x give = at_depth (λ e. stmt e names ts ≡ Ok (s, r)) h (inside (outlines.stmt names s)) d ts r x give

does_again : (s : StmtTree Spot) → IsStmt s → IsItem (does s)
does_again s again names d ts r x e =
    let begins = stmt_opens names s d ts r x in
    let read = again names d ts r x (λ _. e) in
    rw (begins.no_spec, no_label_by (stmt d) d (stmt_start ts) names (spot ts) ts begins.no_label, read) refl

default_inside : (n : Spot) (names : Names) (d : ℕ) (ts r : List Token) → Reads (inside (outlines.item names (default_label n))) d ts r → item (stmt (suc d)) (suc d) names ts ≡ Ok (default_label n, r)
default_inside n names d ts r x =
    let word = comes_keyword the_keyword.Default (Some n) (Unit {0}) (after (inside (outlines.item names (default_label n)))) d ts r x in
    let colon = comes the_punct.Colon None end d (skip ts) r word.then in
    rw (keyword_spec names the_keyword.Default ts refl word.is, keyword_stmt the_keyword.Default ts word.is, word.at, colon.taken, colon.then) refl

default_again : (n : Spot) → IsItem (default_label n)
default_again n names d ts r x e = item_at names (default_label n) (Unit {0}) d ts r x (λ f _ y. default_inside n names f ts r y)

pub listed : ItemTrees Spot → List (ItemTree Spot)
listed no_items = []
listed (more_items i is) = i ∷ listed is

gathered_listed : (is : ItemTrees Spot) → gathered_items (listed is) ≡ is
unfolding listed
gathered_listed no_items = refl
gathered_listed (more_items i is) = ap (more_items i) (gathered_listed is)

pub items_again : (is : ItemTrees Spot) → AllItems is → (names : Names) (d turns : ℕ) (ts r : List Token) → Reads (outlines.items names is) d ts r → next_is the_punct.RightBrace r ≡ true → length ts < turns
    → items_by (stmt d) d turns names ts ≡ Ok (listed is, skip r)
unfolding listed
items_again is all names d zero ts r x e h = absurd (omega (arith, h))
items_again no_items all names d (suc turns) ts r x e h = rw (x, e) refl
items_again (more_items i is) all names d (suc turns) ts r x e h =
    let z = only (outlines.items (after_item i names) is) d x.0 r x.3 in
    let read = all.0 names d ts x.0 x.2 (items_no_else (after_item i names) is d x.0 r z e) in
    let others = items_again is all.1 (after_item i names) d turns x.0 r z e (omega (arith, h, item_size names i, reads_length (outlines.item names i) d ts x.0 x.2)) in
    rw ((item_opens names i d ts x.0 x.2).no_brace, read, others) refl

block_inside : (n : Spot) (is : ItemTrees Spot) → AllItems is → (names : Names) (d : ℕ) (ts r : List Token) → Reads (inside (outlines.block_of names (block n is))) d ts r → stmt (suc d) names ts ≡ Ok (compound (block n is), r)
block_inside n is all names d ts r x =
    let brace = comes the_punct.LeftBrace (Some n) (after (inside (outlines.block_of names (block n is)))) d ts r x in
    let y = brace.then in
    let close = comes the_punct.RightBrace None end d y.0 r y.3 in
    let read = items_again is all names d (suc (length (skip ts))) (skip ts) y.0 y.2 close.is (omega arith) in
    rw (punct_stmt the_punct.LeftBrace ts brace.is, brace.at, read, gathered_listed is, close.then) refl

block_again : (n : Spot) (is : ItemTrees Spot) → AllItems is → IsStmt (compound (block n is))
block_again n is all names d ts r x ends = stmt_at names (compound (block n is)) (Unit {0}) d ts r x (λ f _ y. block_inside n is all names f ts r y)

module _ (readers_complete : (names : Names) (d : ℕ) → CompleteInner names (readers names d) d) where
  declares_inside : (n : Spot) (ss : SpecTrees Spot) (is : List (InitTree Spot)) (names : Names) (d : ℕ) (ts r : List Token) → outlines.BeginAt ss n → Reads (outlines.declaration_of names (declaration n ss is)) d ts r
      → item (stmt (suc d)) (suc d) names ts ≡ Ok (declares (declaration n ss is), r)
  declares_inside n ss is names d ts r b x =
      let starts : starts_spec names ts ≡ true = (first_specs names ss n d ts x.0 b x.2).0 in
      rw (starts, declaration_again readers_complete names d n ss is ts r b x) refl

  declares_again : (a : DeclarationTree Spot) → IsItem (declares a)
  declares_again (declaration n ss is) names d ts r x e = item_at names (declares (declaration n ss is)) (outlines.BeginAt ss n) d ts r x (λ f b y. declares_inside n ss is names f ts r b y)

  case_inside : (n : Spot) (c : ExprTree Spot) (names : Names) (d : ℕ) (ts r : List Token) → Reads (inside (outlines.item names (case_label n c))) d ts r → item (stmt (suc d)) (suc d) names ts ≡ Ok (case_label n c, r)
  case_inside n c names d ts r x =
      let word = comes_keyword the_keyword.Case (Some n) (Unit {0}) (after (inside (outlines.item names (case_label n c)))) d ts r x in
      let read = got_expr readers_complete names d 3 c the_punct.Colon end (skip ts) r (omega arith) word.then in
      let colon = comes the_punct.Colon None end d read.rest r read.then in
      rw (keyword_spec names the_keyword.Case ts refl word.is, keyword_stmt the_keyword.Case ts word.is, word.at, read.reads, colon.taken, colon.then) refl

  case_again : (n : Spot) (c : ExprTree Spot) → IsItem (case_label n c)
  case_again n c names d ts r x e = item_at names (case_label n c) (Unit {0}) d ts r x (λ f _ y. case_inside n c names f ts r y)

  mutual
    is_stmt : (s : StmtTree Spot) → IsStmt s
    is_stmt (compound b) = is_block b
    is_stmt (plain n e) = λ names d ts r x ends. stmt_at names (plain n e) (n ≡ outlines.begins e) d ts r x (λ f b y. plain_again readers_complete names f n e ts r b y)
    is_stmt (empty n) = λ names d ts r x ends. stmt_at names (empty n) (Unit {0}) d ts r x (λ f _ y. empty_again names f n ts r y)
    is_stmt (if_then n c s) = λ names d ts r x ends. stmt_at names (if_then n c s) (Unit {0}) d ts r x (λ f _ y. if_then_again readers_complete names f n c s ts r (is_stmt s) (ends refl) y)
    is_stmt (if_else n c s t) = λ names d ts r x ends. stmt_at names (if_else n c s t) (Unit {0}) d ts r x (λ f _ y. if_else_again readers_complete names f n c s t ts r (is_stmt s) (is_stmt t) ends y)
    is_stmt (switch n e b) = λ names d ts r x ends. stmt_at names (switch n e b) (Unit {0}) d ts r x (λ f _ y. switch_again readers_complete names f n e b ts r (is_block b) y)
    is_stmt (while_loop n c s) = λ names d ts r x ends. stmt_at names (while_loop n c s) (Unit {0}) d ts r x (λ f _ y. while_again readers_complete names f n c s ts r (is_stmt s) ends y)
    is_stmt (do_loop n s c) = λ names d ts r x ends. stmt_at names (do_loop n s c) (Unit {0}) d ts r x (λ f _ y. do_again readers_complete names f n s c ts r (is_stmt s) y)
    is_stmt (for_loop n a test each s) = λ names d ts r x ends. stmt_at names (for_loop n a test each s) (Unit {0}) d ts r x (λ f _ y. for_again readers_complete names f n a test each s ts r (is_stmt s) ends y)
    is_stmt (break n) = λ names d ts r x ends. stmt_at names (break n) (Unit {0}) d ts r x (λ f _ y. break_again names f n ts r y)
    is_stmt (continue n) = λ names d ts r x ends. stmt_at names (continue n) (Unit {0}) d ts r x (λ f _ y. continue_again names f n ts r y)
    is_stmt (return n e) = λ names d ts r x ends. stmt_at names (return n e) (Unit {0}) d ts r x (λ f _ y. return_again readers_complete names f n e ts r y)

    is_block : (b : BlockTree Spot) → IsStmt (compound b)
    is_block (block n is) = block_again n is (are_items is)

    pub is_item : (i : ItemTree Spot) → IsItem i
    is_item (declares a) = declares_again a
    is_item (case_label n e) = case_again n e
    is_item (default_label n) = default_again n
    is_item (does s) = does_again s (is_stmt s)

    pub are_items : (is : ItemTrees Spot) → AllItems is
    are_items no_items = tt
    are_items (more_items i is) = (is_item i, are_items is)

  -- a statement is read back, but not before an `else` that it would take
  pub stmt_again : (names : Names) (d : ℕ) (s : StmtTree Spot) (ts r : List Token) → Reads (outlines.stmt names s) d ts r → (outlines.is_open s ≡ true → next_is_keyword the_keyword.Else r ≡ false) → stmt d names ts ≡ Ok (s, r)
  stmt_again names d s ts r x ends = is_stmt s names d ts r x ends

  -- and a block wherever it stands
  pub block_is_stmt : (b : BlockTree Spot) → IsStmt (compound b)
  block_is_stmt b = is_block b
