-- Clauses, conditions and what statements begin with, where they are begun.
use Rattle.std.proofs.Common.{◌≡◌, ◌<◌, ◌≤◌, refl, ℕ, zero, suc, true, false, List, [], ◌∷◌, Option, Some, None, Ok, arith, sym, ap, subst, ◌∙◌, inl, inr}
use Rattle.cc_base.specs.declared.place.Spot.{Spot}
use Rattle.cc_base.specs.Spots as spots
use Rattle.cc_lex.specs.declared.token.Token.{Token}
use Rattle.cc_lex.specs.declared.token.TokenKind.TheVariants as kind
use Rattle.cc_lex.specs.declared.keyword.Keyword.{Keyword}
use Rattle.cc_lex.specs.declared.punct.Punct.{Punct}
use Rattle.cc_lex.specs.declared.punct.Punct.TheVariants as the_punct
use Rattle.cc_tree.specs.Trees.{ExprTree, name, StartTree, start_declaration, start_expr, no_start, StmtTree, DeclarationTree}
use Rattle.cc_grammar.specs.Levels.{level}
use Rattle.cc_grammar.specs.Names.{Names}
use Rattle.cc_grammar.specs.Outline.{Outline, end, ◌▸◌}
use Rattle.cc_grammar.specs.Outlines as outlines
use Rattle.cc_grammar.specs.Classes.{next_is, next_is_keyword, skip, starts_spec, tail_punct, binds, start_punct, begins_nothing}
use Rattle.cc_grammar.specs.Outcomes.{Parser, and_then, take, take_keyword, pure, ◌<$>◌, ◌>>=◌, ◌>>◌}
use Rattle.cc_grammar.specs.Reading.{readers, condition, clause_until, start_clause, start_expr_behind, declaration_at, counted_by, skipping}
use Rattle.cc_parse_laws.proofs.Spans.{Inside, Reads}
use Rattle.cc_parse_laws.proofs.Steps.{branch_true, branch_false, kind_keyword}
use Rattle.cc_parse_laws.proofs.Lists.{takes}
use Rattle.cc_parse_laws.proofs.Peeks.{punct_ends, punct_spec}
use Rattle.cc_parse_laws.proofs.NextTokens.{NextKind}
use Rattle.cc_parse_laws.proofs.Firsts.{first_operand, opens_not, OpensExpr}
use Rattle.cc_parse_laws.proofs.Climbs.{bound}
use Rattle.cc_parse_laws.proofs.CompleteReaders.{readers_complete}
use Rattle.cc_parse_laws.proofs.CompleteStatements.{start_again}
use Rattle.cc_parse_places.proofs.Begun.{Begun}
use Rattle.cc_parse_places.proofs.Spent.{Spent, spent_bind, spent_map, spent_is, HasNext, no_next, Within, token_elim, part_elim, last_within, begun_sinks, next_kind_punct}
use Rattle.cc_parse_places.proofs.SpentFirsts.{begun_opens}
use Rattle.cc_parse_places.proofs.SpentTypes.{by_next}
use Rattle.cc_parse_places.proofs.SpentReaders.{readers_spent}
use Rattle.cc_parse_places.proofs.SpentDeclarations.{declaration_spent, declaration_starts}

pub next_kind_keyword : (w : Keyword) (ts : List Token) → NextKind (kind.Keyword w) ts → next_is_keyword w ts ≡ true
next_kind_keyword w [] e = absurd e
next_kind_keyword w (t ∷ ts) e = kind_keyword w t.kind e

pub takes_keyword : (w : Keyword) (ts : List Token) → next_is_keyword w ts ≡ true → take_keyword w ts ≡ Ok (tt, skip ts)
takes_keyword w [] e = absurd cc
takes_keyword w (t ∷ ts) e = rw e refl

-- a last token
pub until_spent : {A : Type 0} (s : Punct) (a : A) (d : ℕ) (m : List Token) → Begun (outlines.punct s end) d m [] → Spent (and_then (take s m) (λ z. pure a))
until_spent s a d m x = token_elim m x (λ e. spent_is _ _ (ap (λ us. and_then (take s us) (λ z. pure a)) e) refl) (λ u next st rest. spent_is _ _ (ap (λ z. and_then z (λ w. pure a)) (takes s m (next_kind_punct s m next))) rest.cut)

pub expr_nil : (names : Names) (d least : ℕ) (ts : List Token) → 0 < least → ts ≡ [] → Spent ((readers names d).expr least ts)
expr_nil names d least ts some e = (readers_spent names d).expr least (name spots.start []) ts some (inl e)

-- an expression and a token that ends it
pub ended_spent : {A : Type 0} (s : Punct) (f : ExprTree Spot → A) (names : Names) (d least : ℕ) (e : ExprTree Spot) (ts : List Token) → 0 < least → binds (tail_punct s) < least → Begun (outlines.operand least e (outlines.expr names e) ▸ outlines.punct s ▸ end) d ts []
    → Spent (and_then ((readers names d).expr least ts) (λ y us. and_then (take s us) (λ z. pure (f y))))
ended_spent s f names d least e ts some looser x =
    part_elim ts x (λ w. spent_bind ((readers names d).expr least ts) _ ((readers_spent names d).expr least e ts some w) (λ y. refl))
    (λ m more h y rest. token_elim m rest (no_next m more) (λ u next st last. let c = next_kind_punct s m next in
    spent_is _ _ (bound (λ z us. and_then (take s us) (λ w. pure (f z))) ((readers names d).expr least ts) e m ((readers_complete names d).expr least e ts m h y (punct_ends least s m looser c)) ∙ ap (λ z. and_then z (λ w. pure (f e))) (takes s m c)) last.cut))

-- ---- Conditions, and what comes behind them

pub condition_nil : (inner : Names → Parser (StmtTree Spot)) (names : Names) (d : ℕ) (ts : List Token) → ts ≡ [] → Spent (condition inner d names ts)
condition_nil inner names d ts e = spent_is _ _ (ap (condition inner d names) e) refl

pub condition_elim : {A : Type 0} (inner : Names → Parser (StmtTree Spot)) (names : Names) (d : ℕ) (c : ExprTree Spot) (j : Outline) (ts : List Token) (f : ExprTree Spot → Parser A) → Begun (outlines.punct the_punct.LeftParen ▸ outlines.operand 1 c (outlines.expr names c) ▸ outlines.punct the_punct.RightParen ▸ j) d ts []
    → ((x : ExprTree Spot) → Spent (f x [])) → ((m : List Token) → Begun j d m [] → Spent (f c m)) → Spent (and_then (condition inner d names ts) f)
condition_elim inner names d c j ts f x nil on =
    token_elim ts x (λ e. spent_bind (condition inner d names ts) f (condition_nil inner names d ts e) nil) (λ u next st rest.
    let opening = takes the_punct.LeftParen ts (next_kind_punct the_punct.LeftParen ts next) in
    part_elim (skip ts) rest
    (λ w. spent_bind (condition inner d names ts) f
    (spent_bind (and_then (take the_punct.LeftParen ts) (λ z. (readers names d).expr 1)) _ (spent_is _ _ (ap (λ z. and_then z (λ w. (readers names d).expr 1)) opening) ((readers_spent names d).expr 1 c (skip ts) (omega arith) w)) (λ y. refl)) nil)
    (λ m more h y others. token_elim m others (no_next m more) (λ v closing s last.
    let read : (readers names d).expr 1 (skip ts) ≡ Ok (c, m) = (readers_complete names d).expr 1 c (skip ts) m h y (punct_ends 1 the_punct.RightParen m (omega arith) (next_kind_punct the_punct.RightParen m closing)) in
    let closed = takes the_punct.RightParen m (next_kind_punct the_punct.RightParen m closing) in
    let all : condition inner d names ts ≡ Ok (c, skip m) = rw (opening, read, closed) refl in
    spent_is _ _ (bound f (condition inner d names ts) c (skip m) all) (on (skip m) last))))

-- ---- Clauses

pub clause_nil : (inner : Names → Parser (StmtTree Spot)) (names : Names) (d : ℕ) (s : Punct) (ts : List Token) → ts ≡ [] → Spent (clause_until inner d names (next_is s) ts)
clause_nil inner names d s ts e = subst (λ us. Spent (clause_until inner d names (next_is s) us)) (sym e) (spent_map ((readers names d).expr 1 []) Some (expr_nil names d 1 [] (omega arith) refl))

pub clause_in : (inner : Names → Parser (StmtTree Spot)) (names : Names) (d : ℕ) (c : Option (ExprTree Spot)) (s : Punct) (ts : List Token) → start_punct s ≡ begins_nothing → Within false (Unit {0}) (outlines.clause names c) d ts → Spent (clause_until inner d names (next_is s) ts)
clause_in inner names d c s ts none (inl e) = clause_nil inner names d s ts e
clause_in inner names d None s ts none (inr z) = let x = z.1 in clause_nil inner names d s ts x.cut
clause_in inner names d (Some e) s ts none (inr z) = by (last_within ts z.1)
  where
    by : Within true (1 ≤ level e) (outlines.expr names e) d ts → Spent (clause_until inner d names (next_is s) ts)
    by (inl y) = clause_nil inner names d s ts y
    by (inr y) = by_next ts (clause_nil inner names d s ts) (λ more.
        spent_is _ _ (branch_false (next_is s ts) (pure None) (Some <$> (readers names d).expr 1) ts (opens_not names s ts none (begun_opens names e d ts more (begun_sinks true (outlines.expr names e) d ts [] y.1))))
        (spent_map ((readers names d).expr 1 ts) Some ((readers_spent names d).expr 1 e ts (omega arith) (inr y))))

pub clause_read : (inner : Names → Parser (StmtTree Spot)) (names : Names) (d : ℕ) (c : Option (ExprTree Spot)) (s : Punct) (ts m : List Token) → binds (tail_punct s) < 1 → start_punct s ≡ begins_nothing → Reads (outlines.clause names c) d ts m → next_is s m ≡ true
    → clause_until inner d names (next_is s) ts ≡ Ok (c, m)
clause_read inner names d None s ts m looser none y e = branch_true (next_is s ts) (pure None) (Some <$> (readers names d).expr 1) ts (ap (next_is s) y ∙ e) ∙ ap (λ us. Ok (None, us)) y
clause_read inner names d (Some e) s ts m looser none y c =
    let q = y.0 in
    let read : (readers names d).expr 1 ts ≡ Ok (e, m) = (readers_complete names d).expr 1 e ts m y.1 (subst (λ us. Inside true (λ f. Reads (outlines.expr names e) f ts us) d) y.3 y.2) (punct_ends 1 s m looser c) in
    branch_false (next_is s ts) (pure None) (Some <$> (readers names d).expr 1) ts (opens_not names s ts none (first_operand names e d ts y.0 y.2)) ∙ ap (λ z. and_then z (λ w. pure (Some w))) read

-- ---- The first clause of a `for`

pub start_nil : (inner : Names → Parser (StmtTree Spot)) (names : Names) (d : ℕ) (ts : List Token) → ts ≡ [] → Spent (start_clause inner d names ts)
start_nil inner names d ts e = subst (λ us. Spent (start_clause inner d names us)) (sym e) (spent_bind ((readers names d).expr 1 []) _ (expr_nil names d 1 [] (omega arith) refl) (λ y. refl))

declares_in : (inner : Names → Parser (StmtTree Spot)) (names : Names) (d : ℕ) (a : DeclarationTree Spot) (ts : List Token) → Within true (outlines.declaration_spot a) (outlines.declaration_of names a) d ts → Spent (start_clause inner d names ts)
declares_in inner names d a ts (inl e) = start_nil inner names d ts e
declares_in inner names zero a ts (inr z) = absurd z.1
declares_in inner names (suc d) a ts (inr z) =
    by_next ts (start_nil inner names (suc d) ts) (λ more.
    spent_is _ _ (branch_true (starts_spec names ts) (counted_by (suc d) (λ e. start_declaration <$> declaration_at e names)) (start_expr_behind inner (suc d) names) ts (declaration_starts d names a ts more z.0 z.1))
    (spent_map (declaration_at d names ts) start_declaration (declaration_spent d names a ts z.0 z.1)))

pub start_in : (inner : Names → Parser (StmtTree Spot)) (names : Names) (d : ℕ) (a : StartTree Spot) (ts : List Token) → Within false (Unit {0}) (outlines.start_of names a) d ts → Spent (start_clause inner d names ts)
start_in inner names d a ts (inl e) = start_nil inner names d ts e
start_in inner names d (start_declaration a) ts (inr z) = declares_in inner names d a ts (last_within ts z.1)
start_in inner names d no_start ts (inr z) =
    token_elim ts z.1 (start_nil inner names d ts) (λ u next st rest. let c = next_kind_punct the_punct.Semicolon ts next in
    spent_is _ _ (branch_false (starts_spec names ts) (counted_by d (λ e. start_declaration <$> declaration_at e names)) (start_expr_behind inner d names) ts (punct_spec names the_punct.Semicolon ts c)
    ∙ branch_true (next_is the_punct.Semicolon ts) (skipping (pure no_start)) ((readers names d).expr 1 >>= (λ e. take the_punct.Semicolon >> pure (start_expr e))) ts c) rest.cut)
start_in inner names d (start_expr e) ts (inr z) =
    by_next ts (start_nil inner names d ts) (λ more. let x = opened more in
    spent_is _ _ (branch_false (starts_spec names ts) (counted_by d (λ e. start_declaration <$> declaration_at e names)) (start_expr_behind inner d names) ts x.no_spec
    ∙ branch_false (next_is the_punct.Semicolon ts) (skipping (pure no_start)) ((readers names d).expr 1 >>= (λ e. take the_punct.Semicolon >> pure (start_expr e))) ts (opens_not names the_punct.Semicolon ts refl x))
    (ended_spent the_punct.Semicolon start_expr names d 1 e ts (omega arith) (omega arith) z.1))
  where
    opened : HasNext ts → OpensExpr names ts
    opened more = part_elim ts z.1 (λ w. by w) (λ m next h y rest. first_operand names e d ts m y)
      where
        by : Within true (1 ≤ level e) (outlines.expr names e) d ts → OpensExpr names ts
        by (inl y) = no_next ts more y
        by (inr y) = begun_opens names e d ts more (begun_sinks true (outlines.expr names e) d ts [] y.1)

pub start_read : (inner : Names → Parser (StmtTree Spot)) (names : Names) (d : ℕ) (a : StartTree Spot) (ts m : List Token) → Reads (outlines.start_of names a) d ts m → start_clause inner d names ts ≡ Ok (a, m)
start_read inner names d a ts m y = start_again readers_complete inner names d a ts m y
