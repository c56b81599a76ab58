-- What is read as a condition, or as a clause of a `for`, is there.
use Rattle.std.proofs.Common.{◌≡◌, ◌≤◌, refl, ℕ, zero, suc, Bool, List, Option, Some, None, Ok, arith, ap, subst, inl, inr}
use Rattle.cc_base.specs.declared.place.Spot.{Spot}
use Rattle.cc_lex.specs.declared.token.Token.{Token}
use Rattle.cc_lex.specs.declared.punct.Punct.{Punct}
use Rattle.cc_lex.specs.declared.punct.Punct.TheVariants as the_punct
use Rattle.cc_tree.specs.Trees.{ExprTree, StartTree, start_declaration, start_expr, no_start, StmtTree}
use Rattle.cc_grammar.specs.Outline.{end, ◌▸◌}
use Rattle.cc_grammar.specs.Outlines as outlines
use Rattle.cc_grammar.specs.Names.{Names}
use Rattle.cc_grammar.specs.Classes.{next_is, skip, spot, starts_spec}
use Rattle.cc_grammar.specs.Outcomes.{Parser, and_then, ◌>>=◌, ◌>>◌, pure, ◌<$>◌, take}
use Rattle.cc_grammar.specs.Reading.{skipping, readers, declaration_at, counted_by, condition, clause_until, start_expr_behind, start_clause}
use Rattle.cc_parse_laws.proofs.Spans.{Reads}
use Rattle.cc_parse_laws.proofs.Steps.{bind_ok, map_ok, ok_is, branched, next_reads, take_reads}
use Rattle.cc_parse_laws.proofs.Lists.{IsSound}
use Rattle.cc_parse_laws.proofs.Inner.{SoundInner}
use Rattle.cc_parse_laws.proofs.Begins.{operand_begins}
use Rattle.cc_parse_laws.proofs.Endings.{ReadsTo, Leads, taken}
use Rattle.cc_parse_laws.proofs.SoundDeclarations.{declaration_sound}

-- a clause, which may be empty, and the first clause of a `for` with its semicolon
abbrev pub ReadsClause : Names → ℕ → Option (ExprTree Spot) → List Token → List Token → Type 0
ReadsClause names d c ts r = Reads (outlines.clause names c) d ts r

abbrev pub ReadsStart : Names → ℕ → StartTree Spot → List Token → List Token → Type 0
ReadsStart names d y ts r = Reads (outlines.start_of names y) d ts r

module _ (readers_sound : (names : Names) (d : ℕ) → SoundInner names (readers names d) d) where
  -- an expression and the token behind it
  pub expr_then : {A : Type 0} (names : Names) (d least : ℕ) → least ≤ 15 → (s : Punct) (f : ExprTree Spot → A) (ts : List Token) (x : A × List Token) → and_then ((readers names d).expr least ts) (λ e. take s >> pure (f e)) ≡ Ok x
      → (e : ExprTree Spot) × ((f e, x.1) ≡ x) × Leads (λ j. outlines.operand least e (outlines.expr names e) ▸ outlines.punct s ▸ j) d ts x.1 × (outlines.begins e ≡ spot ts)
  expr_then names d least l s f ts x e =
      let a = bind_ok ((readers names d).expr least ts) (λ y. take s >> pure (f y)) x e in
      let first = (readers_sound names d).expr least l ts a.0 a.1 in
      let t = taken s (f a.0.0) d a.0.1 x a.2 in
      (a.0.0, t.0, λ j r h. (a.0.1, first.0, first.1, t.1 j r h), operand_begins names a.0.0 d ts a.0.1 first.1)

  start_declares_sound : (d : ℕ) (names : Names) → IsSound (counted_by d (λ e. start_declaration <$> declaration_at e names)) (ReadsStart names d)
  start_declares_sound zero names ts x e = absurd cc
  start_declares_sound (suc d) names ts x e =
      let m = map_ok (declaration_at d names ts) start_declaration x e in
      let s = declaration_sound readers_sound d names ts m.0 m.1 in
      subst (ReadsTo (ReadsStart names (suc d)) ts) m.2 (m.0.1, s.0, s.1, refl)

  -- The reader of statements inside has no part in these.
  module _ (inner : Names → Parser (StmtTree Spot)) (d : ℕ) where
    pub condition_sound : (names : Names) (ts : List Token) (x : ExprTree Spot × List Token) → condition inner d names ts ≡ Ok x
        → Leads (λ j. outlines.punct the_punct.LeftParen ▸ outlines.operand 1 x.0 (outlines.expr names x.0) ▸ outlines.punct the_punct.RightParen ▸ j) d ts x.1
    condition_sound names ts x e =
        let a = bind_ok (and_then (take the_punct.LeftParen ts) (λ z. (readers names d).expr 1)) (λ c. take the_punct.RightParen >> pure c) x e in
        let b = bind_ok (take the_punct.LeftParen ts) (λ z. (readers names d).expr 1) a.0 a.1 in
        let first = (readers_sound names d).expr 1 (omega arith) b.0.1 a.0 b.2 in
        let t = taken the_punct.RightParen a.0.0 d a.0.1 x a.2 in
        let same : a.0.0 ≡ x.0 = ap (λ (y : ExprTree Spot × List Token). y.0) t.0 in
        subst (λ (c : ExprTree Spot). Leads (λ j. outlines.punct the_punct.LeftParen ▸ outlines.operand 1 c (outlines.expr names c) ▸ outlines.punct the_punct.RightParen ▸ j) d ts x.1) same
        (λ j r h. take_reads the_punct.LeftParen (outlines.operand 1 a.0.0 (outlines.expr names a.0.0) ▸ outlines.punct the_punct.RightParen ▸ j) d ts r b.0 b.1 (a.0.1, first.0, first.1, t.1 j r h))

    pub clause_sound : (names : Names) (ends : List Token → Bool) → IsSound (clause_until inner d names ends) (ReadsClause names d)
    clause_sound names ends ts x e =
        elim (branched (ends ts) (pure None) (Some <$> (readers names d).expr 1) ts (Ok x) e) [
          | inl c ↦ subst (ReadsTo (ReadsClause names d) ts) (ok_is (None, ts) x c.1) refl
          | inr c ↦
              let m = map_ok ((readers names d).expr 1 ts) Some x c.1 in
              let s = (readers_sound names d).expr 1 (omega arith) ts m.0 m.1 in
              subst (ReadsTo (ReadsClause names d) ts) m.2 (m.0.1, s.0, s.1, refl)
        ]

    start_expr_sound : (names : Names) → IsSound (start_expr_behind inner d names) (ReadsStart names d)
    start_expr_sound names ts x e =
        elim (branched (next_is the_punct.Semicolon ts) (skipping (pure no_start)) ((readers names d).expr 1 >>= (λ c. take the_punct.Semicolon >> pure (start_expr c))) ts (Ok x) e) [
          | inl c ↦ subst (ReadsTo (ReadsStart names d) ts) (ok_is (no_start, skip ts) x c.1) (next_reads the_punct.Semicolon None end d ts (skip ts) c.0 tt refl)
          | inr c ↦
              let s = expr_then names d 1 (omega arith) the_punct.Semicolon start_expr ts x c.1 in
              subst (ReadsTo (ReadsStart names d) ts) s.1 (s.2 end x.1 refl)
        ]

    pub start_sound : (names : Names) → IsSound (start_clause inner d names) (ReadsStart names d)
    start_sound names ts x e =
        elim (branched (starts_spec names ts) (counted_by d (λ e. start_declaration <$> declaration_at e names)) (start_expr_behind inner d names) ts (Ok x) e) [
          | inl c ↦ start_declares_sound d names ts x c.1
          | inr c ↦ start_expr_sound names ts x c.1
        ]
