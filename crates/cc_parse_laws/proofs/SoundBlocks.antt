-- What is read as a block is there, if what is read as a statement in it is.
use Rattle.std.proofs.Common.{◌≡◌, refl, ℕ, zero, suc, true, false, List, [], ◌∷◌, length, Some, None, Ok, arith, subst, inl, inr}
use Rattle.cc_base.specs.declared.place.Spot.{Spot}
use Rattle.cc_lex.specs.declared.token.Token.{Token}
use Rattle.cc_lex.specs.declared.keyword.Keyword.TheVariants as the_keyword
use Rattle.cc_lex.specs.declared.punct.Punct.TheVariants as the_punct
use Rattle.cc_tree.specs.Trees.{StmtTree, compound, BlockTree, ItemTree, declares, case_label, default_label, does}
use Rattle.cc_tree.specs.Views.{gathered_items}
use Rattle.cc_grammar.specs.Outline.{end, ◌▸◌}
use Rattle.cc_grammar.specs.Outlines as outlines
use Rattle.cc_grammar.specs.Names.{Names, after_item}
use Rattle.cc_grammar.specs.Classes.{next_is, next_is_keyword, skip, spot, starts_spec, StmtStart, begins_case, begins_default, stmt_start}
use Rattle.cc_grammar.specs.Outcomes.{Parser, and_then, ◌>>=◌, ◌>>◌, pure, ◌<$>◌, refuse, take}
use Rattle.cc_grammar.specs.Reading.{skipping, readers, declaration_at, counted_by, only_block, body, label_by, item, items_by, items}
use Rattle.cc_parse_laws.proofs.Spans.{Reads}
use Rattle.cc_parse_laws.proofs.Steps.{bind_ok, map_ok, ok_is, branched, next_reads, next_keyword_reads}
use Rattle.cc_parse_laws.proofs.Lists.{IsSound}
use Rattle.cc_parse_laws.proofs.Inner.{SoundInner}
use Rattle.cc_parse_laws.proofs.Begins.{Opens, opens}
use Rattle.cc_parse_laws.proofs.Endings.{ReadsTo, taken, last_part}
use Rattle.cc_parse_laws.proofs.SoundDeclarations.{declaration_sound}
use Rattle.cc_parse_laws.proofs.SoundClauses.{expr_then}

-- a statement, and no `else` behind it that would belong to it
pub record ReadsStmt (names : Names) (d : ℕ) (s : StmtTree Spot) (ts r : List Token) : Type 0 where
  pub there : Reads (outlines.stmt names s) d ts r
  pub closed : outlines.is_open s ≡ true → next_is_keyword the_keyword.Else r ≡ false

abbrev pub ReadsItem : Names → ℕ → ItemTree Spot → List Token → List Token → Type 0
ReadsItem names d i ts r = Reads (outlines.item names i) d ts r

abbrev pub ReadsBlock : Names → ℕ → BlockTree Spot → List Token → List Token → Type 0
ReadsBlock names d b ts r = Reads (outlines.block_of names b) d ts r

-- a block, where a statement was read
only_block_sound : (s : StmtTree Spot) (ts : List Token) (x : BlockTree Spot × List Token) → only_block s ts ≡ Ok x → (s ≡ compound x.0) × (ts ≡ x.1)
only_block_sound (compound b) ts x e = (cc, cc)
only_block_sound _ ts x e = absurd cc

module _ (readers_sound : (names : Names) (d : ℕ) → SoundInner names (readers names d) d) where
  -- ---- What counts in a block

  declares_sound : (d : ℕ) (names : Names) → IsSound (counted_by d (λ e. declares <$> declaration_at e names)) (ReadsItem names d)
  declares_sound zero names ts x e = absurd cc
  declares_sound (suc d) names ts x e =
      let m = map_ok (declaration_at d names ts) declares x e in
      let s = declaration_sound readers_sound d names ts m.0 m.1 in
      subst (ReadsTo (ReadsItem names (suc d)) ts) m.2 (m.0.1, s.0, s.1, refl)

  case_sound : (d : ℕ) (names : Names) (ts : List Token) (x : ItemTree Spot × List Token) → next_is_keyword the_keyword.Case ts ≡ true
      → counted_by d (λ e. skipping ((readers names e).expr 3 >>= (λ c. take the_punct.Colon >> pure (case_label (spot ts) c)))) ts ≡ Ok x → ReadsItem names d x.0 ts x.1
  case_sound zero names ts x opening e = absurd cc
  case_sound (suc d) names ts x opening e =
      let c = expr_then readers_sound names d 3 (omega arith) the_punct.Colon (case_label (spot ts)) (skip ts) x e in
      subst (ReadsTo (ReadsItem names (suc d)) ts) c.1
      (x.1, tt, next_keyword_reads the_keyword.Case (Some (spot ts)) (outlines.operand 3 c.0 (outlines.expr names c.0) ▸ outlines.punct the_punct.Colon ▸ end) d ts x.1 opening refl (c.2 end x.1 refl), refl)

  default_sound : (d : ℕ) (names : Names) (ts : List Token) (x : ItemTree Spot × List Token) → next_is_keyword the_keyword.Default ts ≡ true
      → counted_by d (λ e. skipping (take the_punct.Colon >> pure (default_label (spot ts)))) ts ≡ Ok x → ReadsItem names d x.0 ts x.1
  default_sound zero names ts x opening e = absurd cc
  default_sound (suc d) names ts x opening e =
      let t = taken the_punct.Colon (default_label (spot ts)) d (skip ts) x e in
      subst (ReadsTo (ReadsItem names (suc d)) ts) t.0
      (x.1, tt, next_keyword_reads the_keyword.Default (Some (spot ts)) (outlines.punct the_punct.Colon ▸ end) d ts x.1 opening refl (t.1 end x.1 refl), refl)

  -- ---- Over what is shown of the reader of the statements inside

  module _ (inner : Names → Parser (StmtTree Spot)) (d : ℕ) (inner_sound : (names : Names) → IsSound (inner names) (ReadsStmt names d)) where
    pub body_sound : (names : Names) → IsSound (body inner d names) (ReadsBlock names d)
    body_sound names ts x e =
        elim (branched (next_is the_punct.LeftBrace ts) (inner names >>= only_block) refuse ts (Ok x) e) [
          | inl c ↦
              let a = bind_ok (inner names ts) only_block x c.1 in
              let s = inner_sound names ts a.0 a.1 in
              let b = only_block_sound a.0.0 a.0.1 x a.2 in
              subst (λ us. ReadsBlock names d x.0 ts us) b.1 (subst (λ (y : StmtTree Spot). Reads (outlines.stmt names y) d ts a.0.1) b.0 s.there)
          | inr c ↦ absurd cc
        ]

    does_sound : (names : Names) (ts : List Token) (x : ItemTree Spot × List Token) → and_then (inner names ts) (λ s us. Ok (does s, us)) ≡ Ok x → ReadsItem names d x.0 ts x.1
    does_sound names ts x e =
        let m = map_ok (inner names ts) does x e in
        let s = inner_sound names ts m.0 m.1 in
        subst (ReadsTo (ReadsItem names d) ts) m.2 s.there

    label_sound : (b : StmtStart) (names : Names) (ts : List Token) (x : ItemTree Spot × List Token) → Opens b ts → label_by inner d b names (spot ts) ts ≡ Ok x → ReadsItem names d x.0 ts x.1
    label_sound begins_case names ts x opening e = case_sound d names ts x opening e
    label_sound begins_default names ts x opening e = default_sound d names ts x opening e
    label_sound _ names ts x opening e = does_sound names ts x e

    pub item_sound : (names : Names) → IsSound (item inner d names) (ReadsItem names d)
    item_sound names ts x e =
        elim (branched (starts_spec names ts) (counted_by d (λ e. declares <$> declaration_at e names)) (λ us. label_by inner d (stmt_start us) names (spot us) us) ts (Ok x) e) [
          | inl c ↦ declares_sound d names ts x c.1
          | inr c ↦ label_sound (stmt_start ts) names ts x (opens ts) c.1
        ]

    -- up to the brace that closes the block
    abbrev Closes : Names → List (ItemTree Spot) → List Token → List Token → Type 0
    Closes names is ts r = (m : List Token) × Reads (outlines.items names (gathered_items is)) d ts m × (next_is the_punct.RightBrace m ≡ true) × (skip m ≡ r)

    items_by_sound : (turns : ℕ) (names : Names) → IsSound (items_by inner d turns names) (Closes names)
    items_by_sound zero names ts x e = absurd cc
    items_by_sound (suc turns) names ts x e =
        elim (branched (next_is the_punct.RightBrace ts) (skipping (pure [])) (item inner d names >>= (λ i. (λ is. i ∷ is) <$> items_by inner d turns (after_item i names))) ts (Ok x) e) [
          | inl c ↦ subst (ReadsTo (Closes names) ts) (ok_is ([], skip ts) x c.1) (ts, refl, c.0, refl)
          | inr c ↦
              let a = bind_ok (item inner d names ts) (λ i. (λ is. i ∷ is) <$> items_by inner d turns (after_item i names)) x c.1 in
              let first = item_sound names ts a.0 a.1 in
              let m = map_ok (items_by inner d turns (after_item a.0.0 names) a.0.1) (λ is. a.0.0 ∷ is) x a.2 in
              let rest = items_by_sound turns (after_item a.0.0 names) a.0.1 m.0 m.1 in
              let others = last_part (outlines.items (after_item a.0.0 names) (gathered_items m.0.0)) d a.0.1 rest.0 rest.1 in
              subst (ReadsTo (Closes names) ts) {x = (a.0.0 ∷ m.0.0, m.0.1)} m.2 (rest.0, (a.0.1, tt, first, others), rest.2, rest.3)
        ]

    pub items_sound : (names : Names) → IsSound (items inner d names) (λ is ts r. Reads (outlines.within (outlines.items names (gathered_items is)) ▸ outlines.punct the_punct.RightBrace ▸ end) d ts r)
    items_sound names ts x e =
        let s = items_by_sound (suc (length ts)) names ts x e in
        (s.0, tt, s.1, next_reads the_punct.RightBrace None end d s.0 x.1 s.2 tt s.3)
