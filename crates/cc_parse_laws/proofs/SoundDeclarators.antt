-- Declarators that are read are there.
use Rattle.std.proofs.Common.{◌≡◌, ◌<◌, ◌+◌, refl, ℕ, zero, suc, Bool, true, false, List, length, Some, None, Ok, Err, arith, sym, ◌∙◌, subst, inl, inr, nat_lt, ◌&&◌, ◌||◌, ◌==◌}
use Rattle.std.proofs.lemmas.Bool.{and_parts, ltb-true}
use Rattle.cc_base.specs.declared.place.Spot.{Spot}
use Rattle.cc_lex.specs.declared.token.Token.{Token}
use Rattle.cc_lex.specs.declared.keyword.Keyword.TheVariants as the_keyword
use Rattle.cc_lex.specs.declared.punct.Punct.TheVariants as the_punct
use Rattle.cc_tree.specs.Trees.{ExprOption, no_expr, an_expr, DeclTree, declared, nameless, pointer, array, function, grouped}
use Rattle.cc_tree.specs.Views.{gathered_types}
use Rattle.cc_tree.specs.Depth as depths
use Rattle.cc_grammar.specs.Names.{Names}
use Rattle.cc_grammar.specs.Outline.{Outline, end, part, ◌▸◌, FitsSpot}
use Rattle.cc_grammar.specs.Outlines as outlines
use Rattle.cc_grammar.specs.Classes.{next_is, next_is_keyword, skip, spot, next_ident}
use Rattle.cc_grammar.specs.Outcomes.{Parser, take, ◌>>=◌, ◌>>◌, pure, ◌<$>◌, refuse}
use Rattle.cc_grammar.specs.Reading as reader
use Rattle.cc_grammar.specs.Reading.{Inner, Mode, with_name, without_name, with_or_without, wants_name, takes_name, spot_or, opening, id, placed, skipping, where_next, opposite}
use Rattle.cc_parse_laws.proofs.Spans.{Reads}
use Rattle.cc_parse_laws.proofs.Depths.{declarator_depth}
use Rattle.cc_parse_laws.proofs.Steps.{bind_ok, map_ok, ok_is, branched, next_reads, next_keyword_reads}
use Rattle.cc_parse_laws.proofs.NextTokens.{take_last, id_reads}
use Rattle.cc_parse_laws.proofs.Inner.{ReadsDeclarator, Suits, SoundInner}
use Rattle.cc_parse_laws.proofs.SoundTypes.{parameters_sound}
use Rattle.cc_parse_laws.proofs.SoundClimbing.{sinks}

-- ---- Spots

pub has_spot : (f : DeclTree Spot) (n : Spot) → outlines.HasSpot f (spot_or f n)
has_spot (declared m x) n = refl
has_spot nameless n = tt
has_spot (pointer m c f) n = refl
has_spot (array m f length) n = refl
has_spot (function m f ps) n = refl
has_spot (grouped m f) n = refl

pub suffix_stands : (f : DeclTree Spot) (n : Spot) → FitsSpot (outlines.suffix_spot f (spot_or f n)) n
suffix_stands (declared m x) n = tt
suffix_stands nameless n = refl
suffix_stands (pointer m c f) n = tt
suffix_stands (array m f length) n = tt
suffix_stands (function m f ps) n = tt
suffix_stands (grouped m f) n = tt

pub closes_over : (f : DeclTree Spot) (n : Spot) → outlines.ClosesOver f (opening f n)
closes_over f n e =
    let same : opening f n ≡ spot_or f n = rw e refl in
    subst (outlines.HasSpot f) (sym same) (has_spot f n)

pub opening_stands : (f : DeclTree Spot) (n : Spot) → FitsSpot (outlines.opening_spot f (opening f n)) n
opening_stands f n = by (outlines.is_named f) refl
  where
    by : (b : Bool) → outlines.is_named f ≡ b → FitsSpot (outlines.opening_spot f (opening f n)) n
    by true e =
        let none : outlines.opening_spot f (opening f n) ≡ None = rw e refl in
        subst (λ s. FitsSpot s n) (sym none) tt
    by false e =
        let some : outlines.opening_spot f (opening f n) ≡ Some n = rw e refl in
        subst (λ s. FitsSpot s n) (sym some) refl

-- ---- Names

-- a form with a name where the other has one suits where that one does
pub suits_too : (mode : Mode) (f g : DeclTree Spot) → outlines.is_named g ≡ outlines.is_named f → Suits mode f → Suits mode g
suits_too with_name f g e s = e ∙ s
suits_too without_name f g e s = e ∙ s
suits_too with_or_without f g e s = tt

pub suits_pointer : (mode : Mode) (n : Spot) (c : ℕ) (f : DeclTree Spot) → Suits mode f → Suits mode (pointer n c f)
suits_pointer mode n c f s = suits_too mode f (pointer n c f) refl s

pub suits_grouped : (mode : Mode) (n : Spot) (f : DeclTree Spot) → Suits mode f → Suits mode (grouped n f)
suits_grouped mode n f s = suits_too mode f (grouped n f) refl s

suits_named : (mode : Mode) (f : DeclTree Spot) → takes_name mode ≡ true → outlines.is_named f ≡ true → Suits mode f
suits_named with_name f e s = s
suits_named without_name f e s = absurd cc
suits_named with_or_without f e s = tt

suits_nameless : (mode : Mode) → wants_name mode ≡ false → Suits mode nameless
suits_nameless with_name e = absurd cc
suits_nameless without_name e = refl
suits_nameless with_or_without e = tt

pub other_of : (a b : Bool) → (a || b) ≡ true → a ≡ false → b ≡ true
other_of true b e f = absurd cc
other_of false b e f = e

-- a declarator without a star, of this depth with itself
abbrev pub Direct : Names → ℕ → Mode → List Token → DeclTree Spot × List Token → Type 0
Direct names d mode ts y = Suits mode y.0 × (outlines.is_direct y.0 ≡ true) × ReadsDeclarator names d y.0 ts y.1

-- where nothing is written, at any depth
pub nothing_sound : (names : Names) (inner : Inner) (d : ℕ) (mode : Mode) (ts : List Token) (x : DeclTree Spot × List Token) → reader.nothing names inner d mode ts ≡ Ok x → Direct names d mode ts x
nothing_sound names inner d mode ts x e =
    elim (branched (wants_name mode) refuse (pure nameless) ts (Ok x) e) [
      | inl c ↦ absurd (let no : Err ts ≡ Ok x = c.1 in cc)
      | inr c ↦ subst (Direct names d mode ts) (ok_is (nameless, ts) x c.1) (suits_nameless mode c.0, refl, refl)
    ]

pub consts_by_sound : (names : Names) (inner : Inner) (d e turns : ℕ) (ts : List Token) (x : ℕ × List Token) → reader.consts_by names inner d turns ts ≡ Ok x → Reads (outlines.consts x.0) e ts x.1
consts_by_sound names inner d e zero ts x f = subst (λ (y : ℕ × List Token). Reads (outlines.consts y.0) e ts y.1) (ok_is (0, ts) x f) refl
consts_by_sound names inner d e (suc turns) ts x f =
    elim (branched (next_is_keyword the_keyword.Const ts) (skipping ((λ c. c + 1) <$> reader.consts_by names inner d turns)) (pure 0) ts (Ok x) f) [
      | inl c ↦
          let m = map_ok (reader.consts_by names inner d turns (skip ts)) (λ c. c + 1) x c.1 in
          let rest = consts_by_sound names inner d e turns (skip ts) m.0 m.1 in
          let one : suc m.0.0 ≡ m.0.0 + 1 = omega arith in
          subst (λ (y : ℕ × List Token). Reads (outlines.consts y.0) e ts y.1) m.2
          (subst (λ n. Reads (outlines.consts n) e ts m.0.1) one (next_keyword_reads the_keyword.Const None (outlines.consts m.0.0) e ts m.0.1 c.0 tt rest))
      | inr c ↦ subst (λ (y : ℕ × List Token). Reads (outlines.consts y.0) e ts y.1) (ok_is (0, ts) x c.1) refl
    ]

module _ (names : Names) (inner : Inner) (d : ℕ) (good : SoundInner names inner d) where
  -- ---- Suffixes

  array_length_sound : (ts : List Token) (x : ExprOption Spot × List Token) → reader.array_length names inner (suc d) ts ≡ Ok x → Reads (outlines.within (outlines.length_of names x.0) ▸ outlines.punct the_punct.RightBracket ▸ end) d ts x.1
  array_length_sound ts x e =
      elim (branched (next_is the_punct.RightBracket ts) (skipping (pure no_expr)) (inner.expr 3 >>= (λ y. take the_punct.RightBracket >> pure (an_expr y))) ts (Ok x) e) [
        | inl c ↦
            subst (λ (y : ExprOption Spot × List Token). Reads (outlines.within (outlines.length_of names y.0) ▸ outlines.punct the_punct.RightBracket ▸ end) d ts y.1) (ok_is (no_expr, skip ts) x c.1)
            (ts, tt, refl, next_reads the_punct.RightBracket None end d ts (skip ts) c.0 tt refl)
        | inr c ↦
            let y = bind_ok (inner.expr 3 ts) (λ y. take the_punct.RightBracket >> pure (an_expr y)) x c.1 in
            let b = map_ok (take the_punct.RightBracket y.0.1) (λ z. an_expr y.0.0) x y.2 in
            let v = good.expr 3 (omega arith) ts y.0 y.1 in
            subst (λ (y : ExprOption Spot × List Token). Reads (outlines.within (outlines.length_of names y.0) ▸ outlines.punct the_punct.RightBracket ▸ end) d ts y.1) b.2
            (y.0.1, tt, (y.0.1, v.0, v.1, refl), take_last the_punct.RightBracket d y.0.1 b.0 b.1)
      ]

  array_sound : (mode : Mode) (left : DeclTree Spot) (first ts : List Token) (x : DeclTree Spot × List Token) → Direct names d mode first (left, ts) → next_is the_punct.LeftBracket ts ≡ true
      → (array (spot_or left (spot ts)) left <$> reader.array_length names inner (suc d)) (skip ts) ≡ Ok x → Direct names (suc d) mode first x
  array_sound mode left first ts x a c e =
      let n = spot_or left (spot ts) in
      let m = map_ok (reader.array_length names inner (suc d) (skip ts)) (array n left) x e in
      let v = array_length_sound (skip ts) m.0 m.1 in
      subst (Direct names (suc d) mode first) m.2 (
        suits_too mode left (array n left m.0.0) refl a.0,
        refl,
        (
          m.0.1,
          has_spot left (spot ts),
          (
            ts,
            a.1,
            a.2,
            next_reads the_punct.LeftBracket (outlines.suffix_spot left n) (outlines.within (outlines.length_of names m.0.0) ▸ outlines.punct the_punct.RightBracket ▸ end) d ts m.0.1 c (suffix_stands left (spot ts)) v,
          ),
          refl,
        ),
      )

  function_sound : (mode : Mode) (left : DeclTree Spot) (first ts : List Token) (x : DeclTree Spot × List Token) → Direct names d mode first (left, ts) → next_is the_punct.LeftParen ts ≡ true
      → ((λ ps. function (spot_or left (spot ts)) left (gathered_types ps)) <$> reader.parameters names inner (suc d)) (skip ts) ≡ Ok x → Direct names (suc d) mode first x
  function_sound mode left first ts x a c e =
      let n = spot_or left (spot ts) in
      let m = map_ok (reader.parameters names inner (suc d) (skip ts)) (λ ps. function n left (gathered_types ps)) x e in
      let v = parameters_sound names inner d good (skip ts) m.0 m.1 in
      subst (Direct names (suc d) mode first) m.2 (
        suits_too mode left (function n left (gathered_types m.0.0)) refl a.0,
        refl,
        (
          m.0.1,
          has_spot left (spot ts),
          (
            ts,
            a.1,
            a.2,
            next_reads the_punct.LeftParen (outlines.suffix_spot left n) (outlines.within (outlines.parameters names (gathered_types m.0.0)) ▸ outlines.punct the_punct.RightParen ▸ end) d ts m.0.1 c (suffix_stands left (spot ts)) v,
          ),
          refl,
        ),
      )

  pub suffix_sound : (mode : Mode) (left : DeclTree Spot) (first ts : List Token) (x : DeclTree Spot × List Token) → Direct names d mode first (left, ts) → reader.suffix_comes names inner (suc d) ts ≡ true
      → reader.suffix names inner (suc d) left ts ≡ Ok x → Direct names (suc d) mode first x
  suffix_sound mode left first ts x a comes e =
      let n = spot_or left (spot ts) in
      elim (branched (next_is the_punct.LeftBracket ts) (skipping (array n left <$> reader.array_length names inner (suc d))) (skipping ((λ ps. function n left (gathered_types ps)) <$> reader.parameters names inner (suc d))) ts (Ok x) e) [
        | inl c ↦ array_sound mode left first ts x a c.0 c.1
        | inr c ↦ function_sound mode left first ts x a (other_of (next_is the_punct.LeftBracket ts) (next_is the_punct.LeftParen ts) comes c.0) c.1
      ]

  suffixes_sound : (mode : Mode) (turns : ℕ) (left : DeclTree Spot) (first ts : List Token) (x : DeclTree Spot × List Token) → Direct names (suc d) mode first (left, ts)
      → reader.suffixes names inner (suc d) turns left ts ≡ Ok x → Direct names (suc d) mode first x
  suffixes_sound mode zero left first ts x a e = subst (Direct names (suc d) mode first) (ok_is (left, ts) x e) a
  suffixes_sound mode (suc turns) left first ts x a e =
      let here : Bool = reader.suffix_comes names inner (suc d) ts in
      let small : Bool = nat_lt (depths.declarator_depth left) (suc d) in
      elim (branched (here && small) (reader.suffix names inner (suc d) left >>= reader.suffixes names inner (suc d) turns) (pure left) ts (Ok x) e) [
        | inl c ↦
            let t = and_parts here small c.0 in
            let less : depths.declarator_depth left < suc d = ltb-true _ _ t.1 in
            let q = bind_ok (reader.suffix names inner (suc d) left ts) (reader.suffixes names inner (suc d) turns) x c.1 in
            let sunk : ReadsDeclarator names d left first ts = sinks (outlines.is_written left) (outlines.declarator names left) d first ts a.2 (omega (arith, less, declarator_depth names left)) in
            let s = suffix_sound mode left first ts q.0 (a.0, a.1, sunk) t.0 q.1 in
            suffixes_sound mode turns q.0.0 first q.0.1 x s q.2
        | inr c ↦ subst (Direct names (suc d) mode first) (ok_is (left, ts) x c.1) a
      ]

  -- ---- What suffixes stand behind

  group_sound : (mode : Mode) (ts : List Token) (x : DeclTree Spot × List Token) → next_is the_punct.LeftParen ts ≡ true → reader.group names inner (suc d) mode ts ≡ Ok x → Direct names (suc d) mode ts x
  group_sound mode ts x c e =
      let n = spot ts in
      let only = reader.written_only names inner (suc d) in
      let a = bind_ok ((inner.declarator mode >>= only) (skip ts)) (λ f. take the_punct.RightParen >> pure (grouped (opening f n) f)) x e in
      let f = bind_ok (inner.declarator mode (skip ts)) only a.0 a.1 in
      let b = map_ok (take the_punct.RightParen a.0.1) (λ z. grouped (opening a.0.0 n) a.0.0) x a.2 in
      let v = good.declarator mode (skip ts) f.0 f.1 in
      elim (branched (outlines.is_written f.0.0) (pure f.0.0) refuse f.0.1 (Ok a.0) f.2) [
        | inl w ↦
            let same : f.0 ≡ a.0 = ok_is (f.0.0, f.0.1) a.0 w.1 in
            let g : Suits mode a.0.0 × ReadsDeclarator names d a.0.0 (skip ts) a.0.1 = subst (λ (y : DeclTree Spot × List Token). Suits mode y.0 × ReadsDeclarator names d y.0 (skip ts) y.1) same v in
            let written : outlines.is_written a.0.0 ≡ true = subst (λ (y : DeclTree Spot × List Token). outlines.is_written y.0 ≡ true) same w.0 in
            let m = opening a.0.0 n in
            let inside : Outline = part (outlines.is_written a.0.0) (outlines.is_written a.0.0 ≡ true) (outlines.declarator names a.0.0) (outlines.punct the_punct.RightParen ▸ end) in
            subst (Direct names (suc d) mode ts) {x = (grouped m a.0.0, b.0.1)} b.2 (
              suits_grouped mode m a.0.0 g.0,
              refl,
              (
                b.0.1,
                closes_over a.0.0 n,
                next_reads the_punct.LeftParen (outlines.opening_spot a.0.0 m) inside d ts b.0.1 c (opening_stands a.0.0 n) (a.0.1, written, g.1, take_last the_punct.RightParen d a.0.1 b.0 b.1),
                refl,
              ),
            )
        | inr w ↦ absurd (let no : Err f.0.1 ≡ Ok a.0 = w.1 in cc)
      ]

  pub direct_sound : (mode : Mode) (ts : List Token) (x : DeclTree Spot × List Token) → reader.direct names inner (suc d) mode ts ≡ Ok x → Direct names (suc d) mode ts x
  direct_sound mode ts x e =
      let some : Bool = reader.is_id names inner (suc d) (next_ident ts) in
      let ends : Bool = opposite (reader.begins_parameters names inner (suc d) mode ts) in
      let others : Parser (DeclTree Spot) = where_next (λ us. next_is the_punct.LeftParen us && opposite (reader.begins_parameters names inner (suc d) mode us)) (reader.group names inner (suc d) mode) (reader.nothing names inner (suc d) mode) in
      elim (branched (takes_name mode && some) (placed (λ n. declared n <$> id names)) others ts (Ok x) e) [
        | inl c ↦
            let m = map_ok (id names ts) (declared (spot ts)) x c.1 in
            subst (Direct names (suc d) mode ts) m.2
            (suits_named mode (declared (spot ts) m.0.0) (and_parts (takes_name mode) some c.0).0 refl, refl, id_reads names (Some (spot ts)) end d ts m.0.1 m.0 m.1 refl refl)
        | inr c ↦ elim (branched (next_is the_punct.LeftParen ts && ends) (reader.group names inner (suc d) mode) (reader.nothing names inner (suc d) mode) ts (Ok x) c.1) [
          | inl b ↦ group_sound mode ts x (and_parts (next_is the_punct.LeftParen ts) ends b.0).0 b.1
          | inr b ↦ nothing_sound names inner (suc d) mode ts x b.1
        ]
      ]

  -- ---- Stars

  abbrev Found : Mode → List Token → DeclTree Spot × List Token → Type 0
  Found mode ts y = Suits mode y.0 × ReadsDeclarator names (suc d) y.0 ts y.1

  pointer_sound : (mode : Mode) (ts : List Token) (x : DeclTree Spot × List Token) → next_is the_punct.Star ts ≡ true
      → (reader.consts names inner (suc d) >>= (λ c. (λ f. pointer (opening f (spot ts)) c f) <$> inner.declarator mode)) (skip ts) ≡ Ok x → Found mode ts x
  pointer_sound mode ts x s e =
      let n = spot ts in
      let c = bind_ok (reader.consts names inner (suc d) (skip ts)) (λ c. (λ f. pointer (opening f n) c f) <$> inner.declarator mode) x e in
      let f = map_ok (inner.declarator mode c.0.1) (λ f. pointer (opening f n) c.0.0 f) x c.2 in
      let u = consts_by_sound names inner (suc d) d (length (skip ts)) (skip ts) c.0 c.1 in
      let v = good.declarator mode c.0.1 f.0 f.1 in
      let m = opening f.0.0 n in
      let inside : Outline = outlines.within (outlines.consts c.0.0) ▸ outlines.any_one f.0.0 (outlines.declarator names f.0.0) ▸ end in
      subst (Found mode ts) {x = (pointer m c.0.0 f.0.0, f.0.1)} f.2 (
        suits_pointer mode m c.0.0 f.0.0 v.0,
        (
          f.0.1,
          closes_over f.0.0 n,
          next_reads the_punct.Star (outlines.opening_spot f.0.0 m) inside d ts f.0.1 s (opening_stands f.0.0 n) (c.0.1, tt, u, (f.0.1, tt, v.1, refl)),
          refl,
        ),
      )

  pub declarator_sound : (mode : Mode) (ts : List Token) (x : DeclTree Spot × List Token) → reader.declarator names inner (suc d) mode ts ≡ Ok x → Found mode ts x
  declarator_sound mode ts x e =
      let stars : Parser (DeclTree Spot) = placed (λ n. skipping (reader.consts names inner (suc d) >>= (λ c. (λ f. pointer (opening f n) c f) <$> inner.declarator mode))) in
      let others : Parser (DeclTree Spot) = reader.direct names inner (suc d) mode >>= reader.suffixes names inner (suc d) (suc d) in
      elim (branched (suc d == 0) (reader.nothing names inner (suc d) mode) (where_next (next_is the_punct.Star) stars others) ts (Ok x) e) [
        | inl c ↦
            let s = nothing_sound names inner (suc d) mode ts x c.1 in
            (s.0, s.2)
        | inr c ↦ elim (branched (next_is the_punct.Star ts) stars others ts (Ok x) c.1) [
          | inl b ↦ pointer_sound mode ts x b.0 b.1
          | inr b ↦
              let q = bind_ok (reader.direct names inner (suc d) mode ts) (reader.suffixes names inner (suc d) (suc d)) x b.1 in
              let s = suffixes_sound mode (suc d) q.0.0 ts q.0.1 x (direct_sound mode ts q.0 q.1) q.2 in
              (s.0, s.2)
        ]
      ]
