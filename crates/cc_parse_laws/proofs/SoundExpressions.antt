-- Expressions that are read are there.
use Rattle.std.proofs.Common.{◌≡◌, ◌≤◌, refl, ℕ, suc, Bool, true, List, [], ◌∷◌, Option, Some, None, Ok, Err, arith, sym, ap, subst, inl, inr, nat_le, ◌&&◌, ◌==◌}
use Rattle.std.proofs.lemmas.Bool.{and_parts, leb-true}
use Rattle.cc_base.specs.declared.place.Spot.{Spot}
use Rattle.cc_lex.specs.declared.token.Token.{Token}
use Rattle.cc_lex.specs.declared.token.TokenKind.{TokenKind}
use Rattle.cc_lex.specs.declared.token.TokenKind.TheVariants as kind
use Rattle.cc_lex.specs.declared.keyword.Keyword.TheVariants as the_keyword
use Rattle.cc_lex.specs.declared.punct.Punct.TheVariants as the_punct
use Rattle.cc_tree.specs.declared.operator.Side.TheVariants as side
use Rattle.cc_tree.specs.Trees.{ExprTree, name, integer, character, string, paren, unary, step, cast, size_expr, size_type}
use Rattle.cc_grammar.specs.Levels.{unary_punct, step_punct}
use Rattle.cc_grammar.specs.Names.{Names}
use Rattle.cc_grammar.specs.Outline.{Outline, end, token, ◌▸◌}
use Rattle.cc_grammar.specs.Outlines as outlines
use Rattle.cc_grammar.specs.Classes.{next_is, skip, spot, next_literal, starts_spec, Start, begins_name, begins_integer, begins_character, begins_string, begins_paren, begins_unary, begins_step, begins_sizeof, begins_nothing, start}
use Rattle.cc_grammar.specs.Outcomes.{Parser, and_then, take, ◌>>=◌, ◌>>◌, pure, ◌<$>◌, refuse}
use Rattle.cc_grammar.specs.Reading as reader
use Rattle.cc_grammar.specs.Reading.{Inner, id, where_next, skipping, without_name}
use Rattle.cc_parse_laws.proofs.Spans.{Reads}
use Rattle.cc_parse_laws.proofs.Steps.{bind_ok, map_ok, ok_is, branched, next_reads, take_reads}
use Rattle.cc_parse_laws.proofs.NextTokens.{take_last, NextKind, kind_reads, start_token, start_next, literal_next, id_reads}
use Rattle.cc_parse_laws.proofs.Lists.{IsSound, Following, Repeated, repeated_sound}
use Rattle.cc_parse_laws.proofs.Inner.{SoundInner}
use Rattle.cc_parse_laws.proofs.SoundTypes.{typed_sound, typed_type}
use Rattle.cc_parse_laws.proofs.SoundClimbing.{Made, climb_sound}

-- ---- String literals

abbrev Literal : List ℕ → List Token → List Token → Type 0
Literal s ts r = NextKind (kind.Str s) ts × (skip ts ≡ r)

literal_sound : (names : Names) (inner : Inner) (d : ℕ) → IsSound (λ ts. reader.literal_by names inner d (next_literal ts) ts) Literal
literal_sound names inner d ts x e = by (next_literal ts) refl e
  where
    by : (y : Option (List ℕ)) → next_literal ts ≡ y → reader.literal_by names inner d y ts ≡ Ok x → Literal x.0 ts x.1
    by None i f = absurd cc
    by (Some bytes) i f = subst (λ (z : List ℕ × List Token). Literal z.0 ts z.1) (ok_is (bytes, skip ts) x f) (literal_next bytes ts i, refl)

other_strings : (more : List Token → Bool) (ss : List (List ℕ)) (d : ℕ) (ts r : List Token) → Following more Literal ss ts r → Reads (outlines.strings ss) d ts r
other_strings more [] d ts r x = x
other_strings more (s ∷ ss) d ts r x =
    kind_reads (Unit {0}) (kind.Str s) None (outlines.strings ss) d ts r x.2.0 tt tt (subst (λ us. Reads (outlines.strings ss) d us r) (sym x.2.1) (other_strings more ss d x.0 r x.3))

literals_sound : (names : Names) (inner : Inner) (d e : ℕ) (ts : List Token) (x : List (List ℕ) × List Token) → reader.literals names inner d ts ≡ Ok x → Reads (outlines.string_tokens (spot ts) x.0) e ts x.1
literals_sound names inner d e ts x f =
    let more : List Token → Bool = (λ us. reader.is_literal names inner d (next_literal us)) in
    some more x.0 (repeated_sound more (λ us. reader.literal_by names inner d (next_literal us) us) Literal (literal_sound names inner d) ts x f)
  where
    some : (more : List Token → Bool) (ss : List (List ℕ)) → Repeated more Literal ss ts x.1 → Reads (outlines.string_tokens (spot ts) ss) e ts x.1
    some more [] s = absurd s
    some more (w ∷ ws) s =
        kind_reads (Unit {0}) (kind.Str w) (Some (spot ts)) (outlines.strings ws) e ts x.1 s.1.0 tt refl (subst (λ us. Reads (outlines.strings ws) e us x.1) (sym s.1.1) (other_strings more ws e s.0 x.1 s.2))

module _ (names : Names) (inner : Inner) (d : ℕ) (good : SoundInner names inner d) where
  abbrev Whole : ℕ → List Token → ExprTree Spot × List Token → Type 0
  Whole = Made names inner d good

  -- the first token, then what comes after it
  opens : (w : TokenKind) (i : Outline) (ts r : List Token) → start_token (start ts) ≡ Some w → Reads i d (skip ts) r → Reads (token (Unit {0}) w (Some (spot ts)) i) d ts r
  opens w i ts r e x = kind_reads (Unit {0}) w (Some (spot ts)) i d ts r (start_next w ts e) tt refl x

  cast_sound : (least : ℕ) (ts : List Token) (x : ExprTree Spot × List Token) → start ts ≡ begins_paren → least ≤ 14
      → (reader.typed names inner (suc d) without_name >>= (λ t. take the_punct.RightParen >> (cast (spot ts) t <$> inner.expr 14))) (skip ts) ≡ Ok x → Whole least ts x
  cast_sound least ts x s l e =
      let t = bind_ok (reader.typed names inner (suc d) without_name (skip ts)) (λ t. take the_punct.RightParen >> (cast (spot ts) t <$> inner.expr 14)) x e in
      let c = bind_ok (take the_punct.RightParen t.0.1) (λ z. cast (spot ts) t.0.0 <$> inner.expr 14) x t.2 in
      let y = map_ok (inner.expr 14 c.0.1) (cast (spot ts) t.0.0) x c.2 in
      let u = typed_type names inner d good t.0.0 (skip ts) t.0.1 (typed_sound names inner d good without_name (skip ts) t.0 t.1) in
      let v = good.expr 14 (omega arith) c.0.1 y.0 y.1 in
      let last : Outline = outlines.operand 14 y.0.0 (outlines.expr names y.0.0) ▸ end in
      subst (Whole least ts) {x = (cast (spot ts) t.0.0 y.0.0, y.0.1)} y.2 (
        l,
        opens (kind.Punct the_punct.LeftParen) (outlines.within (outlines.type_of names t.0.0) ▸ outlines.punct the_punct.RightParen ▸ last) ts y.0.1 (ap start_token s)
            (t.0.1, tt, u, take_reads the_punct.RightParen last d t.0.1 y.0.1 c.0 c.1 (y.0.1, v.0, v.1, refl)),
      )

  paren_sound : (least : ℕ) (ts : List Token) (x : ExprTree Spot × List Token) → start ts ≡ begins_paren → least ≤ 15
      → (inner.expr 1 >>= (λ y. take the_punct.RightParen >> pure (paren (spot ts) y))) (skip ts) ≡ Ok x → Whole least ts x
  paren_sound least ts x s l e =
      let y = bind_ok (inner.expr 1 (skip ts)) (λ y. take the_punct.RightParen >> pure (paren (spot ts) y)) x e in
      let c = map_ok (take the_punct.RightParen y.0.1) (λ z. paren (spot ts) y.0.0) x y.2 in
      let v = good.expr 1 (omega arith) (skip ts) y.0 y.1 in
      subst (Whole least ts) {x = (paren (spot ts) y.0.0, c.0.1)} c.2 (
        omega (arith, l),
        opens (kind.Punct the_punct.LeftParen) (outlines.operand 1 y.0.0 (outlines.expr names y.0.0) ▸ outlines.punct the_punct.RightParen ▸ end) ts c.0.1 (ap start_token s)
            (y.0.1, v.0, v.1, take_last the_punct.RightParen d y.0.1 c.0 c.1),
      )

  behind_paren_sound : (least : ℕ) (ts : List Token) (x : ExprTree Spot × List Token) → start ts ≡ begins_paren → least ≤ 15 → reader.behind_paren names inner (suc d) least (spot ts) (skip ts) ≡ Ok x → Whole least ts x
  behind_paren_sound least ts x s l e =
      elim (branched (starts_spec names (skip ts) && nat_le least 14) (reader.typed names inner (suc d) without_name >>= (λ t. take the_punct.RightParen >> (cast (spot ts) t <$> inner.expr 14))) (inner.expr 1 >>= (λ y. take the_punct.RightParen >> pure (paren (spot ts) y))) (skip ts) (Ok x) e) [
        | inl c ↦ cast_sound least ts x s (leb-true least 14 (and_parts (starts_spec names (skip ts)) (nat_le least 14) c.0).1) c.1
        | inr c ↦ paren_sound least ts x s l c.1
      ]

  size_type_sound : (least : ℕ) (ts : List Token) (x : ExprTree Spot × List Token) → start ts ≡ begins_sizeof → least ≤ 15 → next_is the_punct.LeftParen (skip ts) ≡ true
      → (reader.typed names inner (suc d) without_name >>= (λ t. take the_punct.RightParen >> pure (size_type (spot ts) t))) (skip (skip ts)) ≡ Ok x → Whole least ts x
  size_type_sound least ts x s l opening e =
      let t = bind_ok (reader.typed names inner (suc d) without_name (skip (skip ts))) (λ t. take the_punct.RightParen >> pure (size_type (spot ts) t)) x e in
      let c = map_ok (take the_punct.RightParen t.0.1) (λ z. size_type (spot ts) t.0.0) x t.2 in
      let u = typed_type names inner d good t.0.0 (skip (skip ts)) t.0.1 (typed_sound names inner d good without_name (skip (skip ts)) t.0 t.1) in
      let last : Outline = outlines.within (outlines.type_of names t.0.0) ▸ outlines.punct the_punct.RightParen ▸ end in
      subst (Whole least ts) {x = (size_type (spot ts) t.0.0, c.0.1)} c.2 (
        l,
        opens (kind.Keyword the_keyword.Sizeof) (outlines.punct the_punct.LeftParen ▸ last) ts c.0.1 (ap start_token s)
            (next_reads the_punct.LeftParen None last d (skip ts) c.0.1 opening tt (t.0.1, tt, u, take_last the_punct.RightParen d t.0.1 c.0 c.1)),
      )

  behind_sizeof_sound : (least : ℕ) (ts : List Token) (x : ExprTree Spot × List Token) → start ts ≡ begins_sizeof → least ≤ 15 → reader.behind_sizeof names inner (suc d) (spot ts) (skip ts) ≡ Ok x → Whole least ts x
  behind_sizeof_sound least ts x s l e =
      let types : Parser (ExprTree Spot) = skipping (reader.typed names inner (suc d) without_name >>= (λ t. take the_punct.RightParen >> pure (size_type (spot ts) t))) in
      let operands : Parser (ExprTree Spot) = size_expr (spot ts) <$> inner.expr 15 in
      elim (branched (next_is the_punct.LeftParen (skip ts) && starts_spec names (skip (skip ts))) types (where_next (λ us. next_is the_punct.LeftParen us && (suc d == 1)) (skipping refuse) operands) (skip ts) (Ok x) e) [
        | inl c ↦ size_type_sound least ts x s l (and_parts (next_is the_punct.LeftParen (skip ts)) (starts_spec names (skip (skip ts))) c.0).0 c.1
        | inr c ↦ elim (branched (next_is the_punct.LeftParen (skip ts) && (suc d == 1)) (skipping refuse) operands (skip ts) (Ok x) c.1) [
          | inl b ↦ absurd (let no : Err (skip (skip ts)) ≡ Ok x = b.1 in cc)
          | inr b ↦
              let m = map_ok (inner.expr 15 (skip ts)) (size_expr (spot ts)) x b.1 in
              let v = good.expr 15 (omega arith) (skip ts) m.0 m.1 in
              subst (Whole least ts) m.2
              (l, opens (kind.Keyword the_keyword.Sizeof) (outlines.operand 15 m.0.0 (outlines.expr names m.0.0) ▸ end) ts m.0.1 (ap start_token s) (m.0.1, v.0, v.1, refl))
        ]
      ]

  pub prefix_sound : (least : ℕ) (b : Start) (ts : List Token) (x : ExprTree Spot × List Token) → start ts ≡ b → least ≤ 15 → reader.prefix names inner (suc d) least b (spot ts) ts ≡ Ok x → Whole least ts x
  prefix_sound least (begins_name y) ts x s l e =
      let m = map_ok (id names ts) (name (spot ts)) x e in
      subst (Whole least ts) m.2 (omega (arith, l), id_reads names (Some (spot ts)) end d ts m.0.1 m.0 m.1 refl refl)
  prefix_sound least (begins_integer v c) ts x s l e =
      subst (Whole least ts) (ok_is (integer (spot ts) v c, skip ts) x e) (omega (arith, l), opens (kind.Integer v c) end ts (skip ts) (ap start_token s) refl)
  prefix_sound least (begins_character v) ts x s l e =
      subst (Whole least ts) (ok_is (character (spot ts) v, skip ts) x e) (omega (arith, l), opens (kind.Character v) end ts (skip ts) (ap start_token s) refl)
  prefix_sound least (begins_string bytes) ts x s l e =
      let m = map_ok (reader.literals names inner (suc d) ts) (string (spot ts)) x e in
      subst (Whole least ts) m.2 (omega (arith, l), literals_sound names inner (suc d) d ts m.0 m.1)
  prefix_sound least begins_paren ts x s l e = behind_paren_sound least ts x s l e
  prefix_sound least (begins_unary op) ts x s l e =
      let m = map_ok (inner.expr 14 (skip ts)) (unary (spot ts) op) x e in
      let v = good.expr 14 (omega arith) (skip ts) m.0 m.1 in
      subst (Whole least ts) m.2
      (l, opens (kind.Punct (unary_punct op)) (outlines.operand 14 m.0.0 (outlines.expr names m.0.0) ▸ end) ts m.0.1 (ap start_token s) (m.0.1, v.0, v.1, refl))
  prefix_sound least (begins_step op) ts x s l e =
      let m = map_ok (inner.expr 15 (skip ts)) (step (spot ts) op side.Before) x e in
      let v = good.expr 15 (omega arith) (skip ts) m.0 m.1 in
      subst (Whole least ts) m.2
      (l, opens (kind.Punct (step_punct op)) (outlines.operand 15 m.0.0 (outlines.expr names m.0.0) ▸ end) ts m.0.1 (ap start_token s) (m.0.1, v.0, v.1, refl))
  prefix_sound least begins_sizeof ts x s l e = behind_sizeof_sound least ts x s l e
  prefix_sound least begins_nothing ts x s l e = absurd cc

  pub expression_sound : (least : ℕ) → least ≤ 15 → (ts : List Token) (x : ExprTree Spot × List Token) → reader.expression names inner (suc d) least ts ≡ Ok x → Whole least ts x
  expression_sound least l ts x e =
      elim (branched (suc d == 0) refuse (λ us. and_then (reader.prefix names inner (suc d) least (start us) (spot us) us) (reader.climb names inner (suc d) least (suc d))) ts (Ok x) e) [
        | inl c ↦ absurd (let no : Err ts ≡ Ok x = c.1 in cc)
        | inr c ↦
            let q = bind_ok (reader.prefix names inner (suc d) least (start ts) (spot ts) ts) (reader.climb names inner (suc d) least (suc d)) x c.1 in
            climb_sound names inner d good least (suc d) q.0.0 ts q.0.1 x (prefix_sound least (start ts) ts q.0 refl l q.1) q.2
      ]
