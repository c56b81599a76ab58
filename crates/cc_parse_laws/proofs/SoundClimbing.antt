-- What goes on behind an expression is there: each tail, and the loop over them.
use Rattle.std.proofs.Common.{◌≡◌, ◌≤◌, ◌<◌, ◌+◌, refl, ℕ, zero, suc, Bool, true, false, List, Option, Some, None, Ok, arith, ap, subst, inl, inr, nat_le, nat_lt, ◌&&◌}
use Rattle.std.proofs.lemmas.Bool.{and_parts, leb-true, ltb-true}
use Rattle.cc_arith.specs.declared.binary_operator.IntOp.{IntOp}
use Rattle.cc_arith.specs.declared.binary_operator.IntOp.TheVariants as int
use Rattle.cc_base.specs.declared.place.Spot.{Spot}
use Rattle.cc_lex.specs.declared.token.Token.{Token}
use Rattle.cc_lex.specs.declared.token.TokenKind.{TokenKind}
use Rattle.cc_lex.specs.declared.token.TokenKind.TheVariants as kind
use Rattle.cc_lex.specs.declared.punct.Punct.TheVariants as the_punct
use Rattle.cc_tree.specs.declared.operator.BinaryOp.{BinaryOp}
use Rattle.cc_tree.specs.declared.operator.BinaryOp.TheVariants as the_binary
use Rattle.cc_tree.specs.declared.operator.Side.TheVariants as side
use Rattle.cc_tree.specs.Trees.{ExprTree, binary, assign, step, choice, comma, call, member, arrow, index}
use Rattle.cc_tree.specs.Views.{gathered}
use Rattle.cc_tree.specs.Depth as depths
use Rattle.cc_grammar.specs.Levels.{level, int_level, binary_level, binary_punct, assign_punct, step_punct}
use Rattle.cc_grammar.specs.Names.{Names}
use Rattle.cc_grammar.specs.Outline.{Outline, end, token, ◌▸◌, depth, deeper, FitsSpot}
use Rattle.cc_grammar.specs.Outlines as outlines
use Rattle.cc_grammar.specs.Classes.{skip, spot, Tail, goes_binary, goes_assign, goes_question, goes_comma, goes_call, goes_index, goes_dot, goes_arrow, goes_step, ends_here, tail, binds, left_level}
use Rattle.cc_grammar.specs.Outcomes.{and_then, take, ◌>>◌, pure, ◌<$>◌}
use Rattle.cc_grammar.specs.Reading as reader
use Rattle.cc_grammar.specs.Reading.{Inner, id}
use Rattle.cc_parse_laws.proofs.Spans.{Inside, Reads, reads_within}
use Rattle.cc_parse_laws.proofs.Depths.{expr_depth}
use Rattle.cc_parse_laws.proofs.Steps.{bind_ok, map_ok, ok_is, branched, take_reads}
use Rattle.cc_parse_laws.proofs.NextTokens.{take_last, kind_reads, tail_token, tail_next, id_reads}
use Rattle.cc_parse_laws.proofs.Inner.{ReadsExpr, SoundInner}
use Rattle.cc_parse_laws.proofs.SoundTypes.{arguments_sound}

-- What is written sinks by one where its depth leaves room for it.
pub sinks : (c : Bool) (i : Outline) (d : ℕ) (ts r : List Token) → Inside c (λ e. Reads i e ts r) (suc d) → deeper c (depth i) ≤ d → Inside c (λ e. Reads i e ts r) d
sinks false i d ts r x h = reads_within i (suc d) d ts r x h
sinks true i zero ts r x h = absurd (omega (arith, h))
sinks true i (suc d) ts r x h = reads_within i (suc d) d ts r x (omega (arith, h))

int_level_most : (op : IntOp) → int_level op ≤ 13
int_level_most int.Or = omega arith
int_level_most int.Xor = omega arith
int_level_most int.And = omega arith
int_level_most int.Eq = omega arith
int_level_most int.Ne = omega arith
int_level_most int.Lt = omega arith
int_level_most int.Le = omega arith
int_level_most int.Gt = omega arith
int_level_most int.Ge = omega arith
int_level_most int.Shl = omega arith
int_level_most int.Shr = omega arith
int_level_most int.Add = omega arith
int_level_most int.Sub = omega arith
int_level_most int.Mul = omega arith
int_level_most int.Div = omega arith
int_level_most int.Rem = omega arith

pub binary_level_most : (op : BinaryOp) → binary_level op ≤ 13
binary_level_most the_binary.OrOr = omega arith
binary_level_most the_binary.AndAnd = omega arith
binary_level_most (the_binary.Int op) = int_level_most op

pub goes_on_true : (names : Names) (inner : Inner) (d least : ℕ) (left : ExprTree Spot) (t : Tail) → reader.goes_on names inner d least left t ≡ true → (least ≤ binds t) × (left_level t ≤ level left) × (depths.expr_depth left < d)
goes_on_true names inner d least left t e =
    let a = and_parts (nat_le least (binds t)) (nat_le (left_level t) (level left) && nat_lt (depths.expr_depth left) d) e in
    let c = and_parts (nat_le (left_level t) (level left)) (nat_lt (depths.expr_depth left) d) a.1 in
    (leb-true _ _ a.0, leb-true _ _ c.0, ltb-true _ _ c.1)

module _ (names : Names) (inner : Inner) (d : ℕ) (good : SoundInner names inner d) where
  -- an expression of this level at least, of depth d + 1 with itself
  abbrev pub Made : ℕ → List Token → ExprTree Spot × List Token → Type 0
  Made least ts y = (least ≤ level y.0) × Reads (outlines.expr names y.0) d ts y.1

  -- the token of a tail, then what comes after it
  behind : (w : TokenKind) (n : Option Spot) (i : Outline) (ts r : List Token) → tail_token (tail ts) ≡ Some w → FitsSpot n (spot ts) → Reads i d (skip ts) r → Reads (token (Unit {0}) w n i) d ts r
  behind w n i ts r e at x = kind_reads (Unit {0}) w n i d ts r (tail_next w ts e) tt at x

  choice_sound : (left : ExprTree Spot) (first ts : List Token) (x : ExprTree Spot × List Token) → tail ts ≡ goes_question → 4 ≤ level left → ReadsExpr names d left first ts
      → reader.go_on names inner (suc d) left goes_question (spot ts) (skip ts) ≡ Ok x → Made 3 first x
  choice_sound left first ts x t l a e =
      let n = spot ts in
      let y = bind_ok (inner.expr 1 (skip ts)) (λ y. take the_punct.Colon >> (choice n left y <$> inner.expr 3)) x e in
      let c = bind_ok (take the_punct.Colon y.0.1) (λ z. choice n left y.0.0 <$> inner.expr 3) x y.2 in
      let z = map_ok (inner.expr 3 c.0.1) (choice n left y.0.0) x c.2 in
      let u = good.expr 1 (omega arith) (skip ts) y.0 y.1 in
      let v = good.expr 3 (omega arith) c.0.1 z.0 z.1 in
      let other : Outline = outlines.operand 3 z.0.0 (outlines.expr names z.0.0) ▸ end in
      subst (Made 3 first) {x = (choice n left y.0.0 z.0.0, z.0.1)} z.2 (
        omega arith,
        (
          ts,
          l,
          a,
          behind (kind.Punct the_punct.Question) (Some n) (outlines.operand 1 y.0.0 (outlines.expr names y.0.0) ▸ outlines.punct the_punct.Colon ▸ other) ts z.0.1 (ap tail_token t) refl
              (y.0.1, u.0, u.1, take_reads the_punct.Colon other d y.0.1 z.0.1 c.0 c.1 (z.0.1, v.0, v.1, refl)),
        ),
      )

  index_sound : (left : ExprTree Spot) (first ts : List Token) (x : ExprTree Spot × List Token) → tail ts ≡ goes_index → 16 ≤ level left → ReadsExpr names d left first ts
      → reader.go_on names inner (suc d) left goes_index (spot ts) (skip ts) ≡ Ok x → Made 16 first x
  index_sound left first ts x t l a e =
      let n = spot ts in
      let i = bind_ok (inner.expr 1 (skip ts)) (λ i. take the_punct.RightBracket >> pure (index n left i)) x e in
      let c = map_ok (take the_punct.RightBracket i.0.1) (λ z. index n left i.0.0) x i.2 in
      let u = good.expr 1 (omega arith) (skip ts) i.0 i.1 in
      subst (Made 16 first) {x = (index n left i.0.0, c.0.1)} c.2 (
        omega arith,
        (
          ts,
          l,
          a,
          behind (kind.Punct the_punct.LeftBracket) (Some n) (outlines.operand 1 i.0.0 (outlines.expr names i.0.0) ▸ outlines.punct the_punct.RightBracket ▸ end) ts c.0.1 (ap tail_token t) refl
              (i.0.1, u.0, u.1, take_last the_punct.RightBracket d i.0.1 c.0 c.1),
        ),
      )

  go_on_sound : (left : ExprTree Spot) (t : Tail) (first ts : List Token) (x : ExprTree Spot × List Token) → tail ts ≡ t → left_level t ≤ level left → ReadsExpr names d left first ts
      → reader.go_on names inner (suc d) left t (spot ts) (skip ts) ≡ Ok x → Made (binds t) first x
  go_on_sound left (goes_binary op) first ts x t l a e =
      let m = map_ok (inner.expr (binary_level op + 1) (skip ts)) (binary (spot ts) op left) x e in
      let s = good.expr (binary_level op + 1) (omega (arith, binary_level_most op)) (skip ts) m.0 m.1 in
      subst (Made (binary_level op) first) m.2
      (omega arith, (ts, l, a, behind (kind.Punct (binary_punct op)) (Some (spot ts)) (outlines.operand (binary_level op + 1) m.0.0 (outlines.expr names m.0.0) ▸ end) ts m.0.1 (ap tail_token t) refl (m.0.1, s.0, s.1, refl)))
  go_on_sound left (goes_assign op) first ts x t l a e =
      let m = map_ok (inner.expr 2 (skip ts)) (assign (spot ts) op left) x e in
      let s = good.expr 2 (omega arith) (skip ts) m.0 m.1 in
      subst (Made 2 first) m.2
      (omega arith, (ts, l, a, behind (kind.Punct (assign_punct op)) (Some (spot ts)) (outlines.operand 2 m.0.0 (outlines.expr names m.0.0) ▸ end) ts m.0.1 (ap tail_token t) refl (m.0.1, s.0, s.1, refl)))
  go_on_sound left goes_question first ts x t l a e = choice_sound left first ts x t l a e
  go_on_sound left goes_comma first ts x t l a e =
      let m = map_ok (inner.expr 2 (skip ts)) (comma (spot ts) left) x e in
      let s = good.expr 2 (omega arith) (skip ts) m.0 m.1 in
      subst (Made 1 first) m.2
      (omega arith, (ts, l, a, behind (kind.Punct the_punct.Comma) (Some (spot ts)) (outlines.operand 2 m.0.0 (outlines.expr names m.0.0) ▸ end) ts m.0.1 (ap tail_token t) refl (m.0.1, s.0, s.1, refl)))
  go_on_sound left goes_call first ts x t l a e =
      let m = map_ok (reader.arguments names inner (suc d) (skip ts)) (λ es. call (outlines.begins left) left (gathered es)) x e in
      let s = arguments_sound names inner d good (skip ts) m.0 m.1 in
      subst (Made 16 first) m.2
      (omega arith, (m.0.1, refl, (ts, l, a, behind (kind.Punct the_punct.LeftParen) None (outlines.within (outlines.arguments names (gathered m.0.0)) ▸ outlines.punct the_punct.RightParen ▸ end) ts m.0.1 (ap tail_token t) tt s), refl))
  go_on_sound left goes_index first ts x t l a e = index_sound left first ts x t l a e
  go_on_sound left goes_dot first ts x t l a e =
      let m = map_ok (id names (skip ts)) (member (spot ts) left) x e in
      subst (Made 16 first) m.2
      (omega arith, (ts, l, a, behind (kind.Punct the_punct.Dot) (Some (spot ts)) (outlines.identifier names None m.0.0 ▸ end) ts m.0.1 (ap tail_token t) refl (id_reads names None end d (skip ts) m.0.1 m.0 m.1 tt refl)))
  go_on_sound left goes_arrow first ts x t l a e =
      let m = map_ok (id names (skip ts)) (arrow (spot ts) left) x e in
      subst (Made 16 first) m.2
      (omega arith, (ts, l, a, behind (kind.Punct the_punct.Arrow) (Some (spot ts)) (outlines.identifier names None m.0.0 ▸ end) ts m.0.1 (ap tail_token t) refl (id_reads names None end d (skip ts) m.0.1 m.0 m.1 tt refl)))
  go_on_sound left (goes_step op) first ts x t l a e =
      subst (Made 16 first) (ok_is (step (spot ts) op side.After left, skip ts) x e)
      (omega arith, (ts, l, a, behind (kind.Punct (step_punct op)) (Some (spot ts)) end ts (skip ts) (ap tail_token t) refl refl))
  go_on_sound left ends_here first ts x t l a e = absurd cc

  -- An operand that was read as the whole, from the first tokens on, is part of what is read behind it.
  pub climb_sound : (least turns : ℕ) (left : ExprTree Spot) (first ts : List Token) (x : ExprTree Spot × List Token) → Made least first (left, ts) → reader.climb names inner (suc d) least turns left ts ≡ Ok x → Made least first x
  climb_sound least zero left first ts x made e = subst (Made least first) (ok_is (left, ts) x e) made
  climb_sound least (suc turns) left first ts x made e =
      elim (branched (reader.goes_on names inner (suc d) least left (tail ts)) (λ us. and_then (reader.go_on names inner (suc d) left (tail us) (spot us) (skip us)) (reader.climb names inner (suc d) least turns)) (pure left) ts (Ok x) e) [
        | inl c ↦
            let g = goes_on_true names inner (suc d) least left (tail ts) c.0 in
            let q = bind_ok (reader.go_on names inner (suc d) left (tail ts) (spot ts) (skip ts)) (reader.climb names inner (suc d) least turns) x c.1 in
            let sunk : ReadsExpr names d left first ts = sinks true (outlines.expr names left) d first ts made.1 (omega (arith, g.2, expr_depth names left)) in
            let s = go_on_sound left (tail ts) first ts q.0 refl g.1 sunk q.1 in
            climb_sound least turns q.0.0 first q.0.1 x (omega (arith, g.0, s.0), s.1) q.2
        | inr c ↦ subst (Made least first) (ok_is (left, ts) x c.1) made
      ]
