-- Expressions that begin with a token of their own are read back.
use Rattle.std.proofs.Common.{◌≡◌, refl, ℕ, ℤ, zero, suc, Bool, true, false, List, [], ◌∷◌, Option, Some, None, Ok, arith, ap, ◌∙◌, subst}
use Rattle.std.specs.Prelude.{◌&&◌, ◌==◌, nat_le}
use Rattle.std.proofs.lemmas.Bool.{le-leb, ne_eqb, and_left, and_right, and_from}
use Rattle.cc_arith.specs.declared.kind.IntKind.{IntKind}
use Rattle.cc_arith.specs.declared.unary_operator.IntUnary.TheVariants as int_unary
use Rattle.cc_base.specs.declared.place.Spot.{Spot}
use Rattle.cc_lex.specs.declared.token.Token.{Token}
use Rattle.cc_lex.specs.declared.token.TokenKind.{TokenKind}
use Rattle.cc_lex.specs.declared.token.TokenKind.TheVariants as kind
use Rattle.cc_lex.specs.declared.keyword.Keyword.TheVariants as the_keyword
use Rattle.cc_lex.specs.declared.punct.Punct.{Punct}
use Rattle.cc_lex.specs.declared.punct.Punct.TheVariants as the_punct
use Rattle.cc_tree.specs.declared.operator.UnaryOp.{UnaryOp}
use Rattle.cc_tree.specs.declared.operator.UnaryOp.TheVariants as the_unary
use Rattle.cc_tree.specs.declared.operator.StepOp.{StepOp}
use Rattle.cc_tree.specs.declared.operator.StepOp.TheVariants as the_step
use Rattle.cc_tree.specs.declared.operator.Side.TheVariants as side
use Rattle.cc_tree.specs.Trees.{Name, ExprTree, name, integer, character, string, paren, unary, step, cast, size_expr, size_type, TypeTree}
use Rattle.cc_grammar.specs.Levels.{unary_punct, step_punct}
use Rattle.cc_grammar.specs.Names.{Names, is_type}
use Rattle.cc_grammar.specs.Outline.{Outline, end, token}
use Rattle.cc_grammar.specs.Outlines as outlines
use Rattle.cc_grammar.specs.Classes.{next_is, skip, spot, start, start_kind, start_punct, Start, begins_name, begins_integer, begins_character, begins_string, begins_paren, begins_unary, begins_step, begins_sizeof, next_literal, literal, starts_spec}
use Rattle.cc_grammar.specs.Outcomes.{Parser, and_then, pure, refuse, take, ◌>>=◌, ◌>>◌, ◌<$>◌}
use Rattle.cc_grammar.specs.Reading.{Inner, without_name, prefix, where_next, skipping, literal_by, is_literal, literals, typed, id}
use Rattle.cc_parse_laws.proofs.Spans.{Reads}
use Rattle.cc_parse_laws.proofs.Steps.{next_token, reads_next, reads_take, branch_true, branch_false, reads_length}
use Rattle.cc_parse_laws.proofs.Lists.{Span, Again, Following, Shorter, repeated_again}
use Rattle.cc_parse_laws.proofs.Peeks.{after, at_token, punct_ends}
use Rattle.cc_parse_laws.proofs.Firsts.{inside_sinks, first_operand, no_type_ahead}
use Rattle.cc_parse_laws.proofs.Edges.{ends_more, ends_prefix}
use Rattle.cc_parse_laws.proofs.Climbs.{Climbs, IsRead, bound, mapped, done, rest_is, begun}
use Rattle.cc_parse_laws.proofs.CompleteTypes.{id_again, type_again, first_type}
use Rattle.cc_parse_laws.proofs.Inner.{ReadsExpr, CompleteInner}

-- ---- Tokens of operators

pub start_unary : (op : UnaryOp) → start_punct (unary_punct op) ≡ begins_unary op
start_unary the_unary.Address = refl
start_unary the_unary.Deref = refl
start_unary (the_unary.Int int_unary.Plus) = refl
start_unary (the_unary.Int int_unary.Minus) = refl
start_unary (the_unary.Int int_unary.Invert) = refl
start_unary (the_unary.Int int_unary.Not) = refl

pub start_step : (op : StepOp) → start_punct (step_punct op) ≡ begins_step op
start_step the_step.Increment = refl
start_step the_step.Decrement = refl

-- ---- The end of a form

-- a closing token
pub close : {A : Type 0} (q : Punct) (x : A) (d : ℕ) (m r : List Token) → Reads (outlines.punct q end) d m r → and_then (take q m) (λ z vs. done x vs) ≡ Ok (x, r)
close q x d m r y =
    let t = next_token (Unit {0}) (kind.Punct q) None end d m r y in
    ap (λ z. and_then z (λ w vs. done x vs)) (reads_take (Unit {0}) q None end d m r y) ∙ rest_is x (skip m) r t.after

pub not_one : (names : Names) (e : ExprTree Spot) (d : ℕ) (ts r : List Token) → ReadsExpr names d e ts r → (suc d == 1) ≡ false
not_one names e zero ts r y = absurd y
not_one names e (suc d) ts r y = ne_eqb (suc (suc d)) 1 (λ z. omega (arith, z))

module _ (names : Names) (inner : Inner) (d : ℕ) (good : CompleteInner names inner d) where
  -- ---- What begins with a token of its own

  -- after its first token
  begins : (least : ℕ) (k : TokenKind) (n : Spot) (h : Type 0) (i : Outline) (ts r : List Token) (st : Start) (e : ExprTree Spot) → Reads (token h k (Some n) i) d ts r → start_kind k ≡ st → prefix names inner (suc d) least st n ts ≡ Ok (e, r) → Climbs names inner d least ts e r
  begins least k n h i ts r st e y is read =
      let t = next_token h k (Some n) i d ts r y in
      let starts : start ts ≡ st = at_token start start_kind (λ c us. refl) h k (Some n) i d ts r y ∙ is in
      begun names inner d least ts e r (ap (λ c. prefix names inner (suc d) least c (spot ts) ts) starts ∙ ap (λ c. prefix names inner (suc d) least st c ts) t.at ∙ read)

  pub read_name : (n : Spot) (x : Name) → IsRead names inner d (name n x)
  read_name n x least ts r l y ends =
      let t = next_token (is_type names x ≡ false) (kind.Identifier x) (Some n) end d ts r y in
      begins least (kind.Identifier x) n (is_type names x ≡ false) end ts r (begins_name x) (name n x) y refl
      (mapped (name n) (id names ts) x (skip ts) (id_again names (Some n) x end d ts r y) ∙ rest_is (name n x) (skip ts) r t.after)

  pub read_integer : (n : Spot) (v : ℤ) (c : IntKind) → IsRead names inner d (integer n v c)
  read_integer n v c least ts r l y ends =
      let t = next_token (Unit {0}) (kind.Integer v c) (Some n) end d ts r y in
      begins least (kind.Integer v c) n (Unit {0}) end ts r (begins_integer v c) (integer n v c) y refl (rest_is (integer n v c) (skip ts) r t.after)

  pub read_character : (n : Spot) (v : ℤ) → IsRead names inner d (character n v)
  read_character n v least ts r l y ends =
      let t = next_token (Unit {0}) (kind.Character v) (Some n) end d ts r y in
      begins least (kind.Character v) n (Unit {0}) end ts r (begins_character v) (character n v) y refl (rest_is (character n v) (skip ts) r t.after)

  -- string literals
  abbrev LiteralSpan : Span (List ℕ)
  LiteralSpan bytes ts r = Reads (token (Unit {0}) (kind.Str bytes) None end) d ts r

  abbrev more_literals : List Token → Bool
  more_literals us = is_literal names inner (suc d) (next_literal us)

  abbrev one_literal : Parser (List ℕ)
  one_literal us = literal_by names inner (suc d) (next_literal us) us

  literal_next : (bytes : List ℕ) (n : Option Spot) (i : Outline) (ts r : List Token) → Reads (token (Unit {0}) (kind.Str bytes) n i) d ts r → next_literal ts ≡ Some bytes
  literal_next bytes n i ts r y = at_token next_literal literal (λ t us. refl) (Unit {0}) (kind.Str bytes) n i d ts r y

  literal_again : (bytes : List ℕ) → Again one_literal LiteralSpan (λ us. Unit {0}) bytes
  literal_again bytes ts r y f =
      let t = next_token (Unit {0}) (kind.Str bytes) None end d ts r y in
      ap (λ (z : Option (List ℕ)). literal_by names inner (suc d) z ts) (literal_next bytes None end ts r y) ∙ rest_is bytes (skip ts) r t.after

  literal_shorter : Shorter LiteralSpan
  literal_shorter bytes ts r y = omega (arith, reads_length (token (Unit {0}) (kind.Str bytes) None end) d ts r y)

  -- the first may have to stand at a place
  literal_here : (bytes : List ℕ) (n : Option Spot) (i : Outline) (ts r : List Token) → Reads (token (Unit {0}) (kind.Str bytes) n i) d ts r → LiteralSpan bytes ts (skip ts)
  literal_here bytes n i [] r y = absurd y
  literal_here bytes n i (t ∷ ts) r y = (tt, y.1, tt, refl)

  literals_following : (bs : List (List ℕ)) (ts r : List Token) → Reads (outlines.strings bs) d ts r → Following more_literals LiteralSpan bs ts r
  literals_following [] ts r y = y
  literals_following (c ∷ cs) ts r y =
      let t = next_token (Unit {0}) (kind.Str c) None (outlines.strings cs) d ts r y in
      (skip ts, ap (is_literal names inner (suc d)) (literal_next c None (outlines.strings cs) ts r y), literal_here c None (outlines.strings cs) ts r y, literals_following cs (skip ts) r t.after)

  pub read_string : (n : Spot) (bs : List (List ℕ)) → IsRead names inner d (string n bs)
  read_string n [] least ts r l y ends = absurd y.1
  read_string n (c ∷ cs) least ts r l y ends =
      let t = next_token (Unit {0}) (kind.Str c) (Some n) (outlines.strings cs) d ts r y in
      let all : literals names inner (suc d) ts ≡ Ok (c ∷ cs, r) =
      repeated_again one_literal LiteralSpan (λ us. Unit {0}) literal_again literal_shorter more_literals (λ us e. tt) (c ∷ cs) ts r
      (skip ts, literal_here c (Some n) (outlines.strings cs) ts r y, literals_following cs (skip ts) r t.after) (ap (is_literal names inner (suc d)) ends.no_literal) tt in
      begins least (kind.Str c) n (Unit {0}) (outlines.strings cs) ts r (begins_string c) (string n (c ∷ cs)) y refl (mapped (string n) (literals names inner (suc d) ts) (c ∷ cs) r all)

  -- ---- Parentheses and prefix forms

  abbrev cast_behind : Spot → Parser (ExprTree Spot)
  cast_behind n = typed names inner (suc d) without_name >>= (λ t. take the_punct.RightParen >> (cast n t <$> inner.expr 14))

  abbrev paren_behind : Spot → Parser (ExprTree Spot)
  paren_behind n = inner.expr 1 >>= (λ e. take the_punct.RightParen >> pure (paren n e))

  pub read_paren : (n : Spot) (e : ExprTree Spot) → IsRead names inner d (paren n e)
  read_paren n e least ts r l y ends =
      let t = next_token (Unit {0}) (kind.Punct the_punct.LeftParen) (Some n) (after (outlines.expr names (paren n e))) d ts r y in
      let m = t.after.0 in
      let close_next = reads_next (Unit {0}) the_punct.RightParen None end d m r t.after.3 in
      let inside : inner.expr 1 (skip ts) ≡ Ok (e, m) = good.expr 1 e (skip ts) m t.after.1 t.after.2 (punct_ends 1 the_punct.RightParen m (omega arith) close_next) in
      let first = first_operand names e d (skip ts) m t.after.2 in
      begins least (kind.Punct the_punct.LeftParen) n (Unit {0}) (after (outlines.expr names (paren n e))) ts r begins_paren (paren n e) y refl
      (branch_false (starts_spec names (skip ts) && nat_le least 14) (cast_behind n) (paren_behind n) (skip ts) (and_left (starts_spec names (skip ts)) (nat_le least 14) first.no_spec)
      ∙ bound (λ x us. and_then (take the_punct.RightParen us) (λ z vs. done (paren n x) vs)) (inner.expr 1 (skip ts)) e m inside
      ∙ close the_punct.RightParen (paren n e) d m r t.after.3)

  pub read_unary : (n : Spot) (op : UnaryOp) (e : ExprTree Spot) → IsRead names inner d (unary n op e)
  read_unary n op e least ts r l y ends =
      let t = next_token (Unit {0}) (kind.Punct (unary_punct op)) (Some n) (after (outlines.expr names (unary n op e))) d ts r y in
      let inside : inner.expr 14 (skip ts) ≡ Ok (e, r) = good.expr 14 e (skip ts) r t.after.1 (subst (ReadsExpr names d e (skip ts)) t.after.3 t.after.2) (ends_prefix r ends) in
      begins least (kind.Punct (unary_punct op)) n (Unit {0}) (after (outlines.expr names (unary n op e))) ts r (begins_unary op) (unary n op e) y (start_unary op) (mapped (unary n op) (inner.expr 14 (skip ts)) e r inside)

  pub read_before : (n : Spot) (op : StepOp) (e : ExprTree Spot) → IsRead names inner d (step n op side.Before e)
  read_before n op e least ts r l y ends =
      let t = next_token (Unit {0}) (kind.Punct (step_punct op)) (Some n) (after (outlines.expr names (step n op side.Before e))) d ts r y in
      let inside : inner.expr 15 (skip ts) ≡ Ok (e, r) = good.expr 15 e (skip ts) r t.after.1 (subst (ReadsExpr names d e (skip ts)) t.after.3 t.after.2) (ends_more 14 15 r (omega arith) (ends_prefix r ends)) in
      begins least (kind.Punct (step_punct op)) n (Unit {0}) (after (outlines.expr names (step n op side.Before e))) ts r (begins_step op) (step n op side.Before e) y (start_step op) (mapped (step n op side.Before) (inner.expr 15 (skip ts)) e r inside)

  pub read_cast : (n : Spot) (t : TypeTree Spot) (e : ExprTree Spot) → IsRead names inner d (cast n t e)
  read_cast n t e least ts r l y ends =
      let c = next_token (Unit {0}) (kind.Punct the_punct.LeftParen) (Some n) (after (outlines.expr names (cast n t e))) d ts r y in
      let m = c.after.0 in
      let close_next = reads_next (Unit {0}) the_punct.RightParen None (outlines.operand 14 e (outlines.expr names e) end) d m r c.after.3 in
      let c2 = next_token (Unit {0}) (kind.Punct the_punct.RightParen) None (outlines.operand 14 e (outlines.expr names e) end) d m r c.after.3 in
      let type : typed names inner (suc d) without_name (skip ts) ≡ Ok (t, m) = type_again names inner d good t (skip ts) m c.after.2 close_next in
      let inside : inner.expr 14 (skip m) ≡ Ok (e, r) = good.expr 14 e (skip m) r c2.after.1 (subst (ReadsExpr names d e (skip m)) c2.after.3 c2.after.2) (ends_prefix r ends) in
      let first : starts_spec names (skip ts) ≡ true = first_type names inner d good t (skip ts) m c.after.2 in
      begins least (kind.Punct the_punct.LeftParen) n (Unit {0}) (after (outlines.expr names (cast n t e))) ts r begins_paren (cast n t e) y refl
      (branch_true (starts_spec names (skip ts) && nat_le least 14) (cast_behind n) (paren_behind n) (skip ts) (and_from (starts_spec names (skip ts)) (nat_le least 14) first (le-leb _ _ l))
      ∙ bound (λ x us. and_then (take the_punct.RightParen us) (λ z vs. and_then (inner.expr 14 vs) (λ f ws. done (cast n x f) ws))) (typed names inner (suc d) without_name (skip ts)) t m type
      ∙ ap (λ z. and_then z (λ w vs. and_then (inner.expr 14 vs) (λ f ws. done (cast n t f) ws))) (reads_take (Unit {0}) the_punct.RightParen None (outlines.operand 14 e (outlines.expr names e) end) d m r c.after.3)
      ∙ mapped (cast n t) (inner.expr 14 (skip m)) e r inside)

  abbrev size_type_behind : Spot → Parser (ExprTree Spot)
  size_type_behind n = skipping (typed names inner (suc d) without_name >>= (λ t. take the_punct.RightParen >> pure (size_type n t)))

  abbrev size_expr_behind : Spot → Parser (ExprTree Spot)
  size_expr_behind n = where_next (λ ts. next_is the_punct.LeftParen ts && (suc d == 1)) (skipping refuse) (size_expr n <$> inner.expr 15)

  pub read_size_expr : (n : Spot) (e : ExprTree Spot) → IsRead names inner d (size_expr n e)
  read_size_expr n e least ts r l y ends =
      let t = next_token (Unit {0}) (kind.Keyword the_keyword.Sizeof) (Some n) (after (outlines.expr names (size_expr n e))) d ts r y in
      let here : ReadsExpr names d e (skip ts) r = subst (ReadsExpr names d e (skip ts)) t.after.3 t.after.2 in
      let inside : inner.expr 15 (skip ts) ≡ Ok (e, r) = good.expr 15 e (skip ts) r t.after.1 here (ends_more 14 15 r (omega arith) (ends_prefix r ends)) in
      begins least (kind.Keyword the_keyword.Sizeof) n (Unit {0}) (after (outlines.expr names (size_expr n e))) ts r begins_sizeof (size_expr n e) y refl
      (branch_false (next_is the_punct.LeftParen (skip ts) && starts_spec names (skip (skip ts))) (size_type_behind n) (size_expr_behind n) (skip ts) (no_type_ahead names e d (skip ts) r t.after.1 (inside_sinks true (outlines.expr names e) d (skip ts) r here))
      ∙ branch_false (next_is the_punct.LeftParen (skip ts) && (suc d == 1)) (skipping refuse) (size_expr n <$> inner.expr 15) (skip ts) (and_right (next_is the_punct.LeftParen (skip ts)) (suc d == 1) (not_one names e d (skip ts) r here))
      ∙ mapped (size_expr n) (inner.expr 15 (skip ts)) e r inside)

  pub read_size_type : (n : Spot) (t : TypeTree Spot) → IsRead names inner d (size_type n t)
  read_size_type n t least ts r l y ends =
      let within = after (outlines.expr names (size_type n t)) in
      let c = next_token (Unit {0}) (kind.Keyword the_keyword.Sizeof) (Some n) within d ts r y in
      let c2 = next_token (Unit {0}) (kind.Punct the_punct.LeftParen) None (after within) d (skip ts) r c.after in
      let m = c2.after.0 in
      let close_next = reads_next (Unit {0}) the_punct.RightParen None end d m r c2.after.3 in
      let type : typed names inner (suc d) without_name (skip (skip ts)) ≡ Ok (t, m) = type_again names inner d good t (skip (skip ts)) m c2.after.2 close_next in
      let first : starts_spec names (skip (skip ts)) ≡ true = first_type names inner d good t (skip (skip ts)) m c2.after.2 in
      begins least (kind.Keyword the_keyword.Sizeof) n (Unit {0}) within ts r begins_sizeof (size_type n t) y refl
      (branch_true (next_is the_punct.LeftParen (skip ts) && starts_spec names (skip (skip ts))) (size_type_behind n) (size_expr_behind n) (skip ts)
      (and_from (next_is the_punct.LeftParen (skip ts)) (starts_spec names (skip (skip ts))) (reads_next (Unit {0}) the_punct.LeftParen None (after within) d (skip ts) r c.after) first)
      ∙ bound (λ x us. and_then (take the_punct.RightParen us) (λ z vs. done (size_type n x) vs)) (typed names inner (suc d) without_name (skip (skip ts))) t m type
      ∙ close the_punct.RightParen (size_type n t) d m r c2.after.3)
