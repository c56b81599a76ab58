-- Expressions at which reading fails are begun.
use Rattle.std.proofs.Common.{◌≡◌, ◌≤◌, ◌<◌, ◌+◌, refl, ℕ, zero, suc, true, false, List, [], ◌∷◌, length, Option, Some, None, Ok, Err, arith, sym, ap, subst, ◌∙◌, inl, inr, nat_le, ◌&&◌, ◌==◌}
use Rattle.std.proofs.lemmas.Bool.{and_parts, leb-true}
use Rattle.cc_base.specs.declared.place.Spot.{Spot}
use Rattle.cc_lex.specs.declared.token.Token.{Token}
use Rattle.cc_lex.specs.declared.token.TokenKind.{TokenKind}
use Rattle.cc_lex.specs.declared.token.TokenKind.TheVariants as kind
use Rattle.cc_lex.specs.declared.punct.Punct.TheVariants as the_punct
use Rattle.cc_tree.specs.declared.operator.Side.TheVariants as side
use Rattle.cc_tree.specs.Trees.{type_name, nameless, ExprTree, name, string, paren, unary, binary, assign, step, choice, comma, call, member, arrow, index, cast, size_expr, size_type}
use Rattle.cc_tree.specs.Views.{gathered}
use Rattle.cc_grammar.specs.Levels.{level, binary_level}
use Rattle.cc_grammar.specs.Names.{Names}
use Rattle.cc_grammar.specs.Outline.{Outline, token, FitsSpot}
use Rattle.cc_grammar.specs.Outlines as outlines
use Rattle.cc_grammar.specs.Classes.{next_is, next_literal, skip, spot, starts_spec, Start, begins_name, begins_integer, begins_character, begins_string, begins_paren, begins_unary, begins_step, begins_sizeof, begins_nothing, start, Tail, goes_binary, goes_assign, goes_question, goes_comma, goes_call, goes_index, goes_dot, goes_arrow, goes_step, ends_here, tail, binds, left_level}
use Rattle.cc_grammar.specs.Outcomes.{and_then, take, pure, ◌<$>◌}
use Rattle.cc_grammar.specs.Reading as reader
use Rattle.cc_grammar.specs.Reading.{Inner, Mode, without_name, branch}
use Rattle.cc_parse_laws.proofs.Depths.{expr_depth}
use Rattle.cc_parse_laws.proofs.Steps.{ok_is, branch_true}
use Rattle.cc_parse_laws.proofs.Lists.{IsSound}
use Rattle.cc_parse_laws.proofs.NextTokens.{NextKind, start_token, start_next, tail_token, tail_next, literal_next}
use Rattle.cc_parse_laws.proofs.Inner.{ReadsExpr, SoundInner}
use Rattle.cc_parse_laws.proofs.SoundTypes.{typed_sound, typed_type}
use Rattle.cc_parse_laws.proofs.SoundClimbing.{Made, climb_sound, sinks, binary_level_most, goes_on_true}
use Rattle.cc_parse_laws.proofs.SoundExpressions.{prefix_sound}
use Rattle.cc_parse_places.proofs.Begun.{Begun, at, token_then, punct_then, part_in, part_past, part_of, within_in, within_past}
use Rattle.cc_parse_places.proofs.Failures.{err_is, bind_err, map_err, branch_err, take_bind, until_err, id_err}
use Rattle.cc_parse_places.proofs.BegunTypes.{BegunInner, Fails, FollowingBegun, RepeatedBegun, repeated_by_fails, typed_fails, type_begun, arguments_fail, some_spec}

module _ (names : Names) (inner : Inner) (d : ℕ) (good : SoundInner names inner d) (fails : BegunInner names inner d) where
  -- an expression of this level at least, begun
  abbrev pub MadeBegun : ℕ → List Token → List Token → Type 0
  MadeBegun least ts m = (e : ExprTree Spot) × (least ≤ level e) × Begun (outlines.expr names e) d ts m

  -- ---- How an expression goes on

  behind : {w : TokenKind} {i : Outline} (n : Option Spot) (ts m : List Token) → tail_token (tail ts) ≡ Some w → FitsSpot n (spot ts) → Begun i d (skip ts) m → Begun (token (Unit {0}) w n i) d ts m
  behind {w} n ts m e st x = token_then tt (tail_next w ts e) st x

  choice_fails : (left : ExprTree Spot) (first ts m : List Token) → tail ts ≡ goes_question → 4 ≤ level left → ReadsExpr names d left first ts → reader.go_on names inner (suc d) left goes_question (spot ts) (skip ts) ≡ Err m → MadeBegun 3 first m
  choice_fails left first ts m t l a e =
      let n = spot ts in
      let none = name n [] in
      bind_err (inner.expr 1 (skip ts)) _ e
      (λ f. let q = fails.expr 1 (omega arith) (omega arith) (skip ts) m f in
      (choice n left q.0 none, omega arith, part_past {c = true} ts l a (behind (Some n) ts m (ap tail_token t) refl (part_of q.1 q.2))))
      (λ y ok f. let u = good.expr 1 (omega arith) (skip ts) y ok in take_bind the_punct.Colon y.1 _ f
      (λ g. (choice n left y.0 none, omega arith, part_past {c = true} ts l a (behind (Some n) ts m (ap tail_token t) refl (part_past {c = true} y.1 u.0 u.1 (at g)))))
      (λ c g. let q = fails.expr 3 (omega arith) (omega arith) (skip y.1) m (map_err _ _ g) in
      (choice n left y.0 q.0, omega arith, part_past {c = true} ts l a (behind (Some n) ts m (ap tail_token t) refl (part_past {c = true} y.1 u.0 u.1 (punct_then c tt (part_of q.1 q.2)))))))

  index_fails : (left : ExprTree Spot) (first ts m : List Token) → tail ts ≡ goes_index → 16 ≤ level left → ReadsExpr names d left first ts → reader.go_on names inner (suc d) left goes_index (spot ts) (skip ts) ≡ Err m → MadeBegun 16 first m
  index_fails left first ts m t l a e =
      let n = spot ts in
      bind_err (inner.expr 1 (skip ts)) _ e
      (λ f. let q = fails.expr 1 (omega arith) (omega arith) (skip ts) m f in
      (index n left q.0, omega arith, part_past {c = true} ts l a (behind (Some n) ts m (ap tail_token t) refl (part_of q.1 q.2))))
      (λ y ok f. let u = good.expr 1 (omega arith) (skip ts) y ok in
      (index n left y.0, omega arith, part_past {c = true} ts l a (behind (Some n) ts m (ap tail_token t) refl (part_past {c = true} y.1 u.0 u.1 (at (until_err the_punct.RightBracket (index n left y.0) y.1 f))))))

  go_on_fails : (left : ExprTree Spot) (t : Tail) (first ts m : List Token) → tail ts ≡ t → 0 < binds t → left_level t ≤ level left → ReadsExpr names d left first ts
      → reader.go_on names inner (suc d) left t (spot ts) (skip ts) ≡ Err m → MadeBegun (binds t) first m
  go_on_fails left (goes_binary op) first ts m t b l a e =
      let q = fails.expr (binary_level op + 1) (omega arith) (omega (arith, binary_level_most op)) (skip ts) m (map_err _ _ e) in
      (binary (spot ts) op left q.0, omega arith, part_past {c = true} ts l a (behind (Some (spot ts)) ts m (ap tail_token t) refl (part_of q.1 q.2)))
  go_on_fails left (goes_assign op) first ts m t b l a e =
      let q = fails.expr 2 (omega arith) (omega arith) (skip ts) m (map_err _ _ e) in
      (assign (spot ts) op left q.0, omega arith, part_past {c = true} ts l a (behind (Some (spot ts)) ts m (ap tail_token t) refl (part_of q.1 q.2)))
  go_on_fails left goes_question first ts m t b l a e = choice_fails left first ts m t l a e
  go_on_fails left goes_comma first ts m t b l a e =
      let q = fails.expr 2 (omega arith) (omega arith) (skip ts) m (map_err _ _ e) in
      (comma (spot ts) left q.0, omega arith, part_past {c = true} ts l a (behind (Some (spot ts)) ts m (ap tail_token t) refl (part_of q.1 q.2)))
  go_on_fails left goes_call first ts m t b l a e =
      let q = arguments_fail names inner d good fails (skip ts) m (map_err _ _ e) in
      (call (outlines.begins left) left (gathered q.0), omega arith, part_in {c = false} refl (part_past {c = true} ts l a (behind None ts m (ap tail_token t) tt q.1)))
  go_on_fails left goes_index first ts m t b l a e = index_fails left first ts m t l a e
  go_on_fails left goes_dot first ts m t b l a e =
      (member (spot ts) left [], omega arith, part_past {c = true} ts l a (behind (Some (spot ts)) ts m (ap tail_token t) refl (at (id_err names (skip ts) (map_err _ _ e)))))
  go_on_fails left goes_arrow first ts m t b l a e =
      (arrow (spot ts) left [], omega arith, part_past {c = true} ts l a (behind (Some (spot ts)) ts m (ap tail_token t) refl (at (id_err names (skip ts) (map_err _ _ e)))))
  go_on_fails left (goes_step op) first ts m t b l a e = absurd cc
  go_on_fails left ends_here first ts m t b l a e = absurd (omega (arith, b))

  climb_fails : (least turns : ℕ) (left : ExprTree Spot) (first ts m : List Token) → 0 < least → Made names inner d good least first (left, ts) → reader.climb names inner (suc d) least turns left ts ≡ Err m → MadeBegun least first m
  climb_fails least zero left first ts m some made e = absurd cc
  climb_fails least (suc turns) left first ts m some made e =
      branch_err (reader.goes_on names inner (suc d) least left (tail ts)) (λ us. and_then (reader.go_on names inner (suc d) left (tail us) (spot us) (skip us)) (reader.climb names inner (suc d) least turns)) (pure left) ts e
      (λ c f.
      let g = goes_on_true names inner (suc d) least left (tail ts) c in
      let sunk : ReadsExpr names d left first ts = sinks true (outlines.expr names left) d first ts made.1 (omega (arith, g.2, expr_depth names left)) in
      bind_err (reader.go_on names inner (suc d) left (tail ts) (spot ts) (skip ts)) (reader.climb names inner (suc d) least turns) f
      (λ h. let q = go_on_fails left (tail ts) first ts m refl (omega (arith, some, g.0)) g.1 sunk h in (q.0, omega (arith, g.0, q.1), q.2))
      (λ y ok h.
      let once : reader.climb names inner (suc d) least 1 left ts ≡ Ok y =
      branch_true (reader.goes_on names inner (suc d) least left (tail ts)) (λ us. and_then (reader.go_on names inner (suc d) left (tail us) (spot us) (skip us)) (reader.climb names inner (suc d) least 0)) (pure left) ts c
      ∙ ap (λ z. and_then z (reader.climb names inner (suc d) least 0)) ok in
      climb_fails least turns y.0 first y.1 m some (climb_sound names inner d good least 1 left first ts y made once) h))
      (λ c f. absurd cc)

  -- ---- String literals

  abbrev Literal : List ℕ → List Token → List Token → Type 0
  Literal s ts m = NextKind (kind.Str s) ts × (skip ts ≡ m)

  literal_sound : IsSound (λ ts. reader.literal_by names inner (suc d) (next_literal ts) ts) Literal
  literal_sound ts x e = by (next_literal ts) refl e
    where
      by : (y : Option (List ℕ)) → next_literal ts ≡ y → reader.literal_by names inner (suc d) y ts ≡ Ok x → Literal x.0 ts x.1
      by None i f = absurd cc
      by (Some bytes) i f = subst (λ (z : List ℕ × List Token). Literal z.0 ts z.1) (ok_is (bytes, skip ts) x f) (literal_next bytes ts i, refl)

  literal_fails : Fails (λ ts. reader.literal_by names inner (suc d) (next_literal ts) ts) (λ s ts m. ts ≡ m)
  literal_fails ts m e = by (next_literal ts) e
    where
      by : (y : Option (List ℕ)) → reader.literal_by names inner (suc d) y ts ≡ Err m → (s : List ℕ) × (ts ≡ m)
      by None f = ([], err_is {A = List ℕ} f)
      by (Some bytes) f = absurd cc

  strings_begun : (ss : List (List ℕ)) (ts m : List Token) → FollowingBegun Literal (λ s us v. us ≡ v) ss ts m → Begun (outlines.strings ss) d ts m
  strings_begun [] ts m x = at x
  strings_begun (s ∷ ss) ts m (inl x) = at x
  strings_begun (s ∷ ss) ts m (inr x) = token_then tt x.1.0 tt (subst (λ us. Begun (outlines.strings ss) d us m) (sym x.1.1) (strings_begun ss x.0 m x.2))

  string_begun : (ss : List (List ℕ)) (ts m : List Token) → RepeatedBegun Literal (λ s us v. us ≡ v) ss ts m → Begun (outlines.string_tokens (spot ts) ss) d ts m
  string_begun [] ts m x = absurd x
  string_begun (s ∷ ss) ts m (inl x) = at x
  string_begun (s ∷ ss) ts m (inr x) = token_then tt x.1.0 refl (subst (λ us. Begun (outlines.strings ss) d us m) (sym x.1.1) (strings_begun ss x.0 m x.2))

  literals_begun : (least : ℕ) (ts m : List Token) → least ≤ 15 → reader.literals names inner (suc d) ts ≡ Err m → MadeBegun least ts m
  literals_begun least ts m l e =
      let q = repeated_by_fails (λ us. reader.is_literal names inner (suc d) (next_literal us)) (λ us. reader.literal_by names inner (suc d) (next_literal us) us) Literal (λ s us v. us ≡ v) (λ us. ([], refl)) literal_sound literal_fails (length ts) ts m e in
      (string (spot ts) q.0, omega (arith, l), string_begun q.0 ts m q.1)

  -- ---- How one begins

  opens : {w : TokenKind} {i : Outline} (ts m : List Token) → start_token (start ts) ≡ Some w → Begun i d (skip ts) m → Begun (token (Unit {0}) w (Some (spot ts)) i) d ts m
  opens {w} ts m e x = token_then tt (start_next w ts e) refl x

  cast_fails : (least : ℕ) (ts m : List Token) → start ts ≡ begins_paren → least ≤ 14 → and_then (reader.typed names inner (suc d) without_name (skip ts)) (λ t us. and_then (take the_punct.RightParen us) (λ z. cast (spot ts) t <$> inner.expr 14)) ≡ Err m → MadeBegun least ts m
  cast_fails least ts m s l e =
      let n = spot ts in
      bind_err (reader.typed names inner (suc d) without_name (skip ts)) _ e
      (λ f. let q = typed_fails names inner d good fails without_name (skip ts) m f in
      (cast n q.0 (name n []), l, opens ts m (ap start_token s) (within_in (type_begun names inner d good fails q.0 (skip ts) m q.1))))
      (λ y ok f. let u = typed_type names inner d good y.0 (skip ts) y.1 (typed_sound names inner d good without_name (skip ts) y ok) in take_bind the_punct.RightParen y.1 _ f
      (λ g. (cast n y.0 (name n []), l, opens ts m (ap start_token s) (within_past y.1 u (at g))))
      (λ c g. let q = fails.expr 14 (omega arith) (omega arith) (skip y.1) m (map_err _ _ g) in
      (cast n y.0 q.0, l, opens ts m (ap start_token s) (within_past y.1 u (punct_then c tt (part_of q.1 q.2))))))

  paren_fails : (least : ℕ) (ts m : List Token) → start ts ≡ begins_paren → least ≤ 15 → and_then (inner.expr 1 (skip ts)) (λ y us. and_then (take the_punct.RightParen us) (λ z. pure (paren (spot ts) y))) ≡ Err m → MadeBegun least ts m
  paren_fails least ts m s l e =
      let n = spot ts in
      bind_err (inner.expr 1 (skip ts)) _ e
      (λ f. let q = fails.expr 1 (omega arith) (omega arith) (skip ts) m f in (paren n q.0, omega (arith, l), opens ts m (ap start_token s) (part_of q.1 q.2)))
      (λ y ok f. let u = good.expr 1 (omega arith) (skip ts) y ok in
      (paren n y.0, omega (arith, l), opens ts m (ap start_token s) (part_past {c = true} y.1 u.0 u.1 (at (until_err the_punct.RightParen (paren n y.0) y.1 f)))))

  behind_paren_fails : (least : ℕ) (ts m : List Token) → start ts ≡ begins_paren → least ≤ 15 → reader.behind_paren names inner (suc d) least (spot ts) (skip ts) ≡ Err m → MadeBegun least ts m
  behind_paren_fails least ts m s l e =
      branch_err (starts_spec names (skip ts) && nat_le least 14) _ _ (skip ts) e
      (λ c f. cast_fails least ts m s (leb-true least 14 (and_parts (starts_spec names (skip ts)) (nat_le least 14) c).1) f)
      (λ c f. paren_fails least ts m s l f)

  -- where an operand would be too deep, a type could follow the parenthesis
  size_type_fails : (least : ℕ) (ts m : List Token) → start ts ≡ begins_sizeof → least ≤ 15 → next_is the_punct.LeftParen (skip ts) ≡ true
      → and_then (reader.typed names inner (suc d) without_name (skip (skip ts))) (λ t us. and_then (take the_punct.RightParen us) (λ z. pure (size_type (spot ts) t))) ≡ Err m → MadeBegun least ts m
  size_type_fails least ts m s l comes e =
      let n = spot ts in
      bind_err (reader.typed names inner (suc d) without_name (skip (skip ts))) _ e
      (λ f. let q = typed_fails names inner d good fails without_name (skip (skip ts)) m f in
      (size_type n q.0, l, opens ts m (ap start_token s) (punct_then comes tt (within_in (type_begun names inner d good fails q.0 (skip (skip ts)) m q.1)))))
      (λ y ok f. let u = typed_type names inner d good y.0 (skip (skip ts)) y.1 (typed_sound names inner d good without_name (skip (skip ts)) y ok) in
      (size_type n y.0, l, opens ts m (ap start_token s) (punct_then comes tt (within_past y.1 u (at (until_err the_punct.RightParen (size_type n y.0) y.1 f))))))

  behind_sizeof_fails : (least : ℕ) (ts m : List Token) → start ts ≡ begins_sizeof → least ≤ 15 → reader.behind_sizeof names inner (suc d) (spot ts) (skip ts) ≡ Err m → MadeBegun least ts m
  behind_sizeof_fails least ts m s l e =
      let n = spot ts in
      branch_err (next_is the_punct.LeftParen (skip ts) && starts_spec names (skip (skip ts))) _ _ (skip ts) e
      (λ c f. size_type_fails least ts m s l (and_parts (next_is the_punct.LeftParen (skip ts)) (starts_spec names (skip (skip ts))) c).0 f)
      (λ c f. branch_err (next_is the_punct.LeftParen (skip ts) && (suc d == 1)) _ _ (skip ts) f
      (λ b g. (size_type n (type_name n (some_spec n) nameless), l, opens ts m (ap start_token s) (punct_then (and_parts (next_is the_punct.LeftParen (skip ts)) (suc d == 1) b).0 tt (at (err_is {A = ExprTree Spot} g)))))
      (λ b g. let q = fails.expr 15 (omega arith) (omega arith) (skip ts) m (map_err _ _ g) in
      (size_expr n q.0, l, opens ts m (ap start_token s) (part_of q.1 q.2))))

  prefix_fails : (least : ℕ) (b : Start) (ts m : List Token) → start ts ≡ b → least ≤ 15 → reader.prefix names inner (suc d) least b (spot ts) ts ≡ Err m → MadeBegun least ts m
  prefix_fails least (begins_name y) ts m s l e = (name (spot ts) [], omega (arith, l), at (id_err names ts (map_err _ _ e)))
  prefix_fails least (begins_integer v c) ts m s l e = absurd cc
  prefix_fails least (begins_character v) ts m s l e = absurd cc
  prefix_fails least (begins_string bytes) ts m s l e = literals_begun least ts m l (map_err _ _ e)
  prefix_fails least begins_paren ts m s l e = behind_paren_fails least ts m s l e
  prefix_fails least (begins_unary op) ts m s l e =
      let q = fails.expr 14 (omega arith) (omega arith) (skip ts) m (map_err _ _ e) in
      (unary (spot ts) op q.0, l, opens ts m (ap start_token s) (part_of q.1 q.2))
  prefix_fails least (begins_step op) ts m s l e =
      let q = fails.expr 15 (omega arith) (omega arith) (skip ts) m (map_err _ _ e) in
      (step (spot ts) op side.Before q.0, l, opens ts m (ap start_token s) (part_of q.1 q.2))
  prefix_fails least begins_sizeof ts m s l e = behind_sizeof_fails least ts m s l e
  prefix_fails least begins_nothing ts m s l e = (name (spot ts) [], omega (arith, l), at (err_is {A = ExprTree Spot} e))

  pub expression_fails : (least : ℕ) → 0 < least → least ≤ 15 → (ts m : List Token) → reader.expression names inner (suc d) least ts ≡ Err m → MadeBegun least ts m
  expression_fails least some l ts m e =
      branch_err (suc d == 0) _ _ ts e
      (λ c f. (name (spot ts) [], omega (arith, l), at (err_is {A = ExprTree Spot} f)))
      (λ c f. bind_err (reader.prefix names inner (suc d) least (start ts) (spot ts) ts) _ f
      (λ g. prefix_fails least (start ts) ts m refl l g)
      (λ y ok g. climb_fails least (suc d) y.0 ts y.1 m some (prefix_sound names inner d good least (start ts) ts y refl l ok) g))
