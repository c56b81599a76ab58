-- Expressions and type names at three depths.
use Rattle.std.proofs.Common.{◌≡◌, ◌≤◌, ◌<◌, ◌+◌, refl, ℕ, zero, suc, Bool, true, false, List, [], length, Option, Some, None, Ok, arith, sym, ap, subst, ◌∙◌, nat_le, nat_lt, ◌&&◌, ◌==◌}
use Rattle.std.proofs.lemmas.Bool.{and_parts, and_right, leb-true, ltb-true, lt-leb}
use Rattle.cc_base.specs.declared.place.Spot.{Spot}
use Rattle.cc_lex.specs.declared.token.Token.{Token}
use Rattle.cc_lex.specs.declared.punct.Punct.TheVariants as the_punct
use Rattle.cc_tree.specs.declared.operator.Side.TheVariants as side
use Rattle.cc_tree.specs.Trees.{ExprTree, name, integer, character, string, paren, unary, binary, assign, step, choice, comma, call, member, arrow, index, cast, size_expr, size_type, TypeTree, type_name}
use Rattle.cc_tree.specs.Views.{gathered}
use Rattle.cc_tree.specs.Depth as depths
use Rattle.cc_grammar.specs.Levels.{level, binary_level}
use Rattle.cc_grammar.specs.Names.{Names}
use Rattle.cc_grammar.specs.Outlines as outlines
use Rattle.cc_grammar.specs.Classes.{next_is, next_literal, skip, spot, starts_spec, start, Start, begins_name, begins_integer, begins_character, begins_string, begins_paren, begins_unary, begins_step, begins_sizeof, begins_nothing, tail, Tail, goes_binary, goes_assign, goes_question, goes_comma, goes_call, goes_index, goes_dot, goes_arrow, goes_step, ends_here, binds, left_level}
use Rattle.cc_grammar.specs.Outcomes.{Outcome, Parser, and_then, pure, refuse, ◌<$>◌}
use Rattle.cc_grammar.specs.Reading as reader
use Rattle.cc_grammar.specs.Reading.{Inner, Mode, without_name, with_or_without, where_next, skipping}
use Rattle.cc_parse_laws.proofs.Steps.{branch_true, branch_false}
use Rattle.cc_parse_laws.proofs.Spans.{reads_depth}
use Rattle.cc_parse_laws.proofs.Depths.{expr_depth}
use Rattle.cc_parse_laws.proofs.Edges.{op_least}
use Rattle.cc_parse_laws.proofs.Firsts.{op_most}
use Rattle.cc_parse_laws.proofs.Inner.{SoundInner}
use Rattle.cc_parse_laws.proofs.SoundClimbing.{Made, climb_sound}
use Rattle.cc_parse_laws.proofs.SoundExpressions.{prefix_sound}
use Rattle.cc_parse_laws.proofs.Climbs.{goes_on_is, not_zero, bound}
use Rattle.cc_parse_places.proofs.Forks.{left}
use Rattle.cc_parse_places.proofs.Spent.{HasNext}
use Rattle.cc_parse_depths.proofs.Deeper.{Steps, stopped, Never, halts_with, halts_is, Shrinks, skip_shrinks, bind_shrinks, steps_then, steps_are, steps_same, Deeper, deep_pure, deep_refuse, deep_then, deep_bind, deep_map, deep_map_never, deep_skipping, deep_view, deep_placed, deep_where}
use Rattle.cc_parse_depths.proofs.DeeperLists.{deep_take, deep_until, deep_id, halts_take, Binding, unbound, binding_some, deep_separated, deep_repeated, behind_first}

-- a token comes that can stand in a declarator, or begin one, and so none that can stand behind one
pub record Further (r : List Token) : Type 0 where
  pub no_close : next_is the_punct.RightParen r ≡ false
  pub no_comma : next_is the_punct.Comma r ≡ false
  pub no_semicolon : next_is the_punct.Semicolon r ≡ false
  pub no_equal : next_is the_punct.Equal r ≡ false
  pub no_brace : next_is the_punct.LeftBrace r ≡ false

-- the readers of what stands in a counted node, at three depths
pub record DeepInner (i j k : Inner) : Type 0 where
  pub expr : (least : ℕ) → 0 < least → least ≤ 15 → Deeper (λ e. Binding least) (i.expr least) (j.expr least) (k.expr least)
  pub specs : Deeper Never i.specs j.specs k.specs
  pub declarator : (mode : Mode) → Deeper (λ f. Further) (i.declarator mode) (j.declarator mode) (k.declarator mode)

-- ---- Levels

left_of : (t : Tail) → binds t ≤ left_level t
left_of (goes_binary op) = omega arith
left_of (goes_assign op) = omega arith
left_of goes_question = omega arith
left_of goes_comma = omega arith
left_of goes_call = omega arith
left_of goes_index = omega arith
left_of goes_dot = omega arith
left_of goes_arrow = omega arith
left_of (goes_step op) = omega arith
left_of ends_here = omega arith

-- an assignment stands to the left of nothing that binds as it does or more tightly
left_of_assign : (t : Tail) → 2 ≤ binds t → 2 < left_level t
left_of_assign (goes_binary op) h = omega (arith, op_least op)
left_of_assign (goes_assign op) h = omega arith
left_of_assign goes_question h = omega arith
left_of_assign goes_comma h = absurd (omega (arith, h))
left_of_assign goes_call h = omega arith
left_of_assign goes_index h = omega arith
left_of_assign goes_dot h = omega arith
left_of_assign goes_arrow h = omega arith
left_of_assign (goes_step op) h = omega arith
left_of_assign ends_here h = omega arith

-- nor does a conditional
left_of_choice : (t : Tail) → 3 ≤ binds t → 3 < left_level t
left_of_choice (goes_binary op) h = omega (arith, op_least op)
left_of_choice (goes_assign op) h = omega arith
left_of_choice goes_question h = omega arith
left_of_choice goes_comma h = absurd (omega (arith, h))
left_of_choice goes_call h = omega arith
left_of_choice goes_index h = omega arith
left_of_choice goes_dot h = omega arith
left_of_choice goes_arrow h = omega arith
left_of_choice (goes_step op) h = omega arith
left_of_choice ends_here h = omega arith

-- what binds more tightly than the binary operators is a suffix
suffix_of : (t : Tail) → 14 ≤ binds t → 16 ≤ binds t
suffix_of (goes_binary op) h = absurd (omega (arith, h, op_most op))
suffix_of (goes_assign op) h = absurd (omega (arith, h))
suffix_of goes_question h = absurd (omega (arith, h))
suffix_of goes_comma h = absurd (omega (arith, h))
suffix_of goes_call h = omega arith
suffix_of goes_index h = omega arith
suffix_of goes_dot h = omega arith
suffix_of goes_arrow h = omega arith
suffix_of (goes_step op) h = omega arith
suffix_of ends_here h = absurd (omega (arith, h))

-- an operand of `sizeof`, which has no parenthesis at the last depth
abbrev pub sized_operand : Names → Inner → ℕ → Spot → Parser (ExprTree Spot)
sized_operand names i a n = where_next (λ ts. next_is the_punct.LeftParen ts && (a == 1)) (skipping refuse) (size_expr n <$> i.expr 15)

-- what stands here goes on with no such token
pub record Passed (n : ℕ) (e : ExprTree Spot) (r : List Token) : Type 0 where
  pub binding : n ≤ binds (tail r)
  pub loose : level e < left_level (tail r)

-- a token follows that binds as tightly as a cast, and that the expression doesn't stand before
pub record Held (e : ExprTree Spot) (r : List Token) : Type 0 where
  pub binding : 15 ≤ binds (tail r)
  pub loose : level e < left_level (tail r)

held : (e : ExprTree Spot) (r : List Token) → level e ≤ 15 → Binding 14 r → Held e r
held e r low h = record { binding = omega (arith, suffix_of (tail r) h); loose = omega (arith, low, suffix_of (tail r) h, left_of (tail r)) }

module _ (names : Names) (p q s : Inner) (a b c : ℕ) (good : DeepInner p q s) where
  pub deep_typed : (mode : Mode) → Deeper (λ t. Further) (reader.typed names p a mode) (reader.typed names q b mode) (reader.typed names s c mode)
  deep_typed mode = deep_placed (λ n. deep_bind good.specs (λ ss. deep_map (type_name n ss) (good.declarator mode) (λ f r h. h)))

  pub deep_parameters : {S : List (TypeTree Spot) → List Token → Type 0} → Deeper S (reader.parameters names p a) (reader.parameters names q b) (reader.parameters names s c)
  deep_parameters = deep_where (next_is the_punct.RightParen) (deep_skipping (deep_pure []))
      (deep_then (deep_separated Further (λ r h. h.no_comma) (deep_typed with_or_without)) (λ ts. deep_until the_punct.RightParen ts) (λ ts r h. halts_take the_punct.RightParen _ r h.no_close))

  pub deep_arguments : {S : List (ExprTree Spot) → List Token → Type 0} → Deeper S (reader.arguments names p a) (reader.arguments names q b) (reader.arguments names s c)
  deep_arguments = deep_where (next_is the_punct.RightParen) (deep_skipping (deep_pure []))
      (deep_then (deep_separated (Binding 2) (λ r h. unbound the_punct.Comma 2 r (omega arith) h) (good.expr 2 (omega arith) (omega arith))) (λ es. deep_until the_punct.RightParen es)
      (λ es r h. halts_take the_punct.RightParen _ r (unbound the_punct.RightParen 2 r (omega arith) h)))

  -- ---- How an expression goes on

  deep_choice : (e : ExprTree Spot) (n : Spot) → Deeper (Passed 3) (reader.go_on names p a e goes_question n) (reader.go_on names q b e goes_question n) (reader.go_on names s c e goes_question n)
  deep_choice e n =
      deep_then (good.expr 1 (omega arith) (omega arith))
      (λ x. deep_bind (deep_take the_punct.Colon) (λ z. deep_map (choice n e x) (good.expr 3 (omega arith) (omega arith)) (λ y r h. record { binding = h; loose = left_of_choice (tail r) h })))
      (λ x r h. halts_take the_punct.Colon _ r (unbound the_punct.Colon 1 r (omega arith) h))

  deep_index : (e : ExprTree Spot) (n : Spot) → Deeper (Passed 16) (reader.go_on names p a e goes_index n) (reader.go_on names q b e goes_index n) (reader.go_on names s c e goes_index n)
  deep_index e n =
      deep_then (good.expr 1 (omega arith) (omega arith)) (λ i. deep_until the_punct.RightBracket (index n e i))
      (λ x r h. halts_take the_punct.RightBracket _ r (unbound the_punct.RightBracket 1 r (omega arith) h))

  pub deep_go_on : (e : ExprTree Spot) (t : Tail) (n : Spot) → Deeper (Passed (binds t)) (reader.go_on names p a e t n) (reader.go_on names q b e t n) (reader.go_on names s c e t n)
  deep_go_on e (goes_binary op) n = deep_map (binary n op e) (good.expr (binary_level op + 1) (omega arith) (omega (arith, op_most op))) (λ y r h. record { binding = omega (arith, h); loose = omega (arith, h, left_of (tail r)) })
  deep_go_on e (goes_assign op) n = deep_map (assign n op e) (good.expr 2 (omega arith) (omega arith)) (λ y r h. record { binding = h; loose = left_of_assign (tail r) h })
  deep_go_on e goes_question n = deep_choice e n
  deep_go_on e goes_comma n = deep_map (comma n e) (good.expr 2 (omega arith) (omega arith)) (λ y r h. record { binding = omega (arith, h); loose = omega (arith, h, left_of (tail r)) })
  deep_go_on e goes_call n = deep_map_never (λ es. call (outlines.begins e) e (gathered es)) deep_arguments
  deep_go_on e goes_index n = deep_index e n
  deep_go_on e goes_dot n = deep_map_never (member n e) (deep_id names)
  deep_go_on e goes_arrow n = deep_map_never (arrow n e) (deep_id names)
  deep_go_on e (goes_step op) n = deep_pure (step n op side.After e)
  deep_go_on e ends_here n = deep_refuse

  pub go_shrinks : (least turns : ℕ) (e : ExprTree Spot) (ts : List Token) → ((x : ExprTree Spot) → Shrinks (reader.climb names q b least turns x))
      → length (left (and_then (reader.go_on names q b e (tail ts) (spot ts) (skip ts)) (reader.climb names q b least turns))) ≤ length (skip ts)
  go_shrinks least turns e ts h =
      let d = deep_go_on e (tail ts) (spot ts) in
      omega (arith, d.shrinks (skip ts), bind_shrinks (reader.go_on names q b e (tail ts) (spot ts) (skip ts)) (reader.climb names q b least turns) h)

  pub climb_shrinks : (least turns : ℕ) (e : ExprTree Spot) → Shrinks (reader.climb names q b least turns e)
  climb_shrinks least zero e ts = omega arith
  climb_shrinks least (suc turns) e ts =
      let go = go_shrinks least turns e ts (climb_shrinks least turns) in
      by (reader.goes_on names q b least e (tail ts)) (omega (arith, go, skip_shrinks ts))
    where
      by : (g : Bool) → length (left (and_then (reader.go_on names q b e (tail ts) (spot ts) (skip ts)) (reader.climb names q b least turns))) ≤ length ts
          → length (left (reader.branch g (λ us. and_then (reader.go_on names q b e (tail us) (spot us) (skip us)) (reader.climb names q b least turns)) (pure e) ts)) ≤ length ts
      by true go = go
      by false go = omega arith

  -- ---- How one begins

  deep_literal_by : (x : Option (List ℕ)) → Deeper Never (reader.literal_by names p a x) (reader.literal_by names q b x) (reader.literal_by names s c x)
  deep_literal_by None = deep_refuse
  deep_literal_by (Some bytes) = deep_skipping (deep_pure bytes)

  literal_same : (i j : Inner) (d e : ℕ) (x : Option (List ℕ)) → reader.is_literal names i d x ≡ reader.is_literal names j e x
  literal_same i j d e None = refl
  literal_same i j d e (Some bytes) = refl

  pub deep_literals : Deeper Never (reader.literals names p a) (reader.literals names q b) (reader.literals names s c)
  deep_literals = deep_repeated (λ ts. reader.is_literal names p a (next_literal ts)) (λ ts. reader.is_literal names q b (next_literal ts)) (λ ts. reader.is_literal names s c (next_literal ts))
      (λ ts. literal_same q p b a (next_literal ts)) (λ ts. literal_same s p c a (next_literal ts)) (deep_view next_literal deep_literal_by)

  pub literals_behind : (ts : List Token) → HasNext ts → length (left (reader.literals names q b ts)) ≤ length (left (reader.literal_by names q b (next_literal ts) ts))
  literals_behind ts some =
      behind_first (λ us. reader.is_literal names p a (next_literal us)) (λ us. reader.is_literal names q b (next_literal us)) (λ us. reader.is_literal names s c (next_literal us))
      (λ us. literal_same q p b a (next_literal us)) (λ us. literal_same s p c a (next_literal us)) (deep_view next_literal deep_literal_by) ts some

  pub deep_behind_paren : (least : ℕ) (n : Spot) → Deeper Held (reader.behind_paren names p a least n) (reader.behind_paren names q b least n) (reader.behind_paren names s c least n)
  deep_behind_paren least n =
      deep_where (λ ts. starts_spec names ts && nat_le least 14)
      (deep_then (deep_typed without_name) (λ t. deep_bind (deep_take the_punct.RightParen) (λ z. deep_map (cast n t) (good.expr 14 (omega arith) (omega arith)) (λ y r h. held (cast n t y) r (omega arith) h)))
      (λ t r h. halts_take the_punct.RightParen _ r h.no_close))
      (deep_then (good.expr 1 (omega arith) (omega arith)) (λ e. deep_until the_punct.RightParen (paren n e)) (λ e r h. halts_take the_punct.RightParen _ r (unbound the_punct.RightParen 1 r (omega arith) h)))

  abbrev pub Sized : Type 0
  Sized = (n : Spot) → Deeper Held (sized_operand names p a n) (sized_operand names q b n) (sized_operand names s c n)

  pub deep_operand : (n : Spot) → Deeper Held (size_expr n <$> p.expr 15) (size_expr n <$> q.expr 15) (size_expr n <$> s.expr 15)
  deep_operand n = deep_map (size_expr n) (good.expr 15 (omega arith) (omega arith)) (λ e r h. held (size_expr n e) r (omega arith) (omega (arith, h)))

  pub deep_behind_sizeof : Sized → (n : Spot) → Deeper Held (reader.behind_sizeof names p a n) (reader.behind_sizeof names q b n) (reader.behind_sizeof names s c n)
  deep_behind_sizeof sized n =
      deep_where (λ ts. next_is the_punct.LeftParen ts && starts_spec names (skip ts))
      (deep_skipping (deep_then (deep_typed without_name) (λ t. deep_until the_punct.RightParen (size_type n t)) (λ t r h. halts_take the_punct.RightParen _ r h.no_close)))
      (sized n)

  pub deep_prefix : Sized → (least : ℕ) (st : Start) (n : Spot) → Deeper Held (reader.prefix names p a least st n) (reader.prefix names q b least st n) (reader.prefix names s c least st n)
  deep_prefix sized least (begins_name x) n = deep_map_never (name n) (deep_id names)
  deep_prefix sized least (begins_integer v k) n = deep_skipping (deep_pure (integer n v k))
  deep_prefix sized least (begins_character v) n = deep_skipping (deep_pure (character n v))
  deep_prefix sized least (begins_string bytes) n = deep_map_never (string n) deep_literals
  deep_prefix sized least begins_paren n = deep_skipping (deep_behind_paren least n)
  deep_prefix sized least (begins_unary op) n = deep_skipping (deep_map (unary n op) (good.expr 14 (omega arith) (omega arith)) (λ e r h. held (unary n op e) r (omega arith) h))
  deep_prefix sized least (begins_step op) n = deep_skipping (deep_map (step n op side.Before) (good.expr 15 (omega arith) (omega arith)) (λ e r h. held (step n op side.Before e) r (omega arith) (omega (arith, h))))
  deep_prefix sized least begins_sizeof n = deep_skipping (deep_behind_sizeof sized n)
  deep_prefix sized least begins_nothing n = deep_refuse

-- ---- The loop

-- the token may go on behind the expression, depth aside
abbrev fits : ℕ → ExprTree Spot → Tail → Bool
fits least e t = nat_le least (binds t) && nat_le (left_level t) (level e)

no_fit : (x y z : Bool) → (x && y) ≡ false → (x && (y && z)) ≡ false
no_fit true true z e = absurd cc
no_fit true false z e = refl
no_fit false y z e = refl

no_room : (x y : Bool) → (x && (y && false)) ≡ false
no_room true true = refl
no_room true false = refl
no_room false y = refl

climb_halts : (names : Names) (p : Inner) (a least turns : ℕ) (e : ExprTree Spot) (r : List Token) → fits least e (tail r) ≡ false → reader.climb names p a least turns e r ≡ Ok (e, r)
climb_halts names p a least zero e r f = refl
climb_halts names p a least (suc turns) e r f =
    branch_false (reader.goes_on names p a least e (tail r)) (λ us. and_then (reader.go_on names p a e (tail us) (spot us) (skip us)) (reader.climb names p a least turns)) (pure e) r
    (no_fit (nat_le least (binds (tail r))) (nat_le (left_level (tail r)) (level e)) (nat_lt (depths.expr_depth e) a) f)

climb_full : (names : Names) (p : Inner) (a least turns : ℕ) (e : ExprTree Spot) (r : List Token) → nat_lt (depths.expr_depth e) a ≡ false → reader.climb names p a least turns e r ≡ Ok (e, r)
climb_full names p a least zero e r f = refl
climb_full names p a least (suc turns) e r f =
    branch_false (reader.goes_on names p a least e (tail r)) (λ us. and_then (reader.go_on names p a e (tail us) (spot us) (skip us)) (reader.climb names p a least turns)) (pure e) r
    (ap (λ z. nat_le least (binds (tail r)) && (nat_le (left_level (tail r)) (level e) && z)) f ∙ no_room (nat_le least (binds (tail r))) (nat_le (left_level (tail r)) (level e)))

climb_goes : (names : Names) (p : Inner) (a least turns : ℕ) (e : ExprTree Spot) (r : List Token) → fits least e (tail r) ≡ true → depths.expr_depth e < a
    → reader.climb names p a least (suc turns) e r ≡ and_then (reader.go_on names p a e (tail r) (spot r) (skip r)) (reader.climb names p a least turns)
climb_goes names p a least turns e r f h =
    let two = and_parts (nat_le least (binds (tail r))) (nat_le (left_level (tail r)) (level e)) f in
    branch_true (reader.goes_on names p a least e (tail r)) (λ us. and_then (reader.go_on names p a e (tail us) (spot us) (skip us)) (reader.climb names p a least turns)) (pure e) r
    (goes_on_is names p a least e (tail r) (leb-true _ _ two.0) (leb-true _ _ two.1) h)

too_loose : (least : ℕ) (e : ExprTree Spot) (t : Tail) → level e < left_level t → fits least e t ≡ false
too_loose least e t h = and_right (nat_le least (binds t)) (nat_le (left_level t) (level e)) (lt-leb _ _ h)

module _ (names : Names) (p q s : Inner) (d f : ℕ) (deeper : d ≤ f) (good : DeepInner p q s) (sound : SoundInner names p d) where
  abbrev Climbing : ℕ → ℕ → ℕ → ExprTree Spot → List Token → Type 0
  Climbing least t u e ts = Steps (λ y. Binding least) (reader.climb names p (suc d) least t e ts) (reader.climb names q (suc (suc (suc d))) least (suc (suc t)) e ts) (reader.climb names s (suc f) least u e ts)

  -- what was read is no deeper
  small : (least : ℕ) (e : ExprTree Spot) (first ts : List Token) → Made names p d sound least first (e, ts) → depths.expr_depth e ≤ suc d
  small least e first ts made = omega (arith, expr_depth names e, reads_depth (outlines.expr names e) d first ts made.1)

  -- where the first stops, for its depth
  climb_stops : (least t : ℕ) (e : ExprTree Spot) (ts : List Token) (o y : Outcome (ExprTree Spot)) → 0 < least → depths.expr_depth e ≤ suc d → fits least e (tail ts) ≡ true → o ≡ Ok (e, ts)
      → Steps (λ y. Binding least) o (reader.climb names q (suc (suc (suc d))) least (suc (suc t)) e ts) y
  climb_stops least t e ts o y some low fit is =
      let two = and_parts (nat_le least (binds (tail ts))) (nat_le (left_level (tail ts)) (level e)) fit in
      let binding : Binding least ts = leb-true _ _ two.0 in
      let goes = climb_goes names q (suc (suc (suc d))) least (suc t) e ts fit (omega (arith, low)) in
      let all = go_shrinks names p q s (suc d) (suc (suc (suc d))) (suc f) good least (suc t) e ts (climb_shrinks names p q s (suc d) (suc (suc (suc d))) (suc f) good least (suc t)) in
      steps_are {b = and_then (reader.go_on names q (suc (suc (suc d))) e (tail ts) (spot ts) (skip ts)) (reader.climb names q (suc (suc (suc d))) least (suc t))} is goes refl
      (stopped e ts _ y binding (omega (arith, all, binding_some least ts some binding)))

  climb_on : (least t u : ℕ) (e : ExprTree Spot) (first ts : List Token) → 0 < least → depths.expr_depth e < suc d → fits least e (tail ts) ≡ true → Made names p d sound least first (e, ts)
      → ((x : ExprTree Spot) (r : List Token) → Made names p d sound least first (x, r) → Climbing least t u x r) → Climbing least (suc t) (suc u) e ts
  climb_on least t u e first ts some low fit made rec =
      let two = and_parts (nat_le least (binds (tail ts))) (nat_le (left_level (tail ts)) (level e)) fit in
      let binding : least ≤ binds (tail ts) = leb-true _ _ two.0 in
      let go = deep_go_on names p q s (suc d) (suc (suc (suc d))) (suc f) good e (tail ts) (spot ts) in
      steps_are (climb_goes names p (suc d) least t e ts fit low) (climb_goes names q (suc (suc (suc d))) least (suc (suc t)) e ts fit (omega (arith, low))) (climb_goes names s (suc f) least u e ts fit (omega (arith, low, deeper)))
      (steps_then _ _ _ (reader.climb names p (suc d) least t) (reader.climb names q (suc (suc (suc d))) least (suc (suc t))) (reader.climb names s (suc f) least u) (go.steps (skip ts))
      (λ x r is. rec x r (climb_sound names p d sound least 1 e first ts (x, r) made (climb_goes names p (suc d) least 0 e ts fit low ∙ bound (reader.climb names p (suc d) least 0) (reader.go_on names p (suc d) e (tail ts) (spot ts) (skip ts)) x r is)))
      (climb_shrinks names p q s (suc d) (suc (suc (suc d))) (suc f) good least (suc (suc t)))
      (λ x r h. halts_is (climb_halts names p (suc d) least t x r (too_loose least x (tail r) h.loose)) (halts_with x r (omega (arith, binding, h.binding)))))

  climb_steps : (least : ℕ) → 0 < least → (t u : ℕ) → t ≤ u → (e : ExprTree Spot) (first ts : List Token) → Made names p d sound least first (e, ts) → Climbing least t u e ts
  climb_steps least some zero u low e first ts made = by (fits least e (tail ts)) refl
    where
      by : (b : Bool) → fits least e (tail ts) ≡ b → Climbing least zero u e ts
      by true fit = climb_stops least 0 e ts (Ok (e, ts)) _ some (small least e first ts made) fit refl
      by false fit = steps_same (climb_halts names q (suc (suc (suc d))) least 2 e ts fit) (climb_halts names s (suc f) least u e ts fit)
  climb_steps least some (suc t) zero low e first ts made = absurd (omega (arith, low))
  climb_steps least some (suc t) (suc u) low e first ts made = by (fits least e (tail ts)) refl (λ x r m. climb_steps least some t u (omega (arith, low)) x first r m)
    where
      room : (b : Bool) → nat_lt (depths.expr_depth e) (suc d) ≡ b → fits least e (tail ts) ≡ true → ((x : ExprTree Spot) (r : List Token) → Made names p d sound least first (x, r) → Climbing least t u x r) → Climbing least (suc t) (suc u) e ts
      room true h fit rec = climb_on least t u e first ts some (ltb-true _ _ h) fit made rec
      room false h fit rec = climb_stops least (suc t) e ts _ _ some (small least e first ts made) fit (climb_full names p (suc d) least (suc t) e ts h)

      by : (b : Bool) → fits least e (tail ts) ≡ b → ((x : ExprTree Spot) (r : List Token) → Made names p d sound least first (x, r) → Climbing least t u x r) → Climbing least (suc t) (suc u) e ts
      by true fit rec = room (nat_lt (depths.expr_depth e) (suc d)) refl fit rec
      by false fit rec =
          let same = climb_halts names p (suc d) least (suc t) e ts fit in
          steps_same (climb_halts names q (suc (suc (suc d))) least (suc (suc (suc t))) e ts fit ∙ sym same) (climb_halts names s (suc f) least (suc u) e ts fit ∙ sym same)

  -- ---- Expressions

  abbrev read_by : Inner → ℕ → ℕ → Parser (ExprTree Spot)
  read_by i a least = λ ts. and_then (reader.prefix names i (suc a) least (start ts) (spot ts) ts) (reader.climb names i (suc a) least (suc a))

  read_is : (i : Inner) (a least : ℕ) (ts : List Token) → reader.expression names i (suc a) least ts ≡ read_by i a least ts
  read_is i a least ts = branch_false (suc a == 0) refuse (read_by i a least) ts (not_zero a)

  abbrev pub DeepSized : Type 0
  DeepSized = Sized names p q s (suc d) (suc (suc (suc d))) (suc f) good

  expression_steps : DeepSized → (least : ℕ) → 0 < least → least ≤ 15 → (ts : List Token) → Steps (λ y. Binding least) (read_by p d least ts) (read_by q (suc (suc d)) least ts) (read_by s f least ts)
  expression_steps sized least some low ts =
      let first = deep_prefix names p q s (suc d) (suc (suc (suc d))) (suc f) good sized least (start ts) (spot ts) in
      steps_then _ _ _ (reader.climb names p (suc d) least (suc d)) (reader.climb names q (suc (suc (suc d))) least (suc (suc (suc d)))) (reader.climb names s (suc f) least (suc f)) (first.steps ts)
      (λ x r is. climb_steps least some (suc d) (suc f) (omega (arith, deeper)) x ts r (prefix_sound names p d sound least (start ts) ts (x, r) refl low is))
      (climb_shrinks names p q s (suc d) (suc (suc (suc d))) (suc f) good least (suc (suc (suc d))))
      (λ x r h. halts_is (climb_halts names p (suc d) least (suc d) x r (too_loose least x (tail r) h.loose)) (halts_with x r (omega (arith, low, h.binding))))

  read_shrinks : DeepSized → (least : ℕ) → Shrinks (read_by q (suc (suc d)) least)
  read_shrinks sized least ts =
      let first = deep_prefix names p q s (suc d) (suc (suc (suc d))) (suc f) good sized least (start ts) (spot ts) in
      omega (arith, first.shrinks ts, bind_shrinks (reader.prefix names q (suc (suc (suc d))) least (start ts) (spot ts) ts) (reader.climb names q (suc (suc (suc d))) least (suc (suc (suc d)))) (climb_shrinks names p q s (suc d) (suc (suc (suc d))) (suc f) good least (suc (suc (suc d)))))

  pub deep_expression : DeepSized → (least : ℕ) → 0 < least → least ≤ 15 → Deeper (λ y. Binding least) (reader.expression names p (suc d) least) (reader.expression names q (suc (suc (suc d))) least) (reader.expression names s (suc f) least)
  deep_expression sized least some low = record {
    steps = λ ts. steps_are (read_is p d least ts) (read_is q (suc (suc d)) least ts) (read_is s f least ts) (expression_steps sized least some low ts);
    shrinks = λ ts. subst (λ o. length (left o) ≤ length ts) (sym (read_is q (suc (suc d)) least ts)) (read_shrinks sized least ts);
  }
