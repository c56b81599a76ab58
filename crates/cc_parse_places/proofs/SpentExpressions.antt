-- An expression that is begun is taken.
use Rattle.std.proofs.Common.{◌≡◌, ◌≤◌, ◌<◌, ◌+◌, refl, ℕ, ℤ, zero, suc, true, false, List, [], ◌∷◌, Option, Some, None, arith, sym, ap, subst, ◌∙◌, inl, inr, ◌&&◌, ◌==◌, nat_le}
use Rattle.std.proofs.lemmas.Bool.{le-leb, ne_eqb, and_left, and_right, and_from}
use Rattle.cc_base.specs.declared.place.Spot.{Spot}
use Rattle.cc_lex.specs.declared.token.Token.{Token}
use Rattle.cc_lex.specs.declared.token.TokenKind.{TokenKind}
use Rattle.cc_lex.specs.declared.token.TokenKind.TheVariants as kind
use Rattle.cc_lex.specs.declared.punct.Punct.{Punct}
use Rattle.cc_lex.specs.declared.punct.Punct.TheVariants as the_punct
use Rattle.cc_tree.specs.declared.operator.Side.TheVariants as side
use Rattle.cc_arith.specs.declared.kind.IntKind.{IntKind}
use Rattle.cc_lex.specs.declared.keyword.Keyword.TheVariants as the_keyword
use Rattle.cc_tree.specs.declared.operator.UnaryOp.{UnaryOp}
use Rattle.cc_tree.specs.declared.operator.BinaryOp.{BinaryOp}
use Rattle.cc_tree.specs.declared.operator.AssignOp.{AssignOp}
use Rattle.cc_tree.specs.declared.operator.StepOp.{StepOp}
use Rattle.cc_tree.specs.Trees.{ExprTree, name, integer, character, string, paren, unary, binary, assign, step, choice, comma, call, member, arrow, index, cast, size_expr, size_type, ExprTrees, TypeTree, DeclTree, SpecTrees}
use Rattle.cc_tree.specs.Depth.{expr_depth}
use Rattle.cc_grammar.specs.Levels.{level, binary_level, unary_punct, step_punct, binary_punct, assign_punct}
use Rattle.cc_grammar.specs.Names.{Names, is_type}
use Rattle.cc_grammar.specs.Outline.{Outline, end, ◌▸◌, FitsSpot}
use Rattle.cc_grammar.specs.Outlines as outlines
use Rattle.cc_grammar.specs.Classes.{next_is, next_literal, literal, skip, spot, starts_spec, start, start_kind, Start, begins_paren, begins_unary, begins_step, begins_sizeof, begins_nothing, tail, tail_kind, tail_punct, Tail, goes_binary, goes_assign, goes_question, goes_comma, goes_call, goes_index, goes_dot, goes_arrow, goes_step, binds, left_level}
use Rattle.cc_grammar.specs.Outcomes.{Parser, and_then, take, pure, refuse, ◌<$>◌, ◌>>=◌, ◌>>◌}
use Rattle.cc_grammar.specs.Reading.{Inner, Mode, without_name, prefix, climb, go_on, goes_on, expression, arguments, typed, id, where_next, skipping, behind_paren, behind_sizeof}
use Rattle.cc_parse_places.proofs.Forks.{and_false}
use Rattle.cc_parse_laws.proofs.Spans.{Inside, Reads}
use Rattle.cc_parse_laws.proofs.Steps.{branch_true, branch_false}
use Rattle.cc_parse_laws.proofs.Lists.{takes}
use Rattle.cc_parse_laws.proofs.Peeks.{punct_ends}
use Rattle.cc_parse_laws.proofs.NextTokens.{NextKind, kind_reads}
use Rattle.cc_parse_laws.proofs.Inner.{ReadsExpr, Ends, CompleteInner, Suits}
use Rattle.cc_parse_laws.proofs.Firsts.{inside_sinks, op_most, first_operand, type_ahead}
use Rattle.cc_parse_laws.proofs.Edges.{edge, edge_above, edge_postfix, edge_least, op_least}
use Rattle.cc_parse_laws.proofs.Climbs.{bound, goes_on_is, left_depth, not_zero}
use Rattle.cc_parse_laws.proofs.CompleteTypes.{id_again, type_again, first_type}
use Rattle.cc_parse_laws.proofs.CompletePrefixes.{start_unary, start_step}
use Rattle.cc_parse_laws.proofs.CompleteExpressions.{is_read, tail_binary, tail_assign, tail_step, expression_again}
use Rattle.cc_parse_places.proofs.Begun.{Begun, at, token_then}
use Rattle.cc_parse_places.proofs.Spent.{Spent, spent_bind, spent_map, spent_branch, spent_is, HasNext, no_next, Within, token_elim, part_elim, last_within, begun_sinks, at_kind, next_kind_punct}
use Rattle.cc_parse_places.proofs.SpentFirsts.{operand_no_spec, begun_ahead}

-- The readers of what stands in a counted node take what is begun of it.
pub record SpentInner (names : Names) (inner : Inner) (d : ℕ) : Type 0 where
  pub expr : (least : ℕ) (e : ExprTree Spot) (ts : List Token) → 0 < least → Within true (least ≤ level e) (outlines.expr names e) d ts → Spent (inner.expr least ts)
  pub specs : (ss : SpecTrees Spot) (n : Spot) (ts : List Token) → outlines.BeginAt ss n → Begun (outlines.specs names ss) d ts [] → Spent (inner.specs ts)
  pub declarator : (mode : Mode) (f : DeclTree Spot) (ts : List Token) → Within (outlines.is_written f) (Suits mode f) (outlines.declarator names f) d ts → Spent (inner.declarator mode ts)

module _ (names : Names) (inner : Inner) (d : ℕ) (good : CompleteInner names inner d) (spent : SpentInner names inner d)
    (typed_spent : (x : TypeTree Spot) (ts : List Token) → Within false (Unit {0}) (outlines.type_of names x) d ts → Spent (typed names inner (suc d) without_name ts))
    (type_starts : (x : TypeTree Spot) (ts : List Token) → HasNext ts → Begun (outlines.type_of names x) d ts [] → starts_spec names ts ≡ true)
    (arguments_spent : (es : ExprTrees Spot) (ts : List Token) → Begun (outlines.within (outlines.arguments names es) ▸ outlines.punct the_punct.RightParen ▸ end) d ts [] → Spent (arguments names inner (suc d) ts)) where
  abbrev Taken : ℕ → List Token → Type 0
  Taken least ts = Spent (expression names inner (suc d) least ts)

  abbrev IsTaken : ExprTree Spot → Type 0
  IsTaken e = (least : ℕ) (ts : List Token) → 0 < least → least ≤ level e → Begun (outlines.expr names e) d ts [] → Taken least ts

  -- ---- Steps

  climb_nil : (least turns : ℕ) (left : ExprTree Spot) → Spent (climb names inner (suc d) least turns left [])
  climb_nil least zero left = refl
  climb_nil least (suc turns) left =
      spent_branch (goes_on names inner (suc d) least left (tail [])) (λ us. and_then (go_on names inner (suc d) left (tail us) (spot us) (skip us)) (climb names inner (suc d) least turns)) (pure left) [] (λ e. refl) (λ e. refl)

  begins_taken : (least : ℕ) (st : Start) (ts : List Token) → start ts ≡ st → Spent (prefix names inner (suc d) least st (spot ts) ts) → Taken least ts
  begins_taken least st ts is s =
      spent_is _ _ (branch_false (suc d == 0) refuse (λ us. and_then (prefix names inner (suc d) least (start us) (spot us) us) (climb names inner (suc d) least (suc d))) ts (not_zero d))
      (spent_bind (prefix names inner (suc d) least (start ts) (spot ts) ts) (climb names inner (suc d) least (suc d)) (subst (λ c. Spent (prefix names inner (suc d) least c (spot ts) ts)) (sym is) s) (climb_nil least (suc d)))

  nil_taken : (least : ℕ) (ts : List Token) → ts ≡ [] → Taken least ts
  nil_taken least ts e = subst (λ us. Taken least us) (sym e) (begins_taken least begins_nothing [] refl refl)

  -- a whole expression
  whole : (least : ℕ) (e : ExprTree Spot) (ts : List Token) → 0 < least → least ≤ level e → Reads (outlines.expr names e) d ts [] → Taken least ts
  whole least e ts some l y = spent_is _ _ (expression_again names inner d good least e ts [] l y (record { looser = some; no_literal = refl })) refl

  -- behind a left operand and its operator
  goes_taken : (least turns : ℕ) (ts : List Token) (a : ExprTree Spot) (m : List Token) → suc d ≤ turns + expr_depth a → expression names inner (suc d) least ts ≡ climb names inner (suc d) least turns a m
      → least ≤ binds (tail m) → left_level (tail m) ≤ level a → expr_depth a < suc d → Spent (go_on names inner (suc d) a (tail m) (spot m) (skip m)) → Taken least ts
  goes_taken least zero ts a m enough same p q h s = absurd (omega (arith, enough, h))
  goes_taken least (suc turns) ts a m enough same p q h s =
      spent_is _ _ (same ∙ branch_true (goes_on names inner (suc d) least a (tail m)) (λ us. and_then (go_on names inner (suc d) a (tail us) (spot us) (skip us)) (climb names inner (suc d) least turns)) (pure a) m (goes_on_is names inner (suc d) least a (tail m) p q h))
      (spent_bind (go_on names inner (suc d) a (tail m) (spot m) (skip m)) (climb names inner (suc d) least turns) s (climb_nil least turns))

  behind : (q : Punct) (g : Tail) (least : ℕ) (a : ExprTree Spot) (ts m : List Token) → ReadsExpr names d a ts m → NextKind (kind.Punct q) m → tail_punct q ≡ g → binds g < edge a → least ≤ level a → least ≤ binds g → left_level g ≤ level a
      → Spent (go_on names inner (suc d) a g (spot m) (skip m)) → Taken least ts
  behind q g least a ts m y next is looser l p tight s =
      let here : tail m ≡ g = at_kind tail tail_kind (λ t us. refl) (kind.Punct q) m next ∙ is in
      let no_literal : next_literal m ≡ None = at_kind next_literal literal (λ t us. refl) (kind.Punct q) m next in
      let c = is_read names inner d good a least ts m l (inside_sinks true (outlines.expr names a) d ts m y) (record { looser = rw here looser; no_literal = no_literal }) in
      goes_taken least c.turns ts a m c.enough c.same (rw here p) (rw here tight) (left_depth names a d ts m y) (subst (λ k. Spent (go_on names inner (suc d) a k (spot m) (skip m))) (sym here) s)

  -- a left operand that is not whole, or whole and the last
  left_taken : {h : Type 0} (least : ℕ) (a : ExprTree Spot) (ts : List Token) → 0 < least → (h → least ≤ level a) → IsTaken a → Within true h (outlines.expr names a) d ts → Taken least ts
  left_taken least a ts some l taken (inl e) = nil_taken least ts e
  left_taken least a ts some l taken (inr x) = taken least ts some (l x.0) (begun_sinks true (outlines.expr names a) d ts [] x.1)

  -- an operand as the right side
  right_taken : (f : ExprTree Spot → ExprTree Spot) (least : ℕ) (e : ExprTree Spot) (ts : List Token) → 0 < least → Begun (outlines.operand least e (outlines.expr names e) end) d ts [] → Spent ((f <$> inner.expr least) ts)
  right_taken f least e ts some x = spent_map (inner.expr least ts) f (spent.expr least e ts some (last_within ts x))

  id_taken : (n : Option Spot) (x : List ℕ) (ts : List Token) → Begun (outlines.identifier names n x end) d ts [] → Spent (id names ts)
  id_taken n x ts b = token_elim ts b (λ e. spent_is _ _ (ap (id names) e) refl) (λ h next st rest. spent_is _ _ (id_again names n x end d ts (skip ts) (there ts h next st)) rest.cut)
    where
      there : (ts : List Token) → is_type names x ≡ false → NextKind (kind.Identifier x) ts → FitsSpot n (spot ts) → Reads (outlines.identifier names n x end) d ts (skip ts)
      there [] h next st = absurd next
      there (t ∷ ts) h next st = (h, next, st, refl)

  -- ---- Operators

  take_binary : (n : Spot) (op : BinaryOp) (a b : ExprTree Spot) → IsTaken a → IsTaken (binary n op a b)
  take_binary n op a b ta least ts some l x =
      part_elim ts x (left_taken least a ts some (λ h. omega (arith, l, h)) ta)
      (λ m more h y rest. token_elim m rest (no_next m more) (λ u next st right.
      behind (binary_punct op) (goes_binary op) least a ts m y next (tail_binary op) (edge_above (binary_level op) a (op_least op) (op_most op) h) (omega (arith, l, h)) l h (right_taken _ (binary_level op + 1) b (skip m) (omega arith) right)))

  take_assign : (n : Spot) (op : AssignOp) (a b : ExprTree Spot) → IsTaken a → IsTaken (assign n op a b)
  take_assign n op a b ta least ts some l x =
      part_elim ts x (left_taken least a ts some (λ h. omega (arith, l, h)) ta)
      (λ m more h y rest. token_elim m rest (no_next m more) (λ u next st right.
      behind (assign_punct op) (goes_assign op) least a ts m y next (tail_assign op) (omega (arith, edge_above 4 a (omega arith) (omega arith) (omega (arith, h)))) (omega (arith, l, h)) l h (right_taken _ 2 b (skip m) (omega arith) right)))

  take_comma : (n : Spot) (a b : ExprTree Spot) → IsTaken a → IsTaken (comma n a b)
  take_comma n a b ta least ts some l x =
      part_elim ts x (left_taken least a ts some (λ h. omega (arith, l, h)) ta)
      (λ m more h y rest. token_elim m rest (no_next m more) (λ u next st right. let e = edge_least a in
      behind the_punct.Comma goes_comma least a ts m y next refl e.0 (omega (arith, l, h)) l h (right_taken _ 2 b (skip m) (omega arith) right)))

  take_after : (n : Spot) (op : StepOp) (a : ExprTree Spot) → IsTaken a → IsTaken (step n op side.After a)
  take_after n op a ta least ts some l x =
      part_elim ts x (left_taken least a ts some (λ h. omega (arith, l, h)) ta)
      (λ m more h y rest. token_elim m rest (no_next m more) (λ u next st right. behind (step_punct op) (goes_step op) least a ts m y next (tail_step op) (edge_postfix a h) (omega (arith, l, h)) l h right.cut))

  take_member : (n : Spot) (a : ExprTree Spot) (z : List ℕ) → IsTaken a → IsTaken (member n a z)
  take_member n a z ta least ts some l x =
      part_elim ts x (left_taken least a ts some (λ h. omega (arith, l, h)) ta)
      (λ m more h y rest. token_elim m rest (no_next m more) (λ u next st right. behind the_punct.Dot goes_dot least a ts m y next refl (edge_postfix a h) (omega (arith, l, h)) l h (spent_map (id names (skip m)) _ (id_taken None z (skip m) right))))

  take_arrow : (n : Spot) (a : ExprTree Spot) (z : List ℕ) → IsTaken a → IsTaken (arrow n a z)
  take_arrow n a z ta least ts some l x =
      part_elim ts x (left_taken least a ts some (λ h. omega (arith, l, h)) ta)
      (λ m more h y rest. token_elim m rest (no_next m more) (λ u next st right. behind the_punct.Arrow goes_arrow least a ts m y next refl (edge_postfix a h) (omega (arith, l, h)) l h (spent_map (id names (skip m)) _ (id_taken None z (skip m) right))))

  -- an expression and a token that ends it
  ended_taken : {A : Type 0} (q : Punct) (f : ExprTree Spot → A) (least : ℕ) (e : ExprTree Spot) (ts : List Token) → 0 < least → ((us : List Token) → next_is q us ≡ true → Ends least us) → Begun (outlines.operand least e (outlines.expr names e) ▸ outlines.punct q ▸ end) d ts []
      → Spent (and_then (inner.expr least ts) (λ y us. and_then (take q us) (λ z. pure (f y))))
  ended_taken q f least e ts some ends x =
      part_elim ts x (λ w. spent_bind (inner.expr least ts) _ (spent.expr least e ts some w) (λ y. refl))
      (λ m more h y rest. token_elim m rest (no_next m more) (λ u next st last.
      spent_is _ _ (bound (λ z us. and_then (take q us) (λ w. pure (f z))) (inner.expr least ts) e m (good.expr least e ts m h y (ends m (next_kind_punct q m next))) ∙ ap (λ z. and_then z (λ w. pure (f e))) (takes q m (next_kind_punct q m next))) last.cut))

  take_index : (n : Spot) (a i : ExprTree Spot) → IsTaken a → IsTaken (index n a i)
  take_index n a i ta least ts some l x =
      part_elim ts x (left_taken least a ts some (λ h. omega (arith, l, h)) ta)
      (λ m more h y rest. token_elim m rest (no_next m more) (λ u next st right.
      behind the_punct.LeftBracket goes_index least a ts m y next refl (edge_postfix a h) (omega (arith, l, h)) l h (ended_taken the_punct.RightBracket (index (spot m) a) 1 i (skip m) (omega arith) (λ us c. punct_ends 1 the_punct.RightBracket us (omega arith) c) right)))

  choice_behind : (n : Spot) (c a b : ExprTree Spot) (ts : List Token) → Begun (outlines.operand 1 a (outlines.expr names a) ▸ outlines.punct the_punct.Colon ▸ outlines.operand 3 b (outlines.expr names b) ▸ end) d ts [] → Spent (go_on names inner (suc d) c goes_question n ts)
  choice_behind n c a b ts x =
      part_elim ts x (λ w. spent_bind (inner.expr 1 ts) _ (spent.expr 1 a ts (omega arith) w) (λ y. refl))
      (λ m more h y rest. token_elim m rest (no_next m more) (λ u next st right.
      spent_is _ _ (bound (λ z us. and_then (take the_punct.Colon us) (λ w. choice n c z <$> inner.expr 3)) (inner.expr 1 ts) a m (good.expr 1 a ts m h y (punct_ends 1 the_punct.Colon m (omega arith) (next_kind_punct the_punct.Colon m next))) ∙ ap (λ z. and_then z (λ w. choice n c a <$> inner.expr 3)) (takes the_punct.Colon m (next_kind_punct the_punct.Colon m next)))
      (right_taken (choice n c a) 3 b (skip m) (omega arith) right)))

  take_choice : (n : Spot) (c a b : ExprTree Spot) → IsTaken c → IsTaken (choice n c a b)
  take_choice n c a b tc least ts some l x =
      part_elim ts x (left_taken least c ts some (λ h. omega (arith, l, h)) tc)
      (λ m more h y rest. token_elim m rest (no_next m more) (λ u next st right.
      behind the_punct.Question goes_question least c ts m y next refl (omega (arith, edge_above 4 c (omega arith) (omega arith) h)) (omega (arith, l, h)) l h (choice_behind (spot m) c a b (skip m) right)))

  call_parts : (f : ExprTree Spot) (es : ExprTrees Spot) → IsTaken f → (least : ℕ) (ts : List Token) → 0 < least → least ≤ 16 → Begun (outlines.operand 16 f (outlines.expr names f) ▸ outlines.punct the_punct.LeftParen ▸ outlines.within (outlines.arguments names es) ▸ outlines.punct the_punct.RightParen ▸ end) d ts [] → Taken least ts
  call_parts f es tf least ts some l x =
      part_elim ts x (left_taken least f ts some (λ h. omega (arith, l, h)) tf)
      (λ m more h y rest. token_elim m rest (no_next m more) (λ u next st right.
      behind the_punct.LeftParen goes_call least f ts m y next refl (edge_postfix f h) (omega (arith, l, h)) l h (spent_map (arguments names inner (suc d) (skip m)) _ (arguments_spent es (skip m) right))))

  take_call : (n : Spot) (f : ExprTree Spot) (es : ExprTrees Spot) → IsTaken f → IsTaken (call n f es)
  take_call n f es tf least ts some l x = by (last_within ts x)
    where
      by : Within false (n ≡ outlines.begins f) (outlines.operand 16 f (outlines.expr names f) ▸ outlines.punct the_punct.LeftParen ▸ outlines.within (outlines.arguments names es) ▸ outlines.punct the_punct.RightParen ▸ end) d ts → Taken least ts
      by (inl e) = nil_taken least ts e
      by (inr y) = call_parts f es tf least ts some l y.1

  -- ---- Forms that begin with a token of their own

  by_next : {X : Type 0} (ts : List Token) → (ts ≡ [] → X) → (HasNext ts → X) → X
  by_next [] f g = f refl
  by_next (t ∷ ts) f g = g tt

  starts_at : (k : TokenKind) (st : Start) (ts : List Token) → start_kind k ≡ st → NextKind k ts → start ts ≡ st
  starts_at k st ts e next = at_kind start start_kind (λ t us. refl) k ts next ∙ e

  take_name : (n : Spot) (z : List ℕ) → IsTaken (name n z)
  take_name n z least ts some l x = token_elim ts x (nil_taken least ts) (λ h next st rest. whole least (name n z) ts some l (kind_reads (is_type names z ≡ false) (kind.Identifier z) (Some n) end d ts [] next h st rest.cut))

  take_integer : (n : Spot) (v : ℤ) (c : IntKind) → IsTaken (integer n v c)
  take_integer n v c least ts some l x = token_elim ts x (nil_taken least ts) (λ h next st rest. whole least (integer n v c) ts some l (kind_reads (Unit {0}) (kind.Integer v c) (Some n) end d ts [] next tt st rest.cut))

  take_character : (n : Spot) (v : ℤ) → IsTaken (character n v)
  take_character n v least ts some l x = token_elim ts x (nil_taken least ts) (λ h next st rest. whole least (character n v) ts some l (kind_reads (Unit {0}) (kind.Character v) (Some n) end d ts [] next tt st rest.cut))

  -- Fewer literals are a string too.
  strings_there : (cs : List (List ℕ)) (ts : List Token) → Begun (outlines.strings cs) d ts [] → (ds : List (List ℕ)) × Reads (outlines.strings ds) d ts []
  strings_there [] ts x = ([], x.cut)
  strings_there (c ∷ cs) ts x = token_elim ts x (λ e. ([], e)) (λ h next st rest. let q = strings_there cs (skip ts) rest in (c ∷ q.0, kind_reads (Unit {0}) (kind.Str c) None (outlines.strings q.0) d ts [] next tt st q.1))

  take_string : (n : Spot) (cs : List (List ℕ)) → IsTaken (string n cs)
  take_string n [] least ts some l x = part_elim ts x (λ w. by w) (λ m more h y rest. absurd h)
    where
      by : {i : Outline} → Within false ⊥ i d ts → Taken least ts
      by (inl e) = nil_taken least ts e
      by (inr y) = absurd y.0
  take_string n (c ∷ cs) least ts some l x =
      token_elim ts x (nil_taken least ts) (λ h next st rest. let q = strings_there cs (skip ts) rest in
      whole least (string n (c ∷ q.0)) ts some l (kind_reads (Unit {0}) (kind.Str c) (Some n) (outlines.strings q.0) d ts [] next tt st q.1))

  abbrev cast_behind : Spot → Parser (ExprTree Spot)
  cast_behind n = typed names inner (suc d) without_name >>= (λ t. take the_punct.RightParen >> (cast n t <$> inner.expr 14))

  abbrev paren_behind : Spot → Parser (ExprTree Spot)
  paren_behind n = inner.expr 1 >>= (λ e. take the_punct.RightParen >> pure (paren n e))

  not_cast : (least : ℕ) (n : Spot) (ts : List Token) → starts_spec names ts ≡ false → Spent (paren_behind n ts) → Spent (behind_paren names inner (suc d) least n ts)
  not_cast least n ts e s = spent_is _ _ (branch_false (starts_spec names ts && nat_le least 14) (cast_behind n) (paren_behind n) ts (and_left (starts_spec names ts) (nat_le least 14) e)) s

  paren_nil : (n : Spot) (ts : List Token) → ts ≡ [] → Spent (paren_behind n ts)
  paren_nil n ts e = spent_bind (inner.expr 1 ts) _ (spent.expr 1 (name n []) ts (omega arith) (inl e)) (λ y. refl)

  take_paren : (n : Spot) (e : ExprTree Spot) → IsTaken (paren n e)
  take_paren n e least ts some l x =
      token_elim ts x (nil_taken least ts) (λ h next st rest.
      begins_taken least begins_paren ts (starts_at (kind.Punct the_punct.LeftParen) begins_paren ts refl next)
      (not_cast least (spot ts) (skip ts) (part_elim (skip ts) rest (operand_no_spec names e d (skip ts)) (λ m more g y last. (first_operand names e d (skip ts) m y).no_spec))
      (ended_taken the_punct.RightParen (paren (spot ts)) 1 e (skip ts) (omega arith) (λ us c. punct_ends 1 the_punct.RightParen us (omega arith) c) rest)))

  take_unary : (n : Spot) (op : UnaryOp) (e : ExprTree Spot) → IsTaken (unary n op e)
  take_unary n op e least ts some l x =
      token_elim ts x (nil_taken least ts) (λ h next st rest.
      begins_taken least (begins_unary op) ts (starts_at (kind.Punct (unary_punct op)) (begins_unary op) ts (start_unary op) next) (right_taken (unary (spot ts) op) 14 e (skip ts) (omega arith) rest))

  take_before : (n : Spot) (op : StepOp) (e : ExprTree Spot) → IsTaken (step n op side.Before e)
  take_before n op e least ts some l x =
      token_elim ts x (nil_taken least ts) (λ h next st rest.
      begins_taken least (begins_step op) ts (starts_at (kind.Punct (step_punct op)) (begins_step op) ts (start_step op) next) (right_taken (step (spot ts) op side.Before) 15 e (skip ts) (omega arith) rest))

  take_cast : (n : Spot) (t : TypeTree Spot) (e : ExprTree Spot) → IsTaken (cast n t e)
  take_cast n t e least ts some l x =
      token_elim ts x (nil_taken least ts) (λ h next st rest.
      begins_taken least begins_paren ts (starts_at (kind.Punct the_punct.LeftParen) begins_paren ts refl next)
      (part_elim (skip ts) rest (λ w. by (spot ts) (skip ts) w)
      (λ m more g y others. token_elim m others (no_next m more) (λ u following stands right.
      spent_is _ _
      (branch_true (starts_spec names (skip ts) && nat_le least 14) (cast_behind (spot ts)) (paren_behind (spot ts)) (skip ts) (and_from (starts_spec names (skip ts)) (nat_le least 14) (first_type names inner d good t (skip ts) m y) (le-leb _ _ l))
      ∙ bound (λ c us. and_then (take the_punct.RightParen us) (λ z. cast (spot ts) c <$> inner.expr 14)) (typed names inner (suc d) without_name (skip ts)) t m (type_again names inner d good t (skip ts) m y (next_kind_punct the_punct.RightParen m following))
      ∙ ap (λ z. and_then z (λ w. cast (spot ts) t <$> inner.expr 14)) (takes the_punct.RightParen m (next_kind_punct the_punct.RightParen m following)))
      (right_taken (cast (spot ts) t) 14 e (skip m) (omega arith) right)))))
    where
      by : (k : Spot) (us : List Token) → Within false (Unit {0}) (outlines.type_of names t) d us → Spent (behind_paren names inner (suc d) least k us)
      by k us (inl z) = not_cast least k us (ap (starts_spec names) z) (paren_nil k us z)
      by k us (inr z) =
          by_next us (λ e. not_cast least k us (ap (starts_spec names) e) (paren_nil k us e))
          (λ more. spent_is _ _ (branch_true (starts_spec names us && nat_le least 14) (cast_behind k) (paren_behind k) us (and_from (starts_spec names us) (nat_le least 14) (type_starts t us more z.1) (le-leb _ _ l)))
          (spent_bind (typed names inner (suc d) without_name us) _ (typed_spent t us (inr z)) (λ y. refl)))

  -- ---- `sizeof`

  abbrev types_behind : Spot → Parser (ExprTree Spot)
  types_behind n = skipping (typed names inner (suc d) without_name >>= (λ t. take the_punct.RightParen >> pure (size_type n t)))

  abbrev operands_behind : Spot → Parser (ExprTree Spot)
  operands_behind n = where_next (λ ts. next_is the_punct.LeftParen ts && (suc d == 1)) (skipping refuse) (size_expr n <$> inner.expr 15)

  not_type : (n : Spot) (ts : List Token) → type_ahead names ts ≡ false → Spent (operands_behind n ts) → Spent (behind_sizeof names inner (suc d) n ts)
  not_type n ts e s = spent_is _ _ (branch_false (type_ahead names ts) (types_behind n) (operands_behind n) ts e) s

  an_operand : (n : Spot) (ts : List Token) → (next_is the_punct.LeftParen ts && (suc d == 1)) ≡ false → Spent ((size_expr n <$> inner.expr 15) ts) → Spent (operands_behind n ts)
  an_operand n ts e s = spent_is _ _ (branch_false (next_is the_punct.LeftParen ts && (suc d == 1)) (skipping refuse) (size_expr n <$> inner.expr 15) ts e) s

  deep_enough : (P : ℕ → Type 0) (c : ℕ) → Inside true P c → (suc c == 1) ≡ false
  deep_enough P zero x = absurd x
  deep_enough P (suc c) x = ne_eqb (suc (suc c)) 1 (λ z. omega (arith, z))

  sizeof_nil : (n : Spot) (ts : List Token) → ts ≡ [] → Spent (behind_sizeof names inner (suc d) n ts)
  sizeof_nil n ts e = not_type n ts (ap (type_ahead names) e) (an_operand n ts (and_left (next_is the_punct.LeftParen ts) (suc d == 1) (ap (next_is the_punct.LeftParen) e)) (spent_map (inner.expr 15 ts) (size_expr n) (spent.expr 15 (name n []) ts (omega arith) (inl e))))

  operand_taken : (n : Spot) (e : ExprTree Spot) (ts : List Token) → Within true (15 ≤ level e) (outlines.expr names e) d ts → Spent (behind_sizeof names inner (suc d) n ts)
  operand_taken n e ts (inl z) = sizeof_nil n ts z
  operand_taken n e ts (inr z) =
      not_type n ts (begun_ahead names e d ts z.0 (begun_sinks true (outlines.expr names e) d ts [] z.1))
      (an_operand n ts (and_right (next_is the_punct.LeftParen ts) (suc d == 1) (deep_enough (λ f. Begun (outlines.expr names e) f ts []) d z.1)) (spent_map (inner.expr 15 ts) (size_expr n) (spent.expr 15 e ts (omega arith) (inr z))))

  take_size_expr : (n : Spot) (e : ExprTree Spot) → IsTaken (size_expr n e)
  take_size_expr n e least ts some l x =
      token_elim ts x (nil_taken least ts) (λ h next st rest.
      begins_taken least begins_sizeof ts (starts_at (kind.Keyword the_keyword.Sizeof) begins_sizeof ts refl next) (operand_taken (spot ts) e (skip ts) (last_within (skip ts) rest)))

  -- a parenthesis and nothing behind it
  paren_begun : (c : ℕ) (ts : List Token) → (suc c == 1) ≡ false → NextKind (kind.Punct the_punct.LeftParen) ts → skip ts ≡ [] → Inside true (λ f. Begun (outlines.expr names (paren (spot ts) (name (spot ts) []))) f ts []) c
  paren_begun zero ts e next z = absurd cc
  paren_begun (suc c) ts e next z = token_then tt next refl (at z)

  only_paren : (n : Spot) (ts : List Token) → NextKind (kind.Punct the_punct.LeftParen) ts → skip ts ≡ [] → Spent (behind_sizeof names inner (suc d) n ts)
  only_paren n ts next z =
      not_type n ts (and_right (next_is the_punct.LeftParen ts) (starts_spec names (skip ts)) (ap (starts_spec names) z))
      (spent_branch (next_is the_punct.LeftParen ts && (suc d == 1)) (skipping refuse) (size_expr n <$> inner.expr 15) ts (λ e. z)
      (λ e. spent_map (inner.expr 15 ts) (size_expr n) (spent.expr 15 (paren (spot ts) (name (spot ts) [])) ts (omega arith) (inr (omega arith, paren_begun d ts (and_false (next_is the_punct.LeftParen ts) (suc d == 1) (next_kind_punct the_punct.LeftParen ts next) e) next z)))))

  is_a_type : (n : Spot) (ts : List Token) → NextKind (kind.Punct the_punct.LeftParen) ts → starts_spec names (skip ts) ≡ true → Spent (types_behind n ts) → Spent (behind_sizeof names inner (suc d) n ts)
  is_a_type n ts next e s = spent_is _ _ (branch_true (type_ahead names ts) (types_behind n) (operands_behind n) ts (and_from (next_is the_punct.LeftParen ts) (starts_spec names (skip ts)) (next_kind_punct the_punct.LeftParen ts next) e)) s

  type_behind : (n : Spot) (t : TypeTree Spot) (ts : List Token) → NextKind (kind.Punct the_punct.LeftParen) ts → Within false (Unit {0}) (outlines.type_of names t) d (skip ts) → Spent (behind_sizeof names inner (suc d) n ts)
  type_behind n t ts next (inl z) = only_paren n ts next z
  type_behind n t ts next (inr z) =
      by_next (skip ts) (only_paren n ts next)
      (λ more. is_a_type n ts next (type_starts t (skip ts) more z.1) (spent_bind (typed names inner (suc d) without_name (skip ts)) _ (typed_spent t (skip ts) (inr z)) (λ y. refl)))

  take_size_type : (n : Spot) (t : TypeTree Spot) → IsTaken (size_type n t)
  take_size_type n t least ts some l x =
      token_elim ts x (nil_taken least ts) (λ h next st rest.
      begins_taken least begins_sizeof ts (starts_at (kind.Keyword the_keyword.Sizeof) begins_sizeof ts refl next)
      (token_elim (skip ts) rest (sizeof_nil (spot ts) (skip ts)) (λ g begins stands inside.
      part_elim (skip (skip ts)) inside (type_behind (spot ts) t (skip ts) begins)
      (λ m more f y others. token_elim m others (no_next m more) (λ u following s last.
      is_a_type (spot ts) (skip ts) begins (first_type names inner d good t (skip (skip ts)) m y)
      (spent_is _ _
      (bound (λ c us. and_then (take the_punct.RightParen us) (λ z. pure (size_type (spot ts) c))) (typed names inner (suc d) without_name (skip (skip ts))) t m (type_again names inner d good t (skip (skip ts)) m y (next_kind_punct the_punct.RightParen m following))
      ∙ ap (λ z. and_then z (λ w. pure (size_type (spot ts) t))) (takes the_punct.RightParen m (next_kind_punct the_punct.RightParen m following)))
      last.cut))))))

  -- ---- All expressions

  is_taken : (e : ExprTree Spot) → IsTaken e
  is_taken (name n x) = take_name n x
  is_taken (integer n v c) = take_integer n v c
  is_taken (character n v) = take_character n v
  is_taken (string n bs) = take_string n bs
  is_taken (paren n e) = take_paren n e
  is_taken (unary n op e) = take_unary n op e
  is_taken (binary n op a b) = take_binary n op a b (is_taken a)
  is_taken (assign n op a b) = take_assign n op a b (is_taken a)
  is_taken (step n op side.Before e) = take_before n op e
  is_taken (step n op side.After e) = take_after n op e (is_taken e)
  is_taken (choice n c a b) = take_choice n c a b (is_taken c)
  is_taken (comma n a b) = take_comma n a b (is_taken a)
  is_taken (call n f es) = take_call n f es (is_taken f)
  is_taken (member n e x) = take_member n e x (is_taken e)
  is_taken (arrow n e x) = take_arrow n e x (is_taken e)
  is_taken (index n a i) = take_index n a i (is_taken a)
  is_taken (cast n t e) = take_cast n t e
  is_taken (size_expr n e) = take_size_expr n e
  is_taken (size_type n t) = take_size_type n t

  pub expression_spent : (least : ℕ) (e : ExprTree Spot) (ts : List Token) → 0 < least → Within true (least ≤ level e) (outlines.expr names e) (suc d) ts → Taken least ts
  expression_spent least e ts some (inl z) = nil_taken least ts z
  expression_spent least e ts some (inr z) = is_taken e least ts some z.0 z.1
