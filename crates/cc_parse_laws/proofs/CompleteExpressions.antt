-- Each expression is read back, before a token that goes on with nothing of its level.
use Rattle.std.proofs.Common.{◌≡◌, ◌≤◌, ◌<◌, ◌+◌, refl, ℕ, suc, true, false, List, Option, Some, None, Ok, arith, sym, ap, ◌∙◌, subst}
use Rattle.cc_arith.specs.declared.binary_operator.IntOp.{IntOp}
use Rattle.cc_arith.specs.declared.binary_operator.IntOp.TheVariants as int
use Rattle.cc_base.specs.declared.place.Spot.{Spot}
use Rattle.cc_lex.specs.declared.token.Token.{Token}
use Rattle.cc_lex.specs.declared.token.TokenKind.TheVariants as kind
use Rattle.cc_lex.specs.declared.punct.Punct.{Punct}
use Rattle.cc_lex.specs.declared.punct.Punct.TheVariants as the_punct
use Rattle.cc_tree.specs.declared.operator.BinaryOp.{BinaryOp}
use Rattle.cc_tree.specs.declared.operator.BinaryOp.TheVariants as the_binary
use Rattle.cc_tree.specs.declared.operator.AssignOp.{AssignOp}
use Rattle.cc_tree.specs.declared.operator.AssignOp.TheVariants as the_assign
use Rattle.cc_tree.specs.declared.operator.StepOp.{StepOp}
use Rattle.cc_tree.specs.declared.operator.StepOp.TheVariants as the_step
use Rattle.cc_tree.specs.declared.operator.Side.TheVariants as side
use Rattle.cc_tree.specs.Trees.{Name, ExprTree, name, integer, character, string, paren, unary, binary, assign, step, choice, comma, call, member, arrow, index, cast, size_expr, size_type, ExprTrees}
use Rattle.cc_tree.specs.Views.{gathered}
use Rattle.cc_tree.specs.Depth.{expr_depth}
use Rattle.cc_grammar.specs.Levels.{level, binary_level, int_punct, step_punct, binary_punct, assign_punct}
use Rattle.cc_grammar.specs.Names.{Names, is_type}
use Rattle.cc_grammar.specs.Outline.{Outline, end, token}
use Rattle.cc_grammar.specs.Outlines as outlines
use Rattle.cc_grammar.specs.Classes.{skip, spot, tail, tail_kind, tail_punct, Tail, goes_binary, goes_assign, goes_question, goes_comma, goes_call, goes_index, goes_dot, goes_arrow, goes_step, binds, left_level, next_literal, literal}
use Rattle.cc_grammar.specs.Outcomes.{and_then, take}
use Rattle.cc_grammar.specs.Reading.{Inner, go_on, expression, arguments, id}
use Rattle.cc_parse_laws.proofs.Spans.{Reads}
use Rattle.cc_parse_laws.proofs.Steps.{next_token, reads_next, reads_take}
use Rattle.cc_parse_laws.proofs.Peeks.{at_token, punct_ends}
use Rattle.cc_parse_laws.proofs.Firsts.{inside_sinks, op_most}
use Rattle.cc_parse_laws.proofs.Edges.{edge, edge_above, edge_postfix, edge_least, op_least, ends_more}
use Rattle.cc_parse_laws.proofs.Climbs.{Climbs, IsRead, bound, mapped, done, rest_is, climbed, ends_at, left_depth}
use Rattle.cc_parse_laws.proofs.CompleteTypes.{id_again, arguments_again}
use Rattle.cc_parse_laws.proofs.CompletePrefixes.{close, read_name, read_integer, read_character, read_string, read_paren, read_unary, read_before, read_cast, read_size_expr, read_size_type}
use Rattle.cc_parse_laws.proofs.Listed as listed
use Rattle.cc_parse_laws.proofs.Inner.{ReadsExpr, Ends, CompleteInner}

-- ---- Tokens of operators

pub tail_step : (op : StepOp) → tail_punct (step_punct op) ≡ goes_step op
tail_step the_step.Increment = refl
tail_step the_step.Decrement = refl

tail_int : (op : IntOp) → tail_punct (int_punct op) ≡ goes_binary (the_binary.Int op)
tail_int int.Or = refl
tail_int int.Xor = refl
tail_int int.And = refl
tail_int int.Eq = refl
tail_int int.Ne = refl
tail_int int.Lt = refl
tail_int int.Le = refl
tail_int int.Gt = refl
tail_int int.Ge = refl
tail_int int.Shl = refl
tail_int int.Shr = refl
tail_int int.Add = refl
tail_int int.Sub = refl
tail_int int.Mul = refl
tail_int int.Div = refl
tail_int int.Rem = refl

pub tail_binary : (op : BinaryOp) → tail_punct (binary_punct op) ≡ goes_binary op
tail_binary the_binary.OrOr = refl
tail_binary the_binary.AndAnd = refl
tail_binary (the_binary.Int op) = tail_int op

pub tail_assign : (op : AssignOp) → tail_punct (assign_punct op) ≡ goes_assign op
tail_assign the_assign.Plain = refl
tail_assign the_assign.Mul = refl
tail_assign the_assign.Div = refl
tail_assign the_assign.Rem = refl
tail_assign the_assign.Add = refl
tail_assign the_assign.Sub = refl
tail_assign the_assign.Shl = refl
tail_assign the_assign.Shr = refl
tail_assign the_assign.And = refl
tail_assign the_assign.Xor = refl
tail_assign the_assign.Or = refl

module _ (names : Names) (inner : Inner) (d : ℕ) (good : CompleteInner names inner d) where
  -- after a left operand and its operator
  behind : (q : Punct) (g : Tail) (h : Type 0) (n : Option Spot) (i : Outline) (spot_is : Spot) (least : ℕ) (a e : ExprTree Spot) (ts m r : List Token) → IsRead names inner d a → ReadsExpr names d a ts m → Reads (token h (kind.Punct q) n i) d m r
      → tail_punct q ≡ g → spot m ≡ spot_is → binds g < edge a → least ≤ level a → least ≤ binds g → left_level g ≤ level a → expr_depth a < expr_depth e → go_on names inner (suc d) a g spot_is (skip m) ≡ Ok (e, r) → Climbs names inner d least ts e r
  behind q g h n i spot_is least a e ts m r ra y z is at looser l p tight deeper read =
      let here : tail m ≡ g = at_token tail tail_kind (λ t us. refl) h (kind.Punct q) n i d m r z ∙ is in
      let no_literal : next_literal m ≡ None = at_token next_literal literal (λ t us. refl) h (kind.Punct q) n i d m r z in
      let first : Climbs names inner d least ts a m = ra least ts m l (inside_sinks true (outlines.expr names a) d ts m y) (record { looser = rw here looser; no_literal = no_literal }) in
      climbed names inner d least ts a e m r first (rw here p) (rw here tight) (left_depth names a d ts m y) deeper
      (ap (λ c. go_on names inner (suc d) a c (spot m) (skip m)) here ∙ ap (λ c. go_on names inner (suc d) a g c (skip m)) at ∙ read)

  read_binary : (n : Spot) (op : BinaryOp) (a b : ExprTree Spot) → IsRead names inner d a → IsRead names inner d (binary n op a b)
  read_binary n op a b ra least ts r l y ends =
      let right = outlines.operand (binary_level op + 1) b (outlines.expr names b) end in
      let m = y.0 in
      let t = next_token (Unit {0}) (kind.Punct (binary_punct op)) (Some n) right d m r y.3 in
      let inside : inner.expr (binary_level op + 1) (skip m) ≡ Ok (b, r) = good.expr (binary_level op + 1) b (skip m) r t.after.1 (subst (ReadsExpr names d b (skip m)) t.after.3 t.after.2) ends in
      behind (binary_punct op) (goes_binary op) (Unit {0}) (Some n) right n least a (binary n op a b) ts m r ra y.2 y.3 (tail_binary op) t.at
      (edge_above (binary_level op) a (op_least op) (op_most op) y.1) (omega (arith, l, y.1)) l y.1 (omega arith)
      (mapped (binary n op a) (inner.expr (binary_level op + 1) (skip m)) b r inside)

  read_assign : (n : Spot) (op : AssignOp) (a b : ExprTree Spot) → IsRead names inner d a → IsRead names inner d (assign n op a b)
  read_assign n op a b ra least ts r l y ends =
      let right = outlines.operand 2 b (outlines.expr names b) end in
      let m = y.0 in
      let t = next_token (Unit {0}) (kind.Punct (assign_punct op)) (Some n) right d m r y.3 in
      let inside : inner.expr 2 (skip m) ≡ Ok (b, r) = good.expr 2 b (skip m) r t.after.1 (subst (ReadsExpr names d b (skip m)) t.after.3 t.after.2) ends in
      behind (assign_punct op) (goes_assign op) (Unit {0}) (Some n) right n least a (assign n op a b) ts m r ra y.2 y.3 (tail_assign op) t.at
      (omega (arith, edge_above 4 a (omega arith) (omega arith) (omega (arith, y.1)))) (omega (arith, l, y.1)) l y.1 (omega arith)
      (mapped (assign n op a) (inner.expr 2 (skip m)) b r inside)

  read_after : (n : Spot) (op : StepOp) (a : ExprTree Spot) → IsRead names inner d a → IsRead names inner d (step n op side.After a)
  read_after n op a ra least ts r l y ends =
      let m = y.0 in
      let t = next_token (Unit {0}) (kind.Punct (step_punct op)) (Some n) end d m r y.3 in
      behind (step_punct op) (goes_step op) (Unit {0}) (Some n) end n least a (step n op side.After a) ts m r ra y.2 y.3 (tail_step op) t.at
      (edge_postfix a y.1) (omega (arith, l, y.1)) l y.1 (omega arith)
      (rest_is (step n op side.After a) (skip m) r t.after)

  read_choice : (n : Spot) (c a b : ExprTree Spot) → IsRead names inner d c → IsRead names inner d (choice n c a b)
  read_choice n c a b rc least ts r l y ends =
      let last = outlines.operand 3 b (outlines.expr names b) end in
      let right = outlines.operand 1 a (outlines.expr names a) (outlines.punct the_punct.Colon last) in
      let m = y.0 in
      let t = next_token (Unit {0}) (kind.Punct the_punct.Question) (Some n) right d m r y.3 in
      let q = t.after.0 in
      let t2 = next_token (Unit {0}) (kind.Punct the_punct.Colon) None last d q r t.after.3 in
      let colon = reads_next (Unit {0}) the_punct.Colon None last d q r t.after.3 in
      let second : inner.expr 1 (skip m) ≡ Ok (a, q) = good.expr 1 a (skip m) q t.after.1 t.after.2 (punct_ends 1 the_punct.Colon q (omega arith) colon) in
      let third : inner.expr 3 (skip q) ≡ Ok (b, r) = good.expr 3 b (skip q) r t2.after.1 (subst (ReadsExpr names d b (skip q)) t2.after.3 t2.after.2) ends in
      behind the_punct.Question goes_question (Unit {0}) (Some n) right n least c (choice n c a b) ts m r rc y.2 y.3 refl t.at
      (omega (arith, edge_above 4 c (omega arith) (omega arith) y.1)) (omega (arith, l, y.1)) l y.1 (omega arith)
      (bound (λ x us. and_then (take the_punct.Colon us) (λ z vs. and_then (inner.expr 3 vs) (λ w ws. done (choice n c x w) ws))) (inner.expr 1 (skip m)) a q second
      ∙ ap (λ z. and_then z (λ x vs. and_then (inner.expr 3 vs) (λ w ws. done (choice n c a w) ws))) (reads_take (Unit {0}) the_punct.Colon None last d q r t.after.3)
      ∙ mapped (choice n c a) (inner.expr 3 (skip q)) b r third)

  read_comma : (n : Spot) (a b : ExprTree Spot) → IsRead names inner d a → IsRead names inner d (comma n a b)
  read_comma n a b ra least ts r l y ends =
      let right = outlines.operand 2 b (outlines.expr names b) end in
      let m = y.0 in
      let t = next_token (Unit {0}) (kind.Punct the_punct.Comma) (Some n) right d m r y.3 in
      let inside : inner.expr 2 (skip m) ≡ Ok (b, r) = good.expr 2 b (skip m) r t.after.1 (subst (ReadsExpr names d b (skip m)) t.after.3 t.after.2) ends in
      let e = edge_least a in
      behind the_punct.Comma goes_comma (Unit {0}) (Some n) right n least a (comma n a b) ts m r ra y.2 y.3 refl t.at
      e.0 (omega (arith, l, y.1)) l y.1 (omega arith)
      (mapped (comma n a) (inner.expr 2 (skip m)) b r inside)

  read_call : (n : Spot) (f : ExprTree Spot) (es : ExprTrees Spot) → IsRead names inner d f → IsRead names inner d (call n f es)
  read_call n f es rf least ts r l y ends =
      let right = outlines.within (outlines.arguments names es) (outlines.punct the_punct.RightParen end) in
      let z = y.2 in
      let m = z.0 in
      let last = y.0 in
      let t = next_token (Unit {0}) (kind.Punct the_punct.LeftParen) None right d m last z.3 in
      let q = t.after.0 in
      let t2 = next_token (Unit {0}) (kind.Punct the_punct.RightParen) None end d q last t.after.3 in
      let close_next = reads_next (Unit {0}) the_punct.RightParen None end d q last t.after.3 in
      let inside : arguments names inner (suc d) (skip m) ≡ Ok (listed.exprs es, skip q) = arguments_again names inner d good es (skip m) q t.after.2 close_next in
      behind the_punct.LeftParen goes_call (Unit {0}) None right (spot m) least f (call n f es) ts m r rf z.2 (subst (Reads (token (Unit {0}) (kind.Punct the_punct.LeftParen) None right) d m) y.3 z.3) refl refl
      (edge_postfix f z.1) (omega (arith, l, z.1)) l z.1 (omega arith)
      (mapped (λ xs. call (outlines.begins f) f (gathered xs)) (arguments names inner (suc d) (skip m)) (listed.exprs es) (skip q) inside
      ∙ ap (λ xs. done (call (outlines.begins f) f xs) (skip q)) (listed.exprs_back es)
      ∙ ap (λ c. done (call c f es) (skip q)) (sym y.1)
      ∙ rest_is (call n f es) (skip q) r (t2.after ∙ y.3))

  read_member : (n : Spot) (a : ExprTree Spot) (x : Name) → IsRead names inner d a → IsRead names inner d (member n a x)
  read_member n a x ra least ts r l y ends =
      let right = outlines.identifier names None x end in
      let m = y.0 in
      let t = next_token (Unit {0}) (kind.Punct the_punct.Dot) (Some n) right d m r y.3 in
      let t2 = next_token (is_type names x ≡ false) (kind.Identifier x) None end d (skip m) r t.after in
      behind the_punct.Dot goes_dot (Unit {0}) (Some n) right n least a (member n a x) ts m r ra y.2 y.3 refl t.at
      (edge_postfix a y.1) (omega (arith, l, y.1)) l y.1 (omega arith)
      (mapped (member n a) (id names (skip m)) x (skip (skip m)) (id_again names None x end d (skip m) r t.after) ∙ rest_is (member n a x) (skip (skip m)) r t2.after)

  read_arrow : (n : Spot) (a : ExprTree Spot) (x : Name) → IsRead names inner d a → IsRead names inner d (arrow n a x)
  read_arrow n a x ra least ts r l y ends =
      let right = outlines.identifier names None x end in
      let m = y.0 in
      let t = next_token (Unit {0}) (kind.Punct the_punct.Arrow) (Some n) right d m r y.3 in
      let t2 = next_token (is_type names x ≡ false) (kind.Identifier x) None end d (skip m) r t.after in
      behind the_punct.Arrow goes_arrow (Unit {0}) (Some n) right n least a (arrow n a x) ts m r ra y.2 y.3 refl t.at
      (edge_postfix a y.1) (omega (arith, l, y.1)) l y.1 (omega arith)
      (mapped (arrow n a) (id names (skip m)) x (skip (skip m)) (id_again names None x end d (skip m) r t.after) ∙ rest_is (arrow n a x) (skip (skip m)) r t2.after)

  read_index : (n : Spot) (a i : ExprTree Spot) → IsRead names inner d a → IsRead names inner d (index n a i)
  read_index n a i ra least ts r l y ends =
      let right = outlines.operand 1 i (outlines.expr names i) (outlines.punct the_punct.RightBracket end) in
      let m = y.0 in
      let t = next_token (Unit {0}) (kind.Punct the_punct.LeftBracket) (Some n) right d m r y.3 in
      let q = t.after.0 in
      let close_next = reads_next (Unit {0}) the_punct.RightBracket None end d q r t.after.3 in
      let inside : inner.expr 1 (skip m) ≡ Ok (i, q) = good.expr 1 i (skip m) q t.after.1 t.after.2 (punct_ends 1 the_punct.RightBracket q (omega arith) close_next) in
      behind the_punct.LeftBracket goes_index (Unit {0}) (Some n) right n least a (index n a i) ts m r ra y.2 y.3 refl t.at
      (edge_postfix a y.1) (omega (arith, l, y.1)) l y.1 (omega arith)
      (bound (λ x us. and_then (take the_punct.RightBracket us) (λ z vs. done (index n a x) vs)) (inner.expr 1 (skip m)) i q inside
      ∙ close the_punct.RightBracket (index n a i) d q r t.after.3)

  -- ---- All expressions

  pub is_read : (e : ExprTree Spot) → IsRead names inner d e
  is_read (name n x) = read_name names inner d good n x
  is_read (integer n v c) = read_integer names inner d good n v c
  is_read (character n v) = read_character names inner d good n v
  is_read (string n bs) = read_string names inner d good n bs
  is_read (paren n e) = read_paren names inner d good n e
  is_read (unary n op e) = read_unary names inner d good n op e
  is_read (binary n op a b) = read_binary n op a b (is_read a)
  is_read (assign n op a b) = read_assign n op a b (is_read a)
  is_read (step n op side.Before e) = read_before names inner d good n op e
  is_read (step n op side.After e) = read_after n op e (is_read e)
  is_read (choice n c a b) = read_choice n c a b (is_read c)
  is_read (comma n a b) = read_comma n a b (is_read a)
  is_read (call n f es) = read_call n f es (is_read f)
  is_read (member n e x) = read_member n e x (is_read e)
  is_read (arrow n e x) = read_arrow n e x (is_read e)
  is_read (index n a i) = read_index n a i (is_read a)
  is_read (cast n t e) = read_cast names inner d good n t e
  is_read (size_expr n e) = read_size_expr names inner d good n e
  is_read (size_type n t) = read_size_type names inner d good n t

  pub expression_again : (least : ℕ) (e : ExprTree Spot) (ts r : List Token) → least ≤ level e → ReadsExpr names (suc d) e ts r → Ends least r → expression names inner (suc d) least ts ≡ Ok (e, r)
  expression_again least e ts r l y ends =
      let low = edge_least e in
      let x = is_read e least ts r l y (ends_more least (edge e) r (omega (arith, l, low.1)) ends) in
      x.same ∙ ends_at names inner d least x.turns e r ends
