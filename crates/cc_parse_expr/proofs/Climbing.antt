-- The loop of the code beside the recursion of the definition: what goes on behind an expression makes it deeper.
use Rattle.std.proofs.Common.{◌≡◌, ◌≤◌, ◌<◌, ◌+◌, ◌-◌, refl, ℕ, zero, suc, true, false, List, Ok, Err, arith, sym, ap, ◌∙◌, ◌&&◌, nat_le, nat_lt}
use Rattle.std.proofs.lemmas.Bool.{and_parts, ltb-true}
use Rattle.cc_base.specs.declared.place.Spot.{Spot}
use Rattle.cc_lex.specs.declared.token.Token.{Token}
use Rattle.cc_lex.specs.declared.punct.Punct.TheVariants as the_punct
use Rattle.cc_tree.specs.declared.operator.Side.TheVariants as side
use Rattle.cc_tree.specs.Trees.{ExprTree, binary, assign, step, choice, comma, call, member, arrow, index}
use Rattle.cc_tree.specs.Views.{gathered}
use Rattle.cc_tree.specs.Depth.{expr_depth}
use Rattle.cc_grammar.specs.Levels.{level, binary_level}
use Rattle.cc_grammar.specs.Names.{Names}
use Rattle.cc_grammar.specs.Outlines.{begins}
use Rattle.cc_grammar.specs.Classes.{skip, spot, Tail, goes_binary, goes_assign, goes_question, goes_comma, goes_call, goes_index, goes_dot, goes_arrow, goes_step, ends_here, tail, binds, left_level}
use Rattle.cc_grammar.specs.Outcomes.{Outcome, Parser, and_then, take, ◌>>◌, pure, ◌<$>◌}
use Rattle.cc_grammar.specs.Reading.{Inner, id, arguments, go_on, goes_on, climb}

-- the tree that an outcome has, if it has one, is deeper than the number
abbrev Deep : ℕ → Outcome (ExprTree Spot) → Type 0
Deep n o = (x : ExprTree Spot) (r : List Token) → o ≡ Ok (x, r) → n < expr_depth x

abbrev done : ExprTree Spot × List Token → Outcome (ExprTree Spot)
done a = Ok a

made : (x y : ExprTree Spot) (m r : List Token) (o : Outcome (ExprTree Spot)) → o ≡ Ok (x, m) → o ≡ Ok (y, r) → x ≡ y
made x y m r o e f = ap (λ q. q.0) (same_pair (x, m) (y, r) (sym e ∙ f))
  where
    same_pair : (a b : ExprTree Spot × List Token) → done a ≡ done b → a ≡ b
    same_pair a b h = cc

deep_map : {A : Type 0} (n : ℕ) (f : A → ExprTree Spot) → ((a : A) → n < expr_depth (f a)) → (o : Outcome A) → Deep n (and_then o (λ a s. Ok (f a, s)))
deep_map n f h (Ok y) x r e = let same : f y.0 ≡ x = made (f y.0) x y.1 r _ refl e in omega (arith, h y.0, ap expr_depth same)
deep_map n f h (Err y) x r e = absurd cc

deep_bind : {A : Type 0} (n : ℕ) (f : A → Parser (ExprTree Spot)) → ((a : A) (s : List Token) → Deep n (f a s)) → (o : Outcome A) → Deep n (and_then o f)
deep_bind n f h (Ok y) x r e = h y.0 y.1 x r e
deep_bind n f h (Err y) x r e = absurd cc

module _ (names : Names) (inner : Inner) (d : ℕ) where
  go_on_deep : (left : ExprTree Spot) (t : Tail) (n : Spot) (ts : List Token) → Deep (expr_depth left) (go_on names inner d left t n ts)
  go_on_deep left (goes_binary op) n ts = deep_map _ (binary n op left) (λ b. omega arith) (inner.expr (binary_level op + 1) ts)
  go_on_deep left (goes_assign op) n ts = deep_map _ (assign n op left) (λ b. omega arith) (inner.expr 2 ts)
  go_on_deep left goes_question n ts =
      deep_bind _ (λ a. take the_punct.Colon >> (choice n left a <$> inner.expr 3))
      (λ a s. deep_bind _ (λ _. choice n left a <$> inner.expr 3) (λ _ m. deep_map _ (choice n left a) (λ b. omega arith) (inner.expr 3 m)) (take the_punct.Colon s)) (inner.expr 1 ts)
  go_on_deep left goes_comma n ts = deep_map _ (comma n left) (λ b. omega arith) (inner.expr 2 ts)
  go_on_deep left goes_call n ts = deep_map _ (λ es. call (begins left) left (gathered es)) (λ b. omega arith) (arguments names inner d ts)
  go_on_deep left goes_index n ts =
      deep_bind _ (λ i. take the_punct.RightBracket >> pure (index n left i)) (λ i s. deep_map _ (λ _. index n left i) (λ _. omega arith) (take the_punct.RightBracket s)) (inner.expr 1 ts)
  go_on_deep left goes_dot n ts = deep_map _ (member n left) (λ b. omega arith) (id names ts)
  go_on_deep left goes_arrow n ts = deep_map _ (arrow n left) (λ b. omega arith) (id names ts)
  go_on_deep left (goes_step op) n ts = λ x r e. let same : step n op side.After left ≡ x = made (step n op side.After left) x ts r _ refl e in omega (arith, ap expr_depth same)
  go_on_deep left ends_here n ts = λ x r e. absurd cc

  pub goes_on_room : (least : ℕ) (left : ExprTree Spot) (t : Tail) → true ≡ goes_on names inner d least left t → expr_depth left < d
  goes_on_room least left t e =
      let a = and_parts (nat_le least (binds t)) (nat_le (left_level t) (level left) && nat_lt (expr_depth left) d) (sym e) in
      let c = and_parts (nat_le (left_level t) (level left)) (nat_lt (expr_depth left) d) a.1 in
      ltb-true _ _ c.1

  -- `total` is what is read in all, and `left` what was read so far
  pub record Climbing (least : ℕ) (total : Outcome (ExprTree Spot)) (left : ExprTree Spot) (ts : List Token) : Type 0 where
    pub rounds : ℕ
    pub enough : d ≤ rounds + expr_depth left
    pub same : total ≡ climb names inner d least rounds left ts

  module _ (least : ℕ) (total : Outcome (ExprTree Spot)) (left : ExprTree Spot) (ts : List Token) where
    goes_at : (rounds : ℕ) → d ≤ rounds + expr_depth left → total ≡ climb names inner d least rounds left ts → true ≡ goes_on names inner d least left (tail ts)
        → (x : ExprTree Spot) (r : List Token) → go_on names inner d left (tail ts) (spot ts) (skip ts) ≡ Ok (x, r) → Climbing least total x r
    goes_at zero enough same on x r e = absurd (omega (arith, enough, goes_on_room least left (tail ts) on))
    goes_at (suc rounds) enough same on x r e =
        record { rounds = rounds; enough = omega (arith, enough, go_on_deep left (tail ts) (spot ts) (skip ts) x r e); same = same ∙ rw (sym on, e) refl }

    pub climb_goes : Climbing least total left ts → true ≡ goes_on names inner d least left (tail ts)
        → (x : ExprTree Spot) (r : List Token) → go_on names inner d left (tail ts) (spot ts) (skip ts) ≡ Ok (x, r) → Climbing least total x r
    climb_goes c = goes_at c.rounds c.enough c.same

    fails_at : (rounds : ℕ) → d ≤ rounds + expr_depth left → total ≡ climb names inner d least rounds left ts → true ≡ goes_on names inner d least left (tail ts)
        → (r : List Token) → go_on names inner d left (tail ts) (spot ts) (skip ts) ≡ Err r → total ≡ Err r
    fails_at zero enough same on r e = absurd (omega (arith, enough, goes_on_room least left (tail ts) on))
    fails_at (suc rounds) enough same on r e = same ∙ rw (sym on, e) refl

    pub climb_fails : Climbing least total left ts → true ≡ goes_on names inner d least left (tail ts)
        → (r : List Token) → go_on names inner d left (tail ts) (spot ts) (skip ts) ≡ Err r → total ≡ Err r
    climb_fails c = fails_at c.rounds c.enough c.same

    ends_at : (rounds : ℕ) → total ≡ climb names inner d least rounds left ts → false ≡ goes_on names inner d least left (tail ts) → total ≡ Ok (left, ts)
    ends_at zero same off = same
    ends_at (suc rounds) same off = same ∙ rw (sym off) refl

    pub climb_ends : Climbing least total left ts → false ≡ goes_on names inner d least left (tail ts) → total ≡ Ok (left, ts)
    climb_ends c = ends_at c.rounds c.same

    -- what is read next is deeper, and so the rounds are bounded
    pub climb_deeper : true ≡ goes_on names inner d least left (tail ts)
        → (x : ExprTree Spot) (r : List Token) → go_on names inner d left (tail ts) (spot ts) (skip ts) ≡ Ok (x, r) → d - expr_depth x < d - expr_depth left
    climb_deeper on x r e = omega (arith, goes_on_room least left (tail ts) on, go_on_deep left (tail ts) (spot ts) (skip ts) x r e)
