-- Expressions and type names are read alike on two texts that part behind a token.
use Rattle.std.proofs.Common.{sym, ap, subst, ◌≡◌, ◌<◌, refl, ℕ, zero, suc, Bool, true, false, List, [], ◌∷◌, ◌++◌, length, Option, Some, None, arith, nat_le, ◌&&◌, ◌==◌}
use Rattle.cc_base.specs.declared.place.Spot.{Spot}
use Rattle.cc_lex.specs.declared.token.Token.{Token}
use Rattle.cc_lex.specs.declared.punct.Punct.TheVariants as the_punct
use Rattle.cc_tree.specs.declared.operator.Side.TheVariants as side
use Rattle.cc_tree.specs.Trees.{ExprTree, name, integer, character, string, paren, unary, step, choice, member, arrow, index, cast, size_expr, size_type, type_name}
use Rattle.cc_grammar.specs.Names.{Names}
use Rattle.cc_grammar.specs.Classes.{is_punct, next_is, next_literal, skip, spot, starts_spec, start, start_kind, Start, begins_name, begins_integer, begins_character, begins_string, begins_paren, begins_unary, begins_step, begins_sizeof, begins_nothing, Tail, tail, goes_binary, goes_assign, goes_question, goes_comma, goes_call, goes_index, goes_dot, goes_arrow, goes_step, ends_here}
use Rattle.cc_grammar.specs.Outcomes.{Parser, and_then, pure, refuse, take, ◌<$>◌, ◌>>◌, ◌>>=◌}
use Rattle.cc_grammar.specs.Reading as reader
use Rattle.cc_grammar.specs.Reading.{Inner, Mode, without_name, with_or_without, branch, where_next, skipping}
use Rattle.cc_parse_laws.proofs.Steps.{punct_kind}
use Rattle.cc_parse_places.proofs.Forks.{Fork, here, there, left, Near, past, Leaves, branch_leaves, bind_leaves, skip_leaves, branch_near, branch_ends, and_same, and_false, alike_branch_by, alike_pure, alike_refuse, weak, alike_bind, alike_map, alike_skipping, alike_view, alike_placed, alike_where}
use Rattle.cc_parse_places.proofs.ForkedLists.{Tame, tame_take, tame_id, tame_until, tame_separated, tame_repeated}

-- the readers of what stands in a counted node do the same with the two texts
pub record TameInner (t : Fork) (u : ℕ) (inner : Inner) : Type 0 where
  pub expr : (least : ℕ) → Tame t 1 u (inner.expr least)
  pub specs : Tame t 1 u inner.specs
  pub declarator : (mode : Mode) → Tame t 0 u (inner.declarator mode)

module _ {t : Fork} {u : ℕ} (names : Names) (inner : Inner) (d : ℕ) (good : TameInner t u inner) where
  pub tame_typed : (mode : Mode) → Tame t 1 u (reader.typed names inner d mode)
  tame_typed mode = alike_placed _ _ (λ n. alike_bind _ _ _ _ good.specs (λ ss. alike_map (type_name n ss) _ _ (good.declarator mode)))

  pub tame_parameters : Tame t 0 u (reader.parameters names inner d)
  tame_parameters = alike_where (next_is the_punct.RightParen) _ _ _ _ (λ k us vs. refl) (weak (alike_skipping _ _ (alike_pure [])))
      (weak (alike_bind _ _ _ _ (tame_separated _ (tame_typed with_or_without)) (λ ts. weak (tame_until the_punct.RightParen ts))))

  pub tame_arguments : Tame t 0 u (reader.arguments names inner d)
  tame_arguments = alike_where (next_is the_punct.RightParen) _ _ _ _ (λ k us vs. refl) (weak (alike_skipping _ _ (alike_pure [])))
      (weak (alike_bind _ _ _ _ (tame_separated _ (good.expr 2)) (λ es. weak (tame_until the_punct.RightParen es))))

  -- ---- How an expression goes on

  right_side : {A : Type 0} (f : ExprTree Spot → A) (least : ℕ) → Tame t 0 u (f <$> inner.expr least)
  right_side f least = weak (alike_map f _ _ (good.expr least))

  tame_go_on : (left : ExprTree Spot) (k : Tail) (n : Spot) → Tame t 0 u (reader.go_on names inner d left k n)
  tame_go_on left (goes_binary op) n = right_side _ _
  tame_go_on left (goes_assign op) n = right_side _ _
  tame_go_on left goes_question n = weak (alike_bind _ _ _ _ (good.expr 1) (λ a. weak (alike_bind _ _ _ _ (tame_take the_punct.Colon) (λ z. right_side (choice n left a) 3))))
  tame_go_on left goes_comma n = right_side _ _
  tame_go_on left goes_call n = alike_map _ _ _ tame_arguments
  tame_go_on left goes_index n = weak (alike_bind _ _ _ _ (good.expr 1) (λ i. weak (tame_until the_punct.RightBracket (index n left i))))
  tame_go_on left goes_dot n = weak (alike_map (member n left) _ _ (tame_id names))
  tame_go_on left goes_arrow n = weak (alike_map (arrow n left) _ _ (tame_id names))
  tame_go_on left (goes_step op) n = alike_pure (step n op side.After left)
  tame_go_on left ends_here n = alike_refuse

  pub tame_climb : (least turns : ℕ) (left : ExprTree Spot) → Tame t 0 u (reader.climb names inner d least turns left)
  tame_climb least zero left = alike_pure left
  tame_climb least (suc turns) left =
      alike_where (λ ts. reader.goes_on names inner d least left (tail ts)) _ _ _ _ (λ k us vs. refl)
      (alike_view tail (λ k ts. and_then (reader.go_on names inner d left k (spot ts) (skip ts)) (reader.climb names inner d least turns)) (λ k ts. and_then (reader.go_on names inner d left k (spot ts) (skip ts)) (reader.climb names inner d least turns)) (λ k us vs. refl) (λ k.
      alike_view spot (λ n ts. and_then (reader.go_on names inner d left k n (skip ts)) (reader.climb names inner d least turns)) (λ n ts. and_then (reader.go_on names inner d left k n (skip ts)) (reader.climb names inner d least turns)) (λ w us vs. refl) (λ n.
      weak (alike_skipping _ _ (alike_bind _ _ _ _ (tame_go_on left k n) (tame_climb least turns))))))
      (alike_pure left)

  -- ---- How one begins

  tame_literal_by : (x : Option (List ℕ)) → Tame t 1 u (reader.literal_by names inner d x)
  tame_literal_by None = alike_refuse
  tame_literal_by (Some bytes) = alike_skipping _ _ (alike_pure bytes)

  tame_literals : Tame t 1 u (reader.literals names inner d)
  tame_literals = tame_repeated (λ ts. reader.is_literal names inner d (next_literal ts)) (λ k us vs. refl) _ (alike_view next_literal (reader.literal_by names inner d) (reader.literal_by names inner d) (λ k us vs. refl) tame_literal_by)

  tame_behind_paren : (least : ℕ) (n : Spot) → Tame t 0 u (reader.behind_paren names inner d least n)
  tame_behind_paren least n =
      alike_where (λ ts. starts_spec names ts && nat_le least 14) _ _ _ _ (λ k us vs. refl)
      (weak (alike_bind _ _ _ _ (tame_typed without_name) (λ x. weak (alike_bind _ _ _ _ (tame_take the_punct.RightParen) (λ z. right_side (cast n x) 14)))))
      (weak (alike_bind _ _ _ _ (good.expr 1) (λ e. weak (tame_until the_punct.RightParen (paren n e)))))

  -- ---- `sizeof`

  abbrev Type_comes : List Token → Bool
  Type_comes ts = next_is the_punct.LeftParen ts && starts_spec names (skip ts)

  abbrev sized_type : Spot → Parser (ExprTree Spot)
  sized_type n = skipping (reader.typed names inner d without_name >>= (λ x. take the_punct.RightParen >> pure (size_type n x)))

  abbrev sized_operand : Spot → Parser (ExprTree Spot)
  sized_operand n = where_next (λ ts. next_is the_punct.LeftParen ts && (d == 1)) (skipping refuse) (size_expr n <$> inner.expr 15)

  tame_sized_type : (n : Spot) → Tame t 1 u (sized_type n)
  tame_sized_type n = alike_skipping _ _ (alike_bind _ _ _ _ (tame_typed without_name) (λ x. weak (tame_until the_punct.RightParen (size_type n x))))

  tame_sized_operand : (n : Spot) → Tame t 0 u (sized_operand n)
  tame_sized_operand n = alike_where (λ ts. next_is the_punct.LeftParen ts && (d == 1)) _ _ _ _ (λ k us vs. refl) (weak (alike_skipping _ _ (alike_refuse {n = 0}))) (right_side (size_expr n) 15)

  comes_same : (k : Token) (b : List Token) → Type_comes (k ∷ b ++ here t) ≡ Type_comes (k ∷ b ++ there t)
  comes_same k [] = refl
  comes_same k (m ∷ b) = refl

  -- A parenthesis that an operand can begin with is taken by the reader of operands.
  module _ (deep : (d == 0) ≡ false) (opens : (d == 1) ≡ false → (least : ℕ) (k : Token) (ts : List Token) → is_punct the_punct.LeftParen k.kind ≡ true → Leaves (inner.expr least (k ∷ ts)) (suc (length ts))) where
    sizeof_opens : (n : Spot) (k : Token) (ts : List Token) → is_punct the_punct.LeftParen k.kind ≡ true → Leaves (reader.behind_sizeof names inner d n (k ∷ ts)) (suc (length ts))
    sizeof_opens n k ts e =
        branch_leaves (Type_comes (k ∷ ts)) (sized_type n) (sized_operand n) (k ∷ ts) (suc (length ts))
        (λ f. skip_leaves _ _ k ts (alike_bind _ _ _ _ (tame_typed without_name) (λ x. weak (tame_until the_punct.RightParen (size_type n x)))))
        (λ f. branch_leaves (is_punct the_punct.LeftParen k.kind && (d == 1)) (skipping refuse) (size_expr n <$> inner.expr 15) (k ∷ ts) (suc (length ts))
        (λ g. omega arith)
        (λ g. bind_leaves (inner.expr 15 (k ∷ ts)) _ _ (suc (length ts)) (λ x. alike_pure {t = t} {w = suc u} (size_expr n x)) (opens (and_false (is_punct the_punct.LeftParen k.kind) (d == 1) e g) 15 k ts e)))

    sizeof_near : (n : Spot) (b : List Token) → length b < suc u → Near t 0 b (reader.behind_sizeof names inner d n (b ++ here t)) (reader.behind_sizeof names inner d n (b ++ there t))
    sizeof_near n [] lt = either (is_punct the_punct.LeftParen t.token.kind) refl
      where
        either : (b : Bool) → is_punct the_punct.LeftParen t.token.kind ≡ b → Near t 0 [] (reader.behind_sizeof names inner d n (here t)) (reader.behind_sizeof names inner d n (there t))
        either true e = past _ _ (sizeof_opens n t.token t.after e)
        either false e =
            branch_near (Type_comes (here t)) (Type_comes (there t)) (sized_type n) (sized_operand n) (here t) (there t) (and_same (is_punct the_punct.LeftParen t.token.kind) (starts_spec names t.after) (starts_spec names t.other) e)
            ((weak (tame_sized_type n)).near [] lt) ((tame_sized_operand n).near [] lt)
    sizeof_near n (k ∷ b) lt =
        branch_near (Type_comes (k ∷ b ++ here t)) (Type_comes (k ∷ b ++ there t)) (sized_type n) (sized_operand n) (k ∷ b ++ here t) (k ∷ b ++ there t) (comes_same k b)
        ((weak (tame_sized_type n)).near (k ∷ b) lt) ((tame_sized_operand n).near (k ∷ b) lt)

    tame_behind_sizeof : (n : Spot) → Tame t 0 u (reader.behind_sizeof names inner d n)
    tame_behind_sizeof n = record { near = sizeof_near n; ends = λ ts. branch_ends (Type_comes ts) (sized_type n) (sized_operand n) (tame_sized_type n).ends (tame_sized_operand n).ends ts }

    tame_prefix : (least : ℕ) (s : Start) (n : Spot) → Tame t 1 u (reader.prefix names inner d least s n)
    tame_prefix least (begins_name x) n = alike_map (name n) _ _ (tame_id names)
    tame_prefix least (begins_integer v c) n = alike_skipping _ _ (alike_pure (integer n v c))
    tame_prefix least (begins_character v) n = alike_skipping _ _ (alike_pure (character n v))
    tame_prefix least (begins_string bytes) n = alike_map (string n) _ _ tame_literals
    tame_prefix least begins_paren n = alike_skipping _ _ (tame_behind_paren least n)
    tame_prefix least (begins_unary op) n = alike_skipping _ _ (right_side (unary n op) 14)
    tame_prefix least (begins_step op) n = alike_skipping _ _ (right_side (step n op side.Before) 15)
    tame_prefix least begins_sizeof n = alike_skipping _ _ (tame_behind_sizeof n)
    tame_prefix least begins_nothing n = alike_refuse

    -- where an expression may stand at all
    tame_at_depth : (least : ℕ) → Tame t 1 u (λ ts. and_then (reader.prefix names inner d least (start ts) (spot ts) ts) (reader.climb names inner d least d))
    tame_at_depth least =
        alike_bind _ _ _ _ (alike_view start (λ s ts. reader.prefix names inner d least s (spot ts) ts) (λ s ts. reader.prefix names inner d least s (spot ts) ts) (λ k us vs. refl)
        (λ s. alike_view spot (reader.prefix names inner d least s) (reader.prefix names inner d least s) (λ k us vs. refl) (tame_prefix least s)))
        (tame_climb least d)

  pub tame_expression : ((d == 0) ≡ false → (d == 1) ≡ false → (least : ℕ) (k : Token) (ts : List Token) → is_punct the_punct.LeftParen k.kind ≡ true → Leaves (inner.expr least (k ∷ ts)) (suc (length ts))) → (least : ℕ) → Tame t 1 u (reader.expression names inner d least)
  tame_expression opens least = alike_branch_by (d == 0) _ _ _ _ (λ e. alike_refuse) (λ e. tame_at_depth e (opens e) least)

  -- A parenthesis is taken.
  paren_leaves : (least : ℕ) (k : Token) (ts : List Token) (s : Start) → s ≡ begins_paren → Leaves (reader.prefix names inner d least s k.spot (k ∷ ts)) (suc (length ts))
  paren_leaves least k ts s e = subst (λ c. Leaves (reader.prefix names inner d least c k.spot (k ∷ ts)) (suc (length ts))) (sym e) (skip_leaves _ _ k ts (tame_behind_paren least k.spot))

  pub expression_opens : (d == 0) ≡ false → (least : ℕ) (k : Token) (ts : List Token) → is_punct the_punct.LeftParen k.kind ≡ true → Leaves (reader.expression names inner d least (k ∷ ts)) (suc (length ts))
  expression_opens deep least k ts e =
      branch_leaves (d == 0) refuse (λ us. and_then (reader.prefix names inner d least (start us) (spot us) us) (reader.climb names inner d least d)) (k ∷ ts) (suc (length ts))
      (λ f. absurd cc)
      (λ f. bind_leaves (reader.prefix names inner d least (start_kind k.kind) k.spot (k ∷ ts)) _ _ (suc (length ts)) (tame_climb least d) (paren_leaves least k ts (start_kind k.kind) (ap start_kind (punct_kind the_punct.LeftParen k.kind e))))
