-- Initialisers, declarations, statements and files at three depths.
use Rattle.std.proofs.Common.{◌≡◌, ◌≤◌, ◌<◌, refl, ℕ, zero, suc, Bool, true, false, List, [], ◌∷◌, length, Option, Some, None, Err, arith, ap, ◌∙◌, inl, inr}
use Rattle.cc_base.specs.declared.place.Spot.{Spot}
use Rattle.cc_lex.specs.declared.token.Token.{Token}
use Rattle.cc_lex.specs.declared.keyword.Keyword.TheVariants as the_keyword
use Rattle.cc_lex.specs.declared.punct.Punct.{Punct}
use Rattle.cc_lex.specs.declared.punct.Punct.TheVariants as the_punct
use Rattle.cc_tree.specs.Trees.{ExprTree, SpecTrees, DeclTree, ValueTree, single, braces, InitTree, init, DeclarationTree, declaration, StartTree, start_declaration, start_expr, no_start, StmtTree, compound, plain, empty, if_then, if_else, switch, while_loop, do_loop, for_loop, break, continue, return, block, ItemTree, declares, case_label, default_label, does, outer_declaration, definition}
use Rattle.cc_tree.specs.Views.{gathered_values, gathered_items}
use Rattle.cc_grammar.specs.Names.{Names, has_typedef, after_declarator, after_start, after_stmt, after_item, after_external}
use Rattle.cc_grammar.specs.Classes.{next_is, next_is_keyword, skip, spot, starts_spec, StmtStart, begins_block, begins_empty, begins_if, begins_switch, begins_while, begins_do, begins_for, begins_break, begins_continue, begins_return, begins_case, begins_default, begins_other, stmt_start}
use Rattle.cc_grammar.specs.Outcomes.{Outcome, Parser, and_then, pure, refuse, take, take_keyword, ◌<$>◌, ◌>>=◌, ◌>>◌}
use Rattle.cc_grammar.specs.Reading as reader
use Rattle.cc_grammar.specs.Reading.{with_name, where_next, skipping, placed, enclosed, readers}
use Rattle.cc_parse_laws.proofs.Steps.{branch_true, branch_false}
use Rattle.cc_parse_laws.proofs.Lists.{takes}
use Rattle.cc_parse_places.proofs.Forks.{left}
use Rattle.cc_parse_depths.proofs.Deeper.{Steps, alike, refused, Never, Halts, refuses, halts_with, halts_is, halts_bind, halts_map, halts_else, Shrinks, bind_shrinks, steps_same, steps_branch, Deeper, deep_same, deep_pure, deep_refuse, deep_then, deep_bind, deep_map, deep_map_never, deep_skipping, deep_view, deep_placed, deep_where}
use Rattle.cc_parse_depths.proofs.DeeperLists.{deep_take, deep_take_keyword, deep_until, deep_turns, no_take, halts_take, Binding, unbound, deep_enclosed, deep_enclosed_behind}
use Rattle.cc_parse_depths.proofs.DeeperExpressions.{DeepInner, Further}
use Rattle.cc_parse_depths.proofs.DeeperDeclarators.{punct_some}
use Rattle.cc_parse_depths.proofs.Openings.{Opening, opening, refused_at, same_readers}
use Rattle.cc_parse_depths.proofs.DeeperSpecifiers.{deep_readers, starts_taken}

expr_shrinks : (names : Names) (d least : ℕ) → 0 < least → least ≤ 15 → Shrinks ((readers names d).expr least)
expr_shrinks names d least some low = let all = same_readers names d in let one = all.expr least some low in one.shrinks

-- ---- Initialisers

comma_binds : (r : List Token) → Binding 2 r → next_is the_punct.Comma r ≡ false
comma_binds r h = unbound the_punct.Comma 2 r (omega arith) h

abbrev in_braces : Names → ℕ → Parser (ValueTree Spot)
in_braces names d = placed (λ n. (λ (vs : List (ValueTree Spot) × Bool). braces n (gathered_values vs.0) vs.1) <$> enclosed (reader.value names d))

abbrev no_braces : Names → ℕ → Parser (ValueTree Spot)
no_braces names d = single <$> (readers names d).expr 2

module _ (names : Names) where
  -- of one depth
  value_shrinks : (d : ℕ) → Shrinks (reader.value names d)
  value_shrinks zero ts = omega arith
  value_shrinks (suc d) ts = let all = deep_where {S = Never} (next_is the_punct.LeftBrace) (same_braces d (value_shrinks d)) (deep_same {p = no_braces names (suc d)} (plain_shrinks (suc d))) in all.shrinks ts
    where
      same_braces : (d : ℕ) → Shrinks (reader.value names d) → Deeper Never (in_braces names d) (in_braces names d) (in_braces names d)
      same_braces d h = deep_placed (λ n. deep_map_never (λ (vs : List (ValueTree Spot) × Bool). braces n (gathered_values vs.0) vs.1) (deep_enclosed (Binding 2) {p = reader.value names d} {q = reader.value names d} {s = reader.value names d} comma_binds (deep_same h) (λ r b. unbound the_punct.RightBrace 2 r (omega arith) b)))

      plain_shrinks : (d : ℕ) → Shrinks (no_braces names d)
      plain_shrinks d us = omega (arith, expr_shrinks names d 2 (omega arith) (omega arith) us, bind_shrinks ((readers names d).expr 2 us) (λ x. pure (single x)) (λ x vs. omega arith))

  braces_taken : (d : ℕ) (ts : List Token) → next_is the_punct.LeftBrace ts ≡ true → length (left (reader.value names (suc d) ts)) < length ts
  braces_taken d ts e =
      let all = deep_enclosed_behind (Binding 2) {p = reader.value names d} {q = reader.value names d} {s = reader.value names d} comma_binds (deep_same (value_shrinks d)) (λ r b. unbound the_punct.RightBrace 2 r (omega arith) b) in
      let is : reader.value names (suc d) ts ≡ and_then (reader.enclosed_by (reader.value names d) (length (skip ts)) (skip ts)) (λ vs. pure (braces (spot ts) (gathered_values vs.0) vs.1)) =
      branch_true (next_is the_punct.LeftBrace ts) (in_braces names d) (no_braces names (suc d)) ts e
      ∙ ap (λ o. and_then (and_then o (λ z us. reader.enclosed_by (reader.value names d) (length us) us)) (λ vs. pure (braces (spot ts) (gathered_values vs.0) vs.1))) (takes the_punct.LeftBrace ts e) in
      let same : length (left (reader.value names (suc d) ts)) ≡ length (left (and_then (reader.enclosed_by (reader.value names d) (length (skip ts)) (skip ts)) (λ vs. pure (braces (spot ts) (gathered_values vs.0) vs.1)))) = ap (λ o. length (left o)) is in
      omega (arith, same, all.shrinks (skip ts), bind_shrinks (reader.enclosed_by (reader.value names d) (length (skip ts)) (skip ts)) (λ vs. pure (braces (spot ts) (gathered_values vs.0) vs.1)) (λ x us. omega arith), punct_some the_punct.LeftBrace ts e)

  plain_is : (d : ℕ) (ts : List Token) (o : Outcome (ExprTree Spot)) → next_is the_punct.LeftBrace ts ≡ false → (readers names (suc d)).expr 2 ts ≡ o → reader.value names (suc d) ts ≡ and_then o (λ x. pure (single x))
  plain_is d ts o e is = branch_false (next_is the_punct.LeftBrace ts) (in_braces names d) (no_braces names (suc d)) ts e ∙ ap (λ z. and_then z (λ x. pure (single x))) is

  value_refused : (ts : List Token) → next_is the_punct.LeftBrace ts ≡ false → ((i : reader.Inner) (d : ℕ) → reader.expression names i (suc d) 2 ts ≡ Err ts) → (d : ℕ) → reader.value names d ts ≡ Err ts
  value_refused ts e h zero = refl
  value_refused ts e h (suc d) = plain_is d ts (Err ts) e (refused_at names 2 ts h (suc d))

  first_value : (f : ℕ) (ts : List Token) → Steps (λ v. Binding 2) (Err ts) (reader.value names 2 ts) (reader.value names f ts)
  first_value f ts = by (next_is the_punct.LeftBrace ts) refl (opening names 2 ts)
    where
      by : (b : Bool) → next_is the_punct.LeftBrace ts ≡ b → Opening names 2 ts → Steps (λ v. Binding 2) (Err ts) (reader.value names 2 ts) (reader.value names f ts)
      by true e o = refused ts _ _ (braces_taken 1 ts e)
      by false e (inl h) = steps_same (value_refused ts e h 2) (value_refused ts e h f)
      by false e (inr h) =
          let same : length (left (reader.value names 2 ts)) ≡ length (left (and_then ((readers names 2).expr 2 ts) (λ x. pure (single x)))) = ap (λ o. length (left o)) (plain_is 1 ts ((readers names 2).expr 2 ts) e refl) in
          refused ts _ _ (omega (arith, same, bind_shrinks ((readers names 2).expr 2 ts) (λ x. pure (single x)) (λ x us. omega arith), h (readers names 1) 1 (same_readers names 1)))

  deep_value : (d f : ℕ) → d ≤ f → Deeper (λ v. Binding 2) (reader.value names d) (reader.value names (suc (suc d))) (reader.value names f)
  deep_value zero f h = record { steps = first_value f; shrinks = value_shrinks 2 }
  deep_value (suc d) zero h = absurd (omega (arith, h))
  deep_value (suc d) (suc f) h =
      deep_where (next_is the_punct.LeftBrace)
      (deep_placed (λ n. deep_map_never (λ (vs : List (ValueTree Spot) × Bool). braces n (gathered_values vs.0) vs.1)
      (deep_enclosed (Binding 2) comma_binds (deep_value d f (omega (arith, h))) (λ r b. unbound the_punct.RightBrace 2 r (omega arith) b))))
      (let all = deep_readers names (suc d) (suc f) h in deep_map single (all.expr 2 (omega arith) (omega arith)) (λ e r b. b))

-- ---- Readers of three depths

pub record DeepDepths (a b c : ℕ) : Type 0 where
  pub inner : (names : Names) → DeepInner (readers names a) (readers names b) (readers names c)
  pub value : (names : Names) → Deeper (λ v. Binding 2) (reader.value names a) (reader.value names b) (reader.value names c)

pub deep_depths : (d f : ℕ) → d ≤ f → DeepDepths d (suc (suc d)) f
deep_depths d f h = record { inner = λ names. deep_readers names d f h; value = λ names. deep_value names d f h }

pub same_depths : (d : ℕ) → DeepDepths d d d
same_depths d = record { inner = λ names. same_readers names d; value = λ names. deep_same (value_shrinks names d) }

-- ---- Declarators with their initialisers

-- no semicolon follows
abbrev pub Unended : List Token → Type 0
Unended r = next_is the_punct.Semicolon r ≡ false

abbrev behind_value : ℕ → Bool → ℕ → Names → DeclTree Spot → Option (ValueTree Spot) → Parser (List (InitTree Spot))
behind_value d typedef turns names e v = where_next (next_is the_punct.Comma)
    (skipping ((readers names d).declarator with_name >>= (λ f. (λ is. init e v ∷ is) <$> reader.inits_behind d typedef turns names f)))
    (pure (init e v ∷ []))

-- where a token comes that goes on with a declarator
pub inits_halt : (d : ℕ) (typedef : Bool) (turns : ℕ) (names : Names) (e : DeclTree Spot) (r : List Token) → Further r → Halts (λ is. Unended) (reader.inits_behind d typedef turns names e r) r
inits_halt d typedef zero names e r h = refuses r
inits_halt d typedef (suc turns) names e r h =
    let known = after_declarator typedef e names in
    halts_bind {S = λ v. Further} (reader.given known d r) (behind_value d typedef turns known e) r
    (halts_else (next_is the_punct.Equal) (skipping (Some <$> reader.value known d)) (pure None) r h.no_equal (halts_with None r h))
    (λ v g. halts_else (next_is the_punct.Comma) _ (pure (init e v ∷ [])) r g.no_comma (halts_with (init e v ∷ []) r g.no_semicolon))

module _ (a b c : ℕ) (good : DeepDepths a b c) where
  deep_expr : (names : Names) (least : ℕ) → 0 < least → least ≤ 15 → Deeper (λ e. Binding least) ((readers names a).expr least) ((readers names b).expr least) ((readers names c).expr least)
  deep_expr names least some low = let all = good.inner names in all.expr least some low

  pub deep_named : (names : Names) → Deeper (λ e. Further) ((readers names a).declarator with_name) ((readers names b).declarator with_name) ((readers names c).declarator with_name)
  deep_named names = let all = good.inner names in all.declarator with_name

  pub deep_specs : (names : Names) → Deeper Never ((readers names a).specs) ((readers names b).specs) ((readers names c).specs)
  deep_specs names = let all = good.inner names in all.specs

  deep_given : (names : Names) → Deeper (λ v. Binding 2) (reader.given names a) (reader.given names b) (reader.given names c)
  deep_given names = deep_where (next_is the_punct.Equal) (deep_skipping (deep_map Some (good.value names) (λ v r h. h))) (deep_pure None)

  deep_inits_behind : (typedef : Bool) (turns : ℕ) (names : Names) (e : DeclTree Spot) → Deeper (λ is. Unended) (reader.inits_behind a typedef turns names e) (reader.inits_behind b typedef turns names e) (reader.inits_behind c typedef turns names e)
  deep_inits_behind typedef zero names e = deep_refuse
  deep_inits_behind typedef (suc turns) names e =
      let known = after_declarator typedef e names in
      deep_then (deep_given known)
      (λ v. deep_where (next_is the_punct.Comma)
      (deep_skipping (deep_then (deep_named known) (λ g. deep_map (λ is. init e v ∷ is) (deep_inits_behind typedef turns known g) (λ is r u. u))
      (λ g r k. halts_map (reader.inits_behind a typedef turns known g r) (λ is. init e v ∷ is) r (inits_halt a typedef turns known g r k) (λ is u. u))))
      (deep_pure (init e v ∷ [])))
      (λ v r h. halts_else (next_is the_punct.Comma) _ (pure (init e v ∷ [])) r (comma_binds r h) (halts_with (init e v ∷ []) r (unbound the_punct.Semicolon 2 r (omega arith) h)))

  pub deep_inits : (typedef : Bool) (names : Names) (e : DeclTree Spot) → Deeper (λ is. Unended) (reader.inits a typedef names e) (reader.inits b typedef names e) (reader.inits c typedef names e)
  deep_inits typedef names e = deep_turns suc (λ turns. deep_inits_behind typedef turns names e)

  -- ---- Declarations

  abbrev behind_specs : ℕ → Names → Spot → SpecTrees Spot → Parser (DeclarationTree Spot)
  behind_specs d names n ss = where_next (next_is the_punct.Semicolon) (skipping (pure (declaration n ss []))) ((readers names d).declarator with_name >>= reader.inits d (has_typedef ss) names >>= (λ is. take the_punct.Semicolon >> pure (declaration n ss is)))

  deep_behind_specs : (names : Names) (n : Spot) (ss : SpecTrees Spot) → Deeper Never (behind_specs a names n ss) (behind_specs b names n ss) (behind_specs c names n ss)
  deep_behind_specs names n ss = deep_where (next_is the_punct.Semicolon) (deep_skipping (deep_pure (declaration n ss [])))
      (deep_then (deep_then (deep_named names) (λ e. deep_inits (has_typedef ss) names e) (λ e r k. inits_halt a (has_typedef ss) (suc (length r)) names e r k))
      (λ is. deep_until the_punct.Semicolon (declaration n ss is)) (λ is r u. halts_take the_punct.Semicolon _ r u))

  pub deep_declaration : (names : Names) → Deeper Never (reader.declaration_at a names) (reader.declaration_at b names) (reader.declaration_at c names)
  deep_declaration names = deep_placed (λ n. deep_bind (deep_specs names) (deep_behind_specs names n))

declaration_taken : (d : ℕ) (names : Names) (ts : List Token) → starts_spec names ts ≡ true → length (left (reader.declaration_at (suc d) names ts)) < length ts
declaration_taken d names ts e =
    let rest = deep_behind_specs (suc d) (suc d) (suc d) (same_depths (suc d)) names (spot ts) in
    omega (arith, starts_taken names d ts e, bind_shrinks ((readers names (suc d)).specs ts) (behind_specs (suc d) (suc d) (suc d) (same_depths (suc d)) (suc d) names (spot ts)) (λ ss. let one = rest ss in one.shrinks))

-- ---- Statements

only_block_shrinks : (s : StmtTree Spot) → Shrinks (reader.only_block s)
only_block_shrinks (compound k) ts = omega arith
only_block_shrinks (plain n e) ts = omega arith
only_block_shrinks (empty n) ts = omega arith
only_block_shrinks (if_then n e s) ts = omega arith
only_block_shrinks (if_else n e s o) ts = omega arith
only_block_shrinks (switch n e k) ts = omega arith
only_block_shrinks (while_loop n e s) ts = omega arith
only_block_shrinks (do_loop n s e) ts = omega arith
only_block_shrinks (for_loop n start test each s) ts = omega arith
only_block_shrinks (break n) ts = omega arith
only_block_shrinks (continue n) ts = omega arith
only_block_shrinks (return n e) ts = omega arith

halts_take_two : {A B : Type 0} {T : B → List Token → Type 0} (s : Punct) (f : Unit {0} → Parser A) (g : A → Parser B) (r : List Token) → next_is s r ≡ false → Halts T (and_then (and_then (take s r) f) g) r
halts_take_two s f g r e = halts_is (ap (λ z. and_then (and_then z f) g) (no_take s r e)) (refuses r)

counted_shrinks : {A : Type 0} (one : ℕ → Parser A) → ((e : ℕ) → Shrinks (one e)) → (d : ℕ) → Shrinks (reader.counted_by d one)
counted_shrinks one h zero ts = omega arith
counted_shrinks one h (suc d) ts = h d ts

branch_shrinks : {A : Type 0} (k : Bool) (p q : Parser A) (ts : List Token) → length (left (p ts)) ≤ length ts → length (left (q ts)) ≤ length ts → length (left (reader.branch k p q ts)) ≤ length ts
branch_shrinks true p q ts x y = x
branch_shrinks false p q ts x y = y

-- what stands behind `case` and `default`
abbrev case_at : Names → Spot → ℕ → Parser (ItemTree Spot)
case_at names n d = skipping ((readers names d).expr 3 >>= (λ e. take the_punct.Colon >> pure (case_label n e)))

abbrev default_at : Spot → ℕ → Parser (ItemTree Spot)
default_at n d = skipping (take the_punct.Colon >> pure (default_label n))

abbrev spec_at : {A : Type 0} → (DeclarationTree Spot → A) → Names → ℕ → Parser A
spec_at g names d = g <$> reader.declaration_at d names

deep_case_at : (a b c : ℕ) → DeepDepths a b c → (names : Names) (n : Spot) → Deeper Never (case_at names n a) (case_at names n b) (case_at names n c)
deep_case_at a b c good names n =
    deep_skipping (deep_then (deep_expr a b c good names 3 (omega arith) (omega arith)) (λ e. deep_until the_punct.Colon (case_label n e)) (λ e r h. halts_take the_punct.Colon _ r (unbound the_punct.Colon 3 r (omega arith) h)))

deep_default_at : (a b c : ℕ) (n : Spot) → Deeper Never (default_at n a) (default_at n b) (default_at n c)
deep_default_at a b c n = deep_skipping (deep_until the_punct.Colon (default_label n))

deep_spec_at : {A : Type 0} (a b c : ℕ) → DeepDepths a b c → (g : DeclarationTree Spot → A) (names : Names) → Deeper Never (spec_at g names a) (spec_at g names b) (spec_at g names c)
deep_spec_at a b c good g names = deep_map_never g (deep_declaration a b c good names)

-- what counts, and begins with the next token
pub record DeepCounted (a b c : ℕ) : Type 1 where
  pub at_spec : {A : Type 0} (g : DeclarationTree Spot → A) (names : Names) (ts : List Token) → starts_spec names ts ≡ true → Steps Never (reader.counted_by a (spec_at g names) ts) (reader.counted_by b (spec_at g names) ts) (reader.counted_by c (spec_at g names) ts)
  pub at_case : (names : Names) (n : Spot) (ts : List Token) → length (skip ts) < length ts → Steps Never (reader.counted_by a (case_at names n) ts) (reader.counted_by b (case_at names n) ts) (reader.counted_by c (case_at names n) ts)
  pub at_default : (n : Spot) (ts : List Token) → length (skip ts) < length ts → Steps Never (reader.counted_by a (default_at n) ts) (reader.counted_by b (default_at n) ts) (reader.counted_by c (default_at n) ts)

same_counted : (d : ℕ) → DeepCounted d d d
same_counted d = record { at_spec = λ g names ts e. alike (reader.counted_by d (spec_at g names) ts); at_case = λ names n ts e. alike (reader.counted_by d (case_at names n) ts); at_default = λ n ts e. alike (reader.counted_by d (default_at n) ts) }

counted_steps : {A : Type 0} (one : ℕ → Parser A) (ts : List Token) → ((d f : ℕ) → d ≤ f → Deeper Never (one d) (one (suc (suc d))) (one f)) → length (left (one 1 ts)) < length ts → (d f : ℕ) → d ≤ f
    → Steps Never (reader.counted_by d one ts) (reader.counted_by (suc (suc d)) one ts) (reader.counted_by f one ts)
counted_steps one ts deep taken zero f h = refused ts _ _ taken
counted_steps one ts deep taken (suc d) zero h = absurd (omega (arith, h))
counted_steps one ts deep taken (suc d) (suc f) h = let all = deep d f (omega (arith, h)) in all.steps ts

deep_counted : (d f : ℕ) → d ≤ f → DeepCounted d (suc (suc d)) f
deep_counted d f h = record {
  at_spec = λ g names ts e. counted_steps (spec_at g names) ts (λ x y k. deep_spec_at x (suc (suc x)) y (deep_depths x y k) g names)
      (omega (arith, declaration_taken 0 names ts e, bind_shrinks (reader.declaration_at 1 names ts) (λ x. pure (g x)) (λ x us. omega arith))) d f h;
  at_case = λ names n ts some. counted_steps (case_at names n) ts (λ x y k. deep_case_at x (suc (suc x)) y (deep_depths x y k) names n) (case_taken names n ts some) d f h;
  at_default = λ n ts some. counted_steps (default_at n) ts (λ x y k. deep_default_at x (suc (suc x)) y n) (default_taken n ts some) d f h;
}
  where
    case_taken : (names : Names) (n : Spot) (ts : List Token) → length (skip ts) < length ts → length (left (case_at names n 1 ts)) < length ts
    case_taken names n ts some =
        let last : (e : ExprTree Spot) → Shrinks (take the_punct.Colon >> pure (case_label n e)) = (λ e. let one = deep_until {S = Never} the_punct.Colon (case_label n e) in one.shrinks) in
        omega (arith, some, expr_shrinks names 1 3 (omega arith) (omega arith) (skip ts), bind_shrinks ((readers names 1).expr 3 (skip ts)) (λ e. take the_punct.Colon >> pure (case_label n e)) last)

    default_taken : (n : Spot) (ts : List Token) → length (skip ts) < length ts → length (left (default_at n 1 ts)) < length ts
    default_taken n ts some = let one = deep_until {S = Never} the_punct.Colon (default_label n) in omega (arith, some, one.shrinks (skip ts))

abbrev is_other : StmtStart → Bool
is_other begins_other = true
is_other _ = false

stmt_some : (ts : List Token) (st : StmtStart) → stmt_start ts ≡ st → is_other st ≡ false → length (skip ts) < length ts
stmt_some [] st e h = absurd (let no : is_other begins_other ≡ false = ap is_other e ∙ h in cc)
stmt_some (t ∷ ts) st e h = omega arith

-- behind the first token
abbrev behind_by : (Names → Parser (StmtTree Spot)) → ℕ → StmtStart → Names → Spot → Parser (StmtTree Spot)
behind_by i d begins_block names n = (λ is. compound (block n (gathered_items is))) <$> reader.items i d names
behind_by i d begins_empty names n = pure (empty n)
behind_by i d begins_if names n = reader.condition i d names >>= (λ e. i names >>= reader.else_behind i d names n e)
behind_by i d begins_switch names n = reader.condition i d names >>= (λ e. switch n e <$> reader.body i d names)
behind_by i d begins_while names n = reader.condition i d names >>= (λ e. while_loop n e <$> i names)
behind_by i d begins_do names n = i names >>= (λ s. take_keyword the_keyword.While >> reader.condition i d (after_stmt s names) >>= (λ e. take the_punct.Semicolon >> pure (do_loop n s e)))
behind_by i d begins_for names n = take the_punct.LeftParen >> reader.start_clause i d names >>= reader.for_behind i d names n
behind_by i d begins_break names n = take the_punct.Semicolon >> pure (break n)
behind_by i d begins_continue names n = take the_punct.Semicolon >> pure (continue n)
behind_by i d begins_return names n = reader.clause_until i d names (next_is the_punct.Semicolon) >>= (λ e. take the_punct.Semicolon >> pure (return n e))
behind_by i d begins_case names n = refuse
behind_by i d begins_default names n = refuse
behind_by i d begins_other names n = refuse

module _ (x y z : Names → Parser (StmtTree Spot)) (a b c : ℕ) (good : DeepDepths a b c) (counted : DeepCounted a b c) (inner : (names : Names) → Deeper Never (x names) (y names) (z names)) where
  pub deep_body : (names : Names) → Deeper Never (reader.body x a names) (reader.body y b names) (reader.body z c names)
  deep_body names = deep_where (next_is the_punct.LeftBrace) (deep_bind (inner names) (λ s. deep_same (only_block_shrinks s))) deep_refuse

  deep_does : (names : Names) → Deeper Never (does <$> x names) (does <$> y names) (does <$> z names)
  deep_does names = deep_map_never does (inner names)

  label_steps : (st : StmtStart) (names : Names) (n : Spot) (ts : List Token) → stmt_start ts ≡ st → Steps Never (reader.label_by x a st names n ts) (reader.label_by y b st names n ts) (reader.label_by z c st names n ts)
  label_steps begins_case names n ts e = counted.at_case names n ts (stmt_some ts begins_case e refl)
  label_steps begins_default names n ts e = counted.at_default n ts (stmt_some ts begins_default e refl)
  label_steps begins_block names n ts e = let d = deep_does names in d.steps ts
  label_steps begins_empty names n ts e = let d = deep_does names in d.steps ts
  label_steps begins_if names n ts e = let d = deep_does names in d.steps ts
  label_steps begins_switch names n ts e = let d = deep_does names in d.steps ts
  label_steps begins_while names n ts e = let d = deep_does names in d.steps ts
  label_steps begins_do names n ts e = let d = deep_does names in d.steps ts
  label_steps begins_for names n ts e = let d = deep_does names in d.steps ts
  label_steps begins_break names n ts e = let d = deep_does names in d.steps ts
  label_steps begins_continue names n ts e = let d = deep_does names in d.steps ts
  label_steps begins_return names n ts e = let d = deep_does names in d.steps ts
  label_steps begins_other names n ts e = let d = deep_does names in d.steps ts

  label_shrinks : (st : StmtStart) (names : Names) (n : Spot) → Shrinks (reader.label_by y b st names n)
  label_shrinks begins_case names n = counted_shrinks (case_at names n) (λ e. let d = deep_case_at e e e (same_depths e) names n in d.shrinks) b
  label_shrinks begins_default names n = counted_shrinks (default_at n) (λ e. let d = deep_default_at e e e n in d.shrinks) b
  label_shrinks begins_block names n = let d = deep_does names in d.shrinks
  label_shrinks begins_empty names n = let d = deep_does names in d.shrinks
  label_shrinks begins_if names n = let d = deep_does names in d.shrinks
  label_shrinks begins_switch names n = let d = deep_does names in d.shrinks
  label_shrinks begins_while names n = let d = deep_does names in d.shrinks
  label_shrinks begins_do names n = let d = deep_does names in d.shrinks
  label_shrinks begins_for names n = let d = deep_does names in d.shrinks
  label_shrinks begins_break names n = let d = deep_does names in d.shrinks
  label_shrinks begins_continue names n = let d = deep_does names in d.shrinks
  label_shrinks begins_return names n = let d = deep_does names in d.shrinks
  label_shrinks begins_other names n = let d = deep_does names in d.shrinks

  spec_shrinks : {A : Type 0} (g : DeclarationTree Spot → A) (names : Names) → Shrinks (reader.counted_by b (spec_at g names))
  spec_shrinks g names = counted_shrinks (spec_at g names) (λ e. let d = deep_spec_at e e e (same_depths e) g names in d.shrinks) b

  -- where a declaration may come
  deep_where_spec : {A : Type 0} (g : DeclarationTree Spot → A) (names : Names) {u v w : Parser A} → Deeper Never u v w
      → Deeper Never (where_next (starts_spec names) (reader.counted_by a (spec_at g names)) u) (where_next (starts_spec names) (reader.counted_by b (spec_at g names)) v) (where_next (starts_spec names) (reader.counted_by c (spec_at g names)) w)
  deep_where_spec g names {u} {v} {w} others = record {
    steps = λ ts. steps_branch (starts_spec names ts) _ _ _ u v w ts (λ e. counted.at_spec g names ts e) (λ e. others.steps ts);
    shrinks = λ ts. branch_shrinks (starts_spec names ts) (reader.counted_by b (spec_at g names)) v ts (spec_shrinks g names ts) (others.shrinks ts);
  }

  deep_item : (names : Names) → Deeper Never (reader.item x a names) (reader.item y b names) (reader.item z c names)
  deep_item names = deep_where_spec declares names (record { steps = λ ts. label_steps (stmt_start ts) names (spot ts) ts refl; shrinks = λ ts. label_shrinks (stmt_start ts) names (spot ts) ts })

  deep_items_by : (turns : ℕ) (names : Names) → Deeper Never (reader.items_by x a turns names) (reader.items_by y b turns names) (reader.items_by z c turns names)
  deep_items_by zero names = deep_refuse
  deep_items_by (suc turns) names = deep_where (next_is the_punct.RightBrace) (deep_skipping (deep_pure [])) (deep_bind (deep_item names) (λ i. deep_map_never (λ is. i ∷ is) (deep_items_by turns (after_item i names))))

  deep_items : (names : Names) → Deeper Never (reader.items x a names) (reader.items y b names) (reader.items z c names)
  deep_items names = deep_turns suc (λ turns. deep_items_by turns names)

  deep_condition : (names : Names) → Deeper Never (reader.condition x a names) (reader.condition y b names) (reader.condition z c names)
  deep_condition names = deep_then (deep_bind (deep_take the_punct.LeftParen) (λ k. deep_expr a b c good names 1 (omega arith) (omega arith))) (λ e. deep_until the_punct.RightParen e)
      (λ e r h. halts_take the_punct.RightParen _ r (unbound the_punct.RightParen 1 r (omega arith) h))

  deep_else_behind : (names : Names) (n : Spot) (e : ExprTree Spot) (s : StmtTree Spot) → Deeper Never (reader.else_behind x a names n e s) (reader.else_behind y b names n e s) (reader.else_behind z c names n e s)
  deep_else_behind names n e s = deep_where (next_is_keyword the_keyword.Else) (deep_skipping (deep_map_never (if_else n e s) (inner (after_stmt s names)))) (deep_pure (if_then n e s))

  deep_clause_until : (names : Names) (ends : List Token → Bool) → Deeper (λ v. Binding 1) (reader.clause_until x a names ends) (reader.clause_until y b names ends) (reader.clause_until z c names ends)
  deep_clause_until names ends = deep_where ends (deep_pure None) (deep_map Some (deep_expr a b c good names 1 (omega arith) (omega arith)) (λ e r h. h))

  deep_start_expr_behind : (names : Names) → Deeper Never (reader.start_expr_behind x a names) (reader.start_expr_behind y b names) (reader.start_expr_behind z c names)
  deep_start_expr_behind names = deep_where (next_is the_punct.Semicolon) (deep_skipping (deep_pure no_start))
      (deep_then (deep_expr a b c good names 1 (omega arith) (omega arith)) (λ e. deep_until the_punct.Semicolon (start_expr e)) (λ e r h. halts_take the_punct.Semicolon _ r (unbound the_punct.Semicolon 1 r (omega arith) h)))

  deep_start_clause : (names : Names) → Deeper Never (reader.start_clause x a names) (reader.start_clause y b names) (reader.start_clause z c names)
  deep_start_clause names = deep_where_spec start_declaration names (deep_start_expr_behind names)

  deep_for_behind : (names : Names) (n : Spot) (start : StartTree Spot) → Deeper Never (reader.for_behind x a names n start) (reader.for_behind y b names n start) (reader.for_behind z c names n start)
  deep_for_behind names n start =
      let later = after_start start names in
      deep_then (deep_clause_until later (next_is the_punct.Semicolon))
      (λ test. deep_then (deep_bind (deep_take the_punct.Semicolon) (λ k. deep_clause_until later (next_is the_punct.RightParen)))
      (λ each. deep_bind (deep_take the_punct.RightParen) (λ k. deep_map_never (for_loop n start test each) (inner later)))
      (λ each r h. halts_take the_punct.RightParen _ r (unbound the_punct.RightParen 1 r (omega arith) h)))
      (λ test r h. halts_take_two the_punct.Semicolon _ _ r (unbound the_punct.Semicolon 1 r (omega arith) h))

  deep_behind_by : (st : StmtStart) (names : Names) (n : Spot) → Deeper Never (behind_by x a st names n) (behind_by y b st names n) (behind_by z c st names n)
  deep_behind_by begins_block names n = deep_map_never (λ is. compound (block n (gathered_items is))) (deep_items names)
  deep_behind_by begins_empty names n = deep_pure (empty n)
  deep_behind_by begins_if names n = deep_bind (deep_condition names) (λ e. deep_bind (inner names) (deep_else_behind names n e))
  deep_behind_by begins_switch names n = deep_bind (deep_condition names) (λ e. deep_map_never (switch n e) (deep_body names))
  deep_behind_by begins_while names n = deep_bind (deep_condition names) (λ e. deep_map_never (while_loop n e) (inner names))
  deep_behind_by begins_do names n = deep_bind (inner names) (λ s. deep_bind (deep_bind (deep_take_keyword the_keyword.While) (λ k. deep_condition (after_stmt s names))) (λ e. deep_until the_punct.Semicolon (do_loop n s e)))
  deep_behind_by begins_for names n = deep_bind (deep_bind (deep_take the_punct.LeftParen) (λ k. deep_start_clause names)) (deep_for_behind names n)
  deep_behind_by begins_break names n = deep_until the_punct.Semicolon (break n)
  deep_behind_by begins_continue names n = deep_until the_punct.Semicolon (continue n)
  deep_behind_by begins_return names n = deep_then (deep_clause_until names (next_is the_punct.Semicolon)) (λ e. deep_until the_punct.Semicolon (return n e)) (λ e r h. halts_take the_punct.Semicolon _ r (unbound the_punct.Semicolon 1 r (omega arith) h))
  deep_behind_by begins_case names n = deep_refuse
  deep_behind_by begins_default names n = deep_refuse
  deep_behind_by begins_other names n = deep_refuse

  deep_stmt_by : (st : StmtStart) (names : Names) (n : Spot) → Deeper Never (reader.stmt_by x a st names n) (reader.stmt_by y b st names n) (reader.stmt_by z c st names n)
  deep_stmt_by begins_block names n = deep_skipping (deep_behind_by begins_block names n)
  deep_stmt_by begins_empty names n = deep_skipping (deep_behind_by begins_empty names n)
  deep_stmt_by begins_if names n = deep_skipping (deep_behind_by begins_if names n)
  deep_stmt_by begins_switch names n = deep_skipping (deep_behind_by begins_switch names n)
  deep_stmt_by begins_while names n = deep_skipping (deep_behind_by begins_while names n)
  deep_stmt_by begins_do names n = deep_skipping (deep_behind_by begins_do names n)
  deep_stmt_by begins_for names n = deep_skipping (deep_behind_by begins_for names n)
  deep_stmt_by begins_break names n = deep_skipping (deep_behind_by begins_break names n)
  deep_stmt_by begins_continue names n = deep_skipping (deep_behind_by begins_continue names n)
  deep_stmt_by begins_return names n = deep_skipping (deep_behind_by begins_return names n)
  deep_stmt_by begins_case names n = deep_refuse
  deep_stmt_by begins_default names n = deep_refuse
  deep_stmt_by begins_other names n = deep_then (deep_expr a b c good names 1 (omega arith) (omega arith)) (λ e. deep_until the_punct.Semicolon (plain n e)) (λ e r h. halts_take the_punct.Semicolon _ r (unbound the_punct.Semicolon 1 r (omega arith) h))

  pub deep_stmt_at : (names : Names) → Deeper Never (λ ts. reader.stmt_by x a (stmt_start ts) names (spot ts) ts) (λ ts. reader.stmt_by y b (stmt_start ts) names (spot ts) ts) (λ ts. reader.stmt_by z c (stmt_start ts) names (spot ts) ts)
  deep_stmt_at names = deep_view stmt_start (λ st. deep_view spot (λ n. deep_stmt_by st names n))

-- ---- A statement of each depth

stmt_shrinks : (d : ℕ) (names : Names) → Shrinks (reader.stmt d names)
stmt_shrinks zero names ts = omega arith
stmt_shrinks (suc d) names ts =
    let rest : (m : Names) → Deeper Never (reader.stmt d m) (reader.stmt d m) (reader.stmt d m) = (λ m. deep_same (stmt_shrinks d m)) in
    let all = deep_stmt_at (reader.stmt d) (reader.stmt d) (reader.stmt d) d d d (same_depths d) (same_counted d) rest names in
    all.shrinks ts

module _ (names : Names) (f : ℕ) (ts : List Token) where
  abbrev First : Type 0
  First = Steps Never (Err ts) (reader.stmt 2 names ts) (reader.stmt f names ts)

  none_begins : ((d : ℕ) → reader.stmt d names ts ≡ Err ts) → First
  none_begins h = steps_same (h 2) (h f)

  expr_begins : stmt_start ts ≡ begins_other → Opening names 1 ts → First
  expr_begins e (inl h) = none_begins refused_stmt
    where
      refused_stmt : (d : ℕ) → reader.stmt d names ts ≡ Err ts
      refused_stmt zero = refl
      refused_stmt (suc d) = ap (λ st. reader.stmt_by (reader.stmt d) d st names (spot ts) ts) e ∙ ap (λ o. and_then o (λ x. take the_punct.Semicolon >> pure (plain (spot ts) x))) (refused_at names 1 ts h d)
  expr_begins e (inr h) =
      let same : length (left (reader.stmt 2 names ts)) ≡ length (left (and_then ((readers names 1).expr 1 ts) (λ x. take the_punct.Semicolon >> pure (plain (spot ts) x)))) = ap (λ st. length (left (reader.stmt_by (reader.stmt 1) 1 st names (spot ts) ts))) e in
      refused ts _ _ (omega (arith, same, h (readers names 0) 0 (same_readers names 0), bind_shrinks ((readers names 1).expr 1 ts) (λ x. take the_punct.Semicolon >> pure (plain (spot ts) x)) (λ x. let one = deep_until {S = Never} the_punct.Semicolon (plain (spot ts) x) in one.shrinks)))

  -- a first token that is taken
  token_begins : (st : StmtStart) → stmt_start ts ≡ st → length (skip ts) < length ts → length (left (reader.stmt_by (reader.stmt 1) 1 st names (spot ts) ts)) ≤ length (skip ts) → First
  token_begins st e some h =
      let same : length (left (reader.stmt 2 names ts)) ≡ length (left (reader.stmt_by (reader.stmt 1) 1 st names (spot ts) ts)) = ap (λ s. length (left (reader.stmt_by (reader.stmt 1) 1 s names (spot ts) ts))) e in
      refused ts _ _ (omega (arith, same, some, h))

  behind_shrinks : (st : StmtStart) → length (left (behind_by (reader.stmt 1) 1 st names (spot ts) (skip ts))) ≤ length (skip ts)
  behind_shrinks st =
      let rest : (m : Names) → Deeper Never (reader.stmt 1 m) (reader.stmt 1 m) (reader.stmt 1 m) = (λ m. deep_same (stmt_shrinks 1 m)) in
      let all = deep_behind_by (reader.stmt 1) (reader.stmt 1) (reader.stmt 1) 1 1 1 (same_depths 1) (same_counted 1) rest st names (spot ts) in
      all.shrinks (skip ts)

  first_by : (st : StmtStart) → stmt_start ts ≡ st → First
  first_by begins_case e = none_begins refused_stmt
    where
      refused_stmt : (d : ℕ) → reader.stmt d names ts ≡ Err ts
      refused_stmt zero = refl
      refused_stmt (suc d) = ap (λ st. reader.stmt_by (reader.stmt d) d st names (spot ts) ts) e
  first_by begins_default e = none_begins refused_stmt
    where
      refused_stmt : (d : ℕ) → reader.stmt d names ts ≡ Err ts
      refused_stmt zero = refl
      refused_stmt (suc d) = ap (λ st. reader.stmt_by (reader.stmt d) d st names (spot ts) ts) e
  first_by begins_other e = expr_begins e (opening names 1 ts)
  first_by begins_block e = token_begins begins_block e (stmt_some ts begins_block e refl) (behind_shrinks begins_block)
  first_by begins_empty e = token_begins begins_empty e (stmt_some ts begins_empty e refl) (behind_shrinks begins_empty)
  first_by begins_if e = token_begins begins_if e (stmt_some ts begins_if e refl) (behind_shrinks begins_if)
  first_by begins_switch e = token_begins begins_switch e (stmt_some ts begins_switch e refl) (behind_shrinks begins_switch)
  first_by begins_while e = token_begins begins_while e (stmt_some ts begins_while e refl) (behind_shrinks begins_while)
  first_by begins_do e = token_begins begins_do e (stmt_some ts begins_do e refl) (behind_shrinks begins_do)
  first_by begins_for e = token_begins begins_for e (stmt_some ts begins_for e refl) (behind_shrinks begins_for)
  first_by begins_break e = token_begins begins_break e (stmt_some ts begins_break e refl) (behind_shrinks begins_break)
  first_by begins_continue e = token_begins begins_continue e (stmt_some ts begins_continue e refl) (behind_shrinks begins_continue)
  first_by begins_return e = token_begins begins_return e (stmt_some ts begins_return e refl) (behind_shrinks begins_return)

deep_stmt : (d f : ℕ) → d ≤ f → (names : Names) → Deeper Never (reader.stmt d names) (reader.stmt (suc (suc d)) names) (reader.stmt f names)
deep_stmt zero f h names = record { steps = λ ts. first_by names f ts (stmt_start ts) refl; shrinks = stmt_shrinks 2 names }
deep_stmt (suc d) zero h names = absurd (omega (arith, h))
deep_stmt (suc d) (suc f) h names =
    let low : d ≤ f = omega (arith, h) in
    deep_stmt_at (reader.stmt d) (reader.stmt (suc (suc d))) (reader.stmt f) d (suc (suc d)) f (deep_depths d f low) (deep_counted d f low) (deep_stmt d f low) names

-- ---- Files

module _ (d f : ℕ) (h : d ≤ f) where
  behind_halts : (names : Names) (n : Spot) (ss : SpecTrees Spot) (e : DeclTree Spot) (r : List Token) → Further r → Halts Never (reader.external_behind d names n ss e r) r
  behind_halts names n ss e r k =
      halts_else (next_is the_punct.LeftBrace) _ _ r k.no_brace
      (halts_bind {S = λ is. Unended} (reader.inits d (has_typedef ss) names e r) (λ is. take the_punct.Semicolon >> pure (outer_declaration (declaration n ss is))) r (inits_halt d (has_typedef ss) (suc (length r)) names e r k)
      (λ is u. halts_take the_punct.Semicolon _ r u))

  deep_external_behind : (names : Names) (n : Spot) (ss : SpecTrees Spot) (e : DeclTree Spot) → Deeper Never (reader.external_behind d names n ss e) (reader.external_behind (suc (suc d)) names n ss e) (reader.external_behind f names n ss e)
  deep_external_behind names n ss e =
      deep_where (next_is the_punct.LeftBrace)
      (deep_map_never (definition (reader.spot_or e n) ss e) (deep_body (reader.stmt d) (reader.stmt (suc (suc d))) (reader.stmt f) d (suc (suc d)) f (deep_depths d f h) (deep_counted d f h) (deep_stmt d f h) names))
      (deep_then (deep_inits d (suc (suc d)) f (deep_depths d f h) (has_typedef ss) names e) (λ is. deep_until the_punct.Semicolon (outer_declaration (declaration n ss is))) (λ is r u. halts_take the_punct.Semicolon _ r u))

  deep_external : (names : Names) → Deeper Never (reader.external d names) (reader.external (suc (suc d)) names) (reader.external f names)
  deep_external names = deep_placed (λ n. deep_bind (deep_specs d (suc (suc d)) f (deep_depths d f h) names) (λ ss. deep_where (next_is the_punct.Semicolon)
      (deep_skipping (deep_pure (outer_declaration (declaration n ss []))))
      (deep_then (deep_named d (suc (suc d)) f (deep_depths d f h) names) (deep_external_behind names n ss) (behind_halts names n ss))))

  deep_externals : (turns : ℕ) (names : Names) → Deeper Never (reader.externals_by d turns names) (reader.externals_by (suc (suc d)) turns names) (reader.externals_by f turns names)
  deep_externals zero names = deep_refuse
  deep_externals (suc turns) names = deep_where reader.ended (deep_pure []) (deep_bind (deep_external names) (λ x. deep_map_never (λ xs. x ∷ xs) (deep_externals turns (after_external x names))))

  -- Reading files at a depth, at one two greater and at any other that is greater.
  pub reading_steps : (ts : List Token) → Steps Never (reader.reading d ts) (reader.reading (suc (suc d)) ts) (reader.reading f ts)
  unfolding reader.reading
  reading_steps ts = let all = deep_turns suc (λ turns. deep_externals turns []) in all.steps ts
