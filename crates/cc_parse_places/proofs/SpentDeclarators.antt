-- Declarators that are begun are taken.
use Rattle.std.proofs.Common.{◌≡◌, ◌≤◌, ◌<◌, ◌+◌, refl, ℕ, zero, suc, Bool, true, false, List, [], Some, None, arith, sym, ap, subst, ◌∙◌, ◌⊎◌, inl, inr}
use Rattle.std.specs.Prelude.{◌&&◌, ◌==◌, nat_lt}
use Rattle.std.proofs.lemmas.Bool.{lt-ltb, and_from, or_left, or_right}
use Rattle.cc_base.specs.declared.place.Spot.{Spot}
use Rattle.cc_lex.specs.declared.token.Token.{Token}
use Rattle.cc_lex.specs.declared.token.TokenKind.{TokenKind}
use Rattle.cc_lex.specs.declared.token.TokenKind.TheVariants as kind
use Rattle.cc_lex.specs.declared.keyword.Keyword.TheVariants as the_keyword
use Rattle.cc_lex.specs.declared.punct.Punct.TheVariants as the_punct
use Rattle.cc_base.specs.Spots as spots
use Rattle.cc_tree.specs.Trees.{Name, name, ExprOption, no_expr, an_expr, TypeTrees, DeclTree, declared, nameless, pointer, array, function, grouped}
use Rattle.cc_tree.specs.Views.{gathered_types}
use Rattle.cc_tree.specs.Depth.{declarator_depth}
use Rattle.cc_grammar.specs.Levels.{level}
use Rattle.cc_grammar.specs.Names.{Names, is_type}
use Rattle.cc_grammar.specs.Outline.{Outline, end, token, part, ◌▸◌}
use Rattle.cc_grammar.specs.Outlines as outlines
use Rattle.cc_grammar.specs.Classes.{next_is, next_is_keyword, is_punct, skip, spot, starts_spec}
use Rattle.cc_grammar.specs.Outcomes.{Parser, and_then, take, pure, refuse, ◌<$>◌, ◌>>=◌, ◌>>◌}
use Rattle.cc_grammar.specs.Reading.{Inner, Mode, with_name, without_name, with_or_without, spot_or, opening, opposite, begins_parameters, declarator, direct, group, nothing, written_only, consts, suffix, suffixes, suffix_comes, array_length, parameters, where_next, skipping, placed}
use Rattle.cc_parse_laws.proofs.Spans.{Inside, Reads}
use Rattle.cc_parse_laws.proofs.Steps.{branch_true, branch_false}
use Rattle.cc_parse_laws.proofs.Lists.{takes}
use Rattle.cc_parse_laws.proofs.Peeks.{punct_ident, punct_other}
use Rattle.cc_parse_laws.proofs.NextTokens.{NextKind, kind_reads}
use Rattle.cc_parse_laws.proofs.Inner.{ReadsDeclarator, CompleteInner, Suits}
use Rattle.cc_parse_laws.proofs.Firsts.{inside_sinks, opens_not}
use Rattle.cc_parse_laws.proofs.FirstDeclarators.{no_const}
use Rattle.cc_parse_laws.proofs.Climbs.{bound, not_zero}
use Rattle.cc_parse_laws.proofs.Grows.{Suffixed, no_star, left_depth}
use Rattle.cc_parse_laws.proofs.SoundDeclarators.{suits_too}
use Rattle.cc_parse_laws.proofs.CompleteDeclarators.{consts_again, length_again, group_begins, no_name_comes, name_comes, group_comes, by_name, group_or, is_grown, declarator_again}
use Rattle.cc_parse_places.proofs.Begun.{Begun, at}
use Rattle.cc_parse_places.proofs.Spent.{Spent, spent_bind, spent_map, spent_branch, spent_is, HasNext, no_next, Within, token_elim, part_elim, last_within, begun_sinks, at_kind, next_kind_punct}
use Rattle.cc_parse_places.proofs.SpentFirsts.{begun_opens}
use Rattle.cc_parse_places.proofs.SpentExpressions.{SpentInner}
use Rattle.cc_parse_places.proofs.SpentTypes.{by_next, begun_declarator, declarator_nil, parameters_spent, parameters_ahead}

-- fewer `const` are some too
consts_there : (c d : ℕ) (ts : List Token) → Begun (outlines.consts c) d ts [] → (n : ℕ) × Reads (outlines.consts n) d ts []
consts_there zero d ts x = (0, x.cut)
consts_there (suc c) d ts x = token_elim ts x (λ e. (0, e)) (λ h next st rest. let q = consts_there c d (skip ts) rest in (suc q.0, kind_reads (Unit {0}) (kind.Keyword the_keyword.Const) None (outlines.consts q.0) d ts [] next tt st q.1))

star_not : (x : TokenKind) (ts : List Token) → is_punct the_punct.Star x ≡ false → NextKind x ts → next_is the_punct.Star ts ≡ false
star_not x ts e next = at_kind (next_is the_punct.Star) (is_punct the_punct.Star) (λ t us. refl) x ts next ∙ e

unwritten : (f : DeclTree Spot) → outlines.is_written f ≡ false → f ≡ nameless
unwritten nameless e = refl
unwritten (declared n x) e = absurd cc
unwritten (pointer n c f) e = absurd cc
unwritten (array n f l) e = absurd cc
unwritten (function n f ps) e = absurd cc
unwritten (grouped n f) e = absurd cc

module _ (names : Names) (inner : Inner) (d : ℕ) (good : CompleteInner names inner d) (spent : SpentInner names inner d) where
  abbrev Taken : Mode → List Token → Type 0
  Taken mode ts = Spent (declarator names inner (suc d) mode ts)

  abbrev IsTaken : DeclTree Spot → Type 0
  IsTaken f = (mode : Mode) (ts : List Token) → Suits mode f → Begun (outlines.declarator names f) d ts [] → Taken mode ts

  abbrev pointer_behind : Mode → Parser (DeclTree Spot)
  pointer_behind mode = placed (λ n. skipping (consts names inner (suc d) >>= (λ c. (λ e. pointer (opening e n) c e) <$> inner.declarator mode)))

  abbrev direct_behind : Mode → Parser (DeclTree Spot)
  direct_behind mode = direct names inner (suc d) mode >>= suffixes names inner (suc d) (suc d)

  not_star : (mode : Mode) (ts : List Token) → next_is the_punct.Star ts ≡ false → Spent (direct_behind mode ts) → Taken mode ts
  not_star mode ts e s =
      spent_is _ _ (branch_false (suc d == 0) (nothing names inner (suc d) mode) (where_next (next_is the_punct.Star) (pointer_behind mode) (direct_behind mode)) ts (not_zero d) ∙ branch_false (next_is the_punct.Star ts) (pointer_behind mode) (direct_behind mode) ts e) s

  suffixes_nil : (turns : ℕ) (left : DeclTree Spot) → Spent (suffixes names inner (suc d) turns left [])
  suffixes_nil zero left = refl
  suffixes_nil (suc turns) left = refl

  nil_taken : (mode : Mode) (ts : List Token) → ts ≡ [] → Taken mode ts
  nil_taken mode ts e = subst (Taken mode) (sym e) (not_star mode [] refl (by mode))
    where
      by : (mode : Mode) → Spent (direct_behind mode [])
      by with_name = refl
      by without_name = suffixes_nil (suc d) nameless
      by with_or_without = suffixes_nil (suc d) nameless

  whole : (mode : Mode) (f : DeclTree Spot) (ts : List Token) → Suits mode f → ReadsDeclarator names (suc d) f ts [] → Taken mode ts
  whole mode f ts suits y = spent_is _ _ (declarator_again names inner d good mode f ts [] suits y (record { no_bracket = refl; no_paren = refl; no_star = refl; no_name = refl; no_const = refl })) refl

  -- ---- A name, a pointer, parentheses

  take_declared : (n : Spot) (x : Name) → IsTaken (declared n x)
  take_declared n x mode ts suits y = token_elim ts y (nil_taken mode ts) (λ h next st rest. whole mode (declared n x) ts suits (kind_reads (is_type names x ≡ false) (kind.Identifier x) (Some n) end d ts [] next h st rest.cut))

  consts_taken : (c : ℕ) (ts : List Token) → Within false (Unit {0}) (outlines.consts c) d ts → Spent (consts names inner (suc d) ts)
  consts_taken c ts (inl e) = spent_is _ _ (consts_again names inner d 0 ts [] e refl) refl
  consts_taken c ts (inr z) = let q = consts_there c d ts z.1 in spent_is _ _ (consts_again names inner d q.0 ts [] q.1 refl) refl

  const_not : {h : Type 0} (f : DeclTree Spot) (m : List Token) → HasNext m → Within (outlines.is_written f) h (outlines.declarator names f) d m → next_is_keyword the_keyword.Const m ≡ false
  const_not f m more (inl e) = no_next m more e
  const_not f m more (inr z) = no_const names m (begun_declarator names f d m more (begun_sinks (outlines.is_written f) (outlines.declarator names f) d m [] z.1)).no_spec

  suited : {h : Type 0} (mode : Mode) (f : DeclTree Spot) (m : List Token) → Suits mode f → Within (outlines.is_written f) h (outlines.declarator names f) d m → Within (outlines.is_written f) (Suits mode f) (outlines.declarator names f) d m
  suited mode f m suits (inl e) = inl e
  suited mode f m suits (inr z) = inr (suits, z.1)

  star_taken : (mode : Mode) (c : ℕ) (f : DeclTree Spot) (at : Spot) (ts : List Token) → Suits mode f → Begun (outlines.within (outlines.consts c) ▸ outlines.any_one f (outlines.declarator names f) ▸ end) d ts [] → Spent (and_then (consts names inner (suc d) ts) (λ c. (λ e. pointer (opening e at) c e) <$> inner.declarator mode))
  star_taken mode c f at ts suits x =
      part_elim ts x (λ w. spent_bind (consts names inner (suc d) ts) _ (consts_taken c ts w) (λ y. spent_map (inner.declarator mode []) _ (declarator_nil names inner d good spent mode)))
      (λ m more u y rest. let w = last_within m rest in
      spent_is _ _ (bound (λ q. (λ e. pointer (opening e at) q e) <$> inner.declarator mode) (consts names inner (suc d) ts) c m (consts_again names inner d c ts m y (const_not f m more w)))
      (spent_map (inner.declarator mode m) (λ e. pointer (opening e at) c e) (spent.declarator mode f m (suited mode f m suits w))))

  take_pointer : (n : Spot) (c : ℕ) (f : DeclTree Spot) → IsTaken (pointer n c f)
  take_pointer n c f mode ts suits y = by (last_within ts y)
    where
      by : Within false (outlines.ClosesOver f n) (token (Unit {0}) (kind.Punct the_punct.Star) (outlines.opening_spot f n) ▸ outlines.within (outlines.consts c) ▸ outlines.any_one f (outlines.declarator names f) ▸ end) d ts → Taken mode ts
      by (inl e) = nil_taken mode ts e
      by (inr z) = token_elim ts z.1 (nil_taken mode ts) (λ h next st rest.
          spent_is _ _ (branch_false (suc d == 0) (nothing names inner (suc d) mode) (where_next (next_is the_punct.Star) (pointer_behind mode) (direct_behind mode)) ts (not_zero d) ∙ branch_true (next_is the_punct.Star ts) (pointer_behind mode) (direct_behind mode) ts (next_kind_punct the_punct.Star ts next))
          (star_taken mode c f (spot ts) (skip ts) (suits_too mode (pointer n c f) f refl suits) rest))

  -- what is begun in parentheses
  group_taken : (mode : Mode) (f : DeclTree Spot) (ts : List Token) → Suits mode f → NextKind (kind.Punct the_punct.LeftParen) ts → next_is the_punct.RightParen (skip ts) ≡ false → starts_spec names (skip ts) ≡ false
      → Within (outlines.is_written f) (Suits mode f) (outlines.declarator names f) d (skip ts) → Taken mode ts
  group_taken mode f ts suits next a b w =
      let opening_next = next_kind_punct the_punct.LeftParen ts next in
      not_star mode ts (star_not (kind.Punct the_punct.LeftParen) ts refl next)
      (spent_bind (direct names inner (suc d) mode ts) _
      (spent_is _ _
      (branch_false (name_comes names inner d mode ts) (by_name names inner d) (group_or names inner d mode) ts (no_name_comes names inner d mode ts (punct_ident the_punct.LeftParen ts opening_next))
      ∙ branch_true (group_comes names inner d mode ts) (group names inner (suc d) mode) (nothing names inner (suc d) mode) ts
      (and_from (next_is the_punct.LeftParen ts) (opposite (begins_parameters names inner (suc d) mode ts)) opening_next (ap opposite (group_begins names inner d mode ts a b))))
      (spent_bind (and_then (inner.declarator mode (skip ts)) (written_only names inner (suc d))) _
      (spent_bind (inner.declarator mode (skip ts)) _ (spent.declarator mode f (skip ts) w) (λ y. spent_branch (outlines.is_written y) (pure y) refuse [] (λ e. refl) (λ e. refl)))
      (λ y. refl)))
      (suffixes_nil (suc d)))

  paren_alone : (mode : Mode) (f : DeclTree Spot) (ts : List Token) → Suits mode f → NextKind (kind.Punct the_punct.LeftParen) ts → skip ts ≡ [] → Taken mode ts
  paren_alone mode f ts suits next e = group_taken mode f ts suits next (ap (next_is the_punct.RightParen) e) (ap (starts_spec names) e) (inl e)

  paren_with : {h : Type 0} (mode : Mode) (f : DeclTree Spot) (ts : List Token) → Suits mode f → NextKind (kind.Punct the_punct.LeftParen) ts → Within (outlines.is_written f) h (outlines.declarator names f) d (skip ts) → Taken mode ts
  paren_with mode f ts suits next (inl e) = paren_alone mode f ts suits next e
  paren_with mode f ts suits next (inr z) =
      by_next (skip ts) (paren_alone mode f ts suits next) (λ more.
      let x = begun_declarator names f d (skip ts) more (begun_sinks (outlines.is_written f) (outlines.declarator names f) d (skip ts) [] z.1) in
      group_taken mode f ts suits next x.no_close x.no_spec (inr (suits, z.1)))

  take_grouped : (n : Spot) (f : DeclTree Spot) → IsTaken (grouped n f)
  take_grouped n f mode ts suits y = by (last_within ts y)
    where
      rest_of : Outline
      rest_of = part (outlines.is_written f) (outlines.is_written f ≡ true) (outlines.declarator names f) (outlines.punct the_punct.RightParen end)

      by : Within false (outlines.ClosesOver f n) (token (Unit {0}) (kind.Punct the_punct.LeftParen) (outlines.opening_spot f n) ▸ part (outlines.is_written f) (outlines.is_written f ≡ true) (outlines.declarator names f) ▸ outlines.punct the_punct.RightParen ▸ end) d ts → Taken mode ts
      by (inl e) = nil_taken mode ts e
      by (inr z) = token_elim ts z.1 (nil_taken mode ts) (λ h next st rest.
          part_elim (skip ts) rest (paren_with mode f ts (suits_too mode (grouped n f) f refl suits) next)
          (λ m more written q others. token_elim m others (no_next m more) (λ u last_next s last.
          whole mode (grouped n f) ts suits (
            [],
            z.0,
            kind_reads (Unit {0}) (kind.Punct the_punct.LeftParen) (outlines.opening_spot f n) (part (outlines.is_written f) (outlines.is_written f ≡ true) (outlines.declarator names f) (outlines.punct the_punct.RightParen end)) d ts [] next tt st
                (m, written, q, kind_reads (Unit {0}) (kind.Punct the_punct.RightParen) None end d m [] last_next tt tt last.cut),
            refl,
          ))))

  -- ---- Suffixes

  suffix_taken : (mode : Mode) (turns : ℕ) (ts : List Token) (a : DeclTree Spot) (m : List Token) → suc d ≤ turns + declarator_depth a → and_then (direct names inner (suc d) mode ts) (suffixes names inner (suc d) (suc d)) ≡ suffixes names inner (suc d) turns a m
      → suffix_comes names inner (suc d) m ≡ true → declarator_depth a < suc d → Spent (suffix names inner (suc d) a m) → Spent (direct_behind mode ts)
  suffix_taken mode zero ts a m enough same comes h s = absurd (omega (arith, enough, h))
  suffix_taken mode (suc turns) ts a m enough same comes h s =
      spent_is _ _ (same ∙ branch_true (suffix_comes names inner (suc d) m && nat_lt (declarator_depth a) (suc d)) (suffix names inner (suc d) a >>= suffixes names inner (suc d) turns) (pure a) m (and_from (suffix_comes names inner (suc d) m) (nat_lt (declarator_depth a) (suc d)) comes (lt-ltb _ _ h)))
      (spent_bind (suffix names inner (suc d) a m) _ s (suffixes_nil turns))

  behind_left : (mode : Mode) (a : DeclTree Spot) (ts m : List Token) → Suits mode a → outlines.is_direct a ≡ true → ReadsDeclarator names d a ts m → (outlines.is_written a ≡ false → Suffixed names m) → next_is the_punct.Star m ≡ false → suffix_comes names inner (suc d) m ≡ true
      → Spent (suffix names inner (suc d) a m) → Taken mode ts
  behind_left mode a ts m suits direct_one y follows star comes s =
      let here = inside_sinks (outlines.is_written a) (outlines.declarator names a) d ts m y in
      let g = is_grown names inner d good a direct_one mode ts m suits here follows in
      not_star mode ts (no_star names a d ts m direct_one here star) (suffix_taken mode g.turns ts a m g.enough g.same comes (left_depth names a d ts m y) s)

  left_taken : {h : Type 0} (mode : Mode) (a : DeclTree Spot) (ts : List Token) → Suits mode a → IsTaken a → Within (outlines.is_written a) h (outlines.declarator names a) d ts → Taken mode ts
  left_taken mode a ts suits taken (inl e) = nil_taken mode ts e
  left_taken mode a ts suits taken (inr z) = taken mode ts suits (begun_sinks (outlines.is_written a) (outlines.declarator names a) d ts [] z.1)

  length_nil : (ts : List Token) → ts ≡ [] → Spent (array_length names inner (suc d) ts)
  length_nil ts e = subst (λ us. Spent (array_length names inner (suc d) us)) (sym e) (spent_bind (inner.expr 3 []) _ (spent.expr 3 (name spots.start []) [] (omega arith) (inl refl)) (λ y. refl))

  length_in : (e : ExprOption Spot) (ts : List Token) → Within false (Unit {0}) (outlines.length_of names e) d ts → Spent (array_length names inner (suc d) ts)
  length_in e ts (inl z) = length_nil ts z
  length_in no_expr ts (inr z) = let x = z.1 in length_nil ts x.cut
  length_in (an_expr e) ts (inr z) = by (last_within ts z.1)
    where
      by : Within true (3 ≤ level e) (outlines.expr names e) d ts → Spent (array_length names inner (suc d) ts)
      by (inl y) = length_nil ts y
      by (inr y) = by_next ts (length_nil ts) (λ more.
          spent_is _ _ (branch_false (next_is the_punct.RightBracket ts) (skipping (pure no_expr)) (inner.expr 3 >>= (λ f. take the_punct.RightBracket >> pure (an_expr f))) ts (opens_not names the_punct.RightBracket ts refl (begun_opens names e d ts more (begun_sinks true (outlines.expr names e) d ts [] y.1))))
          (spent_bind (inner.expr 3 ts) _ (spent.expr 3 e ts (omega arith) (inr y)) (λ q. refl)))

  length_spent : (e : ExprOption Spot) (ts : List Token) → Begun (outlines.within (outlines.length_of names e) ▸ outlines.punct the_punct.RightBracket ▸ end) d ts [] → Spent (array_length names inner (suc d) ts)
  length_spent e ts x =
      part_elim ts x (length_in e ts)
      (λ m more u y rest. token_elim m rest (no_next m more) (λ v next st last. let c = next_kind_punct the_punct.RightBracket m next in spent_is _ _ (length_again names inner d good e ts m y c (takes the_punct.RightBracket m c)) last.cut))

  abbrev array_behind : DeclTree Spot → Spot → Parser (DeclTree Spot)
  array_behind a at = skipping (array (spot_or a at) a <$> array_length names inner (suc d))

  abbrev function_behind : DeclTree Spot → Spot → Parser (DeclTree Spot)
  function_behind a at = skipping ((λ ps. function (spot_or a at) a (gathered_types ps)) <$> parameters names inner (suc d))

  take_array : (n : Spot) (a : DeclTree Spot) (e : ExprOption Spot) → IsTaken a → IsTaken (array n a e)
  take_array n a e ta mode ts suits y = by (last_within ts y)
    where
      by : Within false (outlines.HasSpot a n) (part (outlines.is_written a) (outlines.is_direct a ≡ true) (outlines.declarator names a) ▸ token (Unit {0}) (kind.Punct the_punct.LeftBracket) (outlines.suffix_spot a n) ▸ outlines.within (outlines.length_of names e) ▸ outlines.punct the_punct.RightBracket ▸ end) d ts → Taken mode ts
      by (inl z) = nil_taken mode ts z
      by (inr z) = let su = suits_too mode (array n a e) a refl suits in
          part_elim ts z.1 (left_taken mode a ts su ta)
          (λ m more h q rest. token_elim m rest (no_next m more) (λ u next st right. let c = next_kind_punct the_punct.LeftBracket m next in
          behind_left mode a ts m su h q (λ f. record { no_name = punct_ident the_punct.LeftBracket m c; paren = λ yes. absurd (let no : next_is the_punct.LeftParen m ≡ false = punct_other the_punct.LeftParen the_punct.LeftBracket m refl c in cc) }) (star_not (kind.Punct the_punct.LeftBracket) m refl next)
          (or_left (next_is the_punct.LeftBracket m) (next_is the_punct.LeftParen m) c)
          (spent_is _ _ (branch_true (next_is the_punct.LeftBracket m) (array_behind a (spot m)) (function_behind a (spot m)) m c) (spent_map (array_length names inner (suc d) (skip m)) _ (length_spent e (skip m) right)))))

  -- parameters, and something of them there or a declarator that is written before them
  params_taken : (mode : Mode) (a : DeclTree Spot) (us : TypeTrees Spot) (ts m : List Token) → Suits mode a → outlines.is_direct a ≡ true → ReadsDeclarator names d a ts m → NextKind (kind.Punct the_punct.LeftParen) m → (outlines.is_written a ≡ false → HasNext (skip m))
      → Begun (outlines.within (outlines.parameters names us) ▸ outlines.punct the_punct.RightParen ▸ end) d (skip m) [] → Taken mode ts
  params_taken mode a us ts m suits h q next some right =
      let c = next_kind_punct the_punct.LeftParen m next in
      behind_left mode a ts m suits h q (λ f. record { no_name = punct_ident the_punct.LeftParen m c; paren = λ yes. parameters_ahead names inner d good spent us (skip m) (some f) right }) (star_not (kind.Punct the_punct.LeftParen) m refl next)
      (or_right (next_is the_punct.LeftBracket m) (next_is the_punct.LeftParen m) c)
      (spent_is _ _ (branch_false (next_is the_punct.LeftBracket m) (array_behind a (spot m)) (function_behind a (spot m)) m (punct_other the_punct.LeftBracket the_punct.LeftParen m refl c)) (spent_map (parameters names inner (suc d) (skip m)) _ (parameters_spent names inner d good spent us (skip m) right)))

  take_function : (n : Spot) (a : DeclTree Spot) (us : TypeTrees Spot) → IsTaken a → IsTaken (function n a us)
  take_function n a us ta mode ts suits y = by (last_within ts y)
    where
      su : Suits mode a
      su = suits_too mode (function n a us) a refl suits

      alone : (b : Bool) → outlines.is_written a ≡ b → (m : List Token) → outlines.is_direct a ≡ true → ReadsDeclarator names d a ts m → NextKind (kind.Punct the_punct.LeftParen) m → Begun (outlines.within (outlines.parameters names us) ▸ outlines.punct the_punct.RightParen ▸ end) d (skip m) [] → Taken mode ts
      alone true e m h q next right = params_taken mode a us ts m su h q next (λ f. absurd cc) right
      alone false e m h q next right =
          let none = unwritten a e in
          let here : ts ≡ m = subst (λ g. ReadsDeclarator names d g ts m) none q in
          by_next (skip m)
          (λ z. paren_alone mode nameless ts (subst (Suits mode) none su) (subst (NextKind (kind.Punct the_punct.LeftParen)) (sym here) next) (ap skip here ∙ z))
          (λ more. params_taken mode a us ts m su h q next (λ f. more) right)

      by : Within false (outlines.HasSpot a n) (part (outlines.is_written a) (outlines.is_direct a ≡ true) (outlines.declarator names a) ▸ token (Unit {0}) (kind.Punct the_punct.LeftParen) (outlines.suffix_spot a n) ▸ outlines.within (outlines.parameters names us) ▸ outlines.punct the_punct.RightParen ▸ end) d ts → Taken mode ts
      by (inl z) = nil_taken mode ts z
      by (inr z) = part_elim ts z.1 (left_taken mode a ts su ta) (λ m more h q rest. token_elim m rest (no_next m more) (λ u next st right. alone (outlines.is_written a) refl m h q next right))

  -- ---- All declarators

  is_taken : (f : DeclTree Spot) → IsTaken f
  is_taken (declared n x) = take_declared n x
  is_taken nameless = λ mode ts suits y. nil_taken mode ts y.cut
  is_taken (pointer n c f) = take_pointer n c f
  is_taken (array n f e) = take_array n f e (is_taken f)
  is_taken (function n f ps) = take_function n f ps (is_taken f)
  is_taken (grouped n f) = take_grouped n f

  sunk : (f : DeclTree Spot) (ts : List Token) → Inside (outlines.is_written f) (λ e. Begun (outlines.declarator names f) e ts []) (suc d) → (ts ≡ []) ⊎ Begun (outlines.declarator names f) d ts []
  sunk nameless ts x = inl x.cut
  sunk (declared n z) ts x = inr x
  sunk (pointer n c f) ts x = inr x
  sunk (array n f e) ts x = inr x
  sunk (function n f ps) ts x = inr x
  sunk (grouped n f) ts x = inr x

  pub declarator_spent : (mode : Mode) (f : DeclTree Spot) (ts : List Token) → Within (outlines.is_written f) (Suits mode f) (outlines.declarator names f) (suc d) ts → Taken mode ts
  declarator_spent mode f ts (inl z) = nil_taken mode ts z
  declarator_spent mode f ts (inr z) = by (sunk f ts z.1)
    where
      by : (ts ≡ []) ⊎ Begun (outlines.declarator names f) d ts [] → Taken mode ts
      by (inl e) = nil_taken mode ts e
      by (inr y) = is_taken f mode ts z.0 y
