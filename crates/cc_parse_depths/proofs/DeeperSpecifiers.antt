-- Specifiers, members and constants at three depths; so the readers of each depth.
use Rattle.std.proofs.Common.{◌≡◌, ◌≤◌, ◌<◌, refl, ℕ, zero, suc, Bool, true, false, List, [], ◌∷◌, length, Option, Some, None, Err, arith, sym, ap, subst, ◌∙◌, ◌||◌, ◌==◌}
use Rattle.cc_base.specs.declared.place.Spot.{Spot}
use Rattle.cc_lex.specs.declared.token.Token.{Token}
use Rattle.cc_lex.specs.declared.punct.Punct.TheVariants as the_punct
use Rattle.cc_tree.specs.Trees.{Name, SpecTree, word, named, struct, enum, MemberTree, members, no_members, constant, ConstantTree, no_constants, an_expr, no_expr}
use Rattle.cc_tree.specs.Views.{gathered_specs, gathered_members, gathered_constants, gathered_declarators}
use Rattle.cc_grammar.specs.Names.{Names}
use Rattle.cc_grammar.specs.Classes.{next_is, next_ident, skip, spot, starts_spec, spec_start, SpecStart, spec_word, spec_struct, spec_enum, spec_named, no_spec, is_spec}
use Rattle.cc_grammar.specs.Outcomes.{Parser, and_then, pure, refuse, take, ◌<$>◌, ◌>>=◌, ◌>>◌}
use Rattle.cc_grammar.specs.Reading as reader
use Rattle.cc_grammar.specs.Reading.{Inner, no_inner, Mode, with_name, where_next, skipping, placed, enclosed, repeated, readers}
use Rattle.cc_parse_laws.proofs.Steps.{branch_false}
use Rattle.cc_parse_laws.proofs.Climbs.{not_zero}
use Rattle.cc_parse_laws.proofs.Lists.{takes}
use Rattle.cc_parse_laws.proofs.SoundReaders.{readers_sound}
use Rattle.cc_parse_places.proofs.Forks.{left}
use Rattle.cc_parse_depths.proofs.Deeper.{Steps, refused, Never, bind_shrinks, steps_are, steps_same, Deeper, deep_same, deep_pure, deep_refuse, deep_then, deep_bind, deep_map, deep_map_never, deep_skipping, deep_view, deep_placed, deep_where}
use Rattle.cc_parse_depths.proofs.DeeperLists.{deep_take, deep_until, deep_id, no_take, halts_take, Binding, unbound, deep_separated, deep_enclosed, deep_enclosed_behind, deep_repeated, deep_tests, behind_first}
use Rattle.cc_parse_depths.proofs.DeeperExpressions.{DeepInner, Further, deep_expression}
use Rattle.cc_parse_depths.proofs.DeeperDeclarators.{deep_declarator, punct_some}
use Rattle.cc_parse_depths.proofs.Openings.{same_readers, deep_sized, deep_first}
use Rattle.cc_parse_depths.proofs.FirstDeclarators.{deep_first_declarator}

abbrev members_in : Names → Inner → ℕ → Parser (List (MemberTree Spot))
members_in names i a = take the_punct.LeftBrace >> repeated (reader.goes_on_members names i a) (reader.member_line names i a) >>= (λ ms. take the_punct.RightBrace >> pure ms)

-- behind the first brace
abbrev members_behind : Names → Inner → ℕ → Parser (List (MemberTree Spot))
members_behind names i a = repeated (reader.goes_on_members names i a) (reader.member_line names i a) >>= (λ ms. take the_punct.RightBrace >> pure ms)

abbrev constants_in : Names → Inner → ℕ → Parser (List (ConstantTree Spot) × Bool)
constants_in names i a = enclosed (reader.one_constant names i a)

members_are : (names : Names) (i : Inner) (a : ℕ) (ts : List Token) → reader.member_list names i (suc a) ts ≡ members_in names i (suc a) ts
members_are names i a ts = branch_false (suc a == 0) refuse (members_in names i (suc a)) ts (not_zero a)

constants_are : (names : Names) (i : Inner) (a : ℕ) (ts : List Token) → reader.constant_list names i (suc a) ts ≡ constants_in names i (suc a) ts
constants_are names i a ts = branch_false (suc a == 0) refuse (constants_in names i (suc a)) ts (not_zero a)

module _ (names : Names) (p q s : Inner) (a b c : ℕ) (good : DeepInner p q s) where
  deep_member_line : Deeper Never (reader.member_line names p a) (reader.member_line names q b) (reader.member_line names s c)
  deep_member_line = deep_placed (λ n. deep_bind good.specs (λ ss.
      deep_then (deep_separated Further (λ r h. h.no_comma) (good.declarator with_name)) (λ ds. deep_until the_punct.Semicolon (members n ss (gathered_declarators ds)))
      (λ ds r h. halts_take the_punct.Semicolon _ r h.no_semicolon)))

  deep_members_behind : Deeper Never (members_behind names p a) (members_behind names q b) (members_behind names s c)
  deep_members_behind = deep_bind (deep_repeated (reader.goes_on_members names p a) (reader.goes_on_members names q b) (reader.goes_on_members names s c) (λ ts. refl) (λ ts. refl) deep_member_line) (λ ms. deep_until the_punct.RightBrace ms)

  deep_members_in : Deeper Never (members_in names p a) (members_in names q b) (members_in names s c)
  deep_members_in =
      deep_bind (deep_bind (deep_take the_punct.LeftBrace) (λ z. deep_repeated (reader.goes_on_members names p a) (reader.goes_on_members names q b) (reader.goes_on_members names s c) (λ ts. refl) (λ ts. refl) deep_member_line))
      (λ ms. deep_until the_punct.RightBrace ms)

  deep_constant_value : Deeper (λ e. Binding 3) (reader.constant_value names p a) (reader.constant_value names q b) (reader.constant_value names s c)
  deep_constant_value = deep_where (next_is the_punct.Equal) (deep_skipping (deep_map an_expr (good.expr 3 (omega arith) (omega arith)) (λ e r h. h))) (deep_pure no_expr)

  deep_one_constant : Deeper (λ k. Binding 3) (reader.one_constant names p a) (reader.one_constant names q b) (reader.one_constant names s c)
  deep_one_constant = deep_placed (λ n. deep_bind (deep_id names) (λ x. deep_map (constant n x) deep_constant_value (λ e r h. h)))

  deep_constants_behind : Deeper Never (λ ts. reader.enclosed_by (reader.one_constant names p a) (length ts) ts) (λ ts. reader.enclosed_by (reader.one_constant names q b) (length ts) ts) (λ ts. reader.enclosed_by (reader.one_constant names s c) (length ts) ts)
  deep_constants_behind = deep_enclosed_behind (Binding 3) (λ r h. unbound the_punct.Comma 3 r (omega arith) h) deep_one_constant (λ r h. unbound the_punct.RightBrace 3 r (omega arith) h)

  deep_constants_in : Deeper Never (constants_in names p a) (constants_in names q b) (constants_in names s c)
  deep_constants_in = deep_enclosed (Binding 3) (λ r h. unbound the_punct.Comma 3 r (omega arith) h) deep_one_constant (λ r h. unbound the_punct.RightBrace 3 r (omega arith) h)

-- ---- Specifiers, given their lists

module _ (names : Names) (p q s : Inner) (a b c : ℕ)
    (deep_members : Deeper Never (reader.member_list names p a) (reader.member_list names q b) (reader.member_list names s c))
    (deep_constants : Deeper Never (reader.constant_list names p a) (reader.constant_list names q b) (reader.constant_list names s c)) where
  deep_tag_by : (x : Option Name) → Deeper Never (reader.tag_by names p a x) (reader.tag_by names q b x) (reader.tag_by names s c x)
  deep_tag_by None = deep_pure None
  deep_tag_by (Some x) = deep_skipping (deep_pure (Some x))

  deep_tag : Deeper Never (reader.tag names p a) (reader.tag names q b) (reader.tag names s c)
  deep_tag = deep_view next_ident deep_tag_by

  untagged_same : (i j : Inner) (d e : ℕ) (x : Option Name) → reader.untagged names i d x ≡ reader.untagged names j e x
  untagged_same i j d e None = refl
  untagged_same i j d e (Some x) = refl

  abbrev list_comes : Inner → ℕ → Option Name → List Token → Bool
  list_comes i d x ts = next_is the_punct.LeftBrace ts || reader.untagged names i d x

  comes_same : (i j : Inner) (d e : ℕ) (x : Option Name) (ts : List Token) → list_comes i d x ts ≡ list_comes j e x ts
  comes_same i j d e x ts = ap (λ z. next_is the_punct.LeftBrace ts || z) (untagged_same i j d e x)

  abbrev behind_struct : Inner → ℕ → Spot → Parser (SpecTree Spot)
  behind_struct i d n = reader.tag names i d >>= (λ x. where_next (list_comes i d x) ((λ ms. struct n x (gathered_members ms)) <$> reader.member_list names i d) (pure (struct n x no_members)))

  abbrev behind_enum : Inner → ℕ → Spot → Parser (SpecTree Spot)
  behind_enum i d n = reader.tag names i d >>= (λ x. where_next (list_comes i d x) ((λ (cs : List (ConstantTree Spot) × Bool). enum n x (gathered_constants cs.0) cs.1) <$> reader.constant_list names i d) (pure (enum n x no_constants false)))

  deep_behind_struct : (n : Spot) → Deeper Never (behind_struct p a n) (behind_struct q b n) (behind_struct s c n)
  deep_behind_struct n = (deep_bind deep_tag (λ x. deep_tests (list_comes p a x) (list_comes q b x) (list_comes s c x) (comes_same q p b a x) (comes_same s p c a x)
      (deep_map_never (λ ms. struct n x (gathered_members ms)) deep_members) (deep_pure (struct n x no_members))))

  deep_behind_enum : (n : Spot) → Deeper Never (behind_enum p a n) (behind_enum q b n) (behind_enum s c n)
  deep_behind_enum n = (deep_bind deep_tag (λ x. deep_tests (list_comes p a x) (list_comes q b x) (list_comes s c x) (comes_same q p b a x) (comes_same s p c a x)
      (deep_map_never (λ (cs : List (ConstantTree Spot) × Bool). enum n x (gathered_constants cs.0) cs.1) deep_constants) (deep_pure (enum n x no_constants false))))

  deep_spec_by : (st : SpecStart) (n : Spot) → Deeper Never (reader.spec_by names p a st n) (reader.spec_by names q b st n) (reader.spec_by names s c st n)
  deep_spec_by (spec_word w) n = deep_skipping (deep_pure (word n w))
  deep_spec_by (spec_named x) n = deep_skipping (deep_pure (named n x))
  deep_spec_by spec_struct n = deep_skipping (deep_behind_struct n)
  deep_spec_by spec_enum n = deep_skipping (deep_behind_enum n)
  deep_spec_by no_spec n = deep_refuse

  deep_spec : Deeper Never (λ ts. reader.spec_by names p a (spec_start names ts) (spot ts) ts) (λ ts. reader.spec_by names q b (spec_start names ts) (spot ts) ts) (λ ts. reader.spec_by names s c (spec_start names ts) (spot ts) ts)
  deep_spec = deep_view (spec_start names) (λ st. deep_view spot (deep_spec_by st))

  pub deep_specs : Deeper Never (reader.specs names p a) (reader.specs names q b) (reader.specs names s c)
  deep_specs = deep_map_never gathered_specs (deep_repeated (starts_spec names) (starts_spec names) (starts_spec names) (λ ts. refl) (λ ts. refl) deep_spec)

  -- the first token is taken, where one begins
  first_by : (st : SpecStart) (n : Spot) (ts : List Token) → is_spec st ≡ true → length (left (reader.spec_by names q b st n ts)) ≤ length (skip ts)
  first_by (spec_word w) n ts e = omega arith
  first_by (spec_named x) n ts e = omega arith
  first_by spec_struct n ts e = let all = deep_behind_struct n in all.shrinks (skip ts)
  first_by spec_enum n ts e = let all = deep_behind_enum n in all.shrinks (skip ts)
  first_by no_spec n ts e = absurd cc

  pub specs_taken : (ts : List Token) → starts_spec names ts ≡ true → length (left (reader.specs names q b ts)) < length ts
  specs_taken [] e = absurd cc
  specs_taken (t ∷ ts) e =
      let one = first_by (spec_start names (t ∷ ts)) t.spot (t ∷ ts) e in
      let all = behind_first (starts_spec names) (starts_spec names) (starts_spec names) (λ us. refl) (λ us. refl) deep_spec (t ∷ ts) tt in
      omega (arith, one, all, bind_shrinks (repeated (starts_spec names) (λ us. reader.spec_by names q b (spec_start names us) (spot us) us) (t ∷ ts)) (λ x. pure (gathered_specs x)) (λ x us. omega arith))

-- ---- At the least depth

module _ (names : Names) where
  -- a list that is refused without a brace, and with one takes it
  deep_first_list : {A : Type 0} {o q s : Parser A} → ((ts : List Token) → o ts ≡ Err ts) → ((ts : List Token) → next_is the_punct.LeftBrace ts ≡ false → q ts ≡ Err ts) → ((ts : List Token) → next_is the_punct.LeftBrace ts ≡ true → length (left (q ts)) < length ts)
      → ((ts : List Token) → next_is the_punct.LeftBrace ts ≡ false → s ts ≡ Err ts) → Deeper Never o q s
  deep_first_list {A} {o} {q} {s} none second taken third = record { steps = λ ts. steps_by ts (next_is the_punct.LeftBrace ts) refl; shrinks = λ ts. shrinks_by ts (next_is the_punct.LeftBrace ts) refl }
    where
      steps_by : (ts : List Token) (b : Bool) → next_is the_punct.LeftBrace ts ≡ b → Steps Never (o ts) (q ts) (s ts)
      steps_by ts true e = steps_are (none ts) refl refl (refused ts (q ts) (s ts) (taken ts e))
      steps_by ts false e = steps_same (second ts e ∙ sym (none ts)) (third ts e ∙ sym (none ts))

      shrinks_by : (ts : List Token) (b : Bool) → next_is the_punct.LeftBrace ts ≡ b → length (left (q ts)) ≤ length ts
      shrinks_by ts true e = omega (arith, taken ts e)
      shrinks_by ts false e = let same : length (left (q ts)) ≡ length ts = ap (λ y. length (left y)) (second ts e) in omega (arith, same)

  members_refused : (i : Inner) (a : ℕ) (ts : List Token) → next_is the_punct.LeftBrace ts ≡ false → reader.member_list names i (suc a) ts ≡ Err ts
  members_refused i a ts e =
      members_are names i a ts
      ∙ ap (λ o. and_then (and_then o (λ z. repeated (reader.goes_on_members names i (suc a)) (reader.member_line names i (suc a)))) (λ ms. take the_punct.RightBrace >> pure ms)) (no_take the_punct.LeftBrace ts e)

  constants_refused : (i : Inner) (a : ℕ) (ts : List Token) → next_is the_punct.LeftBrace ts ≡ false → reader.constant_list names i (suc a) ts ≡ Err ts
  constants_refused i a ts e = constants_are names i a ts ∙ ap (λ o. and_then o (λ z us. reader.enclosed_by (reader.one_constant names i (suc a)) (length us) us)) (no_take the_punct.LeftBrace ts e)

  members_taken : (i : Inner) (a : ℕ) → DeepInner i i i → (ts : List Token) → next_is the_punct.LeftBrace ts ≡ true → length (left (reader.member_list names i (suc a) ts)) < length ts
  members_taken i a good ts e =
      let is : reader.member_list names i (suc a) ts ≡ members_behind names i (suc a) (skip ts) =
      members_are names i a ts ∙ ap (λ o. and_then (and_then o (λ z. repeated (reader.goes_on_members names i (suc a)) (reader.member_line names i (suc a)))) (λ ms. take the_punct.RightBrace >> pure ms)) (takes the_punct.LeftBrace ts e) in
      let same : length (left (reader.member_list names i (suc a) ts)) ≡ length (left (members_behind names i (suc a) (skip ts))) = ap (λ o. length (left o)) is in
      let all = deep_members_behind names i i i (suc a) (suc a) (suc a) good in
      omega (arith, same, all.shrinks (skip ts), punct_some the_punct.LeftBrace ts e)

  constants_taken : (i : Inner) (a : ℕ) → DeepInner i i i → (ts : List Token) → next_is the_punct.LeftBrace ts ≡ true → length (left (reader.constant_list names i (suc a) ts)) < length ts
  constants_taken i a good ts e =
      let is : reader.constant_list names i (suc a) ts ≡ reader.enclosed_by (reader.one_constant names i (suc a)) (length (skip ts)) (skip ts) =
      constants_are names i a ts ∙ ap (λ o. and_then o (λ z us. reader.enclosed_by (reader.one_constant names i (suc a)) (length us) us)) (takes the_punct.LeftBrace ts e) in
      let same : length (left (reader.constant_list names i (suc a) ts)) ≡ length (left (reader.enclosed_by (reader.one_constant names i (suc a)) (length (skip ts)) (skip ts))) = ap (λ o. length (left o)) is in
      let all = deep_constants_behind names i i i (suc a) (suc a) (suc a) good in
      omega (arith, same, all.shrinks (skip ts), punct_some the_punct.LeftBrace ts e)

  first_specs : (f : ℕ) → Deeper Never ((readers names 0).specs) ((readers names 2).specs) ((readers names f).specs)
  first_specs zero = deep_specs names no_inner (readers names 1) no_inner 0 2 0
      (deep_first_list (λ ts. refl) (members_refused (readers names 1) 1) (members_taken (readers names 1) 1 (same_readers names 1)) (λ ts e. refl))
      (deep_first_list (λ ts. refl) (constants_refused (readers names 1) 1) (constants_taken (readers names 1) 1 (same_readers names 1)) (λ ts e. refl))
  first_specs (suc f) = deep_specs names no_inner (readers names 1) (readers names f) 0 2 (suc f)
      (deep_first_list (λ ts. refl) (members_refused (readers names 1) 1) (members_taken (readers names 1) 1 (same_readers names 1)) (members_refused (readers names f) f))
      (deep_first_list (λ ts. refl) (constants_refused (readers names 1) 1) (constants_taken (readers names 1) 1 (same_readers names 1)) (constants_refused (readers names f) f))

  first_inner : (f : ℕ) → DeepInner (readers names 0) (readers names 2) (readers names f)
  first_inner f = record { expr = λ least some low. deep_first names least f; specs = first_specs f; declarator = λ mode. deep_first_declarator names mode f }

  -- ---- Each depth

  module _ (d f : ℕ) (low : d ≤ f) (good : DeepInner (readers names d) (readers names (suc (suc d))) (readers names f)) where
    next_members : Deeper Never (reader.member_list names (readers names d) (suc d)) (reader.member_list names (readers names (suc (suc d))) (suc (suc (suc d)))) (reader.member_list names (readers names f) (suc f))
    next_members =
        let all = deep_members_in names (readers names d) (readers names (suc (suc d))) (readers names f) (suc d) (suc (suc (suc d))) (suc f) good in
        record {
          steps = λ ts. steps_are (members_are names (readers names d) d ts) (members_are names (readers names (suc (suc d))) (suc (suc d)) ts) (members_are names (readers names f) f ts) (all.steps ts);
          shrinks = λ ts. subst (λ o. length (left o) ≤ length ts) (sym (members_are names (readers names (suc (suc d))) (suc (suc d)) ts)) (all.shrinks ts);
        }

    next_constants : Deeper Never (reader.constant_list names (readers names d) (suc d)) (reader.constant_list names (readers names (suc (suc d))) (suc (suc (suc d)))) (reader.constant_list names (readers names f) (suc f))
    next_constants =
        let all = deep_constants_in names (readers names d) (readers names (suc (suc d))) (readers names f) (suc d) (suc (suc (suc d))) (suc f) good in
        record {
          steps = λ ts. steps_are (constants_are names (readers names d) d ts) (constants_are names (readers names (suc (suc d))) (suc (suc d)) ts) (constants_are names (readers names f) f ts) (all.steps ts);
          shrinks = λ ts. subst (λ o. length (left o) ≤ length ts) (sym (constants_are names (readers names (suc (suc d))) (suc (suc d)) ts)) (all.shrinks ts);
        }

    next_inner : DeepInner (readers names (suc d)) (readers names (suc (suc (suc d)))) (readers names (suc f))
    next_inner = record {
      expr = deep_expression names (readers names d) (readers names (suc (suc d))) (readers names f) d f low good (readers_sound names d) (deep_sized names d f low good);
      specs = deep_specs names (readers names d) (readers names (suc (suc d))) (readers names f) (suc d) (suc (suc (suc d))) (suc f) next_members next_constants;
      declarator = deep_declarator names (readers names d) (readers names (suc (suc d))) (readers names f) d f low good (readers_sound names d);
    }

  pub deep_readers : (d f : ℕ) → d ≤ f → DeepInner (readers names d) (readers names (suc (suc d))) (readers names f)
  deep_readers zero f h = first_inner f
  deep_readers (suc d) zero h = absurd (omega (arith, h))
  deep_readers (suc d) (suc f) h = next_inner d f (omega (arith, h)) (deep_readers d f (omega (arith, h)))

  -- specifiers take the first token, where one begins
  pub starts_taken : (d : ℕ) (ts : List Token) → starts_spec names ts ≡ true → length (left ((readers names (suc d)).specs ts)) < length ts
  starts_taken d ts e =
      specs_taken names (readers names d) (readers names d) (readers names d) (suc d) (suc d) (suc d) (same_members d) (same_constants d) ts e
    where
      same_members : (d : ℕ) → Deeper Never (reader.member_list names (readers names d) (suc d)) (reader.member_list names (readers names d) (suc d)) (reader.member_list names (readers names d) (suc d))
      same_members d = let all = deep_members_in names (readers names d) (readers names d) (readers names d) (suc d) (suc d) (suc d) (same_readers names d) in
          deep_same (λ us. subst (λ o. length (left o) ≤ length us) (sym (members_are names (readers names d) d us)) (all.shrinks us))

      same_constants : (d : ℕ) → Deeper Never (reader.constant_list names (readers names d) (suc d)) (reader.constant_list names (readers names d) (suc d)) (reader.constant_list names (readers names d) (suc d))
      same_constants d = let all = deep_constants_in names (readers names d) (readers names d) (readers names d) (suc d) (suc d) (suc d) (same_readers names d) in
          deep_same (λ us. subst (λ o. length (left o) ≤ length us) (sym (constants_are names (readers names d) d us)) (all.shrinks us))
