-- Declarators at three depths.
use Rattle.std.proofs.Common.{◌≡◌, ◌≤◌, ◌<◌, ◌+◌, refl, ℕ, zero, suc, Bool, true, false, List, [], ◌∷◌, length, Option, Some, None, Ok, arith, sym, ap, subst, ◌∙◌, nat_lt, ◌&&◌, ◌||◌, ◌==◌}
use Rattle.std.proofs.lemmas.Bool.{and_left, and_right, and_from, ltb-true, lt-ltb}
use Rattle.cc_base.specs.declared.place.Spot.{Spot}
use Rattle.cc_lex.specs.declared.token.Token.{Token}
use Rattle.cc_lex.specs.declared.token.TokenKind.TheVariants as kind
use Rattle.cc_lex.specs.declared.keyword.Keyword.TheVariants as the_keyword
use Rattle.cc_lex.specs.declared.punct.Punct.{Punct}
use Rattle.cc_lex.specs.declared.punct.Punct.TheVariants as the_punct
use Rattle.cc_tree.specs.Trees.{Name, DeclTree, declared, nameless, pointer, array, function, grouped, an_expr, no_expr}
use Rattle.cc_tree.specs.Views.{gathered_types}
use Rattle.cc_tree.specs.Depth as depths
use Rattle.cc_grammar.specs.Names.{Names}
use Rattle.cc_grammar.specs.Outlines as outlines
use Rattle.cc_grammar.specs.Classes.{is_punct, next_is, next_is_keyword, next_ident, skip, spot, same_punct}
use Rattle.cc_grammar.specs.Outcomes.{Outcome, Parser, and_then, pure, refuse, take, ◌<$>◌, ◌>>=◌, ◌>>◌}
use Rattle.cc_grammar.specs.Reading as reader
use Rattle.cc_grammar.specs.Reading.{Inner, Mode, with_name, without_name, with_or_without, where_next, placed, skipping, opposite, spot_or, opening, wants_name, takes_name, readers}
use Rattle.cc_parse_laws.proofs.Steps.{branch_true, branch_false}
use Rattle.cc_parse_laws.proofs.NextTokens.{NextKind}
use Rattle.cc_parse_laws.proofs.Peeks.{punct_other}
use Rattle.cc_parse_laws.proofs.Inner.{SoundInner, ReadsDeclarator}
use Rattle.cc_parse_laws.proofs.Depths.{declarator_depth}
use Rattle.cc_parse_laws.proofs.Grows as grows
use Rattle.cc_parse_laws.proofs.SoundClimbing.{sinks}
use Rattle.cc_parse_laws.proofs.SoundDeclarators.{Direct, suffix_sound, direct_sound}
use Rattle.cc_parse_laws.proofs.Climbs.{not_zero}
use Rattle.cc_parse_places.proofs.Forks.{left}
use Rattle.cc_parse_places.proofs.Spent.{at_kind}
use Rattle.cc_parse_depths.proofs.Deeper.{Steps, stopped, Never, Halts, refuses, halts_with, Shrinks, skip_shrinks, bind_shrinks, steps_then, steps_are, steps_same, Deeper, deep_pure, deep_refuse, deep_never, deep_then, deep_bind, deep_map, deep_map_never, deep_skipping, deep_placed, deep_where, deep_branch}
use Rattle.cc_parse_depths.proofs.DeeperLists.{deep_until, deep_id, deep_turns, halts_take, unbound, deep_tests}
use Rattle.cc_parse_depths.proofs.DeeperExpressions.{DeepInner, Further, deep_parameters}

-- ---- Tokens that go on with a declarator

punct_further : (s : Punct) (r : List Token) → same_punct the_punct.RightParen s ≡ false → same_punct the_punct.Comma s ≡ false → same_punct the_punct.Semicolon s ≡ false → same_punct the_punct.Equal s ≡ false → same_punct the_punct.LeftBrace s ≡ false → next_is s r ≡ true → Further r
punct_further s r a b c d e n = record {
  no_close = punct_other the_punct.RightParen s r a n;
  no_comma = punct_other the_punct.Comma s r b n;
  no_semicolon = punct_other the_punct.Semicolon s r c n;
  no_equal = punct_other the_punct.Equal s r d n;
  no_brace = punct_other the_punct.LeftBrace s r e n;
}

pub name_further : (x : Name) (r : List Token) → NextKind (kind.Identifier x) r → Further r
name_further x r n = record {
  no_close = at_kind (next_is the_punct.RightParen) (is_punct the_punct.RightParen) (λ t us. refl) (kind.Identifier x) r n;
  no_comma = at_kind (next_is the_punct.Comma) (is_punct the_punct.Comma) (λ t us. refl) (kind.Identifier x) r n;
  no_semicolon = at_kind (next_is the_punct.Semicolon) (is_punct the_punct.Semicolon) (λ t us. refl) (kind.Identifier x) r n;
  no_equal = at_kind (next_is the_punct.Equal) (is_punct the_punct.Equal) (λ t us. refl) (kind.Identifier x) r n;
  no_brace = at_kind (next_is the_punct.LeftBrace) (is_punct the_punct.LeftBrace) (λ t us. refl) (kind.Identifier x) r n;
}

pub paren_further : (r : List Token) → next_is the_punct.LeftParen r ≡ true → Further r
paren_further r n = punct_further the_punct.LeftParen r refl refl refl refl refl n

pub star_further : (r : List Token) → next_is the_punct.Star r ≡ true → Further r
star_further r n = punct_further the_punct.Star r refl refl refl refl refl n

pub suffix_further : (r : List Token) (b c : Bool) → next_is the_punct.LeftBracket r ≡ b → next_is the_punct.LeftParen r ≡ c → (b || c) ≡ true → Further r
suffix_further r true c x y e = punct_further the_punct.LeftBracket r refl refl refl refl refl x
suffix_further r false true x y e = paren_further r y
suffix_further r false false x y e = absurd cc

-- a token comes
pub punct_some : (s : Punct) (r : List Token) → next_is s r ≡ true → length (skip r) < length r
punct_some s [] e = absurd cc
punct_some s (t ∷ r) e = omega arith

pub suffix_some : (r : List Token) → (next_is the_punct.LeftBracket r || next_is the_punct.LeftParen r) ≡ true → length (skip r) < length r
suffix_some [] e = absurd cc
suffix_some (t ∷ r) e = omega arith

-- ---- Parts of the readers

abbrev pub in_group : Names → Mode → Spot → Inner → ℕ → Parser (DeclTree Spot)
in_group names mode n i d = i.declarator mode >>= reader.written_only names i d >>= (λ f. take the_punct.RightParen >> pure (grouped (opening f n) f))

abbrev pub behind_star : Names → Mode → Spot → Inner → ℕ → Parser (DeclTree Spot)
behind_star names mode n i d = reader.consts names i d >>= (λ k. (λ f. pointer (opening f n) k f) <$> i.declarator mode)

abbrev pub name_comes : Names → Mode → Inner → ℕ → List Token → Bool
name_comes names mode i d ts = takes_name mode && reader.is_id names i d (next_ident ts)

abbrev pub group_comes : Names → Mode → Inner → ℕ → List Token → Bool
group_comes names mode i d ts = next_is the_punct.LeftParen ts && opposite (reader.begins_parameters names i d mode ts)

id_same : (names : Names) (i j : Inner) (d e : ℕ) (x : Option Name) → reader.is_id names i d x ≡ reader.is_id names j e x
id_same names i j d e None = refl
id_same names i j d e (Some x) = refl

parameters_same : (names : Names) (i j : Inner) (d e : ℕ) (mode : Mode) (ts : List Token) → reader.begins_parameters names i d mode ts ≡ reader.begins_parameters names j e mode ts
parameters_same names i j d e with_name ts = refl
parameters_same names i j d e without_name ts = refl
parameters_same names i j d e with_or_without ts = refl

-- they say the same at each depth
pub name_same : (names : Names) (mode : Mode) (i j : Inner) (d e : ℕ) (ts : List Token) → name_comes names mode i d ts ≡ name_comes names mode j e ts
name_same names mode i j d e ts = ap (λ z. takes_name mode && z) (id_same names i j d e (next_ident ts))

pub group_same : (names : Names) (mode : Mode) (i j : Inner) (d e : ℕ) (ts : List Token) → group_comes names mode i d ts ≡ group_comes names mode j e ts
group_same names mode i j d e ts = ap (λ z. next_is the_punct.LeftParen ts && opposite z) (parameters_same names i j d e mode ts)

-- without a star, and with one
abbrev pub suffixed : Names → Mode → Inner → ℕ → Parser (DeclTree Spot)
suffixed names mode i a = reader.direct names i (suc a) mode >>= reader.suffixes names i (suc a) (suc a)

abbrev pub starred : Names → Mode → Inner → ℕ → Parser (DeclTree Spot)
starred names mode i a = placed (λ n. skipping (behind_star names mode n i (suc a)))

pub written_is : (names : Names) (mode : Mode) (i : Inner) (a : ℕ) (ts : List Token) → reader.declarator names i (suc a) mode ts ≡ where_next (next_is the_punct.Star) (starred names mode i a) (suffixed names mode i a) ts
written_is names mode i a ts = branch_false (suc a == 0) (reader.nothing names i (suc a) mode) (where_next (next_is the_punct.Star) (starred names mode i a) (suffixed names mode i a)) ts (not_zero a)

-- ---- Each part

module _ (names : Names) (p q s : Inner) (a b c : ℕ) (good : DeepInner p q s) where
  deep_array_length : Deeper Never (reader.array_length names p a) (reader.array_length names q b) (reader.array_length names s c)
  deep_array_length = deep_where (next_is the_punct.RightBracket) (deep_skipping (deep_pure no_expr))
      (deep_then (good.expr 3 (omega arith) (omega arith)) (λ e. deep_until the_punct.RightBracket (an_expr e)) (λ e r h. halts_take the_punct.RightBracket _ r (unbound the_punct.RightBracket 3 r (omega arith) h)))

  deep_suffix : (f : DeclTree Spot) → Deeper Never (reader.suffix names p a f) (reader.suffix names q b f) (reader.suffix names s c f)
  deep_suffix f = deep_placed (λ n. deep_where (next_is the_punct.LeftBracket)
      (deep_skipping (deep_map_never (array (spot_or f n) f) deep_array_length))
      (deep_skipping (deep_map_never (λ ps. function (spot_or f n) f (gathered_types ps)) (deep_parameters names p q s a b c good {S = Never}))))

  -- a suffix takes its first token
  suffix_shrinks : (f : DeclTree Spot) (ts : List Token) → length (left (reader.suffix names q b f ts)) ≤ length (skip ts)
  suffix_shrinks f ts =
      let n = spot ts in
      let one = deep_map_never {T = Never} (array (spot_or f n) f) deep_array_length in
      let two = deep_map_never {T = Never} (λ ps. function (spot_or f n) f (gathered_types ps)) (deep_parameters names p q s a b c good {S = Never}) in
      by (next_is the_punct.LeftBracket ts) (one.shrinks (skip ts)) (two.shrinks (skip ts))
    where
      by : (k : Bool) → length (left ((array (spot_or f (spot ts)) f <$> reader.array_length names q b) (skip ts))) ≤ length (skip ts)
          → length (left (((λ ps. function (spot_or f (spot ts)) f (gathered_types ps)) <$> reader.parameters names q b) (skip ts))) ≤ length (skip ts)
          → length (left (reader.branch k (skipping (array (spot_or f (spot ts)) f <$> reader.array_length names q b)) (skipping ((λ ps. function (spot_or f (spot ts)) f (gathered_types ps)) <$> reader.parameters names q b)) ts)) ≤ length (skip ts)
      by true x y = x
      by false x y = y

  pub go_shrinks : (turns : ℕ) (f : DeclTree Spot) (ts : List Token) → ((x : DeclTree Spot) → Shrinks (reader.suffixes names q b turns x)) → length (left (and_then (reader.suffix names q b f ts) (reader.suffixes names q b turns))) ≤ length (skip ts)
  go_shrinks turns f ts h = omega (arith, suffix_shrinks f ts, bind_shrinks (reader.suffix names q b f ts) (reader.suffixes names q b turns) h)

  pub suffixes_shrink : (turns : ℕ) (f : DeclTree Spot) → Shrinks (reader.suffixes names q b turns f)
  suffixes_shrink zero f ts = omega arith
  suffixes_shrink (suc turns) f ts = by (reader.suffix_comes names q b ts && nat_lt (depths.declarator_depth f) b) (omega (arith, go_shrinks turns f ts (suffixes_shrink turns), skip_shrinks ts))
    where
      by : (k : Bool) → length (left (and_then (reader.suffix names q b f ts) (reader.suffixes names q b turns))) ≤ length ts → length (left (reader.branch k (reader.suffix names q b f >>= reader.suffixes names q b turns) (pure f) ts)) ≤ length ts
      by true go = go
      by false go = omega arith

  deep_written_only : (f : DeclTree Spot) → Deeper Never (reader.written_only names p a f) (reader.written_only names q b f) (reader.written_only names s c f)
  deep_written_only f = deep_branch (outlines.is_written f) (deep_pure f) deep_refuse

  written_halts : (f : DeclTree Spot) (r : List Token) → Further r → Halts (λ g. Further) (reader.written_only names p a f r) r
  written_halts f r h = by (outlines.is_written f)
    where
      by : (k : Bool) → Halts (λ g. Further) (reader.branch k (pure f) refuse r) r
      by true = halts_with f r h
      by false = refuses r

  pub deep_in_group : (mode : Mode) (n : Spot) → Deeper Never (in_group names mode n p a) (in_group names mode n q b) (in_group names mode n s c)
  deep_in_group mode n =
      deep_then (deep_then (good.declarator mode) (λ f. deep_never (deep_written_only f)) written_halts)
      (λ f. deep_until the_punct.RightParen (grouped (opening f n) f)) (λ f r h. halts_take the_punct.RightParen _ r h.no_close)

  deep_group : (mode : Mode) → Deeper Never (reader.group names p a mode) (reader.group names q b mode) (reader.group names s c mode)
  deep_group mode = deep_placed (λ n. deep_skipping (deep_in_group mode n))

  deep_nothing : (mode : Mode) → Deeper Never (reader.nothing names p a mode) (reader.nothing names q b mode) (reader.nothing names s c mode)
  deep_nothing mode = deep_branch (wants_name mode) deep_refuse (deep_pure nameless)

  deep_consts_by : (turns : ℕ) → Deeper Never (reader.consts_by names p a turns) (reader.consts_by names q b turns) (reader.consts_by names s c turns)
  deep_consts_by zero = deep_pure 0
  deep_consts_by (suc turns) = deep_where (next_is_keyword the_keyword.Const) (deep_skipping (deep_map_never (λ k. k + 1) (deep_consts_by turns))) (deep_pure 0)

  deep_consts : Deeper Never (reader.consts names p a) (reader.consts names q b) (reader.consts names s c)
  deep_consts = deep_turns (λ n. n) deep_consts_by

  pub deep_behind_star : (mode : Mode) (n : Spot) → Deeper (λ f. Further) (behind_star names mode n p a) (behind_star names mode n q b) (behind_star names mode n s c)
  deep_behind_star mode n = deep_bind deep_consts (λ k. deep_map (λ f. pointer (opening f n) k f) (good.declarator mode) (λ f r h. h))

  deep_direct : (mode : Mode) → Deeper Never (reader.direct names p a mode) (reader.direct names q b mode) (reader.direct names s c mode)
  deep_direct mode =
      deep_tests (name_comes names mode p a) (name_comes names mode q b) (name_comes names mode s c) (name_same names mode q p b a) (name_same names mode s p c a)
      (deep_placed (λ n. deep_map_never (declared n) (deep_id names)))
      (deep_tests (group_comes names mode p a) (group_comes names mode q b) (group_comes names mode s c) (group_same names mode q p b a) (group_same names mode s p c a) (deep_group mode) (deep_nothing mode))

-- ---- The loop over suffixes

pub suffixes_halt : (names : Names) (i : Inner) (a turns : ℕ) (f : DeclTree Spot) (r : List Token) → (reader.suffix_comes names i a r && nat_lt (depths.declarator_depth f) a) ≡ false → reader.suffixes names i a turns f r ≡ Ok (f, r)
suffixes_halt names i a zero f r e = refl
suffixes_halt names i a (suc turns) f r e = branch_false (reader.suffix_comes names i a r && nat_lt (depths.declarator_depth f) a) (reader.suffix names i a f >>= reader.suffixes names i a turns) (pure f) r e

pub suffixes_go : (names : Names) (i : Inner) (a turns : ℕ) (f : DeclTree Spot) (r : List Token) → reader.suffix_comes names i a r ≡ true → depths.declarator_depth f < a
    → reader.suffixes names i a (suc turns) f r ≡ and_then (reader.suffix names i a f r) (reader.suffixes names i a turns)
suffixes_go names i a turns f r e h =
    branch_true (reader.suffix_comes names i a r && nat_lt (depths.declarator_depth f) a) (reader.suffix names i a f >>= reader.suffixes names i a turns) (pure f) r
    (and_from (reader.suffix_comes names i a r) (nat_lt (depths.declarator_depth f) a) e (lt-ltb _ _ h))

module _ (names : Names) (p q s : Inner) (d f : ℕ) (deeper : d ≤ f) (good : DeepInner p q s) (sound : SoundInner names p d) where
  abbrev Growing : ℕ → ℕ → DeclTree Spot → List Token → Type 0
  Growing t u e ts = Steps (λ y. Further) (reader.suffixes names p (suc d) t e ts) (reader.suffixes names q (suc (suc (suc d))) (suc (suc t)) e ts) (reader.suffixes names s (suc f) u e ts)

  small : (mode : Mode) (e : DeclTree Spot) (first ts : List Token) → Direct names (suc d) mode first (e, ts) → depths.declarator_depth e ≤ suc d
  small mode e first ts x = omega (arith, grows.left_depth names e (suc d) first ts x.2)

  -- where the first stops, for its depth
  suffixes_stop : (t : ℕ) (e : DeclTree Spot) (ts : List Token) (o y : Outcome (DeclTree Spot)) → depths.declarator_depth e ≤ suc d → reader.suffix_comes names p (suc d) ts ≡ true → o ≡ Ok (e, ts)
      → Steps (λ y. Further) o (reader.suffixes names q (suc (suc (suc d))) (suc (suc t)) e ts) y
  suffixes_stop t e ts o y low comes is =
      let all = go_shrinks names p q s (suc d) (suc (suc (suc d))) (suc f) good (suc t) e ts (suffixes_shrink names p q s (suc d) (suc (suc (suc d))) (suc f) good (suc t)) in
      steps_are {b = and_then (reader.suffix names q (suc (suc (suc d))) e ts) (reader.suffixes names q (suc (suc (suc d))) (suc t))} is (suffixes_go names q (suc (suc (suc d))) (suc t) e ts comes (omega (arith, low))) refl
      (stopped e ts _ y (suffix_further ts (next_is the_punct.LeftBracket ts) (next_is the_punct.LeftParen ts) refl refl comes) (omega (arith, all, suffix_some ts comes)))

  suffixes_on : (mode : Mode) (t u : ℕ) (e : DeclTree Spot) (first ts : List Token) → depths.declarator_depth e < suc d → reader.suffix_comes names p (suc d) ts ≡ true → Direct names (suc d) mode first (e, ts)
      → ((x : DeclTree Spot) (r : List Token) → Direct names (suc d) mode first (x, r) → Growing t u x r) → Growing (suc t) (suc u) e ts
  suffixes_on mode t u e first ts low comes x rec =
      let go = deep_suffix names p q s (suc d) (suc (suc (suc d))) (suc f) good e in
      let sunk : ReadsDeclarator names d e first ts = sinks (outlines.is_written e) (outlines.declarator names e) d first ts x.2 (omega (arith, low, declarator_depth names e)) in
      steps_are (suffixes_go names p (suc d) t e ts comes low) (suffixes_go names q (suc (suc (suc d))) (suc (suc t)) e ts comes (omega (arith, low))) (suffixes_go names s (suc f) u e ts comes (omega (arith, low, deeper)))
      (steps_then _ _ _ (reader.suffixes names p (suc d) t) (reader.suffixes names q (suc (suc (suc d))) (suc (suc t))) (reader.suffixes names s (suc f) u) (go.steps ts)
      (λ y r is. rec y r (suffix_sound names p d sound mode e first ts (y, r) (x.0, x.1, sunk) comes is))
      (suffixes_shrink names p q s (suc d) (suc (suc (suc d))) (suc f) good (suc (suc t)))
      (λ y r h. absurd h))

  suffixes_steps : (mode : Mode) (t u : ℕ) → t ≤ u → (e : DeclTree Spot) (first ts : List Token) → Direct names (suc d) mode first (e, ts) → Growing t u e ts
  suffixes_steps mode zero u low e first ts x = by (reader.suffix_comes names p (suc d) ts) refl
    where
      by : (k : Bool) → reader.suffix_comes names p (suc d) ts ≡ k → Growing zero u e ts
      by true comes = suffixes_stop 0 e ts (Ok (e, ts)) _ (small mode e first ts x) comes refl
      by false none =
          steps_same (suffixes_halt names q (suc (suc (suc d))) 2 e ts (and_left (reader.suffix_comes names q (suc (suc (suc d))) ts) (nat_lt (depths.declarator_depth e) (suc (suc (suc d)))) none))
          (suffixes_halt names s (suc f) u e ts (and_left (reader.suffix_comes names s (suc f) ts) (nat_lt (depths.declarator_depth e) (suc f)) none))
  suffixes_steps mode (suc t) zero low e first ts x = absurd (omega (arith, low))
  suffixes_steps mode (suc t) (suc u) low e first ts x = by (reader.suffix_comes names p (suc d) ts) refl (λ y r z. suffixes_steps mode t u (omega (arith, low)) y first r z)
    where
      room : (k : Bool) → nat_lt (depths.declarator_depth e) (suc d) ≡ k → reader.suffix_comes names p (suc d) ts ≡ true → ((y : DeclTree Spot) (r : List Token) → Direct names (suc d) mode first (y, r) → Growing t u y r) → Growing (suc t) (suc u) e ts
      room true h comes rec = suffixes_on mode t u e first ts (ltb-true _ _ h) comes x rec
      room false h comes rec = suffixes_stop (suc t) e ts _ _ (small mode e first ts x) comes (suffixes_halt names p (suc d) (suc t) e ts (and_right (reader.suffix_comes names p (suc d) ts) (nat_lt (depths.declarator_depth e) (suc d)) h))

      by : (k : Bool) → reader.suffix_comes names p (suc d) ts ≡ k → ((y : DeclTree Spot) (r : List Token) → Direct names (suc d) mode first (y, r) → Growing t u y r) → Growing (suc t) (suc u) e ts
      by true comes rec = room (nat_lt (depths.declarator_depth e) (suc d)) refl comes rec
      by false none rec =
          let same = suffixes_halt names p (suc d) (suc t) e ts (and_left (reader.suffix_comes names p (suc d) ts) (nat_lt (depths.declarator_depth e) (suc d)) none) in
          steps_same (suffixes_halt names q (suc (suc (suc d))) (suc (suc (suc t))) e ts (and_left (reader.suffix_comes names q (suc (suc (suc d))) ts) (nat_lt (depths.declarator_depth e) (suc (suc (suc d)))) none) ∙ sym same)
          (suffixes_halt names s (suc f) (suc u) e ts (and_left (reader.suffix_comes names s (suc f) ts) (nat_lt (depths.declarator_depth e) (suc f)) none) ∙ sym same)

  -- ---- Declarators

  deep_suffixed : (mode : Mode) → Deeper (λ y. Further) (suffixed names mode p d) (suffixed names mode q (suc (suc d))) (suffixed names mode s f)
  deep_suffixed mode =
      let first = deep_direct names p q s (suc d) (suc (suc (suc d))) (suc f) good mode in
      record {
        steps = λ ts. steps_then _ _ _ (reader.suffixes names p (suc d) (suc d)) (reader.suffixes names q (suc (suc (suc d))) (suc (suc (suc d)))) (reader.suffixes names s (suc f) (suc f)) (first.steps ts)
            (λ x r is. suffixes_steps mode (suc d) (suc f) (omega (arith, deeper)) x ts r (direct_sound names p d sound mode ts (x, r) is))
            (suffixes_shrink names p q s (suc d) (suc (suc (suc d))) (suc f) good (suc (suc (suc d))))
            (λ x r h. absurd h);
        shrinks = λ ts. omega (arith, first.shrinks ts, bind_shrinks (reader.direct names q (suc (suc (suc d))) mode ts) (reader.suffixes names q (suc (suc (suc d))) (suc (suc (suc d)))) (suffixes_shrink names p q s (suc d) (suc (suc (suc d))) (suc f) good (suc (suc (suc d)))));
      }

  pub deep_declarator : (mode : Mode) → Deeper (λ y. Further) (reader.declarator names p (suc d) mode) (reader.declarator names q (suc (suc (suc d))) mode) (reader.declarator names s (suc f) mode)
  deep_declarator mode =
      let all = deep_where (next_is the_punct.Star) (deep_placed (λ n. deep_skipping (deep_behind_star names p q s (suc d) (suc (suc (suc d))) (suc f) good mode n))) (deep_suffixed mode) in
      record {
        steps = λ ts. steps_are (written_is names mode p d ts) (written_is names mode q (suc (suc d)) ts) (written_is names mode s f ts) (all.steps ts);
        shrinks = λ ts. subst (λ o. length (left o) ≤ length ts) (sym (written_is names mode q (suc (suc d)) ts)) (all.shrinks ts);
      }
