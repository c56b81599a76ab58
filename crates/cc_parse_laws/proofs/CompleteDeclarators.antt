-- Each declarator is read back, before a token that could not go on with one.
use Rattle.std.proofs.Common.{◌≡◌, ◌≤◌, ◌+◌, refl, ℕ, zero, suc, Bool, true, false, List, length, Some, None, Ok, arith, sym, ap, ◌∙◌, subst}
use Rattle.std.specs.Prelude.{◌&&◌, ◌||◌, ◌==◌}
use Rattle.cc_base.specs.declared.place.Spot.{Spot}
use Rattle.cc_lex.specs.declared.token.Token.{Token}
use Rattle.cc_lex.specs.declared.token.TokenKind.TheVariants as kind
use Rattle.cc_lex.specs.declared.keyword.Keyword.TheVariants as the_keyword
use Rattle.cc_lex.specs.declared.punct.Punct.TheVariants as the_punct
use Rattle.cc_tree.specs.Trees.{Name, ExprOption, no_expr, an_expr, TypeTrees, no_types, more_types, DeclTree, declared, nameless, pointer, array, function, grouped}
use Rattle.cc_tree.specs.Views.{gathered_types}
use Rattle.cc_grammar.specs.Names.{Names, is_type}
use Rattle.cc_grammar.specs.Outline.{end, size, FitsSpot}
use Rattle.cc_grammar.specs.Outlines as outlines
use Rattle.cc_grammar.specs.Classes.{next_is, next_is_keyword, skip, spot, next_ident, ident, starts_spec}
use Rattle.cc_grammar.specs.Outcomes.{Parser, and_then, pure, refuse, take, ◌>>=◌, ◌>>◌, ◌<$>◌}
use Rattle.cc_grammar.specs.Reading.{Inner, Mode, with_name, without_name, with_or_without, wants_name, takes_name, declarator, direct, group, nothing, suffixes, array_length, parameters, consts, consts_by, begins_parameters, is_id, id, spot_or, opening, opposite, where_next, skipping, placed, written_only}
use Rattle.std.proofs.lemmas.Bool.{and_left, and_right, and_from, or_left, or_right, or_from}
use Rattle.cc_parse_laws.proofs.Spans.{Reads}
use Rattle.cc_parse_laws.proofs.Steps.{next_token, reads_next, reads_next_keyword, reads_take, branch_true, branch_false, reads_length}
use Rattle.cc_parse_laws.proofs.Peeks.{after, inside, at_token, punct_other, punct_ends, punct_ends_declarator, punct_ident}
use Rattle.cc_parse_laws.proofs.Firsts.{inside_sinks, first_operand, opens_not}
use Rattle.cc_parse_laws.proofs.Grows.{Suffixed, Grows, IsGrown, no_star, left_depth, grown, rooted, done_at}
use Rattle.cc_parse_laws.proofs.FirstDeclarators.{first_declarator, declarator_const}
use Rattle.cc_parse_laws.proofs.Climbs.{bound, mapped, done, rest_is, not_zero}
use Rattle.cc_parse_laws.proofs.CompleteTypes.{id_again, parameters_again, first_parameter}
use Rattle.cc_parse_laws.proofs.CompletePrefixes.{close}
use Rattle.cc_parse_laws.proofs.Listed as listed
use Rattle.cc_parse_laws.proofs.Inner.{ReadsExpr, ReadsDeclarator, Suits, EndsDeclarator, CompleteInner}

-- ---- Spots

-- the spot of a suffix is that of what stands before it
suffix_stands : (f : DeclTree Spot) (n at : Spot) → outlines.HasSpot f n → FitsSpot (outlines.suffix_spot f n) at → spot_or f at ≡ n
suffix_stands (declared m x) n at h s = sym h
suffix_stands nameless n at h s = s
suffix_stands (pointer m c f) n at h s = sym h
suffix_stands (array m f e) n at h s = sym h
suffix_stands (function m f ps) n at h s = sym h
suffix_stands (grouped m f) n at h s = sym h

spot_is : (f : DeclTree Spot) (n at : Spot) → outlines.is_named f ≡ true → outlines.HasSpot f n → spot_or f at ≡ n
spot_is (declared m x) n at e h = sym h
spot_is nameless n at e h = absurd cc
spot_is (pointer m c f) n at e h = sym h
spot_is (array m f l) n at e h = sym h
spot_is (function m f ps) n at e h = sym h
spot_is (grouped m f) n at e h = sym h

opening_by : (b : Bool) (f : DeclTree Spot) (n at : Spot) → outlines.is_named f ≡ b → outlines.ClosesOver f n → FitsSpot (outlines.opening_spot f n) at → opening f at ≡ n
opening_by true f n at e h s = rw e (spot_is f n at e (h e))
opening_by false f n at e h s = rw e (rw e at s)

-- and that of a form around a declarator its own or that of its first token
opening_stands : (f : DeclTree Spot) (n at : Spot) → outlines.ClosesOver f n → FitsSpot (outlines.opening_spot f n) at → opening f at ≡ n
opening_stands f n at h s = opening_by (outlines.is_named f) f n at refl h s

-- ---- Pointers

consts_size : (c : ℕ) → size (outlines.consts c) ≡ c
consts_size zero = refl
consts_size (suc c) = ap suc (consts_size c)

one_more : (x : ℕ) → x + 1 ≡ suc x
one_more x = omega arith

module _ (names : Names) (inner : Inner) (d : ℕ) where
  abbrev count : ℕ → Parser ℕ
  count turns = consts_by names inner (suc d) turns

  consts_by_again : (c turns : ℕ) (ts r : List Token) → Reads (outlines.consts c) d ts r → next_is_keyword the_keyword.Const r ≡ false → c ≤ turns → consts_by names inner (suc d) turns ts ≡ Ok (c, r)
  consts_by_again zero zero ts r y e h = rest_is 0 ts r y
  consts_by_again zero (suc turns) ts r y e h =
      branch_false (next_is_keyword the_keyword.Const ts) (skipping ((λ c. c + 1) <$> count turns)) (pure 0) ts (ap (next_is_keyword the_keyword.Const) y ∙ e) ∙ rest_is 0 ts r y
  consts_by_again (suc c) zero ts r y e h = absurd (omega (arith, h))
  consts_by_again (suc c) (suc turns) ts r y e h =
      let t = next_token (Unit {0}) (kind.Keyword the_keyword.Const) None (outlines.consts c) d ts r y in
      let rest : count turns (skip ts) ≡ Ok (c, r) = consts_by_again c turns (skip ts) r t.after e (omega (arith, h)) in
      branch_true (next_is_keyword the_keyword.Const ts) (skipping ((λ x. x + 1) <$> count turns)) (pure 0) ts (reads_next_keyword (Unit {0}) the_keyword.Const None (outlines.consts c) d ts r y)
      ∙ mapped (λ x. x + 1) (count turns (skip ts)) c r rest
      ∙ ap (λ x. done x r) (one_more c)

  pub consts_again : (c : ℕ) (ts r : List Token) → Reads (outlines.consts c) d ts r → next_is_keyword the_keyword.Const r ≡ false → consts names inner (suc d) ts ≡ Ok (c, r)
  consts_again c ts r y e = consts_by_again c (length ts) ts r y e (omega (arith, reads_length (outlines.consts c) d ts r y, consts_size c))

-- ---- The forms

suits_as : (mode : Mode) (f g : DeclTree Spot) → outlines.is_named f ≡ outlines.is_named g → Suits mode f → Suits mode g
suits_as with_name f g e h = sym e ∙ h
suits_as without_name f g e h = sym e ∙ h
suits_as with_or_without f g e h = tt

takes_declared : (mode : Mode) (n : Spot) (x : Name) → Suits mode (declared n x) → takes_name mode ≡ true
takes_declared with_name n x h = refl
takes_declared without_name n x h = absurd cc
takes_declared with_or_without n x h = refl

pub wants_none : (mode : Mode) → Suits mode nameless → wants_name mode ≡ false
wants_none with_name h = absurd cc
wants_none without_name h = refl
wants_none with_or_without h = refl

module _ (names : Names) (inner : Inner) (d : ℕ) where
  -- a parenthesis after nothing begins parameters
  parameters_begin : (mode : Mode) (ts : List Token) → Suits mode nameless → (next_is the_punct.RightParen (skip ts) || starts_spec names (skip ts)) ≡ true → begins_parameters names inner (suc d) mode ts ≡ true
  parameters_begin with_name ts h e = absurd cc
  parameters_begin without_name ts h e = e
  parameters_begin with_or_without ts h e = e

  -- and one before a declarator doesn't
  pub group_begins : (mode : Mode) (ts : List Token) → next_is the_punct.RightParen (skip ts) ≡ false → starts_spec names (skip ts) ≡ false → begins_parameters names inner (suc d) mode ts ≡ false
  group_begins with_name ts a b = refl
  group_begins without_name ts a b = or_from (next_is the_punct.RightParen (skip ts)) (starts_spec names (skip ts)) a b
  group_begins with_or_without ts a b = or_from (next_is the_punct.RightParen (skip ts)) (starts_spec names (skip ts)) a b

  -- a name comes
  abbrev pub name_comes : Mode → List Token → Bool
  name_comes mode ts = takes_name mode && is_id names inner (suc d) (next_ident ts)

  abbrev pub group_comes : Mode → List Token → Bool
  group_comes mode ts = next_is the_punct.LeftParen ts && opposite (begins_parameters names inner (suc d) mode ts)

  abbrev pub by_name : Parser (DeclTree Spot)
  by_name = placed (λ n. declared n <$> id names)

  abbrev pub group_or : Mode → Parser (DeclTree Spot)
  group_or mode = where_next (group_comes mode) (group names inner (suc d) mode) (nothing names inner (suc d) mode)

  pub no_name_comes : (mode : Mode) (ts : List Token) → next_ident ts ≡ None → name_comes mode ts ≡ false
  no_name_comes mode ts e = and_right (takes_name mode) (is_id names inner (suc d) (next_ident ts)) (ap (is_id names inner (suc d)) e)

  grown_declared : (n : Spot) (x : Name) → IsGrown names inner d (declared n x)
  grown_declared n x mode ts r suits y follows =
      let t = next_token (is_type names x ≡ false) (kind.Identifier x) (Some n) end d ts r y in
      let ident_is : next_ident ts ≡ Some x = at_token next_ident ident (λ t us. refl) (is_type names x ≡ false) (kind.Identifier x) (Some n) end d ts r y in
      let is : is_id names inner (suc d) (next_ident ts) ≡ true = ap (is_id names inner (suc d)) ident_is ∙ ap opposite t.holds in
      rooted names inner d mode ts (declared n x) r
      (branch_true (name_comes mode ts) by_name (group_or mode) ts (and_from (takes_name mode) (is_id names inner (suc d) (next_ident ts)) (takes_declared mode n x suits) is)
      ∙ mapped (declared (spot ts)) (id names ts) x (skip ts) (id_again names (Some n) x end d ts r y)
      ∙ ap (λ m. done (declared m x) (skip ts)) t.at
      ∙ rest_is (declared n x) (skip ts) r t.after)

  no_group : (mode : Mode) (ts : List Token) → Suits mode nameless → (b : Bool) → next_is the_punct.LeftParen ts ≡ b → (next_is the_punct.LeftParen ts ≡ true → (next_is the_punct.RightParen (skip ts) || starts_spec names (skip ts)) ≡ true) → group_comes mode ts ≡ false
  no_group mode ts suits true e h = and_right (next_is the_punct.LeftParen ts) (opposite (begins_parameters names inner (suc d) mode ts)) (ap opposite (parameters_begin mode ts suits (h e)))
  no_group mode ts suits false e h = and_left (next_is the_punct.LeftParen ts) (opposite (begins_parameters names inner (suc d) mode ts)) e

  grown_nameless : IsGrown names inner d nameless
  grown_nameless mode ts r suits y follows =
      let here : Suffixed names ts = subst (Suffixed names) (sym y) (follows refl) in
      rooted names inner d mode ts nameless r
      (branch_false (name_comes mode ts) by_name (group_or mode) ts (no_name_comes mode ts here.no_name)
      ∙ branch_false (group_comes mode ts) (group names inner (suc d) mode) (nothing names inner (suc d) mode) ts (no_group mode ts suits (next_is the_punct.LeftParen ts) refl here.paren)
      ∙ branch_false (wants_name mode) refuse (pure nameless) ts (wants_none mode suits)
      ∙ rest_is nameless ts r y)

module _ (names : Names) (inner : Inner) (d : ℕ) (good : CompleteInner names inner d) where
  abbrev group_end : Spot → DeclTree Spot → Parser (DeclTree Spot)
  group_end at f = take the_punct.RightParen >> pure (grouped (opening f at) f)

  grown_grouped : (n : Spot) (f : DeclTree Spot) → IsGrown names inner d (grouped n f)
  grown_grouped n f mode ts r suits y follows =
      let outline = inside (outlines.declarator names (grouped n f)) in
      let last = y.0 in
      let t = next_token (Unit {0}) (kind.Punct the_punct.LeftParen) (outlines.opening_spot f n) (after outline) d ts last y.2 in
      let q = t.after.0 in
      let written : outlines.is_written f ≡ true = t.after.1 in
      let open_next = reads_next (Unit {0}) the_punct.LeftParen (outlines.opening_spot f n) (after outline) d ts last y.2 in
      let close_next = reads_next (Unit {0}) the_punct.RightParen None end d q last t.after.3 in
      let first = first_declarator names f d (skip ts) q written (inside_sinks (outlines.is_written f) (outlines.declarator names f) d (skip ts) q t.after.2) in
      let read : inner.declarator mode (skip ts) ≡ Ok (f, q) = good.declarator mode f (skip ts) q (suits_as mode (grouped n f) f refl suits) t.after.2 (punct_ends_declarator the_punct.RightParen q refl refl refl close_next) in
      let both : and_then (inner.declarator mode (skip ts)) (written_only names inner (suc d)) ≡ Ok (f, q) = bound (written_only names inner (suc d)) (inner.declarator mode (skip ts)) f q read ∙ branch_true (outlines.is_written f) (pure f) refuse q written in
      rooted names inner d mode ts (grouped n f) r
      (branch_false (name_comes names inner d mode ts) (by_name names inner d) (group_or names inner d mode) ts (no_name_comes names inner d mode ts (punct_ident the_punct.LeftParen ts open_next))
      ∙ branch_true (group_comes names inner d mode ts) (group names inner (suc d) mode) (nothing names inner (suc d) mode) ts
      (and_from (next_is the_punct.LeftParen ts) (opposite (begins_parameters names inner (suc d) mode ts)) open_next (ap opposite (group_begins names inner d mode ts first.no_close first.no_spec)))
      ∙ bound (group_end (spot ts)) (and_then (inner.declarator mode (skip ts)) (written_only names inner (suc d))) f q both
      ∙ close the_punct.RightParen (grouped (opening f (spot ts)) f) d q last t.after.3
      ∙ ap (λ m. done (grouped m f) last) (opening_stands f n (spot ts) y.1 t.at)
      ∙ rest_is (grouped n f) last r y.3)

  pub length_again : (e : ExprOption Spot) (ts q : List Token) → Reads (outlines.length_of names e) d ts q → next_is the_punct.RightBracket q ≡ true → take the_punct.RightBracket q ≡ Ok (tt, skip q) → array_length names inner (suc d) ts ≡ Ok (e, skip q)
  length_again no_expr ts q y c took =
      branch_true (next_is the_punct.RightBracket ts) (skipping (pure no_expr)) (inner.expr 3 >>= (λ e. take the_punct.RightBracket >> pure (an_expr e))) ts (ap (next_is the_punct.RightBracket) y ∙ c)
      ∙ ap (λ us. done no_expr (skip us)) y
  length_again (an_expr e) ts q y c took =
      let here : ReadsExpr names d e ts q = subst (ReadsExpr names d e ts) y.3 y.2 in
      let read : inner.expr 3 ts ≡ Ok (e, q) = good.expr 3 e ts q y.1 here (punct_ends 3 the_punct.RightBracket q (omega arith) c) in
      branch_false (next_is the_punct.RightBracket ts) (skipping (pure no_expr)) (inner.expr 3 >>= (λ e. take the_punct.RightBracket >> pure (an_expr e))) ts (opens_not names the_punct.RightBracket ts refl (first_operand names e d ts q here))
      ∙ bound (λ f us. and_then (take the_punct.RightBracket us) (λ z vs. done (an_expr f) vs)) (inner.expr 3 ts) e q read
      ∙ ap (λ z. and_then z (λ w vs. done (an_expr e) vs)) took

  abbrev array_behind : DeclTree Spot → Spot → Parser (DeclTree Spot)
  array_behind a at = skipping (array (spot_or a at) a <$> array_length names inner (suc d))

  abbrev function_behind : DeclTree Spot → Spot → Parser (DeclTree Spot)
  function_behind a at = skipping ((λ ps. function (spot_or a at) a (gathered_types ps)) <$> parameters names inner (suc d))

  grown_array : (n : Spot) (a : DeclTree Spot) (e : ExprOption Spot) → IsGrown names inner d a → IsGrown names inner d (array n a e)
  grown_array n a e ga mode ts r suits y follows =
      let outline = after (inside (outlines.declarator names (array n a e))) in
      let last = y.0 in
      let z = y.2 in
      let m = z.0 in
      let t = next_token (Unit {0}) (kind.Punct the_punct.LeftBracket) (outlines.suffix_spot a n) (after outline) d m last z.3 in
      let open_next = reads_next (Unit {0}) the_punct.LeftBracket (outlines.suffix_spot a n) (after outline) d m last z.3 in
      let q = t.after.0 in
      let t2 = next_token (Unit {0}) (kind.Punct the_punct.RightBracket) None end d q last t.after.3 in
      let close_next = reads_next (Unit {0}) the_punct.RightBracket None end d q last t.after.3 in
      let no_paren : next_is the_punct.LeftParen m ≡ false = punct_other the_punct.LeftParen the_punct.LeftBracket m refl open_next in
      let here : Suffixed names m = record { no_name = punct_ident the_punct.LeftBracket m open_next; paren = λ yes. absurd cc } in
      let first : Grows names inner d mode ts a m = ga mode ts m (suits_as mode (array n a e) a refl suits) (inside_sinks (outlines.is_written a) (outlines.declarator names a) d ts m z.2) (λ e. here) in
      let read : array_length names inner (suc d) (skip m) ≡ Ok (e, skip q) = length_again e (skip m) q t.after.2 close_next (reads_take (Unit {0}) the_punct.RightBracket None end d q last t.after.3) in
      grown names inner d mode ts a (array n a e) m r first (or_left (next_is the_punct.LeftBracket m) (next_is the_punct.LeftParen m) open_next) (left_depth names a d ts m z.2) (omega arith)
      (branch_true (next_is the_punct.LeftBracket m) (array_behind a (spot m)) (function_behind a (spot m)) m open_next
      ∙ mapped (array (spot_or a (spot m)) a) (array_length names inner (suc d) (skip m)) e (skip q) read
      ∙ ap (λ c. done (array c a e) (skip q)) (suffix_stands a n (spot m) y.1 t.at)
      ∙ rest_is (array n a e) (skip q) r (t2.after ∙ y.3))

  -- what stands behind the parenthesis
  parameters_ahead : (us : TypeTrees Spot) (ts q : List Token) → Reads (outlines.parameters names us) d ts q → next_is the_punct.RightParen q ≡ true → (next_is the_punct.RightParen ts || starts_spec names ts) ≡ true
  parameters_ahead no_types ts q y c = or_left (next_is the_punct.RightParen ts) (starts_spec names ts) (ap (next_is the_punct.RightParen) y ∙ c)
  parameters_ahead (more_types u us) ts q y c = or_right (next_is the_punct.RightParen ts) (starts_spec names ts) (first_parameter names inner d good u ts y.0 y.2)

  grown_function : (n : Spot) (a : DeclTree Spot) (us : TypeTrees Spot) → IsGrown names inner d a → IsGrown names inner d (function n a us)
  grown_function n a us ga mode ts r suits y follows =
      let outline = after (inside (outlines.declarator names (function n a us))) in
      let last = y.0 in
      let z = y.2 in
      let m = z.0 in
      let t = next_token (Unit {0}) (kind.Punct the_punct.LeftParen) (outlines.suffix_spot a n) (after outline) d m last z.3 in
      let open_next = reads_next (Unit {0}) the_punct.LeftParen (outlines.suffix_spot a n) (after outline) d m last z.3 in
      let q = t.after.0 in
      let t2 = next_token (Unit {0}) (kind.Punct the_punct.RightParen) None end d q last t.after.3 in
      let close_next = reads_next (Unit {0}) the_punct.RightParen None end d q last t.after.3 in
      let here : Suffixed names m = record { no_name = punct_ident the_punct.LeftParen m open_next; paren = λ yes. parameters_ahead us (skip m) q t.after.2 close_next } in
      let first : Grows names inner d mode ts a m = ga mode ts m (suits_as mode (function n a us) a refl suits) (inside_sinks (outlines.is_written a) (outlines.declarator names a) d ts m z.2) (λ e. here) in
      let read : parameters names inner (suc d) (skip m) ≡ Ok (listed.types us, skip q) = parameters_again names inner d good us (skip m) q t.after.2 close_next in
      grown names inner d mode ts a (function n a us) m r first (or_right (next_is the_punct.LeftBracket m) (next_is the_punct.LeftParen m) open_next) (left_depth names a d ts m z.2) (omega arith)
      (branch_false (next_is the_punct.LeftBracket m) (array_behind a (spot m)) (function_behind a (spot m)) m (punct_other the_punct.LeftBracket the_punct.LeftParen m refl open_next)
      ∙ mapped (λ ps. function (spot_or a (spot m)) a (gathered_types ps)) (parameters names inner (suc d) (skip m)) (listed.types us) (skip q) read
      ∙ ap (λ ps. done (function (spot_or a (spot m)) a ps) (skip q)) (listed.types_back us)
      ∙ ap (λ c. done (function c a us) (skip q)) (suffix_stands a n (spot m) y.1 t.at)
      ∙ rest_is (function n a us) (skip q) r (t2.after ∙ y.3))

  pub is_grown : (f : DeclTree Spot) → outlines.is_direct f ≡ true → IsGrown names inner d f
  is_grown (declared n x) e mode ts r suits y follows = grown_declared names inner d n x mode ts r suits y follows
  is_grown nameless e mode ts r suits y follows = grown_nameless names inner d mode ts r suits y follows
  is_grown (pointer n c f) e mode ts r suits y follows = absurd cc
  is_grown (array n f l) e mode ts r suits y follows = grown_array n f l (is_grown f y.2.1) mode ts r suits y follows
  is_grown (function n f ps) e mode ts r suits y follows = grown_function n f ps (is_grown f y.2.1) mode ts r suits y follows
  is_grown (grouped n f) e mode ts r suits y follows = grown_grouped n f mode ts r suits y follows

  -- ---- All declarators

  abbrev pointer_behind : Mode → Parser (DeclTree Spot)
  pointer_behind mode = placed (λ n. skipping (consts names inner (suc d) >>= (λ c. (λ e. pointer (opening e n) c e) <$> inner.declarator mode)))

  abbrev direct_behind : Mode → Parser (DeclTree Spot)
  direct_behind mode = direct names inner (suc d) mode >>= suffixes names inner (suc d) (suc d)

  direct_again : (mode : Mode) (f : DeclTree Spot) (ts r : List Token) → outlines.is_direct f ≡ true → Suits mode f → Reads (outlines.declarator names f) d ts r → EndsDeclarator r → declarator names inner (suc d) mode ts ≡ Ok (f, r)
  direct_again mode f ts r e suits y ends =
      let follows : Suffixed names r = record { no_name = ends.no_name; paren = λ yes. let no : next_is the_punct.LeftParen r ≡ false = ends.no_paren in absurd cc } in
      let g = is_grown f e mode ts r suits y (λ w. follows) in
      branch_false (suc d == 0) (nothing names inner (suc d) mode) (where_next (next_is the_punct.Star) (pointer_behind mode) (direct_behind mode)) ts (not_zero d)
      ∙ branch_false (next_is the_punct.Star ts) (pointer_behind mode) (direct_behind mode) ts (no_star names f d ts r e y ends.no_star)
      ∙ g.same
      ∙ done_at names inner d g.turns f r ends

  pointer_again : (mode : Mode) (n : Spot) (c : ℕ) (f : DeclTree Spot) (ts r : List Token) → Suits mode (pointer n c f) → Reads (outlines.declarator names (pointer n c f)) d ts r → EndsDeclarator r → declarator names inner (suc d) mode ts ≡ Ok (pointer n c f, r)
  pointer_again mode n c f ts r suits y ends =
      let outline = inside (outlines.declarator names (pointer n c f)) in
      let last = y.0 in
      let t = next_token (Unit {0}) (kind.Punct the_punct.Star) (outlines.opening_spot f n) (after outline) d ts last y.2 in
      let star = reads_next (Unit {0}) the_punct.Star (outlines.opening_spot f n) (after outline) d ts last y.2 in
      let q = t.after.0 in
      let z = t.after.3 in
      let here : ReadsDeclarator names d f q r = subst (ReadsDeclarator names d f q) (z.3 ∙ y.3) z.2 in
      let first : consts names inner (suc d) (skip ts) ≡ Ok (c, q) = consts_again names inner d c (skip ts) q t.after.2 (declarator_const names f d q r here ends.no_const) in
      let second : inner.declarator mode q ≡ Ok (f, r) = good.declarator mode f q r (suits_as mode (pointer n c f) f refl suits) here ends in
      branch_false (suc d == 0) (nothing names inner (suc d) mode) (where_next (next_is the_punct.Star) (pointer_behind mode) (direct_behind mode)) ts (not_zero d)
      ∙ branch_true (next_is the_punct.Star ts) (pointer_behind mode) (direct_behind mode) ts star
      ∙ bound (λ x us. and_then (inner.declarator mode us) (λ e vs. done (pointer (opening e (spot ts)) x e) vs)) (consts names inner (suc d) (skip ts)) c q first
      ∙ mapped (λ e. pointer (opening e (spot ts)) c e) (inner.declarator mode q) f r second
      ∙ ap (λ m. done (pointer m c f) r) (opening_stands f n (spot ts) y.1 t.at)

  pub declarator_again : (mode : Mode) (f : DeclTree Spot) (ts r : List Token) → Suits mode f → ReadsDeclarator names (suc d) f ts r → EndsDeclarator r → declarator names inner (suc d) mode ts ≡ Ok (f, r)
  declarator_again mode (declared n x) ts r suits y ends = direct_again mode (declared n x) ts r refl suits y ends
  declarator_again mode nameless ts r suits y ends = direct_again mode nameless ts r refl suits y ends
  declarator_again mode (pointer n c f) ts r suits y ends = pointer_again mode n c f ts r suits y ends
  declarator_again mode (array n f e) ts r suits y ends = direct_again mode (array n f e) ts r refl suits y ends
  declarator_again mode (function n f ps) ts r suits y ends = direct_again mode (function n f ps) ts r refl suits y ends
  declarator_again mode (grouped n f) ts r suits y ends = direct_again mode (grouped n f) ts r refl suits y ends
