-- Lists of members and of constants that are begun are taken.
use Rattle.std.proofs.Common.{◌≡◌, refl, ℕ, suc, Bool, true, false, List, [], ◌∷◌, ◌++◌, length, Some, None, arith, sym, ap, subst, ◌∙◌, inl, inr}
use Rattle.std.specs.Prelude.{◌==◌}
use Rattle.cc_base.specs.declared.place.Spot.{Spot}
use Rattle.cc_base.specs.Spots as spots
use Rattle.cc_lex.specs.declared.token.Token.{Token}
use Rattle.cc_lex.specs.declared.token.TokenKind.TheVariants as kind
use Rattle.cc_lex.specs.declared.punct.Punct.TheVariants as the_punct
use Rattle.cc_tree.specs.Trees.{ExprOption, no_expr, an_expr, SpecTrees, MemberTree, members, MemberTrees, no_members, more_members, ConstantTree, constant, ConstantTrees, no_constants, more_constants, DeclTree, DeclTrees, no_declarators, more_declarators}
use Rattle.cc_tree.specs.Views.{gathered_declarators}
use Rattle.cc_grammar.specs.Names.{Names, is_type}
use Rattle.cc_grammar.specs.Outline.{Outline, end, part, ◌▸◌}
use Rattle.cc_grammar.specs.Outlines as outlines
use Rattle.cc_grammar.specs.Classes.{next_is, is_punct, skip, spot, starts_spec}
use Rattle.cc_grammar.specs.Outcomes.{Parser, and_then, take, pure, refuse, ◌<$>◌, ◌>>=◌, ◌>>◌}
use Rattle.cc_grammar.specs.Reading.{Inner, with_name, opposite, member_line, member_list, constant_value, one_constant, constant_list, separated, repeated, enclosed, enclosed_by, skipping, id}
use Rattle.cc_parse_laws.proofs.Spans.{Reads}
use Rattle.cc_parse_laws.proofs.Steps.{branch_true, branch_false}
use Rattle.cc_parse_laws.proofs.Lists.{takes}
use Rattle.cc_parse_laws.proofs.Peeks.{punct_ends, punct_other, punct_ends_declarator}
use Rattle.cc_parse_laws.proofs.NextTokens.{NextKind, kind_reads}
use Rattle.cc_parse_laws.proofs.Inner.{EndsSpecs, EndsDeclarator, CompleteInner}
use Rattle.cc_parse_laws.proofs.Firsts.{first_specs, spec_not}
use Rattle.cc_parse_laws.proofs.Climbs.{bound, not_zero}
use Rattle.cc_parse_laws.proofs.Listed as listed
use Rattle.cc_parse_laws.proofs.CompleteTypes.{id_again}
use Rattle.cc_parse_laws.proofs.CompleteMembers.{named_again, named_ends, line_again, members_again, Valued, one_again, one_opens, constants_again}
use Rattle.cc_parse_places.proofs.Begun.{Begun, at}
use Rattle.cc_parse_places.proofs.Spent.{Spent, spent_bind, spent_map, spent_is, HasNext, no_next, Within, token_elim, part_elim, last_within, at_kind, next_kind_punct}
use Rattle.cc_parse_places.proofs.SpentLists.{OthersCut, SomeCut, FollowingCut, separated_spent, enclosed_by_spent, repeated_spent}
use Rattle.cc_parse_places.proofs.SpentExpressions.{SpentInner}
use Rattle.cc_parse_places.proofs.SpentTypes.{begun_specs, specs_nil, ends_specs}

module _ (names : Names) (inner : Inner) (d : ℕ) (good : CompleteInner names inner d) (spent : SpentInner names inner d) where
  -- ---- Declarators with names

  abbrev NamedCut : DeclTree Spot → List Token → Type 0
  NamedCut f ts = Within (outlines.is_written f) (outlines.is_named f ≡ true) (outlines.declarator names f) d ts

  other_named : (fs : DeclTrees Spot) (m : List Token) → Within false (Unit {0}) (outlines.more_of_them names fs) d m → OthersCut (listed.NamedSpan names d) NamedCut (listed.declarators fs) m
  other_named no_declarators m (inl e) = e
  other_named no_declarators m (inr z) = let x = z.1 in x.cut
  other_named (more_declarators f fs) m (inl z) = inl z
  other_named (more_declarators f fs) m (inr z) =
      token_elim m z.1 (λ n. inl n) (λ v next st right. inr (next_kind_punct the_punct.Comma m next, part_elim (skip m) right (λ w. inl w) (λ c more h y rest. inr (c, more, (h, y), other_named fs c (last_within c rest)))))

  some_named : (f : DeclTree Spot) (fs : DeclTrees Spot) (ts : List Token) → Begun (outlines.declarators names (more_declarators f fs)) d ts [] → SomeCut (listed.NamedSpan names d) NamedCut f (listed.declarators fs) ts
  some_named f fs ts x = part_elim ts x (λ w. inl w) (λ m more h y rest. inr (m, more, (h, y), other_named fs m (last_within m rest)))

  abbrev listed_line : DeclTrees Spot → Outline
  listed_line fs = part false (outlines.HasDeclarators fs) (outlines.declarators names fs) (outlines.punct the_punct.Semicolon end)

  first_named : (fs : DeclTrees Spot) (m : List Token) → HasNext m → Begun (listed_line fs) d m [] → EndsSpecs names m
  first_named no_declarators m more x = part_elim m x (λ w. by w) (λ c next h y rest. absurd h)
    where
      by : Within false ⊥ (outlines.declarators names no_declarators) d m → EndsSpecs names m
      by (inl e) = no_next m more e
      by (inr z) = absurd z.0
  first_named (more_declarators f fs) m more x = part_elim m x (λ w. by w) (λ c next h y rest. named_ends names inner d good f m y.0 y.1 y.2)
    where
      by : Within false (outlines.HasDeclarators (more_declarators f fs)) (outlines.declarators names (more_declarators f fs)) d m → EndsSpecs names m
      by (inl e) = no_next m more e
      by (inr z) = part_elim m z.1 (λ w. ends_specs names inner d good spent f m more w) (λ c next h y rest. named_ends names inner d good f m c h y)

  -- ---- Members

  abbrev line_end : Spot → SpecTrees Spot → Parser (MemberTree Spot)
  line_end at ss = separated (inner.declarator with_name) >>= (λ fs. take the_punct.Semicolon >> pure (members at ss (gathered_declarators fs)))

  named_spent : (at : Spot) (ss : SpecTrees Spot) (fs : DeclTrees Spot) (m : List Token) → HasNext m → Within false (outlines.HasDeclarators fs) (outlines.declarators names fs) d m → Spent (line_end at ss m)
  named_spent at ss fs m more (inl e) = no_next m more e
  named_spent at ss no_declarators m more (inr z) = absurd z.0
  named_spent at ss (more_declarators f fs) m more (inr z) =
      spent_bind (separated (inner.declarator with_name) m) _
      (separated_spent (inner.declarator with_name) (listed.NamedSpan names d) NamedCut EndsDeclarator (λ us. punct_ends_declarator the_punct.Comma us refl refl refl) (named_again names inner d good) (λ g us c y. omega (arith, listed.named_shorter names d g us c y)) (λ g us w. spent.declarator with_name g us w)
      f (listed.declarators fs) m (some_named f fs m z.1))
      (λ y. refl)

  line_in : (n : Spot) (ss : SpecTrees Spot) (ts : List Token) → outlines.BeginAt ss n → Within false (Unit {0}) (outlines.specs names ss) d ts → Spent (member_line names inner (suc d) ts)
  line_in n ss ts b (inl e) = spent_bind (inner.specs ts) _ (specs_nil names inner d good spent ts e) (λ y. refl)
  line_in n ss ts b (inr z) = spent_bind (inner.specs ts) _ (spent.specs ss n ts b z.1) (λ y. refl)

  abbrev LineCut : MemberTree Spot → List Token → Type 0
  LineCut x ts = Within false (Unit {0}) (outlines.member_line names x) d ts

  line_nil : (ts : List Token) → ts ≡ [] → Spent (member_line names inner (suc d) ts)
  line_nil ts e = spent_bind (inner.specs ts) _ (specs_nil names inner d good spent ts e) (λ y. refl)

  line_spent : (x : MemberTree Spot) (ts : List Token) → LineCut x ts → Spent (member_line names inner (suc d) ts)
  line_spent x ts (inl e) = line_nil ts e
  line_spent (members n ss fs) ts (inr x) = by (last_within ts x.1)
    where
      by : Within false (outlines.BeginAt ss n) (outlines.within (outlines.specs names ss) ▸ listed_line fs) d ts → Spent (member_line names inner (suc d) ts)
      by (inl e) = line_nil ts e
      by (inr z) =
          part_elim ts z.1 (line_in n ss ts z.0)
          (λ m more u y rest.
          spent_is _ _ (bound (line_end (spot ts)) (inner.specs ts) ss m (good.specs ss n ts m z.0 y (first_named fs m more rest)))
          (part_elim m rest (named_spent (spot ts) ss fs m more)
          (λ c next h q others. token_elim c others (no_next c next) (λ v semicolon st last.
          spent_is _ _ (sym (bound (line_end (spot ts)) (inner.specs ts) ss m (good.specs ss n ts m z.0 y (first_named fs m more rest))) ∙ line_again names inner d good (members n ss fs) ts [] ([], z.0, (m, tt, y, (c, h, q, kind_reads (Unit {0}) (kind.Punct the_punct.Semicolon) None end d c [] semicolon tt tt last.cut)), refl) tt) refl))))

  line_starts : (x : MemberTree Spot) (ts : List Token) → HasNext ts → LineCut x ts → starts_spec names ts ≡ true
  line_starts x ts more (inl e) = no_next ts more e
  line_starts (members n ss fs) ts more (inr x) = by (last_within ts x.1)
    where
      specs_in : Within false (Unit {0}) (outlines.specs names ss) d ts → starts_spec names ts ≡ true
      specs_in (inl e) = no_next ts more e
      specs_in (inr y) = begun_specs names ss d ts more y.1

      by : Within false (outlines.BeginAt ss n) (outlines.within (outlines.specs names ss) ▸ listed_line fs) d ts → starts_spec names ts ≡ true
      by (inl e) = no_next ts more e
      by (inr z) = part_elim ts z.1 specs_in (λ m next u y rest. let q = first_specs names ss n d ts m z.0 y in q.0)

  following_lines : (ms : MemberTrees Spot) (ts : List Token) → Within false (Unit {0}) (outlines.member_lines names ms) d ts → FollowingCut (listed.LineSpan names d) LineCut (listed.lines ms) ts
  following_lines no_members ts (inl e) = e
  following_lines no_members ts (inr z) = let x = z.1 in x.cut
  following_lines (more_members m ms) ts (inl e) = inl (inl e)
  following_lines (more_members m ms) ts (inr z) = part_elim ts z.1 (λ w. inl w) (λ c more u y rest. inr (c, more, y, following_lines ms c (last_within c rest)))

  abbrev members_behind : Parser (List (MemberTree Spot))
  members_behind = take the_punct.LeftBrace >> repeated listed.goes_on_lines (member_line names inner (suc d)) >>= (λ ms. take the_punct.RightBrace >> pure ms)

  pub members_nil : (ts : List Token) → ts ≡ [] → Spent (member_list names inner (suc d) ts)
  members_nil ts e = subst (λ us. Spent (member_list names inner (suc d) us)) (sym e) (spent_is _ _ (branch_false (suc d == 0) refuse members_behind [] (not_zero d)) refl)

  lines_taken : (m : MemberTree Spot) (ms : MemberTrees Spot) (ts : List Token) → NextKind (kind.Punct the_punct.LeftBrace) ts → FollowingCut (listed.LineSpan names d) LineCut (m ∷ listed.lines ms) (skip ts) → Spent (member_list names inner (suc d) ts)
  lines_taken m ms ts next s =
      spent_is _ _ (branch_false (suc d == 0) refuse members_behind ts (not_zero d))
      (spent_bind (and_then (take the_punct.LeftBrace ts) (λ u. repeated listed.goes_on_lines (member_line names inner (suc d)))) _
      (spent_is _ _ (bound (λ u. repeated listed.goes_on_lines (member_line names inner (suc d))) (take the_punct.LeftBrace ts) tt (skip ts) (takes the_punct.LeftBrace ts (next_kind_punct the_punct.LeftBrace ts next)))
      (repeated_spent listed.goes_on_lines (member_line names inner (suc d)) (listed.LineSpan names d) LineCut (λ us. Unit {0}) (λ us e. tt) (line_again names inner d good) (listed.line_shorter names d) line_spent (line_nil [] refl)
      (λ x us more w. ap opposite (spec_not names the_punct.RightBrace us (line_starts x us more w))) (λ x us c y. ap opposite (spec_not names the_punct.RightBrace us (listed.first_line names d x us c y))) m (listed.lines ms) (skip ts) s))
      (λ y. refl))

  pub members_spent : (m : MemberTree Spot) (ms : MemberTrees Spot) (ts : List Token) → Begun (outlines.member_list names (more_members m ms)) (suc d) ts [] → Spent (member_list names inner (suc d) ts)
  members_spent m ms ts x = by (last_within ts x)
    where
      by : Within true (Unit {0}) (outlines.punct the_punct.LeftBrace ▸ outlines.within (outlines.member_line names m) ▸ outlines.within (outlines.member_lines names ms) ▸ outlines.punct the_punct.RightBrace ▸ end) (suc d) ts → Spent (member_list names inner (suc d) ts)
      by (inl e) = members_nil ts e
      by (inr z) = token_elim ts z.1 (members_nil ts) (λ u next st rest.
          part_elim (skip ts) rest (λ w. lines_taken m ms ts next (inl w))
          (λ c more v y others. part_elim c others (λ w. lines_taken m ms ts next (inr (c, more, y, following_lines ms c w)))
          (λ q more2 w y2 closing. token_elim q closing (no_next q more2) (λ g last_next s last.
          spent_is _ _ (members_again names inner d good m ms ts [] (
            [],
            tt,
            kind_reads (Unit {0}) (kind.Punct the_punct.LeftBrace) None (outlines.within (outlines.member_line names m) ▸ outlines.within (outlines.member_lines names ms) ▸ outlines.punct the_punct.RightBrace ▸ end) d ts [] next tt tt
                (c, tt, y, (q, tt, y2, kind_reads (Unit {0}) (kind.Punct the_punct.RightBrace) None end d q [] last_next tt tt last.cut)),
            refl,
          )) refl))))

  -- ---- Constants

  value_taken : (e : ExprOption Spot) (ts : List Token) → Within false (Unit {0}) (outlines.constant_value names e) d ts → Spent (constant_value names inner (suc d) ts)
  value_taken e ts (inl z) = spent_is _ _ (ap (constant_value names inner (suc d)) z) refl
  value_taken no_expr ts (inr z) = let x = z.1 in spent_is _ _ (ap (constant_value names inner (suc d)) x.cut) refl
  value_taken (an_expr e) ts (inr z) =
      token_elim ts z.1 (λ y. spent_is _ _ (ap (constant_value names inner (suc d)) y) refl) (λ u next st right.
      spent_is _ _ (branch_true (next_is the_punct.Equal ts) (skipping (an_expr <$> inner.expr 3)) (pure no_expr) ts (next_kind_punct the_punct.Equal ts next)) (spent_map (inner.expr 3 (skip ts)) an_expr (spent.expr 3 e (skip ts) (omega arith) (last_within (skip ts) right))))

  abbrev OneCut : ConstantTree Spot → List Token → Type 0
  OneCut c ts = Within false (Unit {0}) (outlines.constant_of names c) d ts

  one_nil : (ts : List Token) → ts ≡ [] → Spent (one_constant names inner (suc d) ts)
  one_nil ts e = spent_is _ _ (ap (one_constant names inner (suc d)) e) refl

  one_spent : (c : ConstantTree Spot) (ts : List Token) → OneCut c ts → Spent (one_constant names inner (suc d) ts)
  one_spent c ts (inl e) = one_nil ts e
  one_spent (constant n x e) ts (inr z) =
      token_elim ts z.1 (one_nil ts) (λ h next st rest.
      spent_is _ _ (bound (λ y. constant (spot ts) y <$> constant_value names inner (suc d)) (id names ts) x (skip ts) (id_again names (Some n) x end d ts (skip ts) (kind_reads (is_type names x ≡ false) (kind.Identifier x) (Some n) end d ts (skip ts) next h st refl)))
      (spent_map (constant_value names inner (suc d) (skip ts)) (constant (spot ts) x) (value_taken e (skip ts) (last_within (skip ts) rest))))

  one_not : (c : ConstantTree Spot) (ts : List Token) → OneCut c ts → next_is the_punct.RightBrace ts ≡ false
  one_not c ts (inl e) = ap (next_is the_punct.RightBrace) e
  one_not (constant n x e) ts (inr z) = token_elim ts z.1 (λ y. ap (next_is the_punct.RightBrace) y) (λ h next st rest. at_kind (next_is the_punct.RightBrace) (is_punct the_punct.RightBrace) (λ t us. refl) (kind.Identifier x) ts next)

  other_ones : (cs : ConstantTrees Spot) (m : List Token) → Within false (Unit {0}) (outlines.more_constants_of names cs) d m → OthersCut (listed.ConstantSpan names d) OneCut (listed.constants cs) m
  other_ones no_constants m (inl e) = e
  other_ones no_constants m (inr z) = let x = z.1 in x.cut
  other_ones (more_constants c cs) m (inl z) = inl z
  other_ones (more_constants c cs) m (inr z) =
      token_elim m z.1 (λ n. inl n) (λ v next st right. inr (next_kind_punct the_punct.Comma m next, part_elim (skip m) right (λ w. inl w) (λ q more h y rest. inr (q, more, y, other_ones cs q (last_within q rest)))))

  abbrev filler : ConstantTree Spot
  filler = constant spots.start [] no_expr

  -- a last comma, and nothing behind it
  ones_comma : (cs : ConstantTrees Spot) (m q : List Token) → Reads (outlines.more_constants_of names cs) d m q → HasNext q → next_is the_punct.Comma q ≡ true → skip q ≡ [] → OthersCut (listed.ConstantSpan names d) OneCut (listed.constants cs ++ filler ∷ []) m
  ones_comma no_constants m q y more c e = inr (ap (next_is the_punct.Comma) y ∙ c, inl (inl (ap skip y ∙ e)))
  ones_comma (more_constants x cs) [] q y more c e = absurd y
  ones_comma (more_constants x cs) (t ∷ m) q y more c e =
      let z = y.3 in
      let rest : Reads (outlines.more_constants_of names cs) d z.0 q = subst (Reads (outlines.more_constants_of names cs) d z.0) z.3.3 z.3.2 in
      inr (next_kind_punct the_punct.Comma (t ∷ m) y.1, inr (z.0, longer cs z.0 q rest more, z.2, ones_comma cs z.0 q rest more c e))
    where
      longer : (cs : ConstantTrees Spot) (m q : List Token) → Reads (outlines.more_constants_of names cs) d m q → HasNext q → HasNext m
      longer no_constants m q y more = subst HasNext (sym y) more
      longer (more_constants x cs) [] q y more = absurd y
      longer (more_constants x cs) (t ∷ m) q y more = tt

  pub constants_nil : (ts : List Token) → ts ≡ [] → Spent (constant_list names inner (suc d) ts)
  constants_nil ts e = subst (λ us. Spent (constant_list names inner (suc d) us)) (sym e) (spent_is _ _ (branch_false (suc d == 0) refuse (enclosed (one_constant names inner (suc d))) [] (not_zero d)) refl)

  ones_taken : (c : ConstantTree Spot) (cs : List (ConstantTree Spot)) (ts : List Token) → NextKind (kind.Punct the_punct.LeftBrace) ts → SomeCut (listed.ConstantSpan names d) OneCut c cs (skip ts) → Spent (constant_list names inner (suc d) ts)
  ones_taken c cs ts next s =
      spent_is _ _ (branch_false (suc d == 0) refuse (enclosed (one_constant names inner (suc d))) ts (not_zero d) ∙ bound (λ u us. enclosed_by (one_constant names inner (suc d)) (length us) us) (take the_punct.LeftBrace ts) tt (skip ts) (takes the_punct.LeftBrace ts (next_kind_punct the_punct.LeftBrace ts next)))
      (enclosed_by_spent (one_constant names inner (suc d)) (listed.ConstantSpan names d) OneCut (Valued names inner d good) (λ us e. (punct_ends 3 the_punct.Comma us (omega arith) e, punct_other the_punct.Equal the_punct.Comma us refl e)) (one_again names inner d good) (λ x us m y. omega (arith, listed.constant_shorter names d x us m y)) one_spent
      one_not (λ x us m y. one_opens names inner d good x us m y) (length (skip ts)) cs c (skip ts) (omega arith) s)

  trailing_taken : (c : ConstantTree Spot) (cs : ConstantTrees Spot) (trailing : Bool) (ts m q : List Token) → NextKind (kind.Punct the_punct.LeftBrace) ts → HasNext m → Reads (outlines.constant_of names c) d (skip ts) m → HasNext q → Reads (outlines.more_constants_of names cs) d m q
      → Within false (Unit {0}) (outlines.trailing_comma trailing) d q → Spent (constant_list names inner (suc d) ts)
  trailing_taken c cs trailing ts m q next more y more2 z (inl e) = no_next q more2 e
  trailing_taken c cs false ts m q next more y more2 z (inr w) = let x = w.1 in no_next q more2 x.cut
  trailing_taken c cs true ts m q next more y more2 z (inr w) =
      token_elim q w.1 (no_next q more2) (λ u comma st last. ones_taken c (listed.constants cs ++ filler ∷ []) ts next (inr (m, more, y, ones_comma cs m q z more2 (next_kind_punct the_punct.Comma q comma) last.cut)))

  pub constants_spent : (c : ConstantTree Spot) (cs : ConstantTrees Spot) (trailing : Bool) (ts : List Token) → Begun (outlines.constant_list names (more_constants c cs) trailing) (suc d) ts [] → Spent (constant_list names inner (suc d) ts)
  constants_spent c cs trailing ts x = by (last_within ts x)
    where
      by : Within true (Unit {0}) (outlines.punct the_punct.LeftBrace ▸ outlines.within (outlines.constant_of names c) ▸ outlines.within (outlines.more_constants_of names cs) ▸ outlines.within (outlines.trailing_comma trailing) ▸ outlines.punct the_punct.RightBrace ▸ end) (suc d) ts → Spent (constant_list names inner (suc d) ts)
      by (inl e) = constants_nil ts e
      by (inr z) = token_elim ts z.1 (constants_nil ts) (λ u next st rest.
          part_elim (skip ts) rest (λ w. ones_taken c (listed.constants cs) ts next (inl w))
          (λ m more v y others. part_elim m others (λ w. ones_taken c (listed.constants cs) ts next (inr (m, more, y, other_ones cs m w)))
          (λ q more2 w y2 closing. part_elim q closing (trailing_taken c cs trailing ts m q next more y more2 y2)
          (λ g more3 f y3 brace. token_elim g brace (no_next g more3) (λ h last_next s last.
          spent_is _ _ (constants_again names inner d good c cs trailing ts [] (
            [],
            tt,
            kind_reads (Unit {0}) (kind.Punct the_punct.LeftBrace) None (outlines.within (outlines.constant_of names c) ▸ outlines.within (outlines.more_constants_of names cs) ▸ outlines.within (outlines.trailing_comma trailing) ▸ outlines.punct the_punct.RightBrace ▸ end) d ts [] next tt tt
                (m, tt, y, (q, tt, y2, (g, tt, y3, kind_reads (Unit {0}) (kind.Punct the_punct.RightBrace) None end d g [] last_next tt tt last.cut))),
            refl,
          )) refl)))))
