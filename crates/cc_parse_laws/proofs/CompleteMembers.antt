-- Lists of members and of enumeration constants are read back.
use Rattle.std.proofs.Common.{◌≡◌, refl, ℕ, suc, true, false, List, ◌∷◌, Some, None, Ok, arith, ap, ◌∙◌, subst}
use Rattle.std.specs.Prelude.{◌==◌}
use Rattle.cc_base.specs.declared.place.Spot.{Spot}
use Rattle.cc_lex.specs.declared.token.Token.{Token}
use Rattle.cc_lex.specs.declared.token.TokenKind.TheVariants as kind
use Rattle.cc_lex.specs.declared.punct.Punct.TheVariants as the_punct
use Rattle.cc_tree.specs.Trees.{ExprOption, no_expr, an_expr, MemberTree, members, more_members, ConstantTree, constant, DeclTree, no_declarators, more_declarators}
use Rattle.cc_tree.specs.Views.{gathered_declarators}
use Rattle.cc_grammar.specs.Names.{Names, is_type}
use Rattle.cc_grammar.specs.Outline.{end}
use Rattle.cc_grammar.specs.Outlines as outlines
use Rattle.cc_grammar.specs.Classes.{next_is, is_punct, skip, spot}
use Rattle.cc_grammar.specs.Outcomes.{Parser, and_then, pure, refuse, take, ◌>>=◌, ◌>>◌, ◌<$>◌}
use Rattle.cc_grammar.specs.Reading.{Inner, with_name, member_line, constant_value, one_constant, id, opposite, separated, repeated, enclosed, skipping}
use Rattle.cc_parse_laws.proofs.Spans.{Reads}
use Rattle.cc_parse_laws.proofs.Steps.{next_token, reads_next, branch_true, branch_false}
use Rattle.cc_parse_laws.proofs.Lists.{Again, takes, separated_again, repeated_again, enclosed_again}
use Rattle.cc_parse_laws.proofs.Depths.{named_is_written}
use Rattle.cc_parse_laws.proofs.Peeks.{after, inside, at_token, punct_other, punct_ends, punct_ends_declarator}
use Rattle.cc_parse_laws.proofs.Firsts.{inside_sinks, first_specs}
use Rattle.cc_parse_laws.proofs.FirstDeclarators.{first_declarator}
use Rattle.cc_parse_laws.proofs.Climbs.{bound, mapped, done, rest_is, not_zero}
use Rattle.cc_parse_laws.proofs.CompleteTypes.{id_again}
use Rattle.cc_parse_laws.proofs.CompletePrefixes.{close}
use Rattle.cc_parse_laws.proofs.CompleteSpecifiers.{MembersAgain, ConstantsAgain}
use Rattle.cc_parse_laws.proofs.Listed as listed
use Rattle.cc_parse_laws.proofs.Inner.{ReadsExpr, ReadsDeclarator, Ends, EndsSpecs, EndsDeclarator, CompleteInner}

module _ (names : Names) (inner : Inner) (d : ℕ) (good : CompleteInner names inner d) where
  -- ---- Members

  pub named_again : (f : DeclTree Spot) → Again (inner.declarator with_name) (listed.NamedSpan names d) EndsDeclarator f
  named_again f ts r y ends = good.declarator with_name f ts r y.0 y.1 ends

  -- specifiers end where a declarator with a name comes
  pub named_ends : (f : DeclTree Spot) (ts r : List Token) → outlines.is_named f ≡ true → ReadsDeclarator names d f ts r → EndsSpecs names ts
  named_ends f ts r e y =
      let first = first_declarator names f d ts r (named_is_written f e) (inside_sinks (outlines.is_written f) (outlines.declarator names f) d ts r y) in
      record { no_spec = first.no_spec; no_brace = first.no_brace }

  abbrev line_behind : Spot → Parser (MemberTree Spot)
  line_behind at = inner.specs >>= (λ ss. separated (inner.declarator with_name) >>= (λ fs. take the_punct.Semicolon >> pure (members at ss (gathered_declarators fs))))

  pub line_again : (m : MemberTree Spot) → Again (member_line names inner (suc d)) (listed.LineSpan names d) (λ us. Unit {0}) m
  line_again (members n ss no_declarators) ts r y f = let z = y.2.3 in absurd z.1
  line_again (members n ss (more_declarators g gs)) ts r y f =
      let last = y.0 in
      let q = y.2.0 in
      let z = y.2.3 in
      let c = z.0 in
      let semicolon = reads_next (Unit {0}) the_punct.Semicolon None end d c last z.3 in
      let first : inner.specs ts ≡ Ok (ss, q) = good.specs ss n ts q y.1 y.2.2 (named_ends g q z.2.0 z.2.1 z.2.2) in
      let list : separated (inner.declarator with_name) q ≡ Ok (g ∷ listed.declarators gs, c) =
      separated_again (inner.declarator with_name) (listed.NamedSpan names d) EndsDeclarator named_again (listed.named_shorter names d) (λ us. punct_ends_declarator the_punct.Comma us refl refl refl)
      (g ∷ listed.declarators gs) q c (listed.named_list names d g gs q c z.2) (punct_other the_punct.Comma the_punct.Semicolon c refl semicolon) (punct_ends_declarator the_punct.Semicolon c refl refl refl semicolon) in
      let stands = first_specs names ss n d ts q y.1 y.2.2 in
      bound (λ us vs. and_then (separated (inner.declarator with_name) vs) (λ fs ws. and_then (take the_punct.Semicolon ws) (λ u xs. done (members (spot ts) us (gathered_declarators fs)) xs))) (inner.specs ts) ss q first
      ∙ bound (λ fs ws. and_then (take the_punct.Semicolon ws) (λ u xs. done (members (spot ts) ss (gathered_declarators fs)) xs)) (separated (inner.declarator with_name) q) (g ∷ listed.declarators gs) c list
      ∙ close the_punct.Semicolon (members (spot ts) ss (gathered_declarators (g ∷ listed.declarators gs))) d c last z.3
      ∙ ap (λ fs. done (members (spot ts) ss (more_declarators g fs)) last) (listed.declarators_back gs)
      ∙ ap (λ at. done (members at ss (more_declarators g gs)) last) stands.1
      ∙ rest_is (members n ss (more_declarators g gs)) last r y.3

  abbrev members_behind : Parser (List (MemberTree Spot))
  members_behind = take the_punct.LeftBrace >> repeated listed.goes_on_lines (member_line names inner (suc d)) >>= (λ ms. take the_punct.RightBrace >> pure ms)

  pub members_again : MembersAgain names inner (suc d)
  members_again m ms ts r y =
      let list = inside (outlines.member_list names (more_members m ms)) in
      let last = y.0 in
      let t = next_token (Unit {0}) (kind.Punct the_punct.LeftBrace) None (after list) d ts last y.2 in
      let brace = reads_next (Unit {0}) the_punct.LeftBrace None (after list) d ts last y.2 in
      let q = t.after.0 in
      let z = t.after.3 in
      let c = z.0 in
      let close_next = reads_next (Unit {0}) the_punct.RightBrace None end d c last z.3 in
      let all : repeated listed.goes_on_lines (member_line names inner (suc d)) (skip ts) ≡ Ok (m ∷ listed.lines ms, c) =
      repeated_again (member_line names inner (suc d)) (listed.LineSpan names d) (λ us. Unit {0}) line_again (listed.line_shorter names d) listed.goes_on_lines (λ us e. tt) (m ∷ listed.lines ms) (skip ts) c
      (listed.line_list names d m ms (skip ts) q c t.after.2 z.2) (ap opposite close_next) tt in
      let both : and_then (take the_punct.LeftBrace ts) (λ u us. repeated listed.goes_on_lines (member_line names inner (suc d)) us) ≡ Ok (m ∷ listed.lines ms, c) =
      bound (λ u us. repeated listed.goes_on_lines (member_line names inner (suc d)) us) (take the_punct.LeftBrace ts) tt (skip ts) (takes the_punct.LeftBrace ts brace) ∙ all in
      branch_false (suc d == 0) refuse members_behind ts (not_zero d)
      ∙ bound (λ xs us. and_then (take the_punct.RightBrace us) (λ u vs. done xs vs)) (and_then (take the_punct.LeftBrace ts) (λ u us. repeated listed.goes_on_lines (member_line names inner (suc d)) us)) (m ∷ listed.lines ms) c both
      ∙ close the_punct.RightBrace (m ∷ listed.lines ms) d c last z.3
      ∙ rest_is (m ∷ listed.lines ms) last r y.3

  -- ---- Constants

  -- what follows a constant
  abbrev pub Valued : List Token → Type 0
  Valued us = Ends 3 us × (next_is the_punct.Equal us ≡ false)

  value_again : (e : ExprOption Spot) (ts r : List Token) → Reads (outlines.constant_value names e) d ts r → Valued r → constant_value names inner (suc d) ts ≡ Ok (e, r)
  value_again no_expr ts r y f =
      branch_false (next_is the_punct.Equal ts) (skipping (an_expr <$> inner.expr 3)) (pure no_expr) ts (ap (next_is the_punct.Equal) y ∙ f.1) ∙ rest_is no_expr ts r y
  value_again (an_expr e) ts r y f =
      let rest = after (outlines.constant_value names (an_expr e)) in
      let t = next_token (Unit {0}) (kind.Punct the_punct.Equal) None rest d ts r y in
      let read : inner.expr 3 (skip ts) ≡ Ok (e, r) = good.expr 3 e (skip ts) r t.after.1 (subst (ReadsExpr names d e (skip ts)) t.after.3 t.after.2) f.0 in
      branch_true (next_is the_punct.Equal ts) (skipping (an_expr <$> inner.expr 3)) (pure no_expr) ts (reads_next (Unit {0}) the_punct.Equal None rest d ts r y) ∙ mapped an_expr (inner.expr 3 (skip ts)) e r read

  pub one_again : (c : ConstantTree Spot) → Again (one_constant names inner (suc d)) (listed.ConstantSpan names d) Valued c
  one_again (constant n x e) ts r y f =
      let rest = after (outlines.constant_of names (constant n x e)) in
      let t = next_token (is_type names x ≡ false) (kind.Identifier x) (Some n) rest d ts r y in
      let here : Reads (outlines.constant_value names e) d (skip ts) r = subst (Reads (outlines.constant_value names e) d (skip ts)) t.after.3 t.after.2 in
      bound (λ z us. and_then (constant_value names inner (suc d) us) (λ g vs. done (constant (spot ts) z g) vs)) (id names ts) x (skip ts) (id_again names (Some n) x rest d ts r y)
      ∙ mapped (constant (spot ts) x) (constant_value names inner (suc d) (skip ts)) e r (value_again e (skip ts) r here f)
      ∙ ap (λ m. done (constant m x e) r) t.at

  pub one_opens : (c : ConstantTree Spot) (ts r : List Token) → Reads (outlines.constant_of names c) d ts r → next_is the_punct.RightBrace ts ≡ false
  one_opens (constant n x e) ts r y = at_token (next_is the_punct.RightBrace) (is_punct the_punct.RightBrace) (λ t us. refl) (is_type names x ≡ false) (kind.Identifier x) (Some n) (after (outlines.constant_of names (constant n x e))) d ts r y

  pub constants_again : ConstantsAgain names inner (suc d)
  constants_again c cs trailing ts r y =
      branch_false (suc d == 0) refuse (enclosed (one_constant names inner (suc d))) ts (not_zero d)
      ∙ enclosed_again (one_constant names inner (suc d)) (listed.ConstantSpan names d) Valued one_again (listed.constant_shorter names d)
      (λ us e. (punct_ends 3 the_punct.Comma us (omega arith) e, punct_other the_punct.Equal the_punct.Comma us refl e)) (λ us e. (punct_ends 3 the_punct.RightBrace us (omega arith) e, punct_other the_punct.Equal the_punct.RightBrace us refl e)) one_opens
      (c ∷ listed.constants cs) trailing ts r (listed.constant_list names d c cs trailing ts r y)
