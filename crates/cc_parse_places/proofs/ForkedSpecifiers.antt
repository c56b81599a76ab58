-- Specifiers, members and constants are read alike on two texts that part behind a token; so are the readers of each depth.
use Rattle.std.proofs.Common.{◌≡◌, refl, ℕ, zero, suc, Bool, true, false, List, ◌∷◌, length, Option, Some, None, ◌||◌, ◌==◌}
use Rattle.cc_base.specs.declared.place.Spot.{Spot}
use Rattle.cc_lex.specs.declared.token.Token.{Token}
use Rattle.cc_lex.specs.declared.punct.Punct.TheVariants as the_punct
use Rattle.cc_tree.specs.Trees.{Name, word, named, struct, enum, members, no_members, constant, ConstantTree, no_constants, an_expr, no_expr}
use Rattle.cc_tree.specs.Views.{gathered_specs, gathered_members, gathered_constants, gathered_declarators}
use Rattle.cc_grammar.specs.Names.{Names}
use Rattle.cc_grammar.specs.Classes.{is_punct, next_is, next_ident, spot, starts_spec, spec_start, SpecStart, spec_word, spec_struct, spec_enum, spec_named, no_spec}
use Rattle.cc_grammar.specs.Reading as reader
use Rattle.cc_grammar.specs.Reading.{Inner, no_inner, Mode, with_name}
use Rattle.cc_parse_laws.proofs.Climbs.{not_zero}
use Rattle.cc_parse_places.proofs.Forks.{Fork, Leaves, alike_pure, alike_refuse, weak, alike_bind, alike_map, alike_skipping, alike_view, alike_placed, alike_branch, alike_where}
use Rattle.cc_parse_places.proofs.ForkedLists.{Tame, tame_take, tame_id, tame_until, tame_separated, tame_enclosed, tame_repeated}
use Rattle.cc_parse_places.proofs.ForkedExpressions.{TameInner, tame_expression, expression_opens}
use Rattle.cc_parse_places.proofs.ForkedDeclarators.{tame_declarator}

module _ {t : Fork} {u : ℕ} (names : Names) (inner : Inner) (d : ℕ) (good : TameInner t u inner) where
  tame_tag_by : (x : Option Name) → Tame t 0 u (reader.tag_by names inner d x)
  tame_tag_by None = alike_pure None
  tame_tag_by (Some x) = weak (alike_skipping _ _ (alike_pure (Some x)))

  tame_tag : Tame t 0 u (reader.tag names inner d)
  tame_tag = alike_view next_ident (reader.tag_by names inner d) (reader.tag_by names inner d) (λ k us vs. refl) tame_tag_by

  tame_member_line : Tame t 1 u (reader.member_line names inner d)
  tame_member_line = alike_placed _ _ (λ n. alike_bind _ _ _ _ good.specs (λ ss. alike_bind _ _ _ _ (tame_separated _ (good.declarator with_name)) (λ ds. weak (tame_until the_punct.Semicolon (members n ss (gathered_declarators ds))))))

  tame_member_list : Tame t 1 u (reader.member_list names inner d)
  tame_member_list = alike_branch (d == 0) _ _ _ _ alike_refuse
      (alike_bind _ _ _ _ (alike_bind _ _ _ _ (tame_take the_punct.LeftBrace) (λ z. weak (tame_repeated (reader.goes_on_members names inner d) (λ k us vs. refl) _ tame_member_line))) (λ ms. weak (tame_until the_punct.RightBrace ms)))

  tame_constant_value : Tame t 0 u (reader.constant_value names inner d)
  tame_constant_value = alike_where (next_is the_punct.Equal) _ _ _ _ (λ k us vs. refl) (weak (alike_skipping _ _ (alike_map an_expr _ _ (good.expr 3)))) (alike_pure no_expr)

  tame_one_constant : Tame t 1 u (reader.one_constant names inner d)
  tame_one_constant = alike_placed _ _ (λ n. alike_bind _ _ _ _ (tame_id names) (λ x. alike_map (constant n x) _ _ tame_constant_value))

  tame_constant_list : Tame t 1 u (reader.constant_list names inner d)
  tame_constant_list = alike_branch (d == 0) _ _ _ _ alike_refuse (tame_enclosed _ tame_one_constant)

  tame_spec_by : (s : SpecStart) (n : Spot) → Tame t 1 u (reader.spec_by names inner d s n)
  tame_spec_by (spec_word w) n = alike_skipping _ _ (alike_pure (word n w))
  tame_spec_by (spec_named x) n = alike_skipping _ _ (alike_pure (named n x))
  tame_spec_by spec_struct n = alike_skipping _ _ (alike_bind _ _ _ _ tame_tag (λ x. alike_where (λ ts. next_is the_punct.LeftBrace ts || reader.untagged names inner d x) _ _ _ _ (λ k us vs. refl)
      (weak (alike_map (λ ms. struct n x (gathered_members ms)) _ _ tame_member_list)) (alike_pure (struct n x no_members))))
  tame_spec_by spec_enum n = alike_skipping _ _ (alike_bind _ _ _ _ tame_tag (λ x. alike_where (λ ts. next_is the_punct.LeftBrace ts || reader.untagged names inner d x) _ _ _ _ (λ k us vs. refl)
      (weak (alike_map (λ (cs : List (ConstantTree Spot) × Bool). enum n x (gathered_constants cs.0) cs.1) _ _ tame_constant_list)) (alike_pure (enum n x no_constants false))))
  tame_spec_by no_spec n = alike_refuse

  tame_specs : Tame t 1 u (reader.specs names inner d)
  tame_specs = alike_map gathered_specs _ _ (tame_repeated (starts_spec names) (λ k us vs. refl) _ (alike_view (spec_start names) (λ s ts. reader.spec_by names inner d s (spot ts) ts) (λ s ts. reader.spec_by names inner d s (spot ts) ts) (λ k us vs. refl)
      (λ s. alike_view spot (reader.spec_by names inner d s) (reader.spec_by names inner d s) (λ k us vs. refl) (tame_spec_by s))))

  tame_opened : ((d == 0) ≡ false → (d == 1) ≡ false → (least : ℕ) (k : Token) (ts : List Token) → is_punct the_punct.LeftParen k.kind ≡ true → Leaves (inner.expr least (k ∷ ts)) (suc (length ts))) → TameInner t u (reader.opened names inner d)
  tame_opened opens = record { expr = tame_expression names inner d good opens; specs = tame_specs; declarator = tame_declarator names inner d good }

module _ {t : Fork} {u : ℕ} (names : Names) where
  tame_no_inner : TameInner t u no_inner
  tame_no_inner = record { expr = λ least. alike_refuse; specs = alike_refuse; declarator = λ mode. alike_refuse }

  -- and where an expression may stand in another, a parenthesis is taken
  both : (d : ℕ) → TameInner t u (reader.readers names d) × ((suc d == 1) ≡ false → (least : ℕ) (k : Token) (ts : List Token) → is_punct the_punct.LeftParen k.kind ≡ true → Leaves ((reader.readers names d).expr least (k ∷ ts)) (suc (length ts)))
  both zero = (tame_opened names no_inner 0 tame_no_inner (λ e. absurd cc), λ e. absurd cc)
  both (suc d) =
      let below = both d in
      (tame_opened names (reader.readers names d) (suc d) below.0 (λ e. below.1), λ e. expression_opens names (reader.readers names d) (suc d) below.0 (not_zero d))

  pub tame_readers : (d : ℕ) → TameInner t u (reader.readers names d)
  tame_readers d = let all = both d in all.0
