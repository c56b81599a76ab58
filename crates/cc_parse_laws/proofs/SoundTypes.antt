-- Type names, parameters and argument lists that are read are there.
use Rattle.std.proofs.Common.{◌≡◌, ◌≤◌, refl, ℕ, suc, List, [], ◌∷◌, None, Ok, arith, subst, inl, inr}
use Rattle.cc_base.specs.declared.place.Spot.{Spot}
use Rattle.cc_lex.specs.declared.token.Token.{Token}
use Rattle.cc_lex.specs.declared.punct.Punct.TheVariants as the_punct
use Rattle.cc_tree.specs.Trees.{ExprTree, TypeTree, type_name}
use Rattle.cc_tree.specs.Views.{gathered, gathered_types}
use Rattle.cc_grammar.specs.Levels.{level}
use Rattle.cc_grammar.specs.Names.{Names}
use Rattle.cc_grammar.specs.Outline.{end, ◌▸◌}
use Rattle.cc_grammar.specs.Outlines as outlines
use Rattle.cc_grammar.specs.Classes.{next_is, skip, spot}
use Rattle.cc_grammar.specs.Outcomes.{take, ◌>>=◌, ◌>>◌, pure, ◌<$>◌}
use Rattle.cc_grammar.specs.Reading as reader
use Rattle.cc_grammar.specs.Reading.{Inner, Mode, without_name, with_or_without, separated, skipping}
use Rattle.cc_parse_laws.proofs.Spans.{Reads}
use Rattle.cc_parse_laws.proofs.Steps.{bind_ok, map_ok, ok_is, branched, next_reads}
use Rattle.cc_parse_laws.proofs.NextTokens.{take_last}
use Rattle.cc_parse_laws.proofs.Lists.{Separated, Others, separated_sound}
use Rattle.cc_parse_laws.proofs.Inner.{ReadsExpr, ReadsDeclarator, Suits, SoundInner}

module _ (names : Names) (inner : Inner) (d : ℕ) (good : SoundInner names inner d) where
  -- specifiers, then a declarator
  abbrev pub Typed : Mode → TypeTree Spot → List Token → List Token → Type 0
  Typed mode (type_name n ss f) ts r = (m : List Token) × outlines.BeginAt ss n × Reads (outlines.specs names ss) d ts m × Suits mode f × ReadsDeclarator names d f m r

  pub typed_sound : (mode : Mode) (ts : List Token) (x : TypeTree Spot × List Token) → reader.typed names inner (suc d) mode ts ≡ Ok x → Typed mode x.0 ts x.1
  typed_sound mode ts x e =
      let ss = bind_ok (inner.specs ts) (λ ss. type_name (spot ts) ss <$> inner.declarator mode) x e in
      let f = map_ok (inner.declarator mode ss.0.1) (type_name (spot ts) ss.0.0) x ss.2 in
      let s = good.specs ts ss.0 ss.1 in
      let g = good.declarator mode ss.0.1 f.0 f.1 in
      subst (λ (y : TypeTree Spot × List Token). Typed mode y.0 ts y.1) f.2 (ss.0.1, s.0, s.1, g.0, g.1)

  pub typed_type : (t : TypeTree Spot) (ts r : List Token) → Typed without_name t ts r → Reads (outlines.type_of names t) d ts r
  typed_type (type_name n ss f) ts r x = (r, x.1, (x.0, tt, x.2, (r, x.3, x.4, refl)), refl)

  pub typed_parameter : (t : TypeTree Spot) (ts r : List Token) → Typed with_or_without t ts r → Reads (outlines.parameter names t) d ts r
  typed_parameter (type_name n ss f) ts r x = (r, x.1, (x.0, tt, x.2, (r, tt, x.4, refl)), refl)

  -- ---- Parameters

  other_parameters : (us : List (TypeTree Spot)) (ts r : List Token) → Others (Typed with_or_without) us ts r → Reads (outlines.more_parameters names (gathered_types us)) d ts r
  other_parameters [] ts r x = x
  other_parameters (u ∷ us) ts r x =
      next_reads the_punct.Comma None (outlines.within (outlines.parameter names u) ▸ outlines.within (outlines.more_parameters names (gathered_types us)) ▸ end) d ts r x.1 tt (x.0, tt, typed_parameter u (skip ts) x.0 x.2, (r, tt, other_parameters us x.0 r x.3, refl))

  some_parameters : (us : List (TypeTree Spot)) (ts r : List Token) → Separated (Typed with_or_without) us ts r → Reads (outlines.parameters names (gathered_types us)) d ts r
  some_parameters [] ts r x = absurd x
  some_parameters (u ∷ us) ts r x = (x.0, tt, typed_parameter u ts x.0 x.1, (r, tt, other_parameters us x.0 r x.2, refl))

  -- with their parenthesis
  pub parameters_sound : (ts : List Token) (x : List (TypeTree Spot) × List Token) → reader.parameters names inner (suc d) ts ≡ Ok x → Reads (outlines.within (outlines.parameters names (gathered_types x.0)) ▸ outlines.punct the_punct.RightParen ▸ end) d ts x.1
  parameters_sound ts x e =
      elim (branched (next_is the_punct.RightParen ts) (skipping (pure [])) (separated (reader.typed names inner (suc d) with_or_without) >>= (λ us. take the_punct.RightParen >> pure us)) ts (Ok x) e) [
        | inl c ↦
            subst (λ (y : List (TypeTree Spot) × List Token). Reads (outlines.within (outlines.parameters names (gathered_types y.0)) ▸ outlines.punct the_punct.RightParen ▸ end) d ts y.1) (ok_is ([], skip ts) x c.1)
            (ts, tt, refl, next_reads the_punct.RightParen None end d ts (skip ts) c.0 tt refl)
        | inr c ↦
            let us = bind_ok (separated (reader.typed names inner (suc d) with_or_without) ts) (λ us. take the_punct.RightParen >> pure us) x c.1 in
            let t = map_ok (take the_punct.RightParen us.0.1) (λ z. us.0.0) x us.2 in
            let s = separated_sound (reader.typed names inner (suc d) with_or_without) (Typed with_or_without) (typed_sound with_or_without) ts us.0 us.1 in
            subst (λ (y : List (TypeTree Spot) × List Token). Reads (outlines.within (outlines.parameters names (gathered_types y.0)) ▸ outlines.punct the_punct.RightParen ▸ end) d ts y.1) t.2
            (us.0.1, tt, some_parameters us.0.0 ts us.0.1 s, take_last the_punct.RightParen d us.0.1 t.0 t.1)
      ]

  -- ---- Arguments

  abbrev Argument : ExprTree Spot → List Token → List Token → Type 0
  Argument e ts r = (2 ≤ level e) × ReadsExpr names d e ts r

  other_arguments : (es : List (ExprTree Spot)) (ts r : List Token) → Others Argument es ts r → Reads (outlines.more_arguments names (gathered es)) d ts r
  other_arguments [] ts r x = x
  other_arguments (e ∷ es) ts r x =
      next_reads the_punct.Comma None (outlines.operand 2 e (outlines.expr names e) ▸ outlines.within (outlines.more_arguments names (gathered es)) ▸ end) d ts r x.1 tt (x.0, x.2.0, x.2.1, (r, tt, other_arguments es x.0 r x.3, refl))

  some_arguments : (es : List (ExprTree Spot)) (ts r : List Token) → Separated Argument es ts r → Reads (outlines.arguments names (gathered es)) d ts r
  some_arguments [] ts r x = absurd x
  some_arguments (e ∷ es) ts r x = (x.0, x.1.0, x.1.1, (r, tt, other_arguments es x.0 r x.2, refl))

  -- with their parenthesis
  pub arguments_sound : (ts : List Token) (x : List (ExprTree Spot) × List Token) → reader.arguments names inner (suc d) ts ≡ Ok x → Reads (outlines.within (outlines.arguments names (gathered x.0)) ▸ outlines.punct the_punct.RightParen ▸ end) d ts x.1
  arguments_sound ts x e =
      elim (branched (next_is the_punct.RightParen ts) (skipping (pure [])) (separated (inner.expr 2) >>= (λ es. take the_punct.RightParen >> pure es)) ts (Ok x) e) [
        | inl c ↦
            subst (λ (y : List (ExprTree Spot) × List Token). Reads (outlines.within (outlines.arguments names (gathered y.0)) ▸ outlines.punct the_punct.RightParen ▸ end) d ts y.1) (ok_is ([], skip ts) x c.1)
            (ts, tt, refl, next_reads the_punct.RightParen None end d ts (skip ts) c.0 tt refl)
        | inr c ↦
            let es = bind_ok (separated (inner.expr 2) ts) (λ es. take the_punct.RightParen >> pure es) x c.1 in
            let t = map_ok (take the_punct.RightParen es.0.1) (λ z. es.0.0) x es.2 in
            let s = separated_sound (inner.expr 2) Argument (good.expr 2 (omega arith)) ts es.0 es.1 in
            subst (λ (y : List (ExprTree Spot) × List Token). Reads (outlines.within (outlines.arguments names (gathered y.0)) ▸ outlines.punct the_punct.RightParen ▸ end) d ts y.1) t.2
            (es.0.1, tt, some_arguments es.0.0 ts es.0.1 s, take_last the_punct.RightParen d es.0.1 t.0 t.1)
      ]
