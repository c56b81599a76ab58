-- Type names, parameters and arguments are read back.
use Rattle.std.proofs.Common.{◌≡◌, refl, ℕ, suc, true, false, List, [], ◌∷◌, Option, Ok, arith, ap, ◌∙◌, subst}
use Rattle.cc_base.specs.declared.place.Spot.{Spot}
use Rattle.cc_lex.specs.declared.token.Token.{Token}
use Rattle.cc_lex.specs.declared.token.TokenKind.TheVariants as kind
use Rattle.cc_lex.specs.declared.punct.Punct.TheVariants as the_punct
use Rattle.cc_tree.specs.Trees.{Name, ExprTree, ExprTrees, no_exprs, more_exprs, TypeTree, type_name, TypeTrees, no_types, more_types, SpecTrees, DeclTree}
use Rattle.cc_grammar.specs.Names.{Names, is_type}
use Rattle.cc_grammar.specs.Outline.{Outline}
use Rattle.cc_grammar.specs.Outlines as outlines
use Rattle.cc_grammar.specs.Classes.{next_is, skip, spot, starts_spec, next_ident, ident}
use Rattle.cc_grammar.specs.Outcomes.{Parser, and_then, pure, refuse, take, ◌>>=◌, ◌>>◌}
use Rattle.cc_grammar.specs.Reading.{Inner, Mode, without_name, with_or_without, typed, parameters, arguments, separated, skipping, id, id_by}
use Rattle.cc_parse_laws.proofs.Spans.{Reads}
use Rattle.cc_parse_laws.proofs.Steps.{next_token, branch_true, branch_false}
use Rattle.cc_parse_laws.proofs.Lists.{Again, takes, separated_again}
use Rattle.cc_parse_laws.proofs.Peeks.{at_token, punct_other, punct_ends, punct_ends_specs, punct_ends_declarator}
use Rattle.cc_parse_laws.proofs.Firsts.{first_operand, first_specs, opens_not, spec_not}
use Rattle.cc_parse_laws.proofs.FirstDeclarators.{declarator_specs}
use Rattle.cc_parse_laws.proofs.Climbs.{bound, mapped, done}
use Rattle.cc_parse_laws.proofs.Listed as listed
use Rattle.cc_parse_laws.proofs.Inner.{ReadsDeclarator, Suits, Ends, EndsSpecs, EndsDeclarator, CompleteInner}

-- an identifier that is no typedef name
pub id_again : (names : Names) (n : Option Spot) (x : Name) (i : Outline) (d : ℕ) (ts r : List Token) → Reads (outlines.identifier names n x i) d ts r → id names ts ≡ Ok (x, skip ts)
id_again names n x i d ts r y =
    let t = next_token (is_type names x ≡ false) (kind.Identifier x) n i d ts r y in
    ap (λ (z : Option Name). id_by names z ts) (at_token next_ident ident (λ t us. refl) (is_type names x ≡ false) (kind.Identifier x) n i d ts r y)
    ∙ branch_false (is_type names x) refuse (skipping (pure x)) ts t.holds

-- the list before the closing parenthesis
abbrev pub closed : {A : Type 0} → Parser (List A) → Parser (List A)
closed read = read >>= (λ xs. take the_punct.RightParen >> pure xs)

closed_again : {A : Type 0} (read : Parser (List A)) (xs : List A) (ts m : List Token) → read ts ≡ Ok (xs, m) → next_is the_punct.RightParen m ≡ true → closed read ts ≡ Ok (xs, skip m)
closed_again read xs ts m e c = bound (λ ys us. and_then (take the_punct.RightParen us) (λ z vs. done ys vs)) (read ts) xs m e ∙ ap (λ z. and_then z (λ w vs. done xs vs)) (takes the_punct.RightParen m c)

module _ (names : Names) (inner : Inner) (d : ℕ) (good : CompleteInner names inner d) where
  typed_again : (mode : Mode) (n : Spot) (ss : SpecTrees Spot) (f : DeclTree Spot) (ts m r : List Token) → outlines.BeginAt ss n → Reads (outlines.specs names ss) d ts m → Suits mode f → ReadsDeclarator names d f m r → EndsSpecs names r → EndsDeclarator r
      → typed names inner (suc d) mode ts ≡ Ok (type_name n ss f, r)
  typed_again mode n ss f ts m r b y suits z ends closes =
      let first : inner.specs ts ≡ Ok (ss, m) = good.specs ss n ts m b y (declarator_specs names f d m r z ends) in
      let second : inner.declarator mode m ≡ Ok (f, r) = good.declarator mode f m r suits z closes in
      let stands = first_specs names ss n d ts m b y in
      bound (λ us vs. and_then (inner.declarator mode vs) (λ g ws. done (type_name (spot ts) us g) ws)) (inner.specs ts) ss m first
      ∙ mapped (type_name (spot ts) ss) (inner.declarator mode m) f r second
      ∙ ap (λ k. done (type_name k ss f) r) stands.1

  -- a parameter, before a comma or the closing parenthesis
  abbrev pub Parted : List Token → Type 0
  Parted r = EndsSpecs names r × EndsDeclarator r

  pub parted_comma : (ts : List Token) → next_is the_punct.Comma ts ≡ true → Parted ts
  parted_comma ts e = (punct_ends_specs names the_punct.Comma ts refl e, punct_ends_declarator the_punct.Comma ts refl refl refl e)

  parted_close : (ts : List Token) → next_is the_punct.RightParen ts ≡ true → Parted ts
  parted_close ts e = (punct_ends_specs names the_punct.RightParen ts refl e, punct_ends_declarator the_punct.RightParen ts refl refl refl e)

  pub parameter_again : (t : TypeTree Spot) → Again (typed names inner (suc d) with_or_without) (listed.ParameterSpan names d) Parted t
  parameter_again (type_name n ss f) ts r y ends =
      typed_again with_or_without n ss f ts y.2.0 r y.1 y.2.2 tt (subst (ReadsDeclarator names d f y.2.0) (y.2.3.3 ∙ y.3) y.2.3.2) ends.0 ends.1

  pub first_parameter : (t : TypeTree Spot) (ts r : List Token) → Reads (outlines.parameter names t) d ts r → starts_spec names ts ≡ true
  first_parameter (type_name n ss f) ts r y = let x = first_specs names ss n d ts y.2.0 y.1 y.2.2 in x.0

  pub parameters_again : (us : TypeTrees Spot) (ts m : List Token) → Reads (outlines.parameters names us) d ts m → next_is the_punct.RightParen m ≡ true → parameters names inner (suc d) ts ≡ Ok (listed.types us, skip m)
  parameters_again no_types ts m y c =
      branch_true (next_is the_punct.RightParen ts) (skipping (pure [])) (closed (separated (typed names inner (suc d) with_or_without))) ts (ap (next_is the_punct.RightParen) y ∙ c)
      ∙ ap (λ us. done [] (skip us)) y
  parameters_again (more_types u us) ts m y c =
      let list : separated (typed names inner (suc d) with_or_without) ts ≡ Ok (u ∷ listed.types us, m) =
      separated_again (typed names inner (suc d) with_or_without) (listed.ParameterSpan names d) Parted parameter_again (listed.parameter_shorter names d) parted_comma
      (u ∷ listed.types us) ts m (listed.parameter_list names d u us ts m y) (punct_other the_punct.Comma the_punct.RightParen m refl c) (parted_close m c) in
      branch_false (next_is the_punct.RightParen ts) (skipping (pure [])) (closed (separated (typed names inner (suc d) with_or_without))) ts (spec_not names the_punct.RightParen ts (first_parameter u ts y.0 y.2))
      ∙ closed_again (separated (typed names inner (suc d) with_or_without)) (u ∷ listed.types us) ts m list c

  -- what stands before it in parentheses
  pub type_again : (t : TypeTree Spot) (ts m : List Token) → Reads (outlines.type_of names t) d ts m → next_is the_punct.RightParen m ≡ true → typed names inner (suc d) without_name ts ≡ Ok (t, m)
  type_again (type_name n ss f) ts m y c =
      let ends = parted_close m c in
      typed_again without_name n ss f ts y.2.0 m y.1 y.2.2 y.2.3.1 (subst (ReadsDeclarator names d f y.2.0) (y.2.3.3 ∙ y.3) y.2.3.2) ends.0 ends.1

  pub first_type : (t : TypeTree Spot) (ts r : List Token) → Reads (outlines.type_of names t) d ts r → starts_spec names ts ≡ true
  first_type (type_name n ss f) ts r y = let x = first_specs names ss n d ts y.2.0 y.1 y.2.2 in x.0

  pub argument_again : (e : ExprTree Spot) → Again (inner.expr 2) (listed.ArgumentSpan names d) (Ends 2) e
  argument_again e ts r y ends = good.expr 2 e ts r y.0 y.1 ends

  pub arguments_again : (es : ExprTrees Spot) (ts m : List Token) → Reads (outlines.arguments names es) d ts m → next_is the_punct.RightParen m ≡ true → arguments names inner (suc d) ts ≡ Ok (listed.exprs es, skip m)
  arguments_again no_exprs ts m y c =
      branch_true (next_is the_punct.RightParen ts) (skipping (pure [])) (closed (separated (inner.expr 2))) ts (ap (next_is the_punct.RightParen) y ∙ c)
      ∙ ap (λ us. done [] (skip us)) y
  arguments_again (more_exprs e es) ts m y c =
      let list : separated (inner.expr 2) ts ≡ Ok (e ∷ listed.exprs es, m) =
      separated_again (inner.expr 2) (listed.ArgumentSpan names d) (Ends 2) argument_again (listed.argument_shorter names d) (λ us. punct_ends 2 the_punct.Comma us (omega arith))
      (e ∷ listed.exprs es) ts m (listed.argument_list names d e es ts m y) (punct_other the_punct.Comma the_punct.RightParen m refl c) (punct_ends 2 the_punct.RightParen m (omega arith) c) in
      branch_false (next_is the_punct.RightParen ts) (skipping (pure [])) (closed (separated (inner.expr 2))) ts (opens_not names the_punct.RightParen ts refl (first_operand names e d ts y.0 y.2))
      ∙ closed_again (separated (inner.expr 2)) (e ∷ listed.exprs es) ts m list c
