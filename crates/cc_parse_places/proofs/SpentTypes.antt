-- Type names, parameters and arguments that are begun are taken.
use Rattle.std.proofs.Common.{◌≡◌, ◌≤◌, refl, ℕ, suc, true, false, List, [], ◌∷◌, Option, arith, ap, ◌∙◌, inl, inr, ◌||◌}
use Rattle.cc_base.specs.declared.place.Spot.{Spot}
use Rattle.cc_base.specs.Spots as spots
use Rattle.cc_lex.specs.declared.token.Token.{Token}
use Rattle.cc_lex.specs.declared.token.TokenKind.{TokenKind}
use Rattle.cc_lex.specs.declared.token.TokenKind.TheVariants as kind
use Rattle.cc_lex.specs.declared.keyword.Keyword.TheVariants as the_keyword
use Rattle.cc_lex.specs.declared.punct.Punct.TheVariants as the_punct
use Rattle.cc_tree.specs.Trees.{ExprTree, ExprTrees, no_exprs, more_exprs, TypeTree, type_name, TypeTrees, no_types, more_types, SpecTree, word, named, struct, enum, SpecTrees, no_specs, more_specs, DeclTree, declared, nameless, pointer, array, function, grouped}
use Rattle.cc_grammar.specs.Levels.{level, word_keyword}
use Rattle.cc_grammar.specs.Names.{Names}
use Rattle.cc_grammar.specs.Outline.{Outline, end, token, part, ◌▸◌}
use Rattle.cc_grammar.specs.Outlines as outlines
use Rattle.cc_grammar.specs.Classes.{next_is, is_punct, skip, spot, starts_spec, is_spec, spec_kind}
use Rattle.cc_grammar.specs.Outcomes.{pure, ◌<$>◌}
use Rattle.cc_grammar.specs.Reading.{Inner, Mode, without_name, with_or_without, typed, parameters, arguments, separated, skipping}
use Rattle.std.proofs.lemmas.Bool.{or_left, or_right}
use Rattle.cc_parse_laws.proofs.Steps.{branch_false}
use Rattle.cc_parse_laws.proofs.Peeks.{punct_ends}
use Rattle.cc_parse_laws.proofs.NextTokens.{NextKind}
use Rattle.cc_parse_laws.proofs.Inner.{Ends, EndsSpecs, CompleteInner, Suits}
use Rattle.cc_parse_laws.proofs.Firsts.{not_named, word_starts, name_starts, first_spec, first_specs, first_operand, opens_not, spec_not}
use Rattle.cc_parse_laws.proofs.FirstDeclarators.{OpensDeclarator, declarator_or}
use Rattle.cc_parse_laws.proofs.Climbs.{bound}
use Rattle.cc_parse_laws.proofs.Listed as listed
use Rattle.cc_parse_laws.proofs.CompleteTypes.{Parted, closed, parted_comma, parameter_again, parameters_again, first_parameter, argument_again, arguments_again}
use Rattle.cc_parse_places.proofs.Begun.{Begun, at}
use Rattle.cc_parse_places.proofs.BegunTypes.{missing, some_spec}
use Rattle.cc_parse_places.proofs.Spent.{Spent, spent_bind, spent_map, spent_is, HasNext, no_next, Within, token_elim, part_elim, last_within, begun_sinks, at_kind, next_kind_punct}
use Rattle.cc_parse_places.proofs.SpentFirsts.{begun_opens}
use Rattle.cc_parse_places.proofs.SpentLists.{OthersCut, SomeCut, separated_spent}
use Rattle.cc_parse_places.proofs.SpentExpressions.{SpentInner}

pub by_next : {X : Type 0} (ts : List Token) → (ts ≡ [] → X) → (HasNext ts → X) → X
by_next [] f g = f refl
by_next (t ∷ ts) f g = g tt

-- ---- How declarators and specifiers that are begun begin

opens_by : (names : Names) (x : TokenKind) (ts : List Token) → is_spec (spec_kind names x) ≡ false → is_punct the_punct.LeftBrace x ≡ false → is_punct the_punct.RightParen x ≡ false → NextKind x ts → OpensDeclarator names ts
opens_by names x ts a b c next = record {
  no_spec = at_kind (starts_spec names) (λ q. is_spec (spec_kind names q)) (λ t us. refl) x ts next ∙ a;
  no_brace = at_kind (next_is the_punct.LeftBrace) (is_punct the_punct.LeftBrace) (λ t us. refl) x ts next ∙ b;
  no_close = at_kind (next_is the_punct.RightParen) (is_punct the_punct.RightParen) (λ t us. refl) x ts next ∙ c;
}

-- what stands before a suffix
left_opens : (names : Names) {h g : Type 0} {x : TokenKind} {n : Option Spot} {i : Outline} (f : DeclTree Spot) (d : ℕ) (ts : List Token) → is_spec (spec_kind names x) ≡ false → is_punct the_punct.LeftBrace x ≡ false → is_punct the_punct.RightParen x ≡ false → HasNext ts
    → (Begun (outlines.declarator names f) d ts [] → OpensDeclarator names ts) → Begun (part (outlines.is_written f) h (outlines.declarator names f) (token g x n i)) d ts [] → OpensDeclarator names ts
left_opens names {x = x} f d ts a b c more rec y =
    part_elim ts y (λ w. within w) (λ m next h z rest. token_elim m rest (no_next m next) (λ u kind_is st others. declarator_or names (OpensDeclarator names) (λ us q. q) f d ts m z (opens_by names x m a b c kind_is)))
  where
    within : {h : Type 0} → Within (outlines.is_written f) h (outlines.declarator names f) d ts → OpensDeclarator names ts
    within (inl e) = no_next ts more e
    within (inr z) = rec (begun_sinks (outlines.is_written f) (outlines.declarator names f) d ts [] z.1)

pub begun_declarator : (names : Names) (f : DeclTree Spot) (d : ℕ) (ts : List Token) → HasNext ts → Begun (outlines.declarator names f) d ts [] → OpensDeclarator names ts
begun_declarator names (declared n x) d ts more y = token_elim ts y (no_next ts more) (λ h next st rest. opens_by names (kind.Identifier x) ts (not_named names x h) refl refl next)
begun_declarator names nameless d ts more y = no_next ts more y.cut
begun_declarator names (pointer n c f) d ts more y = by (last_within ts y)
  where
    by : {h : Type 0} {m : Option Spot} {i : Outline} → Within false h (token (Unit {0}) (kind.Punct the_punct.Star) m i) d ts → OpensDeclarator names ts
    by (inl e) = no_next ts more e
    by (inr z) = token_elim ts z.1 (no_next ts more) (λ h next st rest. opens_by names (kind.Punct the_punct.Star) ts refl refl refl next)
begun_declarator names (array n f e) d ts more y = by (λ z. begun_declarator names f d ts more z) (last_within ts y)
  where
    by : {h g : Type 0} {m : Option Spot} {i : Outline} → (Begun (outlines.declarator names f) d ts [] → OpensDeclarator names ts) → Within false h (part (outlines.is_written f) g (outlines.declarator names f) (token (Unit {0}) (kind.Punct the_punct.LeftBracket) m i)) d ts → OpensDeclarator names ts
    by rec (inl z) = no_next ts more z
    by rec (inr z) = left_opens names f d ts refl refl refl more rec z.1
begun_declarator names (function n f ps) d ts more y = by (λ z. begun_declarator names f d ts more z) (last_within ts y)
  where
    by : {h g : Type 0} {m : Option Spot} {i : Outline} → (Begun (outlines.declarator names f) d ts [] → OpensDeclarator names ts) → Within false h (part (outlines.is_written f) g (outlines.declarator names f) (token (Unit {0}) (kind.Punct the_punct.LeftParen) m i)) d ts → OpensDeclarator names ts
    by rec (inl z) = no_next ts more z
    by rec (inr z) = left_opens names f d ts refl refl refl more rec z.1
begun_declarator names (grouped n f) d ts more y = by (last_within ts y)
  where
    by : {h : Type 0} {m : Option Spot} {i : Outline} → Within false h (token (Unit {0}) (kind.Punct the_punct.LeftParen) m i) d ts → OpensDeclarator names ts
    by (inl e) = no_next ts more e
    by (inr z) = token_elim ts z.1 (no_next ts more) (λ h next st rest. opens_by names (kind.Punct the_punct.LeftParen) ts refl refl refl next)

spec_by_kind : (names : Names) (x : TokenKind) (ts : List Token) → is_spec (spec_kind names x) ≡ true → NextKind x ts → starts_spec names ts ≡ true
spec_by_kind names x ts a next = at_kind (starts_spec names) (λ q. is_spec (spec_kind names q)) (λ t us. refl) x ts next ∙ a

keyword_starts : (names : Names) {h : Type 0} {n : Option Spot} {i : Outline} (x : TokenKind) (d : ℕ) (ts : List Token) → is_spec (spec_kind names x) ≡ true → HasNext ts → Within false h (token (Unit {0}) x n i) d ts → starts_spec names ts ≡ true
keyword_starts names x d ts a more (inl e) = no_next ts more e
keyword_starts names x d ts a more (inr z) = token_elim ts z.1 (no_next ts more) (λ h next st rest. spec_by_kind names x ts a next)

pub begun_spec : (names : Names) (q : SpecTree Spot) (d : ℕ) (ts : List Token) → HasNext ts → Begun (outlines.spec names q) d ts [] → starts_spec names ts ≡ true
begun_spec names (word n v) d ts more y = token_elim ts y (no_next ts more) (λ h next st rest. spec_by_kind names (kind.Keyword (word_keyword v)) ts (word_starts v) next)
begun_spec names (named n x) d ts more y = token_elim ts y (no_next ts more) (λ h next st rest. spec_by_kind names (kind.Identifier x) ts (name_starts names x h) next)
begun_spec names (struct n tag ms) d ts more y = keyword_starts names (kind.Keyword the_keyword.Struct) d ts refl more (last_within ts y)
begun_spec names (enum n tag cs trailing) d ts more y = keyword_starts names (kind.Keyword the_keyword.Enum) d ts refl more (last_within ts y)

pub begun_specs : (names : Names) (ss : SpecTrees Spot) (d : ℕ) (ts : List Token) → HasNext ts → Begun (outlines.specs names ss) d ts [] → starts_spec names ts ≡ true
begun_specs names no_specs d ts more y = no_next ts more y.cut
begun_specs names (more_specs q ss) d ts more y = part_elim ts y (λ w. by w) (λ m next h z rest. first_spec names q d ts m z)
  where
    by : Within false (Unit {0}) (outlines.spec names q) d ts → starts_spec names ts ≡ true
    by (inl e) = no_next ts more e
    by (inr z) = begun_spec names q d ts more z.1

module _ (names : Names) (inner : Inner) (d : ℕ) (good : CompleteInner names inner d) (spent : SpentInner names inner d) where
  pub declarator_nil : (mode : Mode) → Spent (inner.declarator mode [])
  declarator_nil mode = spent.declarator mode (missing mode) [] (inl refl)

  pub specs_nil : (ts : List Token) → ts ≡ [] → Spent (inner.specs ts)
  specs_nil ts e = spent.specs (some_spec spots.start) spots.start ts refl (at e)

  -- what ends specifiers
  pub ends_specs : {h : Type 0} (f : DeclTree Spot) (m : List Token) → HasNext m → Within (outlines.is_written f) h (outlines.declarator names f) d m → EndsSpecs names m
  ends_specs f m more (inl e) = no_next m more e
  ends_specs f m more (inr z) = let x = begun_declarator names f d m more (begun_sinks (outlines.is_written f) (outlines.declarator names f) d m [] z.1) in record { no_spec = x.no_spec; no_brace = x.no_brace }

  typed_in : (mode : Mode) (ss : SpecTrees Spot) (n : Spot) (ts : List Token) → outlines.BeginAt ss n → Within false (Unit {0}) (outlines.specs names ss) d ts → Spent (typed names inner (suc d) mode ts)
  typed_in mode ss n ts b (inl e) = spent_bind (inner.specs ts) _ (specs_nil ts e) (λ y. spent_map (inner.declarator mode []) _ (declarator_nil mode))
  typed_in mode ss n ts b (inr z) = spent_bind (inner.specs ts) _ (spent.specs ss n ts b z.1) (λ y. spent_map (inner.declarator mode []) _ (declarator_nil mode))

  typed_spent : (mode : Mode) (n : Spot) (ss : SpecTrees Spot) (f : DeclTree Spot) (ts : List Token) → outlines.BeginAt ss n → Begun (outlines.within (outlines.specs names ss) ▸ part (outlines.is_written f) (Suits mode f) (outlines.declarator names f) ▸ end) d ts [] → Spent (typed names inner (suc d) mode ts)
  typed_spent mode n ss f ts b x =
      part_elim ts x (typed_in mode ss n ts b)
      (λ m more u y rest.
      spent_is _ _ (bound (λ us. type_name (spot ts) us <$> inner.declarator mode) (inner.specs ts) ss m (good.specs ss n ts m b y (ends_specs f m more (last_within m rest))))
      (spent_map (inner.declarator mode m) (type_name (spot ts) ss) (spent.declarator mode f m (last_within m rest))))

  typed_nil : (mode : Mode) (ts : List Token) → ts ≡ [] → Spent (typed names inner (suc d) mode ts)
  typed_nil mode ts e = typed_in mode (some_spec spots.start) spots.start ts refl (inl e)

  pub type_spent : (x : TypeTree Spot) (ts : List Token) → Within false (Unit {0}) (outlines.type_of names x) d ts → Spent (typed names inner (suc d) without_name ts)
  type_spent x ts (inl e) = typed_nil without_name ts e
  type_spent (type_name n ss f) ts (inr z) = by (last_within ts z.1)
    where
      by : Within false (outlines.BeginAt ss n) (outlines.within (outlines.specs names ss) ▸ part (outlines.is_written f) (outlines.is_named f ≡ false) (outlines.declarator names f) ▸ end) d ts → Spent (typed names inner (suc d) without_name ts)
      by (inl e) = typed_nil without_name ts e
      by (inr y) = typed_spent without_name n ss f ts y.0 y.1

  pub parameter_spent : (x : TypeTree Spot) (ts : List Token) → Within false (Unit {0}) (outlines.parameter names x) d ts → Spent (typed names inner (suc d) with_or_without ts)
  parameter_spent x ts (inl e) = typed_nil with_or_without ts e
  parameter_spent (type_name n ss f) ts (inr z) = by (last_within ts z.1)
    where
      by : Within false (outlines.BeginAt ss n) (outlines.within (outlines.specs names ss) ▸ part (outlines.is_written f) (Unit {0}) (outlines.declarator names f) ▸ end) d ts → Spent (typed names inner (suc d) with_or_without ts)
      by (inl e) = typed_nil with_or_without ts e
      by (inr y) = typed_spent with_or_without n ss f ts y.0 y.1

  specs_first : {h : Type 0} {i : Outline} (ss : SpecTrees Spot) (n : Spot) (ts : List Token) → HasNext ts → Within false h (outlines.within (outlines.specs names ss) i) d ts → (h → outlines.BeginAt ss n) → starts_spec names ts ≡ true
  specs_first ss n ts more (inl e) b = no_next ts more e
  specs_first ss n ts more (inr z) b = part_elim ts z.1 (λ w. by w) (λ m next u y rest. let x = first_specs names ss n d ts m (b z.0) y in x.0)
    where
      by : Within false (Unit {0}) (outlines.specs names ss) d ts → starts_spec names ts ≡ true
      by (inl e) = no_next ts more e
      by (inr y) = begun_specs names ss d ts more y.1

  pub type_starts : (x : TypeTree Spot) (ts : List Token) → HasNext ts → Begun (outlines.type_of names x) d ts [] → starts_spec names ts ≡ true
  type_starts (type_name n ss f) ts more x = specs_first ss n ts more (last_within ts x) (λ b. b)

  parameter_starts : (x : TypeTree Spot) (ts : List Token) → HasNext ts → Begun (outlines.parameter names x) d ts [] → starts_spec names ts ≡ true
  parameter_starts (type_name n ss f) ts more x = specs_first ss n ts more (last_within ts x) (λ b. b)

  -- ---- Arguments

  abbrev ArgumentCut : ExprTree Spot → List Token → Type 0
  ArgumentCut e ts = Within true (2 ≤ level e) (outlines.expr names e) d ts

  other_arguments : (es : ExprTrees Spot) (m : List Token) → Within false (Unit {0}) (outlines.more_arguments names es) d m → OthersCut (listed.ArgumentSpan names d) ArgumentCut (listed.exprs es) m
  other_arguments no_exprs m (inl e) = e
  other_arguments no_exprs m (inr z) = let x = z.1 in x.cut
  other_arguments (more_exprs e es) m (inl z) = inl z
  other_arguments (more_exprs e es) m (inr z) =
      token_elim m z.1 (λ n. inl n) (λ u next st right. inr (next_kind_punct the_punct.Comma m next, part_elim (skip m) right (λ w. inl w) (λ c more h y rest. inr (c, more, (h, y), other_arguments es c (last_within c rest)))))

  some_arguments : (e : ExprTree Spot) (es : ExprTrees Spot) (ts : List Token) → Begun (outlines.arguments names (more_exprs e es)) d ts [] → SomeCut (listed.ArgumentSpan names d) ArgumentCut e (listed.exprs es) ts
  some_arguments e es ts x = part_elim ts x (λ w. inl w) (λ m more h y rest. inr (m, more, (h, y), other_arguments es m (last_within m rest)))

  argument_opens : (e : ExprTree Spot) (es : List (ExprTree Spot)) (ts : List Token) → HasNext ts → SomeCut (listed.ArgumentSpan names d) ArgumentCut e es ts → next_is the_punct.RightParen ts ≡ false
  argument_opens e es ts more (inl (inl z)) = no_next ts more z
  argument_opens e es ts more (inl (inr z)) = opens_not names the_punct.RightParen ts refl (begun_opens names e d ts more (begun_sinks true (outlines.expr names e) d ts [] z.1))
  argument_opens e es ts more (inr z) = opens_not names the_punct.RightParen ts refl (first_operand names e d ts z.0 z.2.1)

  arguments_nil : (ts : List Token) → ts ≡ [] → Spent (arguments names inner (suc d) ts)
  arguments_nil ts e = spent_is _ _ (ap (arguments names inner (suc d)) e) refl

  arguments_in : (es : ExprTrees Spot) (ts : List Token) → Within false (Unit {0}) (outlines.arguments names es) d ts → Spent (arguments names inner (suc d) ts)
  arguments_in es ts (inl e) = arguments_nil ts e
  arguments_in no_exprs ts (inr z) = let x = z.1 in arguments_nil ts x.cut
  arguments_in (more_exprs e es) ts (inr z) =
      by_next ts (arguments_nil ts) (λ more. let s = some_arguments e es ts z.1 in
      spent_is _ _ (branch_false (next_is the_punct.RightParen ts) (skipping (pure [])) (closed (separated (inner.expr 2))) ts (argument_opens e (listed.exprs es) ts more s))
      (spent_bind (separated (inner.expr 2) ts) _
      (separated_spent (inner.expr 2) (listed.ArgumentSpan names d) ArgumentCut (Ends 2) (λ us. punct_ends 2 the_punct.Comma us (omega arith)) (argument_again names inner d good) (λ x us m y. omega (arith, listed.argument_shorter names d x us m y)) (λ x us w. spent.expr 2 x us (omega arith) w) e (listed.exprs es) ts s)
      (λ y. refl)))

  pub arguments_spent : (es : ExprTrees Spot) (ts : List Token) → Begun (outlines.within (outlines.arguments names es) ▸ outlines.punct the_punct.RightParen ▸ end) d ts [] → Spent (arguments names inner (suc d) ts)
  arguments_spent es ts x =
      part_elim ts x (arguments_in es ts)
      (λ m more u y rest. token_elim m rest (no_next m more) (λ v next st last. spent_is _ _ (arguments_again names inner d good es ts m y (next_kind_punct the_punct.RightParen m next)) last.cut))

  -- ---- Parameters

  abbrev ParameterCut : TypeTree Spot → List Token → Type 0
  ParameterCut x ts = Within false (Unit {0}) (outlines.parameter names x) d ts

  other_parameters : (us : TypeTrees Spot) (m : List Token) → Within false (Unit {0}) (outlines.more_parameters names us) d m → OthersCut (listed.ParameterSpan names d) ParameterCut (listed.types us) m
  other_parameters no_types m (inl e) = e
  other_parameters no_types m (inr z) = let x = z.1 in x.cut
  other_parameters (more_types u us) m (inl z) = inl z
  other_parameters (more_types u us) m (inr z) =
      token_elim m z.1 (λ n. inl n) (λ v next st right. inr (next_kind_punct the_punct.Comma m next, part_elim (skip m) right (λ w. inl w) (λ c more h y rest. inr (c, more, y, other_parameters us c (last_within c rest)))))

  some_parameters : (u : TypeTree Spot) (us : TypeTrees Spot) (ts : List Token) → Begun (outlines.parameters names (more_types u us)) d ts [] → SomeCut (listed.ParameterSpan names d) ParameterCut u (listed.types us) ts
  some_parameters u us ts x = part_elim ts x (λ w. inl w) (λ m more h y rest. inr (m, more, y, other_parameters us m (last_within m rest)))

  pub parameter_opens : (u : TypeTree Spot) (us : List (TypeTree Spot)) (ts : List Token) → HasNext ts → SomeCut (listed.ParameterSpan names d) ParameterCut u us ts → starts_spec names ts ≡ true
  parameter_opens u us ts more (inl (inl z)) = no_next ts more z
  parameter_opens u us ts more (inl (inr z)) = parameter_starts u ts more z.1
  parameter_opens u us ts more (inr z) = first_parameter names inner d good u ts z.0 z.2

  parameters_nil : (ts : List Token) → ts ≡ [] → Spent (parameters names inner (suc d) ts)
  parameters_nil ts e = spent_is _ _ (ap (parameters names inner (suc d)) e) refl

  parameters_in : (us : TypeTrees Spot) (ts : List Token) → Within false (Unit {0}) (outlines.parameters names us) d ts → Spent (parameters names inner (suc d) ts)
  parameters_in us ts (inl e) = parameters_nil ts e
  parameters_in no_types ts (inr z) = let x = z.1 in parameters_nil ts x.cut
  parameters_in (more_types u us) ts (inr z) =
      by_next ts (parameters_nil ts) (λ more. let s = some_parameters u us ts z.1 in
      spent_is _ _ (branch_false (next_is the_punct.RightParen ts) (skipping (pure [])) (closed (separated (typed names inner (suc d) with_or_without))) ts (spec_not names the_punct.RightParen ts (parameter_opens u (listed.types us) ts more s)))
      (spent_bind (separated (typed names inner (suc d) with_or_without) ts) _
      (separated_spent (typed names inner (suc d) with_or_without) (listed.ParameterSpan names d) ParameterCut (Parted names inner d good) (parted_comma names inner d good) (parameter_again names inner d good) (λ x us m y. omega (arith, listed.parameter_shorter names d x us m y)) parameter_spent u (listed.types us) ts s)
      (λ y. refl)))

  pub parameters_spent : (us : TypeTrees Spot) (ts : List Token) → Begun (outlines.within (outlines.parameters names us) ▸ outlines.punct the_punct.RightParen ▸ end) d ts [] → Spent (parameters names inner (suc d) ts)
  parameters_spent us ts x =
      part_elim ts x (parameters_in us ts)
      (λ m more u y rest. token_elim m rest (no_next m more) (λ v next st last. spent_is _ _ (parameters_again names inner d good us ts m y (next_kind_punct the_punct.RightParen m next)) last.cut))

  -- what stands behind the parenthesis of parameters
  pub parameters_ahead : (us : TypeTrees Spot) (ts : List Token) → HasNext ts → Begun (outlines.within (outlines.parameters names us) ▸ outlines.punct the_punct.RightParen ▸ end) d ts [] → (next_is the_punct.RightParen ts || starts_spec names ts) ≡ true
  parameters_ahead no_types ts more x =
      part_elim ts x (λ w. by w) (λ m next u y rest. token_elim m rest (no_next m next) (λ v kind_is st last. or_left (next_is the_punct.RightParen ts) (starts_spec names ts) (ap (next_is the_punct.RightParen) y ∙ next_kind_punct the_punct.RightParen m kind_is)))
    where
      by : Within false (Unit {0}) (outlines.parameters names no_types) d ts → (next_is the_punct.RightParen ts || starts_spec names ts) ≡ true
      by (inl e) = no_next ts more e
      by (inr z) = let y = z.1 in no_next ts more y.cut
  parameters_ahead (more_types u us) ts more x =
      part_elim ts x (λ w. by w) (λ m next v y rest. or_right (next_is the_punct.RightParen ts) (starts_spec names ts) (first_parameter names inner d good u ts y.0 y.2))
    where
      by : Within false (Unit {0}) (outlines.parameters names (more_types u us)) d ts → (next_is the_punct.RightParen ts || starts_spec names ts) ≡ true
      by (inl e) = no_next ts more e
      by (inr z) = or_right (next_is the_punct.RightParen ts) (starts_spec names ts) (parameter_opens u (listed.types us) ts more (some_parameters u us ts z.1))
