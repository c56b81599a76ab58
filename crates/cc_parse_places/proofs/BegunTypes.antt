-- Type names, parameters and arguments at which reading fails are begun.
use Rattle.std.proofs.Common.{◌≡◌, ◌≤◌, ◌<◌, refl, ℕ, zero, suc, Bool, true, false, List, [], ◌∷◌, length, None, Err, arith, subst, ◌⊎◌, inl, inr}
use Rattle.cc_base.specs.declared.place.Spot.{Spot}
use Rattle.cc_lex.specs.declared.token.Token.{Token}
use Rattle.cc_lex.specs.declared.punct.Punct.TheVariants as the_punct
use Rattle.cc_tree.specs.Trees.{ExprTree, name, SpecTrees, no_specs, more_specs, word, TypeTree, type_name, DeclTree, nameless, declared}
use Rattle.cc_tree.specs.declared.operator.SpecWord.TheVariants as the_spec_word
use Rattle.cc_base.specs.Spots as spots
use Rattle.cc_tree.specs.Views.{gathered, gathered_types}
use Rattle.cc_grammar.specs.Levels.{level}
use Rattle.cc_grammar.specs.Names.{Names}
use Rattle.cc_grammar.specs.Outline.{end, part, ◌▸◌}
use Rattle.cc_grammar.specs.Outlines as outlines
use Rattle.cc_grammar.specs.Classes.{next_is, skip, spot}
use Rattle.cc_grammar.specs.Outcomes.{Parser}
use Rattle.cc_grammar.specs.Reading as reader
use Rattle.cc_grammar.specs.Reading.{Inner, Mode, with_name, without_name, with_or_without, separated, skipping}
use Rattle.cc_parse_laws.proofs.Spans.{Reads}
use Rattle.cc_parse_laws.proofs.Steps.{next_reads}
use Rattle.cc_parse_laws.proofs.Lists.{Span, IsSound, Others, Separated, separated_sound}
use Rattle.cc_parse_laws.proofs.Inner.{ReadsExpr, Suits, SoundInner}
use Rattle.cc_parse_laws.proofs.SoundTypes.{typed_sound, typed_parameter, Typed}
use Rattle.cc_parse_places.proofs.Begun.{Begun, Part, at, punct_then, part_in, part_past, part_of, within_in, within_past}
use Rattle.cc_parse_places.proofs.Failures.{err_is, bind_err, map_err, branch_err, take_bind, until_err}

-- What the readers of what stands in a counted node have begun where they fail.
pub record BegunInner (names : Names) (inner : Inner) (d : ℕ) : Type 0 where
  pub expr : (least : ℕ) → 0 < least → least ≤ 15 → (ts r : List Token) → inner.expr least ts ≡ Err r → (e : ExprTree Spot) × (least ≤ level e) × Part true (outlines.expr names e) d ts r
  pub specs : (ts r : List Token) → inner.specs ts ≡ Err r → (ss : SpecTrees Spot) × outlines.BeginAt ss (spot ts) × Begun (outlines.specs names ss) d ts r
  pub declarator : (mode : Mode) (ts r : List Token) → inner.declarator mode ts ≡ Err r → (f : DeclTree Spot) × Suits mode f × Part (outlines.is_written f) (outlines.declarator names f) d ts r

-- ---- Lists

-- what is begun of an item
abbrev pub Fails : {A : Type 0} → Parser A → Span A → Type 0
Fails {A} read Q = (ts r : List Token) → read ts ≡ Err r → (x : A) × Q x ts r

-- each behind a comma, up to one that is begun, or to where nothing of another is there
abbrev pub OthersBegun : {A : Type 0} → Span A → Span A → List A → List Token → List Token → Type 0
OthersBegun P Q [] ts r = ts ≡ r
OthersBegun P Q (x ∷ xs) ts r = (next_is the_punct.Comma ts ≡ true) × (Q x (skip ts) r ⊎ ((m : List Token) × P x (skip ts) m × OthersBegun P Q xs m r))

abbrev pub SomeBegun : {A : Type 0} → Span A → Span A → List A → List Token → List Token → Type 0
SomeBegun P Q [] ts r = ⊥
SomeBegun P Q (x ∷ xs) ts r = Q x ts r ⊎ ((m : List Token) × P x ts m × OthersBegun P Q xs m r)

behind_begun : {A : Type 0} (P Q : Span A) (xs : List A) (ts r : List Token) → next_is the_punct.Comma ts ≡ true → SomeBegun P Q xs (skip ts) r → OthersBegun P Q xs ts r
behind_begun P Q [] ts r e s = absurd s
behind_begun P Q (x ∷ xs) ts r e s = (e, s)

-- An item may be missing as a whole.
pub separated_by_fails : {A : Type 0} (read : Parser A) (P Q : Span A) → ((ts : List Token) → (x : A) × Q x ts ts) → IsSound read P → Fails read Q → (turns : ℕ) → Fails (reader.separated_by read turns) (SomeBegun P Q)
separated_by_fails read P Q none sound fails zero ts r e = let x = none ts in (x.0 ∷ [], subst (λ us. SomeBegun P Q (x.0 ∷ []) ts us) (err_is e) (inl x.1))
separated_by_fails read P Q none sound fails (suc turns) ts r e =
    bind_err (read ts) _ e
    (λ f. let x = fails ts r f in (x.0 ∷ [], inl x.1))
    (λ y ok f. branch_err (next_is the_punct.Comma y.1) _ _ y.1 f
    (λ c g. let s = separated_by_fails read P Q none sound fails turns (skip y.1) r (map_err _ _ g) in (y.0 ∷ s.0, inr (y.1, sound ts y ok, behind_begun P Q s.0 y.1 r c s.1)))
    (λ c g. absurd cc))

pub separated_fails : {A : Type 0} (read : Parser A) (P Q : Span A) → ((ts : List Token) → (x : A) × Q x ts ts) → IsSound read P → Fails read Q → Fails (separated read) (SomeBegun P Q)
separated_fails read P Q none sound fails ts r e = separated_by_fails read P Q none sound fails (length ts) ts r e

-- up to a brace
pub enclosed_by_fails : {A : Type 0} (read : Parser A) (P Q : Span A) → ((ts : List Token) → (x : A) × Q x ts ts) → IsSound read P → Fails read Q → (turns : ℕ) → Fails (reader.enclosed_by read turns) (λ (xs : List A × Bool) ts m. SomeBegun P Q xs.0 ts m)
enclosed_by_fails read P Q none sound fails zero ts r e = let x = none ts in ((x.0 ∷ [], false), subst (λ us. SomeBegun P Q (x.0 ∷ []) ts us) (err_is e) (inl x.1))
enclosed_by_fails read P Q none sound fails (suc turns) ts r e =
    bind_err (read ts) _ e
    (λ f. let x = fails ts r f in ((x.0 ∷ [], false), inl x.1))
    (λ y ok f. branch_err (next_is the_punct.Comma y.1) _ _ y.1 f
    (λ c g. branch_err (next_is the_punct.RightBrace (skip y.1)) _ _ (skip y.1) g
    (λ b h. absurd cc)
    (λ b h. let s = enclosed_by_fails read P Q none sound fails turns (skip y.1) r (map_err _ _ h) in ((y.0 ∷ s.0.0, false), inr (y.1, sound ts y ok, behind_begun P Q s.0.0 y.1 r c s.1))))
    (λ c g. ((y.0 ∷ [], false), inr (y.1, sound ts y ok, until_err the_punct.RightBrace (y.0 ∷ [], false) y.1 g))))

-- with its first brace, of which nothing may be there
abbrev pub BracedBegun : {A : Type 0} → Span A → Span A → List A → List Token → List Token → Type 0
BracedBegun P Q [] ts r = ⊥
BracedBegun P Q (x ∷ xs) ts r = (ts ≡ r) ⊎ ((next_is the_punct.LeftBrace ts ≡ true) × SomeBegun P Q (x ∷ xs) (skip ts) r)

braced_begun : {A : Type 0} (P Q : Span A) (xs : List A) (ts r : List Token) → next_is the_punct.LeftBrace ts ≡ true → SomeBegun P Q xs (skip ts) r → BracedBegun P Q xs ts r
braced_begun P Q [] ts r e s = absurd s
braced_begun P Q (x ∷ xs) ts r e s = inr (e, s)

pub enclosed_fails : {A : Type 0} (read : Parser A) (P Q : Span A) → ((ts : List Token) → (x : A) × Q x ts ts) → IsSound read P → Fails read Q → Fails (reader.enclosed read) (λ (xs : List A × Bool) ts m. BracedBegun P Q xs.0 ts m)
enclosed_fails read P Q none sound fails ts r e =
    take_bind the_punct.LeftBrace ts _ e
    (λ h. let x = none ts in ((x.0 ∷ [], false), inl h))
    (λ b f. let s = enclosed_by_fails read P Q none sound fails (length (skip ts)) (skip ts) r f in (s.0, braced_begun P Q s.0.0 ts r b s.1))

-- as long as another begins
abbrev pub FollowingBegun : {A : Type 0} → Span A → Span A → List A → List Token → List Token → Type 0
FollowingBegun P Q [] ts r = ts ≡ r
FollowingBegun P Q (x ∷ xs) ts r = Q x ts r ⊎ ((m : List Token) × P x ts m × FollowingBegun P Q xs m r)

abbrev pub RepeatedBegun : {A : Type 0} → Span A → Span A → List A → List Token → List Token → Type 0
RepeatedBegun P Q [] ts r = ⊥
RepeatedBegun P Q (x ∷ xs) ts r = FollowingBegun P Q (x ∷ xs) ts r

following_begun : {A : Type 0} (P Q : Span A) (xs : List A) (ts r : List Token) → RepeatedBegun P Q xs ts r → FollowingBegun P Q xs ts r
following_begun P Q [] ts r s = absurd s
following_begun P Q (x ∷ xs) ts r s = s

pub repeated_by_fails : {A : Type 0} (more : List Token → Bool) (read : Parser A) (P Q : Span A) → ((ts : List Token) → (x : A) × Q x ts ts) → IsSound read P → Fails read Q → (turns : ℕ) → Fails (reader.repeated_by more read turns) (RepeatedBegun P Q)
repeated_by_fails more read P Q none sound fails zero ts r e = let x = none ts in (x.0 ∷ [], subst (λ us. RepeatedBegun P Q (x.0 ∷ []) ts us) (err_is e) (inl x.1))
repeated_by_fails more read P Q none sound fails (suc turns) ts r e =
    bind_err (read ts) _ e
    (λ f. let x = fails ts r f in (x.0 ∷ [], inl x.1))
    (λ y ok f. branch_err (more y.1) _ _ y.1 f
    (λ c g. let s = repeated_by_fails more read P Q none sound fails turns y.1 r (map_err _ _ g) in (y.0 ∷ s.0, inr (y.1, sound ts y ok, following_begun P Q s.0 y.1 r s.1)))
    (λ c g. absurd cc))

-- ---- Type names

-- what stands where a declarator is missing
abbrev pub missing : Mode → DeclTree Spot
missing with_name = declared spots.start []
missing without_name = nameless
missing with_or_without = nameless

pub missing_suits : (mode : Mode) → Suits mode (missing mode)
missing_suits with_name = refl
missing_suits without_name = refl
missing_suits with_or_without = tt

-- and where specifiers are
abbrev pub some_spec : Spot → SpecTrees Spot
some_spec n = more_specs (word n the_spec_word.Int) no_specs

module _ (names : Names) (inner : Inner) (d : ℕ) (good : SoundInner names inner d) (fails : BegunInner names inner d) where
  abbrev pub TypeBegun : Mode → TypeTree Spot → List Token → List Token → Type 0
  TypeBegun mode (type_name n ss f) ts m = outlines.BeginAt ss n × Begun (outlines.within (outlines.specs names ss) ▸ part (outlines.is_written f) (Suits mode f) (outlines.declarator names f) ▸ end) d ts m

  pub typed_fails : (mode : Mode) → Fails (reader.typed names inner (suc d) mode) (TypeBegun mode)
  typed_fails mode ts m e =
      bind_err (inner.specs ts) _ e
      (λ f. let s = fails.specs ts m f in (type_name (spot ts) s.0 (missing mode), (s.1, within_in s.2)))
      (λ y ok f. let s = good.specs ts y ok in let g = fails.declarator mode y.1 m (map_err _ _ f) in (type_name (spot ts) y.0 g.0, (s.0, within_past y.1 s.1 (part_of g.1 g.2))))

  pub no_type : (mode : Mode) (ts : List Token) → (x : TypeTree Spot) × TypeBegun mode x ts ts
  no_type mode ts = (type_name (spot ts) (some_spec (spot ts)) (missing mode), (refl, at refl))

  pub type_begun : (x : TypeTree Spot) (ts m : List Token) → TypeBegun without_name x ts m → Begun (outlines.type_of names x) d ts m
  type_begun (type_name n ss f) ts m x = part_in {c = false} x.0 x.1

  parameter_begun : (x : TypeTree Spot) (ts m : List Token) → TypeBegun with_or_without x ts m → Begun (outlines.parameter names x) d ts m
  parameter_begun (type_name n ss f) ts m x = part_in {c = false} x.0 x.1

  -- ---- Parameters

  other_parameters : (us : List (TypeTree Spot)) (ts m : List Token) → Others (Typed names inner d good with_or_without) us ts m → Reads (outlines.more_parameters names (gathered_types us)) d ts m
  other_parameters [] ts m x = x
  other_parameters (u ∷ us) ts m x =
      next_reads the_punct.Comma None (outlines.within (outlines.parameter names u) ▸ outlines.within (outlines.more_parameters names (gathered_types us)) ▸ end) d ts m x.1 tt (x.0, tt, typed_parameter names inner d good u (skip ts) x.0 x.2, (m, tt, other_parameters us x.0 m x.3, refl))

  some_parameters : (us : List (TypeTree Spot)) (ts m : List Token) → Separated (Typed names inner d good with_or_without) us ts m → Reads (outlines.parameters names (gathered_types us)) d ts m
  some_parameters [] ts m x = absurd x
  some_parameters (u ∷ us) ts m x = (x.0, tt, typed_parameter names inner d good u ts x.0 x.1, (m, tt, other_parameters us x.0 m x.2, refl))

  others_begun : (us : List (TypeTree Spot)) (ts m : List Token) → OthersBegun (Typed names inner d good with_or_without) (TypeBegun with_or_without) us ts m → Begun (outlines.more_parameters names (gathered_types us)) d ts m
  others_begun [] ts m x = at x
  others_begun (u ∷ us) ts m (c, inl x) = punct_then c tt (within_in (parameter_begun u (skip ts) m x))
  others_begun (u ∷ us) ts m (c, inr x) = punct_then c tt (within_past x.0 (typed_parameter names inner d good u (skip ts) x.0 x.1) (within_in (others_begun us x.0 m x.2)))

  some_begun : (us : List (TypeTree Spot)) (ts m : List Token) → SomeBegun (Typed names inner d good with_or_without) (TypeBegun with_or_without) us ts m → Begun (outlines.parameters names (gathered_types us)) d ts m
  some_begun [] ts m x = absurd x
  some_begun (u ∷ us) ts m (inl x) = within_in (parameter_begun u ts m x)
  some_begun (u ∷ us) ts m (inr x) = within_past x.0 (typed_parameter names inner d good u ts x.0 x.1) (within_in (others_begun us x.0 m x.2))

  -- with their parenthesis
  pub parameters_fail : Fails (reader.parameters names inner (suc d)) (λ us ts m. Begun (outlines.within (outlines.parameters names (gathered_types us)) ▸ outlines.punct the_punct.RightParen ▸ end) d ts m)
  parameters_fail ts m e =
      branch_err (next_is the_punct.RightParen ts) _ _ ts e (λ c f. absurd cc)
      (λ c f. bind_err (separated (reader.typed names inner (suc d) with_or_without) ts) _ f
      (λ g. let s = separated_fails (reader.typed names inner (suc d) with_or_without) (Typed names inner d good with_or_without) (TypeBegun with_or_without) (no_type with_or_without) (typed_sound names inner d good with_or_without) (typed_fails with_or_without) ts m g in
      (s.0, within_in (some_begun s.0 ts m s.1)))
      (λ y ok g. let s = separated_sound (reader.typed names inner (suc d) with_or_without) (Typed names inner d good with_or_without) (typed_sound names inner d good with_or_without) ts y ok in
      (y.0, within_past y.1 (some_parameters y.0 ts y.1 s) (at (until_err the_punct.RightParen y.0 y.1 g)))))

  -- ---- Arguments

  abbrev Argument : ExprTree Spot → List Token → List Token → Type 0
  Argument e ts m = (2 ≤ level e) × ReadsExpr names d e ts m

  abbrev ArgumentBegun : ExprTree Spot → List Token → List Token → Type 0
  ArgumentBegun e ts m = (2 ≤ level e) × Part true (outlines.expr names e) d ts m

  other_arguments : (es : List (ExprTree Spot)) (ts m : List Token) → Others Argument es ts m → Reads (outlines.more_arguments names (gathered es)) d ts m
  other_arguments [] ts m x = x
  other_arguments (e ∷ es) ts m x = next_reads the_punct.Comma None (outlines.operand 2 e (outlines.expr names e) ▸ outlines.within (outlines.more_arguments names (gathered es)) ▸ end) d ts m x.1 tt (x.0, x.2.0, x.2.1, (m, tt, other_arguments es x.0 m x.3, refl))

  some_arguments : (es : List (ExprTree Spot)) (ts m : List Token) → Separated Argument es ts m → Reads (outlines.arguments names (gathered es)) d ts m
  some_arguments [] ts m x = absurd x
  some_arguments (e ∷ es) ts m x = (x.0, x.1.0, x.1.1, (m, tt, other_arguments es x.0 m x.2, refl))

  others_of_arguments : (es : List (ExprTree Spot)) (ts m : List Token) → OthersBegun Argument ArgumentBegun es ts m → Begun (outlines.more_arguments names (gathered es)) d ts m
  others_of_arguments [] ts m x = at x
  others_of_arguments (e ∷ es) ts m (c, inl x) = punct_then c tt (part_of x.0 x.1)
  others_of_arguments (e ∷ es) ts m (c, inr x) = punct_then c tt (part_past {c = true} x.0 x.1.0 x.1.1 (within_in (others_of_arguments es x.0 m x.2)))

  arguments_begun : (es : List (ExprTree Spot)) (ts m : List Token) → SomeBegun Argument ArgumentBegun es ts m → Begun (outlines.arguments names (gathered es)) d ts m
  arguments_begun [] ts m x = absurd x
  arguments_begun (e ∷ es) ts m (inl x) = part_of x.0 x.1
  arguments_begun (e ∷ es) ts m (inr x) = part_past {c = true} x.0 x.1.0 x.1.1 (within_in (others_of_arguments es x.0 m x.2))

  no_argument : (ts : List Token) → (e : ExprTree Spot) × ArgumentBegun e ts ts
  no_argument ts = (name (spot ts) [], (omega arith, inl refl))

  pub arguments_fail : Fails (reader.arguments names inner (suc d)) (λ es ts m. Begun (outlines.within (outlines.arguments names (gathered es)) ▸ outlines.punct the_punct.RightParen ▸ end) d ts m)
  arguments_fail ts m e =
      branch_err (next_is the_punct.RightParen ts) _ _ ts e (λ c f. absurd cc)
      (λ c f. bind_err (separated (inner.expr 2) ts) _ f
      (λ g. let s = separated_fails (inner.expr 2) Argument ArgumentBegun no_argument (good.expr 2 (omega arith)) (λ us v h. let q = fails.expr 2 (omega arith) (omega arith) us v h in (q.0, (q.1, q.2))) ts m g in
      (s.0, within_in (arguments_begun s.0 ts m s.1)))
      (λ y ok g. let s = separated_sound (inner.expr 2) Argument (good.expr 2 (omega arith)) ts y ok in
      (y.0, within_past y.1 (some_arguments y.0 ts y.1 s) (at (until_err the_punct.RightParen y.0 y.1 g)))))
