-- Initialisers and declarations at which reading fails are begun.
use Rattle.std.proofs.Common.{◌≡◌, refl, ℕ, zero, suc, Bool, true, List, [], ◌∷◌, length, Some, None, Err, arith, inl, inr}
use Rattle.cc_base.specs.declared.place.Spot.{Spot}
use Rattle.cc_lex.specs.declared.token.Token.{Token}
use Rattle.cc_lex.specs.declared.punct.Punct.TheVariants as the_punct
use Rattle.cc_tree.specs.Trees.{name, ValueTree, single, braces, DeclTree, InitTree, init, DeclarationTree, declaration}
use Rattle.cc_tree.specs.Views.{gathered_values}
use Rattle.cc_grammar.specs.Names.{Names, has_typedef, after_declarator}
use Rattle.cc_grammar.specs.Outlines as outlines
use Rattle.cc_grammar.specs.Classes.{next_is, skip, spot}
use Rattle.cc_grammar.specs.Outcomes.{and_then}
use Rattle.cc_grammar.specs.Reading.{readers, with_name, value, given, inits_behind, inits, declaration_at}
use Rattle.cc_parse_laws.proofs.Spans.{Reads}
use Rattle.cc_parse_laws.proofs.Steps.{bind_ok}
use Rattle.cc_parse_laws.proofs.Inner.{ReadsDeclarator}
use Rattle.cc_parse_laws.proofs.SoundReaders.{readers_sound}
use Rattle.cc_parse_laws.proofs.SoundValues.{ReadsValue, value_sound, given_sound}
use Rattle.cc_parse_laws.proofs.SoundDeclarations.{inits_sound}
use Rattle.cc_parse_places.proofs.Begun.{Begun, at, punct_then, part_in, part_past, part_of, within_in, within_past}
use Rattle.cc_parse_places.proofs.Failures.{err_is, bind_err, map_err, branch_err, until_err}
use Rattle.cc_parse_places.proofs.BegunTypes.{Fails, OthersBegun, BracedBegun, enclosed_fails}
use Rattle.cc_parse_places.proofs.BegunReaders.{readers_fail}

-- ---- Initialisers

abbrev ValueBegun : Names → ℕ → ValueTree Spot → List Token → List Token → Type 0
ValueBegun names d v ts m = Begun (outlines.value names v) d ts m

no_value : (names : Names) (d : ℕ) (ts : List Token) → (v : ValueTree Spot) × ValueBegun names d v ts ts
no_value names d ts = (single (name (spot ts) []), at refl)

further_begun : (names : Names) (d : ℕ) (vs : List (ValueTree Spot)) (ts m : List Token) → OthersBegun (ReadsValue names d) (ValueBegun names d) vs ts m → Begun (outlines.further_values names (gathered_values vs)) d ts m
further_begun names d [] ts m x = at x
further_begun names d (v ∷ vs) ts m (c, inl x) = punct_then c tt (within_in x)
further_begun names d (v ∷ vs) ts m (c, inr x) = punct_then c tt (within_past x.0 x.1 (within_in (further_begun names d vs x.0 m x.2)))

braces_begun : (names : Names) (d : ℕ) (vs : List (ValueTree Spot)) (last : Bool) (ts m : List Token) → BracedBegun (ReadsValue names d) (ValueBegun names d) vs ts m → ValueBegun names (suc d) (braces (spot ts) (gathered_values vs) last) ts m
braces_begun names d [] last ts m x = absurd x
braces_begun names d (v ∷ vs) last ts m (inl e) = at e
braces_begun names d (v ∷ vs) last ts m (inr (b, inl x)) = part_in {c = true} tt (punct_then b refl (within_in (within_in x)))
braces_begun names d (v ∷ vs) last ts m (inr (b, inr x)) = part_in {c = true} tt (punct_then b refl (within_in (within_past x.0 x.1 (within_in (further_begun names d vs x.0 m x.2)))))

pub value_fails : (names : Names) (d : ℕ) → Fails (value names d) (ValueBegun names d)
value_fails names zero ts m e = (single (name (spot ts) []), at (err_is {A = ValueTree Spot} e))
value_fails names (suc d) ts m e =
    branch_err (next_is the_punct.LeftBrace ts) _ _ ts e
    (λ c f.
    let q = enclosed_fails (value names d) (ReadsValue names d) (ValueBegun names d) (no_value names d) (value_sound readers_sound names d) (value_fails names d) ts m (map_err _ _ f) in
    (braces (spot ts) (gathered_values q.0.0) q.0.1, braces_begun names d q.0.0 q.0.1 ts m q.1))
    (λ c f. let q = (readers_fail names (suc d)).expr 2 (omega arith) (omega arith) ts m (map_err _ _ f) in (single q.0, part_of q.1 q.2))

given_fails : (names : Names) (d : ℕ) → Fails (given names d) (λ v ts m. Begun (outlines.given names v) d ts m)
given_fails names d ts m e =
    branch_err (next_is the_punct.Equal ts) _ _ ts e
    (λ c f. let q = value_fails names d (skip ts) m (map_err _ _ f) in (Some q.0, punct_then c tt (within_in q.1)))
    (λ c f. absurd cc)

-- ---- Declarators with their initialisers

abbrev pub InitsBegun : Names → Bool → ℕ → List (InitTree Spot) → List Token → List Token → Type 0
InitsBegun names typedef d [] ts m = ⊥
InitsBegun names typedef d (i ∷ is) ts m = Begun (outlines.inits names typedef (i ∷ is)) d ts m

pub inits_begun : (names : Names) (typedef : Bool) (d : ℕ) (is : List (InitTree Spot)) (ts m : List Token) → InitsBegun names typedef d is ts m → Begun (outlines.inits names typedef is) d ts m
inits_begun names typedef d [] ts m x = absurd x
inits_begun names typedef d (i ∷ is) ts m x = x

more_begun : (names : Names) (typedef : Bool) (d : ℕ) (is : List (InitTree Spot)) (ts m : List Token) → next_is the_punct.Comma ts ≡ true → InitsBegun names typedef d is (skip ts) m → Begun (outlines.more_inits names typedef is) d ts m
more_begun names typedef d [] ts m c x = absurd x
more_begun names typedef d (i ∷ is) ts m c x = punct_then c tt x

-- The declarator that was read before begins at `from`.
inits_behind_fails : (d : ℕ) (typedef : Bool) (turns : ℕ) (names : Names) (f : DeclTree Spot) (from ts m : List Token) → outlines.is_named f ≡ true → ReadsDeclarator names d f from ts
    → inits_behind d typedef turns names f ts ≡ Err m → (is : List (InitTree Spot)) × InitsBegun names typedef d is from m
inits_behind_fails d typedef zero names f from ts m named there e = (init f None ∷ [], within_in (part_past {c = outlines.is_written f} ts named there (at (err_is {A = List (InitTree Spot)} e))))
inits_behind_fails d typedef (suc turns) names f from ts m named there e =
    let after : Names = after_declarator typedef f names in
    bind_err (given after d ts) _ e
    (λ g. let q = given_fails after d ts m g in (init f q.0 ∷ [], within_in (part_past {c = outlines.is_written f} ts named there (within_in q.1))))
    (λ y ok g.
    let one : Reads (outlines.init_of names typedef (init f y.0)) d from y.1 = (ts, named, there, (y.1, tt, given_sound readers_sound after d ts y ok, refl)) in
    branch_err (next_is the_punct.Comma y.1) _ _ y.1 g
    (λ c h. bind_err ((readers after d).declarator with_name (skip y.1)) _ h
    (λ k. let q = (readers_fail after d).declarator with_name (skip y.1) m k in
    (init f y.0 ∷ init q.0 None ∷ [], within_past y.1 one (within_in (punct_then c tt (within_in (part_of q.1 q.2))))))
    (λ z done k.
    let next = (readers_sound after d).declarator with_name (skip y.1) z done in
    let q = inits_behind_fails d typedef turns after z.0 (skip y.1) z.1 m next.0 next.1 (map_err _ _ k) in
    (init f y.0 ∷ q.0, within_past y.1 one (within_in (more_begun after typedef d q.0 y.1 m c q.1)))))
    (λ c h. absurd cc))

pub inits_fail : (d : ℕ) (typedef : Bool) (names : Names) (f : DeclTree Spot) (from ts m : List Token) → outlines.is_named f ≡ true → ReadsDeclarator names d f from ts
    → inits d typedef names f ts ≡ Err m → (is : List (InitTree Spot)) × InitsBegun names typedef d is from m
inits_fail d typedef names f from ts m named there e = inits_behind_fails d typedef (suc (length ts)) names f from ts m named there e

-- a declaration, and the spot that it has
abbrev pub DeclarationBegun : Names → ℕ → DeclarationTree Spot → List Token → List Token → Type 0
DeclarationBegun names d x ts m = outlines.declaration_spot x × Begun (outlines.declaration_of names x) d ts m

pub declaration_fails : (d : ℕ) (names : Names) → Fails (declaration_at d names) (DeclarationBegun names d)
declaration_fails d names ts m e =
    let n = spot ts in
    bind_err ((readers names d).specs ts) _ e
    (λ f. let s = (readers_fail names d).specs ts m f in (declaration n s.0 [], (s.1, within_in s.2)))
    (λ y ok f.
    let s = (readers_sound names d).specs ts y ok in
    branch_err (next_is the_punct.Semicolon y.1) _ _ y.1 f (λ c g. absurd cc)
    (λ c g. bind_err (and_then ((readers names d).declarator with_name y.1) (inits d (has_typedef y.0) names)) _ g
    (λ h. bind_err ((readers names d).declarator with_name y.1) _ h
    (λ k. let q = (readers_fail names d).declarator with_name y.1 m k in
    (declaration n y.0 (init q.0 None ∷ []), (s.0, within_past y.1 s.1 (within_in (within_in (part_of q.1 q.2))))))
    (λ z done k.
    let first = (readers_sound names d).declarator with_name y.1 z done in
    let q = inits_fail d (has_typedef y.0) names z.0 y.1 z.1 m first.0 first.1 k in
    (declaration n y.0 q.0, (s.0, within_past y.1 s.1 (within_in (inits_begun names (has_typedef y.0) d q.0 y.1 m q.1))))))
    (λ z done h.
    let g = bind_ok ((readers names d).declarator with_name y.1) (inits d (has_typedef y.0) names) z done in
    let first = (readers_sound names d).declarator with_name y.1 g.0 g.1 in
    let all = inits_sound readers_sound d (has_typedef y.0) names g.0.0 y.1 g.0.1 z first.0 first.1 g.2 in
    (declaration n y.0 z.0, (s.0, within_past y.1 s.1 (within_past z.1 all (at (until_err the_punct.Semicolon (declaration n y.0 z.0) z.1 h))))))))
