-- What is read as a declaration is there, and the typedef names grow behind each declarator.
use Rattle.std.proofs.Common.{◌≡◌, refl, ℕ, zero, suc, Bool, true, List, [], ◌∷◌, length, Option, None, Ok, subst, inl, inr}
use Rattle.cc_base.specs.declared.place.Spot.{Spot}
use Rattle.cc_lex.specs.declared.token.Token.{Token}
use Rattle.cc_lex.specs.declared.punct.Punct.TheVariants as the_punct
use Rattle.cc_tree.specs.Trees.{ValueTree, SpecTrees, DeclTree, InitTree, init, DeclarationTree, declaration}
use Rattle.cc_grammar.specs.Outline.{end, ◌▸◌}
use Rattle.cc_grammar.specs.Outlines as outlines
use Rattle.cc_grammar.specs.Names.{Names, has_typedef, after_declarator, after_inits}
use Rattle.cc_grammar.specs.Classes.{next_is, skip, spot}
use Rattle.cc_grammar.specs.Outcomes.{Parser, and_then, ◌>>=◌, ◌>>◌, pure, ◌<$>◌, take}
use Rattle.cc_grammar.specs.Reading.{where_next, skipping, with_name, readers, value, given, inits_behind, inits, declaration_at}
use Rattle.cc_parse_laws.proofs.Spans.{Reads}
use Rattle.cc_parse_laws.proofs.Steps.{bind_ok, map_ok, ok_is, branched, next_reads}
use Rattle.cc_parse_laws.proofs.Lists.{IsSound}
use Rattle.cc_parse_laws.proofs.Inner.{SoundInner, ReadsDeclarator}
use Rattle.cc_parse_laws.proofs.Endings.{ReadsTo, taken}
use Rattle.cc_parse_laws.proofs.SoundValues.{ReadsGiven, given_sound}

-- one declarator or more, each with its initialiser or none
abbrev pub ReadsInits : Names → Bool → ℕ → List (InitTree Spot) → List Token → List Token → Type 0
ReadsInits names typedef d [] ts r = ⊥
ReadsInits names typedef d (i ∷ is) ts r = Reads (outlines.inits names typedef (i ∷ is)) d ts r

pub inits_read : (names : Names) (typedef : Bool) (d : ℕ) (is : List (InitTree Spot)) (ts r : List Token) → ReadsInits names typedef d is ts r → Reads (outlines.inits names typedef is) d ts r
inits_read names typedef d [] ts r s = absurd s
inits_read names typedef d (i ∷ is) ts r s = s

more_inits : (names : Names) (typedef : Bool) (d : ℕ) (is : List (InitTree Spot)) (ts r : List Token) → next_is the_punct.Comma ts ≡ true → ReadsInits names typedef d is (skip ts) r → Reads (outlines.more_inits names typedef is) d ts r
more_inits names typedef d [] ts r e s = absurd s
more_inits names typedef d (i ∷ is) ts r e s =
    next_reads the_punct.Comma None (outlines.within (outlines.init_of names typedef i) ▸ outlines.within (outlines.more_inits (after_inits typedef (i ∷ []) names) typedef is) ▸ end) d ts r e tt s

-- a declarator and its initialiser, with others behind or none
inits_from : (names : Names) (typedef : Bool) (d : ℕ) (f : DeclTree Spot) (v : Option (ValueTree Spot)) (is : List (InitTree Spot)) (from ts m r : List Token) → outlines.is_named f ≡ true → ReadsDeclarator names d f from ts
    → ReadsGiven (after_declarator typedef f names) d v ts m → Reads (outlines.more_inits (after_declarator typedef f names) typedef is) d m r → ReadsInits names typedef d (init f v ∷ is) from r
inits_from names typedef d f v is from ts m r named there value others = (m, tt, (ts, named, there, (m, tt, value, refl)), (r, tt, others, refl))

-- a declaration, and the spot that it has
abbrev pub ReadsDeclaration : Names → ℕ → DeclarationTree Spot → List Token → List Token → Type 0
ReadsDeclaration names d x ts r = outlines.declaration_spot x × Reads (outlines.declaration_of names x) d ts r

module _ (readers_sound : (names : Names) (d : ℕ) → SoundInner names (readers names d) d) where
  -- The declarator that was read before begins at `from`.
  pub inits_behind_sound : (d : ℕ) (typedef : Bool) (turns : ℕ) (names : Names) (f : DeclTree Spot) (from ts : List Token) (x : List (InitTree Spot) × List Token) → outlines.is_named f ≡ true → ReadsDeclarator names d f from ts
      → inits_behind d typedef turns names f ts ≡ Ok x → ReadsInits names typedef d x.0 from x.1
  inits_behind_sound d typedef zero names f from ts x named there e = absurd cc
  inits_behind_sound d typedef (suc turns) names f from ts x named there e =
      let after : Names = after_declarator typedef f names in
      let others : Option (ValueTree Spot) → Parser (List (InitTree Spot)) = (λ v. (readers after d).declarator with_name >>= (λ g. (λ is. init f v ∷ is) <$> inits_behind d typedef turns after g)) in
      let a = bind_ok (given after d ts) (λ v. where_next (next_is the_punct.Comma) (skipping (others v)) (pure (init f v ∷ []))) x e in
      let first = given_sound readers_sound after d ts a.0 a.1 in
      let is : (y : List (InitTree Spot) × List Token) → Type 0 = (λ y. ReadsInits names typedef d y.0 from y.1) in
      elim (branched (next_is the_punct.Comma a.0.1) (skipping (others a.0.0)) (pure (init f a.0.0 ∷ [])) a.0.1 (Ok x) a.2) [
        | inl c ↦
            let g = bind_ok ((readers after d).declarator with_name (skip a.0.1)) (λ g. (λ is. init f a.0.0 ∷ is) <$> inits_behind d typedef turns after g) x c.1 in
            let next = (readers_sound after d).declarator with_name (skip a.0.1) g.0 g.1 in
            let m = map_ok (inits_behind d typedef turns after g.0.0 g.0.1) (λ is. init f a.0.0 ∷ is) x g.2 in
            let rest = inits_behind_sound d typedef turns after g.0.0 (skip a.0.1) g.0.1 m.0 next.0 next.1 m.1 in
            subst is {x = (init f a.0.0 ∷ m.0.0, m.0.1)} m.2 (inits_from names typedef d f a.0.0 m.0.0 from ts a.0.1 m.0.1 named there first (more_inits after typedef d m.0.0 a.0.1 m.0.1 c.0 rest))
        | inr c ↦ subst is (ok_is (init f a.0.0 ∷ [], a.0.1) x c.1) (inits_from names typedef d f a.0.0 [] from ts a.0.1 a.0.1 named there first refl)
      ]

  pub inits_sound : (d : ℕ) (typedef : Bool) (names : Names) (f : DeclTree Spot) (from ts : List Token) (x : List (InitTree Spot) × List Token) → outlines.is_named f ≡ true → ReadsDeclarator names d f from ts
      → inits d typedef names f ts ≡ Ok x → Reads (outlines.inits names typedef x.0) d from x.1
  inits_sound d typedef names f from ts x named there e =
      inits_read names typedef d x.0 from x.1 (inits_behind_sound d typedef (suc (length ts)) names f from ts x named there e)

  -- the declarators and the semicolon, behind the specifiers
  declares_sound : (d : ℕ) (names : Names) (n : Spot) (ss : SpecTrees Spot) (ts : List Token) (x : DeclarationTree Spot × List Token) → and_then (and_then ((readers names d).declarator with_name ts) (inits d (has_typedef ss) names)) (λ is. take the_punct.Semicolon >> pure (declaration n ss is)) ≡ Ok x
      → (is : List (InitTree Spot)) × ((declaration n ss is, x.1) ≡ x) × Reads (outlines.within (outlines.inits names (has_typedef ss) is) ▸ outlines.punct the_punct.Semicolon ▸ end) d ts x.1
  declares_sound d names n ss ts x e =
      let a = bind_ok (and_then ((readers names d).declarator with_name ts) (inits d (has_typedef ss) names)) (λ is. take the_punct.Semicolon >> pure (declaration n ss is)) x e in
      let f = bind_ok ((readers names d).declarator with_name ts) (inits d (has_typedef ss) names) a.0 a.1 in
      let first = (readers_sound names d).declarator with_name ts f.0 f.1 in
      let s = inits_sound d (has_typedef ss) names f.0.0 ts f.0.1 a.0 first.0 first.1 f.2 in
      let t = taken the_punct.Semicolon (declaration n ss a.0.0) d a.0.1 x a.2 in
      (a.0.0, t.0, (a.0.1, tt, s, t.1 end x.1 refl))

  pub declaration_sound : (d : ℕ) (names : Names) → IsSound (declaration_at d names) (ReadsDeclaration names d)
  declaration_sound d names ts x e =
      let n : Spot = spot ts in
      let rest : SpecTrees Spot → Parser (DeclarationTree Spot) = (λ ss. (readers names d).declarator with_name >>= inits d (has_typedef ss) names >>= (λ is. take the_punct.Semicolon >> pure (declaration n ss is))) in
      let a = bind_ok ((readers names d).specs ts) (λ ss. where_next (next_is the_punct.Semicolon) (skipping (pure (declaration n ss []))) (rest ss)) x e in
      let specs = (readers_sound names d).specs ts a.0 a.1 in
      elim (branched (next_is the_punct.Semicolon a.0.1) (skipping (pure (declaration n a.0.0 []))) (rest a.0.0) a.0.1 (Ok x) a.2) [
        | inl c ↦
            let semicolon : Reads (outlines.punct the_punct.Semicolon ▸ end) d a.0.1 (skip a.0.1) = next_reads the_punct.Semicolon None end d a.0.1 (skip a.0.1) c.0 tt refl in
            subst (ReadsTo (ReadsDeclaration names d) ts) (ok_is (declaration n a.0.0 [], skip a.0.1) x c.1)
            (specs.0, (a.0.1, tt, specs.1, (a.0.1, tt, refl, semicolon)))
        | inr c ↦
            let s = declares_sound d names n a.0.0 a.0.1 x c.1 in
            subst (ReadsTo (ReadsDeclaration names d) ts) s.1 (specs.0, (a.0.1, tt, specs.1, s.2))
      ]
