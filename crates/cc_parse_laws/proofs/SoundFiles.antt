-- What is read as a file is there: the tokens that are read are a file of the grammar.
use Rattle.std.proofs.Common.{◌≡◌, refl, ℕ, zero, suc, true, List, [], ◌∷◌, length, None, Ok, subst, inl, inr}
use Rattle.cc_base.specs.declared.place.Spot.{Spot}
use Rattle.cc_lex.specs.declared.token.Token.{Token}
use Rattle.cc_lex.specs.declared.punct.Punct.TheVariants as the_punct
use Rattle.cc_tree.specs.Trees.{SpecTrees, no_specs, more_specs, DeclTree, declared, nameless, pointer, array, function, grouped, declaration, ExternalTree, outer_declaration, definition}
use Rattle.cc_grammar.specs.Outline.{end, ◌▸◌}
use Rattle.cc_grammar.specs.Outlines as outlines
use Rattle.cc_grammar.specs.Names.{Names, has_typedef, after_external}
use Rattle.cc_grammar.specs.Classes.{next_is, skip, spot}
use Rattle.cc_grammar.specs.Outcomes.{Parser, ◌>>=◌, ◌>>◌, pure, ◌<$>◌, take}
use Rattle.cc_grammar.specs.Reading as reads
use Rattle.cc_grammar.specs.Reading.{where_next, skipping, with_name, readers, spot_or, inits, body, external_behind, external, ended, externals_by, reading}
use Rattle.cc_grammar.specs.WellFormed.{WellFormed}
use Rattle.cc_parse_laws.proofs.Spans.{Reads, reads_hold, reads_depth, reads_spell}
use Rattle.cc_parse_laws.proofs.Steps.{bind_ok, map_ok, ok_is, branched, next_reads}
use Rattle.cc_parse_laws.proofs.Lists.{IsSound}
use Rattle.cc_parse_laws.proofs.Inner.{SoundInner, ReadsDeclarator}
use Rattle.cc_parse_laws.proofs.SoundDeclarations.{inits_sound}
use Rattle.cc_parse_laws.proofs.Endings.{ReadsTo, taken}
use Rattle.cc_parse_laws.proofs.SoundBlocks.{body_sound}
use Rattle.cc_parse_laws.proofs.SoundStatements.{stmt_sound}

spot_is : (f : DeclTree Spot) (n : Spot) → outlines.HasSpot f (spot_or f n)
spot_is (declared m x) n = refl
spot_is nameless n = tt
spot_is (pointer m c f) n = refl
spot_is (array m f size) n = refl
spot_is (function m f ps) n = refl
spot_is (grouped m f) n = refl

has_specs : (ss : SpecTrees Spot) (n : Spot) → outlines.BeginAt ss n → outlines.HasSpecs ss
has_specs no_specs n h = absurd h
has_specs (more_specs s ss) n h = tt

all_read : (ts : List Token) → ended ts ≡ true → ts ≡ []
all_read [] e = refl
all_read (t ∷ ts) e = absurd cc

abbrev pub ReadsExternal : Names → ℕ → ExternalTree Spot → List Token → List Token → Type 0
ReadsExternal names d y ts r = Reads (outlines.external names y) d ts r

-- to the end of the text
abbrev pub ReadsAll : Names → ℕ → List (ExternalTree Spot) → List Token → List Token → Type 0
ReadsAll names d ys ts r = (r ≡ []) × Reads (outlines.externals names ys) d ts []

module _ (readers_sound : (names : Names) (d : ℕ) → SoundInner names (readers names d) d) where
  -- what comes behind specifiers and a declarator, which begins at `middle`
  behind_sound : (d : ℕ) (names : Names) (n : Spot) (ss : SpecTrees Spot) (f : DeclTree Spot) (from middle ts : List Token) (x : ExternalTree Spot × List Token)
      → outlines.BeginAt ss n → Reads (outlines.specs names ss) d from middle → outlines.is_named f ≡ true → ReadsDeclarator names d f middle ts
      → external_behind d names n ss f ts ≡ Ok x → ReadsExternal names d x.0 from x.1
  behind_sound d names n ss f from middle ts x at specs named there e =
      elim (branched (next_is the_punct.LeftBrace ts) (definition (spot_or f n) ss f <$> body (reads.stmt d) d names) (inits d (has_typedef ss) names f >>= (λ is. take the_punct.Semicolon >> pure (outer_declaration (declaration n ss is)))) ts (Ok x) e) [
        | inl c ↦
            let m = map_ok (body (reads.stmt d) d names ts) (definition (spot_or f n) ss f) x c.1 in
            let s = body_sound readers_sound (reads.stmt d) d (stmt_sound readers_sound d) names ts m.0 m.1 in
            subst (ReadsTo (ReadsExternal names d) from) m.2
            (m.0.1, (has_specs ss n at, spot_is f n), (middle, tt, specs, (ts, named, there, (m.0.1, tt, s, refl))), refl)
        | inr c ↦
            let a = bind_ok (inits d (has_typedef ss) names f ts) (λ is. take the_punct.Semicolon >> pure (outer_declaration (declaration n ss is))) x c.1 in
            let s = inits_sound readers_sound d (has_typedef ss) names f middle ts a.0 named there a.1 in
            let t = taken the_punct.Semicolon (outer_declaration (declaration n ss a.0.0)) d a.0.1 x a.2 in
            subst (ReadsTo (ReadsExternal names d) from) t.0 (x.1, at, (middle, tt, specs, (a.0.1, tt, s, t.1 end x.1 refl)), refl)
      ]

  pub external_sound : (d : ℕ) (names : Names) → IsSound (external d names) (ReadsExternal names d)
  external_sound d names ts x e =
      let n : Spot = spot ts in
      let rest : SpecTrees Spot → Parser (ExternalTree Spot) = (λ ss. (readers names d).declarator with_name >>= external_behind d names n ss) in
      let a = bind_ok ((readers names d).specs ts) (λ ss. where_next (next_is the_punct.Semicolon) (skipping (pure (outer_declaration (declaration n ss [])))) (rest ss)) x e in
      let specs = (readers_sound names d).specs ts a.0 a.1 in
      elim (branched (next_is the_punct.Semicolon a.0.1) (skipping (pure (outer_declaration (declaration n a.0.0 [])))) (rest a.0.0) a.0.1 (Ok x) a.2) [
        | inl c ↦
            let semicolon : Reads (outlines.punct the_punct.Semicolon ▸ end) d a.0.1 (skip a.0.1) = next_reads the_punct.Semicolon None end d a.0.1 (skip a.0.1) c.0 tt refl in
            subst (ReadsTo (ReadsExternal names d) ts) (ok_is (outer_declaration (declaration n a.0.0 []), skip a.0.1) x c.1)
            (skip a.0.1, specs.0, (a.0.1, tt, specs.1, (a.0.1, tt, refl, semicolon)), refl)
        | inr c ↦
            let f = bind_ok ((readers names d).declarator with_name a.0.1) (external_behind d names n a.0.0) x c.1 in
            let first = (readers_sound names d).declarator with_name a.0.1 f.0 f.1 in
            behind_sound d names n a.0.0 f.0.0 ts a.0.1 f.0.1 x specs.0 specs.1 first.0 first.1 f.2
      ]

  pub externals_by_sound : (d turns : ℕ) (names : Names) → IsSound (externals_by d turns names) (ReadsAll names d)
  externals_by_sound d zero names ts x e = absurd cc
  externals_by_sound d (suc turns) names ts x e =
      elim (branched (ended ts) (pure []) (external d names >>= (λ y. (λ ys. y ∷ ys) <$> externals_by d turns (after_external y names))) ts (Ok x) e) [
        | inl c ↦ subst (ReadsTo (ReadsAll names d) ts) (ok_is ([], ts) x c.1) (all_read ts c.0, all_read ts c.0)
        | inr c ↦
            let a = bind_ok (external d names ts) (λ y. (λ ys. y ∷ ys) <$> externals_by d turns (after_external y names)) x c.1 in
            let first = external_sound d names ts a.0 a.1 in
            let m = map_ok (externals_by d turns (after_external a.0.0 names) a.0.1) (λ ys. a.0.0 ∷ ys) x a.2 in
            let rest = externals_by_sound d turns (after_external a.0.0 names) a.0.1 m.0 m.1 in
            subst (ReadsTo (ReadsAll names d) ts) m.2 (rest.0, (a.0.1, tt, first, ([], tt, rest.1, refl)))
      ]

  -- What is read is all of the text, in order and no deeper than the number.
  pub file_sound : (d : ℕ) (ts : List Token) (x : List (ExternalTree Spot) × List Token) → reading d ts ≡ Ok x → (x.1 ≡ []) × Reads (outlines.file x.0) d ts []
  unfolding reading
  file_sound d ts x e = externals_by_sound d (suc (length ts)) [] ts x e

  -- Each text that is read is a file of the grammar.
  pub read_is_well_formed : (d : ℕ) (tokens : List Token) (x : List (ExternalTree Spot) × List Token) → reading d tokens ≡ Ok x → WellFormed d tokens x.0
  read_is_well_formed d tokens x e =
      let s = (file_sound d tokens x e).1 in
      record { orderly = reads_hold (outlines.file x.0) d tokens [] s; shallow = reads_depth (outlines.file x.0) d tokens [] s; spelled = reads_spell (outlines.file x.0) d tokens [] [] s tt }
