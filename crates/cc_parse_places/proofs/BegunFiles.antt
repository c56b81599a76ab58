-- Files at which reading fails are begun, and so the tokens before the fault are the spelling of a cut-off file.
use Rattle.std.proofs.Common.{◌≡◌, ◌-◌, ℕ, zero, suc, true, false, List, [], ◌∷◌, length, take, None, Err}
use Rattle.cc_base.specs.declared.place.Spot.{Spot}
use Rattle.cc_lex.specs.declared.token.Token.{Token}
use Rattle.cc_lex.specs.declared.punct.Punct.TheVariants as the_punct
use Rattle.cc_tree.specs.Trees.{SpecTrees, no_specs, more_specs, DeclTree, init, declaration, ExternalTree, outer_declaration, definition}
use Rattle.cc_grammar.specs.Names.{Names, has_typedef, after_external}
use Rattle.cc_grammar.specs.Outlines as outlines
use Rattle.cc_grammar.specs.Classes.{next_is, spot}
use Rattle.cc_grammar.specs.Reading as reader
use Rattle.cc_grammar.specs.Reading.{readers, with_name, spot_or, inits, reading}
use Rattle.cc_grammar.specs.CutOff.{CutOff}
use Rattle.cc_parse_laws.proofs.Spans.{Reads}
use Rattle.cc_parse_laws.proofs.Inner.{ReadsDeclarator}
use Rattle.cc_parse_laws.proofs.SoundReaders.{readers_sound}
use Rattle.cc_parse_laws.proofs.SoundDeclarators.{has_spot}
use Rattle.cc_parse_laws.proofs.SoundDeclarations.{inits_sound}
use Rattle.cc_parse_laws.proofs.SoundStatements.{stmt_sound}
use Rattle.cc_parse_laws.proofs.SoundFiles.{external_sound}
use Rattle.cc_parse_places.proofs.Begun.{Begun, at, part_in, part_past, part_of, within_in, within_past}
use Rattle.cc_parse_places.proofs.Failures.{err_is, bind_err, map_err, branch_err, until_err}
use Rattle.cc_parse_places.proofs.FirstOnes.{is_cut_off}
use Rattle.cc_parse_places.proofs.BegunTypes.{Fails}
use Rattle.cc_parse_places.proofs.BegunReaders.{readers_fail}
use Rattle.cc_parse_places.proofs.BegunDeclarations.{inits_begun, inits_fail}
use Rattle.cc_parse_places.proofs.BegunStatements.{body_fails, stmt_fails, block_fails, block_read}

has_specs : (ss : SpecTrees Spot) (n : Spot) → outlines.BeginAt ss n → outlines.HasSpecs ss
has_specs no_specs n h = absurd h
has_specs (more_specs s ss) n h = tt

abbrev ExternalBegun : Names → ℕ → ExternalTree Spot → List Token → List Token → Type 0
ExternalBegun names d x ts m = Begun (outlines.external names x) d ts m

-- what comes behind specifiers and a declarator, which begins at `middle`
behind_fails : (d : ℕ) (names : Names) (n : Spot) (ss : SpecTrees Spot) (f : DeclTree Spot) (from middle ts m : List Token) → outlines.BeginAt ss n → Reads (outlines.specs names ss) d from middle → outlines.is_named f ≡ true → ReadsDeclarator names d f middle ts
    → reader.external_behind d names n ss f ts ≡ Err m → (x : ExternalTree Spot) × ExternalBegun names d x from m
behind_fails d names n ss f from middle ts m begin specs named there e =
    branch_err (next_is the_punct.LeftBrace ts) _ _ ts e
    (λ c g.
    let q = body_fails (reader.stmt d) d (stmt_sound readers_sound d) (stmt_fails d) (block_fails d) (block_read d) names ts m (map_err _ _ g) in
    (definition (spot_or f n) ss f q.0, part_in {c = false} (has_specs ss n begin, has_spot f n) (within_past middle specs (part_past {c = outlines.is_written f} ts named there (within_in q.1)))))
    (λ c g. bind_err (inits d (has_typedef ss) names f ts) _ g
    (λ h.
    let q = inits_fail d (has_typedef ss) names f middle ts m named there h in
    (outer_declaration (declaration n ss q.0), part_in {c = false} begin (within_past middle specs (within_in (inits_begun names (has_typedef ss) d q.0 middle m q.1)))))
    (λ y ok h.
    let all = inits_sound readers_sound d (has_typedef ss) names f middle ts y named there ok in
    (outer_declaration (declaration n ss y.0), part_in {c = false} begin (within_past middle specs (within_past y.1 all (at (until_err the_punct.Semicolon (outer_declaration (declaration n ss y.0)) y.1 h)))))))

external_fails : (d : ℕ) (names : Names) → Fails (reader.external d names) (ExternalBegun names d)
external_fails d names ts m e =
    let n = spot ts in
    bind_err ((readers names d).specs ts) _ e
    (λ f. let s = (readers_fail names d).specs ts m f in (outer_declaration (declaration n s.0 []), part_in {c = false} s.1 (within_in s.2)))
    (λ y ok f.
    let s = (readers_sound names d).specs ts y ok in
    branch_err (next_is the_punct.Semicolon y.1) _ _ y.1 f (λ c g. absurd cc)
    (λ c g. bind_err ((readers names d).declarator with_name y.1) _ g
    (λ h.
    let q = (readers_fail names d).declarator with_name y.1 m h in
    (outer_declaration (declaration n y.0 (init q.0 None ∷ [])), part_in {c = false} s.0 (within_past y.1 s.1 (within_in (within_in (part_of q.1 q.2))))))
    (λ z done h.
    let first = (readers_sound names d).declarator with_name y.1 z done in
    behind_fails d names n y.0 z.0 ts y.1 z.1 m s.0 s.1 first.0 first.1 h)))

externals_fail : (d turns : ℕ) (names : Names) → Fails (reader.externals_by d turns names) (λ f ts m. Begun (outlines.externals names f) d ts m)
externals_fail d zero names ts m e = ([], at (err_is {A = List (ExternalTree Spot)} e))
externals_fail d (suc turns) names ts m e =
    branch_err (reader.ended ts) _ _ ts e (λ c f. absurd cc)
    (λ c f. bind_err (reader.external d names ts) _ f
    (λ g. let q = external_fails d names ts m g in (q.0 ∷ [], within_in q.1))
    (λ y ok g.
    let q = externals_fail d turns (after_external y.0 names) y.1 m (map_err _ _ g) in
    (y.0 ∷ q.0, within_past y.1 (external_sound readers_sound d names ts y ok) (within_in q.1))))

-- The tokens before the place at which reading fails are the spelling of a cut-off file that is no deeper.
pub cut_off_before : (d : ℕ) (tokens rest : List Token) → reading d tokens ≡ Err rest → CutOff d (take (length tokens - length rest) tokens)
unfolding reading
cut_off_before d tokens rest e = let q = externals_fail d (suc (length tokens)) [] tokens rest e in is_cut_off d tokens rest q.0 q.1
