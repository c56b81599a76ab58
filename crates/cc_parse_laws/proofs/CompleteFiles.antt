-- Files are read back.
use Rattle.std.proofs.Common.{◌≡◌, ◌≤◌, ◌<◌, refl, ℕ, zero, suc, true, false, List, [], ◌∷◌, length, None, Ok, arith, sym, subst}
use Rattle.cc_base.specs.declared.place.Spot.{Spot}
use Rattle.cc_lex.specs.declared.token.Token.{Token}
use Rattle.cc_lex.specs.declared.punct.Punct.TheVariants as the_punct
use Rattle.cc_tree.specs.Trees.{SpecTrees, no_specs, more_specs, DeclTree, declared, nameless, pointer, array, function, grouped, InitTree, init, declaration, BlockTree, ExternalTree, outer_declaration, definition}
use Rattle.cc_grammar.specs.Outline.{end, size, depth, Meets}
use Rattle.cc_grammar.specs.Outlines as outlines
use Rattle.cc_grammar.specs.Names.{Names, has_typedef, after_external}
use Rattle.cc_grammar.specs.Classes.{spot}
use Rattle.cc_grammar.specs.Reading.{with_name, readers, spot_or, external, ended, externals_by, reading}
use Rattle.cc_grammar.specs.Orderly.{Orderly}
use Rattle.cc_grammar.specs.Spells.{Spells}
use Rattle.cc_grammar.specs.WellFormed.{WellFormed}
use Rattle.cc_parse_laws.proofs.Spans.{Reads, spelled_reads}
use Rattle.cc_parse_laws.proofs.Steps.{reads_length}
use Rattle.cc_parse_laws.proofs.Inner.{CompleteInner, EndsDeclarator}
use Rattle.cc_parse_laws.proofs.Peeks.{after, inside, punct_ends_declarator}
use Rattle.cc_parse_laws.proofs.Firsts.{first_specs}
use Rattle.cc_parse_laws.proofs.FirstTokens.{named_begins}
use Rattle.cc_parse_laws.proofs.Pieces.{only, comes, got_specs}
use Rattle.cc_parse_laws.proofs.CompleteDeclarations.{apart, inits_begin, first_again, inits_again}
use Rattle.cc_parse_laws.proofs.CompleteStatements.{body_again}
use Rattle.cc_parse_laws.proofs.CompleteBlocks.{block_size, block_is_stmt}

-- a declarator with a name has the spot that a definition takes from it
spot_of_named : (f : DeclTree Spot) (n m : Spot) → outlines.is_named f ≡ true → outlines.HasSpot f n → spot_or f m ≡ n
spot_of_named (declared a x) n m h at = sym at
spot_of_named nameless n m h at = absurd cc
spot_of_named (pointer a c f) n m h at = sym at
spot_of_named (array a f e) n m h at = sym at
spot_of_named (function a f ps) n m h at = sym at
spot_of_named (grouped a f) n m h at = sym at

pub specs_begin : (ss : SpecTrees Spot) → outlines.HasSpecs ss → (n : Spot) × outlines.BeginAt ss n
specs_begin no_specs h = absurd h
specs_begin (more_specs s ss) h = (outlines.spec_spot s, refl)

-- each has tokens
pub external_size : (names : Names) (x : ExternalTree Spot) → 1 ≤ size (outlines.external names x)
external_size names (outer_declaration (declaration n ss is)) = omega arith
external_size names (definition n ss f b) = omega (arith, block_size names b)

pub not_ended : (ts r : List Token) → length r < length ts → ended ts ≡ false
not_ended [] r h = absurd (omega (arith, h))
not_ended (t ∷ ts) r h = refl

no_more : (ts : List Token) → Meets ts [] → ts ≡ []
no_more [] m = refl
no_more (t ∷ ts) m = absurd m

module _ (readers_complete : (names : Names) (d : ℕ) → CompleteInner names (readers names d) d) where
  bare_again : (names : Names) (d : ℕ) (n : Spot) (ss : SpecTrees Spot) (ts r : List Token) → outlines.BeginAt ss n → Reads (outlines.declaration_of names (declaration n ss [])) d ts r
      → external d names ts ≡ Ok (outer_declaration (declaration n ss []), r)
  bare_again names d n ss ts r b x =
      let at : spot ts ≡ n = (first_specs names ss n d ts x.0 b x.2).1 in
      let specs = got_specs readers_complete names d ss n (after (outlines.declaration_of names (declaration n ss []))) ts r b (λ m y. inits_begin readers_complete names (has_typedef ss) [] d m r y) x in
      let semicolon = comes the_punct.Semicolon None end d specs.rest r (subst (λ q. Reads (outlines.punct the_punct.Semicolon end) d q r) (sym specs.then.2) specs.then.3) in
      rw (at, specs.reads, semicolon.is, semicolon.then) refl

  outer_again : (names : Names) (d : ℕ) (n : Spot) (ss : SpecTrees Spot) (is : List (InitTree Spot)) (ts r : List Token) → outlines.BeginAt ss n → Reads (outlines.declaration_of names (declaration n ss is)) d ts r
      → external d names ts ≡ Ok (outer_declaration (declaration n ss is), r)
  outer_again names d n ss [] ts r b x = bare_again names d n ss ts r b x
  outer_again names d n ss (init f v ∷ is) ts r b x =
      let typedef = has_typedef ss in
      let at : spot ts ≡ n = (first_specs names ss n d ts x.0 b x.2).1 in
      let specs = got_specs readers_complete names d ss n (after (outlines.declaration_of names (declaration n ss (init f v ∷ is)))) ts r b (λ m y. inits_begin readers_complete names typedef (init f v ∷ is) d m r y) x in
      let y = specs.then in
      let a = apart names typedef f v is d specs.rest y.0 y.2 in
      let semicolon = comes the_punct.Semicolon None end d y.0 r y.3 in
      let begins = named_begins names f d specs.rest a.name_ends a.named a.declares in
      let first = first_again readers_complete names typedef f v is d specs.rest y.0 a semicolon.is in
      let others = inits_again readers_complete names typedef f v is d specs.rest y.0 a semicolon.is in
      rw (at, specs.reads, begins.no_semicolon, first.0, first.1, others, semicolon.taken, semicolon.then) refl

  definition_again : (names : Names) (d : ℕ) (n : Spot) (ss : SpecTrees Spot) (f : DeclTree Spot) (b : BlockTree Spot) (ts r : List Token) → outlines.HasSpecs ss → outlines.HasSpot f n → Reads (inside (outlines.external names (definition n ss f b))) d ts r
      → external d names ts ≡ Ok (definition n ss f b, r)
  definition_again names d n ss f b ts r has at x =
      let i = inside (outlines.external names (definition n ss f b)) in
      let first = specs_begin ss has in
      let y = x.3 in
      let begins = named_begins names f d x.0 y.0 y.1 y.2 in
      let z = only (outlines.block_of names b) d y.0 r y.3 in
      let inner = body_again names d b y.0 r (block_is_stmt readers_complete b) z in
      let ends : EndsDeclarator y.0 = punct_ends_declarator the_punct.LeftBrace y.0 refl refl refl inner.0 in
      let specs = (readers_complete names d).specs ss first.0 ts x.0 first.1 x.2 (record { no_spec = begins.no_spec; no_brace = begins.no_brace }) in
      let declares = (readers_complete names d).declarator with_name f x.0 y.0 y.1 y.2 ends in
      rw (specs, begins.no_semicolon, declares, inner.0, spot_of_named f n (spot ts) y.1 at, inner.1) refl

  pub external_again : (names : Names) (d : ℕ) (x : ExternalTree Spot) (ts r : List Token) → Reads (outlines.external names x) d ts r → external d names ts ≡ Ok (x, r)
  external_again names d (outer_declaration (declaration n ss is)) ts r x =
      outer_again names d n ss is ts r x.1 (subst (λ m. Reads (outlines.declaration_of names (declaration n ss is)) d ts m) x.3 x.2)
  external_again names d (definition n ss f b) ts r x =
      definition_again names d n ss f b ts r x.1.0 x.1.1 (subst (λ m. Reads (inside (outlines.external names (definition n ss f b))) d ts m) x.3 x.2)

  pub externals_again : (f : List (ExternalTree Spot)) (names : Names) (d turns : ℕ) (ts : List Token) → Reads (outlines.externals names f) d ts [] → length ts < turns → externals_by d turns names ts ≡ Ok (f, [])
  externals_again f names d zero ts x h = absurd (omega (arith, h))
  externals_again [] names d (suc turns) ts x h = rw x refl
  externals_again (e ∷ f) names d (suc turns) ts x h =
      let shorter : length x.0 < length ts = omega (arith, external_size names e, reads_length (outlines.external names e) d ts x.0 x.2) in
      let first = external_again names d e ts x.0 x.2 in
      let others = externals_again f (after_external e names) d turns x.0 (only (outlines.externals (after_external e names) f) d x.0 [] x.3) (omega (arith, h, shorter)) in
      rw (not_ended ts x.0 shorter, first, others) refl

  -- A file that is there is read.
  pub file_complete : (d : ℕ) (ts : List Token) (f : List (ExternalTree Spot)) → Reads (outlines.file f) d ts [] → reading d ts ≡ Ok (f, [])
  unfolding reading
  file_complete d ts f x = externals_again f [] d (suc (length ts)) ts x (omega arith)

  -- An orderly file is read from its spelling, at any depth that it keeps to.
  pub spelled_file_is_read : (d : ℕ) (tokens : List Token) (f : List (ExternalTree Spot)) → Orderly f → depth (outlines.file f) ≤ d → Spells f tokens → reading d tokens ≡ Ok (f, [])
  spelled_file_is_read d tokens f orderly shallow spelled =
      let s = spelled_reads (outlines.file f) d tokens [] orderly shallow spelled in
      file_complete d tokens f (subst (λ r. Reads (outlines.file f) d tokens r) (no_more s.rest s.others) s.reads)

  -- Each file of the grammar is read.
  pub each_file_is_read : (d : ℕ) (tokens : List Token) (f : List (ExternalTree Spot)) → WellFormed d tokens f → reading d tokens ≡ Ok (f, [])
  each_file_is_read d tokens f w = spelled_file_is_read d tokens f w.orderly w.shallow w.spelled
