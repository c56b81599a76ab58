-- Files that are begun are taken, and so reading fails at no token of a cut-off file.
use Rattle.std.proofs.Common.{◌≡◌, ◌<◌, refl, ℕ, zero, suc, true, false, List, [], ◌∷◌, length, None, arith, sym, subst, ◌∙◌, inl, inr}
use Rattle.cc_base.specs.declared.place.Spot.{Spot}
use Rattle.cc_lex.specs.declared.token.Token.{Token}
use Rattle.cc_lex.specs.declared.punct.Punct.TheVariants as the_punct
use Rattle.cc_tree.specs.Trees.{SpecTrees, DeclTree, InitTree, init, declaration, BlockTree, ExternalTree, outer_declaration, definition}
use Rattle.cc_grammar.specs.Names.{Names, has_typedef, after_external}
use Rattle.cc_grammar.specs.Outline.{end, ◌▸◌}
use Rattle.cc_grammar.specs.Outlines as outlines
use Rattle.cc_grammar.specs.Classes.{next_is, spot}
use Rattle.cc_grammar.specs.Outcomes.{Parser, take as taking, pure, ◌<$>◌, ◌>>=◌, ◌>>◌}
use Rattle.cc_grammar.specs.Reading.{readers, with_name, inits, body, stmt, external, external_behind, externals_by, ended, reading, where_next, skipping, spot_or}
use Rattle.cc_parse_laws.proofs.Steps.{branch_true, branch_false, reads_length}
use Rattle.cc_parse_laws.proofs.Peeks.{punct_ends_declarator}
use Rattle.cc_parse_laws.proofs.NextTokens.{kind_reads}
use Rattle.cc_lex.specs.declared.token.TokenKind.TheVariants as kind
use Rattle.cc_parse_laws.proofs.Inner.{EndsSpecs}
use Rattle.cc_parse_laws.proofs.Climbs.{bound}
use Rattle.cc_parse_laws.proofs.CompleteReaders.{readers_complete}
use Rattle.cc_parse_laws.proofs.CompleteFiles.{external_again, external_size, not_ended, specs_begin}
use Rattle.cc_parse_places.proofs.Begun.{Begun}
use Rattle.cc_parse_places.proofs.Spent.{Spent, spent_bind, spent_map, spent_is, HasNext, no_next, Within, token_elim, part_elim, last_within}
use Rattle.cc_parse_places.proofs.SpentTypes.{by_next, specs_nil}
use Rattle.cc_parse_places.proofs.SpentReaders.{readers_spent}
use Rattle.cc_parse_places.proofs.SpentDeclarations.{opens_named, named_opens, named_nil, inits_elim, inits_spent, inits_nil, inits_first, cut_ends}
use Rattle.cc_parse_places.proofs.SpentStatements.{body_spent, block_begins}

-- ---- One declaration or definition

abbrev declares : ℕ → Names → Spot → SpecTrees Spot → DeclTree Spot → Parser (ExternalTree Spot)
declares d names n ss f = inits d (has_typedef ss) names f >>= (λ is. taking the_punct.Semicolon >> pure (outer_declaration (declaration n ss is)))

abbrev defines : ℕ → Names → Spot → SpecTrees Spot → DeclTree Spot → Parser (ExternalTree Spot)
defines d names n ss f = definition (spot_or f n) ss f <$> body (stmt d) d names

behind_nil : (d : ℕ) (names : Names) (n : Spot) (ss : SpecTrees Spot) (f : DeclTree Spot) → Spent (external_behind d names n ss f [])
behind_nil d names n ss f = spent_bind (inits d (has_typedef ss) names f []) (λ is. taking the_punct.Semicolon >> pure (outer_declaration (declaration n ss is))) (inits_nil d (has_typedef ss) names f) (λ y. refl)

abbrev behind_specs : ℕ → Names → Spot → SpecTrees Spot → Parser (ExternalTree Spot)
behind_specs d names n ss = where_next (next_is the_punct.Semicolon) (skipping (pure (outer_declaration (declaration n ss [])))) ((readers names d).declarator with_name >>= external_behind d names n ss)

specs_behind_nil : (d : ℕ) (names : Names) (n : Spot) (ss : SpecTrees Spot) → Spent (behind_specs d names n ss [])
specs_behind_nil d names n ss = spent_bind ((readers names d).declarator with_name []) (external_behind d names n ss) (named_nil names d [] refl) (behind_nil d names n ss)

external_nil : (d : ℕ) (names : Names) (ts : List Token) → ts ≡ [] → Spent (external d names ts)
external_nil d names ts e = spent_bind ((readers names d).specs ts) (behind_specs d names (spot ts)) (specs_nil names (readers names d) d (readers_complete names d) (readers_spent names d) ts e) (specs_behind_nil d names (spot ts))

-- specifiers that are not whole, or whole and the last
specs_in : (d : ℕ) (names : Names) (n : Spot) (ss : SpecTrees Spot) (ts : List Token) → outlines.BeginAt ss n → Within false (Unit {0}) (outlines.specs names ss) d ts → Spent (external d names ts)
specs_in d names n ss ts b (inl e) = external_nil d names ts e
specs_in d names n ss ts b (inr z) = spent_bind ((readers names d).specs ts) (behind_specs d names (spot ts)) ((readers_spent names d).specs ss n ts b z.1) (specs_behind_nil d names (spot ts))

-- a declarator behind the specifiers
named_in : (d : ℕ) (names : Names) (n : Spot) (ss : SpecTrees Spot) (f : DeclTree Spot) (m : List Token) → HasNext m → Within (outlines.is_written f) (outlines.is_named f ≡ true) (outlines.declarator names f) d m → Spent (behind_specs d names n ss m)
named_in d names n ss f m more w = let q = opens_named names f d m more w in
    spent_is _ _ (branch_false (next_is the_punct.Semicolon m) (skipping (pure (outer_declaration (declaration n ss [])))) ((readers names d).declarator with_name >>= external_behind d names n ss) m q.no_semicolon)
    (spent_bind ((readers names d).declarator with_name m) (external_behind d names n ss) ((readers_spent names d).declarator with_name f m w) (behind_nil d names n ss))

inits_in : (d : ℕ) (names : Names) (n : Spot) (ss : SpecTrees Spot) (is : List (InitTree Spot)) (m : List Token) → HasNext m → Within false (Unit {0}) (outlines.inits names (has_typedef ss) is) d m → Spent (behind_specs d names n ss m)
inits_in d names n ss is m more (inl e) = no_next m more e
inits_in d names n ss [] m more (inr z) = let y = z.1 in no_next m more y.cut
inits_in d names n ss (init f v ∷ is) m more (inr z) =
    let typedef = has_typedef ss in
    inits_elim names typedef d f v is m (inr z) (named_in d names n ss f m more)
    (λ c next named y b. let q = named_opens names f d m c named y in let ends = cut_ends names typedef d f v is c next b in
    spent_is _ _ (branch_false (next_is the_punct.Semicolon m) (skipping (pure (outer_declaration (declaration n ss [])))) ((readers names d).declarator with_name >>= external_behind d names n ss) m q.no_semicolon
    ∙ bound (external_behind d names n ss) ((readers names d).declarator with_name m) f c ((readers_complete names d).declarator with_name f m c named y ends.0)
    ∙ branch_false (next_is the_punct.LeftBrace c) (defines d names n ss f) (declares d names n ss f) c ends.1)
    (spent_bind (inits d typedef names f c) (λ is. taking the_punct.Semicolon >> pure (outer_declaration (declaration n ss is))) (inits_spent is names typedef d f v c b) (λ z. refl)))

outer_spent : (d : ℕ) (names : Names) (n : Spot) (ss : SpecTrees Spot) (is : List (InitTree Spot)) (ts : List Token) → outlines.BeginAt ss n → Begun (outlines.declaration_of names (declaration n ss is)) d ts [] → Spent (external d names ts)
outer_spent d names n ss is ts b x =
    part_elim ts x (specs_in d names n ss ts b)
    (λ m more u y rest.
    let read = (readers_complete names d).specs ss n ts m b y (inits_first names (has_typedef ss) d is m more rest) in
    spent_is _ _ (bound (behind_specs d names (spot ts)) ((readers names d).specs ts) ss m read)
    (part_elim m rest (inits_in d names (spot ts) ss is m more)
    (λ c next v q others. token_elim c others (no_next c next) (λ f semicolon st last.
    spent_is _ _ (sym (bound (behind_specs d names (spot ts)) ((readers names d).specs ts) ss m read)
    ∙ external_again readers_complete names d (outer_declaration (declaration n ss is)) ts []
    ([], b, (m, tt, y, (c, tt, q, kind_reads (Unit {0}) (kind.Punct the_punct.Semicolon) None end d c [] semicolon tt tt last.cut)), refl)) refl))))

-- the first token behind a definition's specifiers
definition_first : (names : Names) (d : ℕ) (f : DeclTree Spot) (b : BlockTree Spot) (m : List Token) → HasNext m → Begun (outlines.named_one f (outlines.declarator names f) ▸ outlines.within (outlines.block_of names b) ▸ end) d m [] → EndsSpecs names m
definition_first names d f b m more x =
    part_elim m x (λ w. let q = opens_named names f d m more w in record { no_spec = q.no_spec; no_brace = q.no_brace }) (λ c next named y rest. let q = named_opens names f d m c named y in record { no_spec = q.no_spec; no_brace = q.no_brace })

body_first : (names : Names) (d : ℕ) (b : BlockTree Spot) (c : List Token) → HasNext c → Within false (Unit {0}) (outlines.block_of names b) d c → next_is the_punct.LeftBrace c ≡ true
body_first names d b c more (inl e) = no_next c more e
body_first names d b c more (inr z) = block_begins names b d c more z.1

defined_spent : (d : ℕ) (names : Names) (n : Spot) (ss : SpecTrees Spot) (f : DeclTree Spot) (b : BlockTree Spot) (ts : List Token) → outlines.HasSpecs ss → Begun (outlines.within (outlines.specs names ss) ▸ outlines.named_one f (outlines.declarator names f) ▸ outlines.within (outlines.block_of names b) ▸ end) d ts [] → Spent (external d names ts)
defined_spent d names n ss f b ts has x =
    let begin = specs_begin ss has in
    part_elim ts x (specs_in d names begin.0 ss ts begin.1)
    (λ m more u y rest.
    spent_is _ _ (bound (behind_specs d names (spot ts)) ((readers names d).specs ts) ss m ((readers_complete names d).specs ss begin.0 ts m begin.1 y (definition_first names d f b m more rest)))
    (part_elim m rest (named_in d names (spot ts) ss f m more)
    (λ c next named q last. let w = last_within c last in let brace = body_first names d b c next w in let opens = named_opens names f d m c named q in
    spent_is _ _ (branch_false (next_is the_punct.Semicolon m) (skipping (pure (outer_declaration (declaration (spot ts) ss [])))) ((readers names d).declarator with_name >>= external_behind d names (spot ts) ss) m opens.no_semicolon
    ∙ bound (external_behind d names (spot ts) ss) ((readers names d).declarator with_name m) f c ((readers_complete names d).declarator with_name f m c named q (punct_ends_declarator the_punct.LeftBrace c refl refl refl brace))
    ∙ branch_true (next_is the_punct.LeftBrace c) (defines d names (spot ts) ss f) (declares d names (spot ts) ss f) c brace)
    (spent_map (body (stmt d) d names c) (definition (spot_or f (spot ts)) ss f) (body_spent b names d c w)))))

external_spent : (d : ℕ) (names : Names) (x : ExternalTree Spot) (ts : List Token) → Within false (Unit {0}) (outlines.external names x) d ts → Spent (external d names ts)
external_spent d names x ts (inl e) = external_nil d names ts e
external_spent d names (outer_declaration (declaration n ss is)) ts (inr z) = by (last_within ts z.1)
  where
    by : Within false (outlines.BeginAt ss n) (outlines.declaration_of names (declaration n ss is)) d ts → Spent (external d names ts)
    by (inl e) = external_nil d names ts e
    by (inr y) = outer_spent d names n ss is ts y.0 y.1
external_spent d names (definition n ss f b) ts (inr z) = by (last_within ts z.1)
  where
    by : Within false (outlines.HasSpecs ss × outlines.HasSpot f n) (outlines.within (outlines.specs names ss) ▸ outlines.named_one f (outlines.declarator names f) ▸ outlines.within (outlines.block_of names b) ▸ end) d ts → Spent (external d names ts)
    by (inl e) = external_nil d names ts e
    by (inr y) = defined_spent d names n ss f b ts y.0.0 y.1

-- ---- Files

externals_nil : (d turns : ℕ) (names : Names) → Spent (externals_by d turns names [])
externals_nil d zero names = refl
externals_nil d (suc turns) names = refl

has_not_ended : (ts : List Token) → HasNext ts → ended ts ≡ false
has_not_ended [] h = absurd h
has_not_ended (t ∷ ts) h = refl

abbrev one_then : ℕ → ℕ → Names → Parser (List (ExternalTree Spot))
one_then d turns names = external d names >>= (λ x. (λ xs. x ∷ xs) <$> externals_by d turns (after_external x names))

externals_spent : (f : List (ExternalTree Spot)) (names : Names) (d turns : ℕ) (ts : List Token) → length ts < turns → Within false (Unit {0}) (outlines.externals names f) d ts → Spent (externals_by d turns names ts)
externals_spent f names d turns ts h (inl e) = subst (λ us. Spent (externals_by d turns names us)) (sym e) (externals_nil d turns names)
externals_spent f names d zero ts h (inr z) = absurd (omega (arith, h))
externals_spent [] names d (suc turns) ts h (inr z) = let x = z.1 in subst (λ us. Spent (externals_by d (suc turns) names us)) (sym x.cut) (externals_nil d (suc turns) names)
externals_spent (x ∷ f) names d (suc turns) ts h (inr z) =
    part_elim ts z.1 first
    (λ m more u y rest.
    let shorter : length m < length ts = omega (arith, external_size names x, reads_length (outlines.external names x) d ts m y) in
    spent_is _ _ (branch_false (ended ts) (pure []) (one_then d turns names) ts (not_ended ts m shorter)
    ∙ bound (λ x. (λ xs. x ∷ xs) <$> externals_by d turns (after_external x names)) (external d names ts) x m (external_again readers_complete names d x ts m y))
    (spent_map (externals_by d turns (after_external x names) m) (λ xs. x ∷ xs) (externals_spent f (after_external x names) d turns m (omega (arith, h, shorter)) (last_within m rest))))
  where
    first : Within false (Unit {0}) (outlines.external names x) d ts → Spent (externals_by d (suc turns) names ts)
    first w = by_next ts (λ e. subst (λ us. Spent (externals_by d (suc turns) names us)) (sym e) (externals_nil d (suc turns) names)) (λ more.
        spent_is _ _ (branch_false (ended ts) (pure []) (one_then d turns names) ts (has_not_ended ts more))
        (spent_bind (external d names ts) (λ x. (λ xs. x ∷ xs) <$> externals_by d turns (after_external x names)) (external_spent d names x ts w) (λ y. spent_map (externals_by d turns (after_external y names) []) (λ xs. y ∷ xs) (externals_nil d turns (after_external y names)))))

-- Of a text that is the beginning of a file, reading leaves nothing.
pub file_spent : (d : ℕ) (ts : List Token) (f : List (ExternalTree Spot)) → Begun (outlines.file f) d ts [] → Spent (reading d ts)
unfolding reading
file_spent d ts f x = externals_spent f [] d (suc (length ts)) ts (omega arith) (inr (tt, x))
