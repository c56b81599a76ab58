-- Declarations that are begun are taken.
use Rattle.std.proofs.Common.{◌≡◌, ◌≤◌, ◌<◌, refl, ℕ, zero, suc, Bool, true, false, List, [], ◌∷◌, length, Option, Some, None, arith, sym, subst, ◌∙◌, ◌⊎◌, inl, inr}
use Rattle.cc_base.specs.declared.place.Spot.{Spot}
use Rattle.cc_lex.specs.declared.token.Token.{Token}
use Rattle.cc_lex.specs.declared.token.TokenKind.{TokenKind}
use Rattle.cc_lex.specs.declared.token.TokenKind.TheVariants as kind
use Rattle.cc_lex.specs.declared.punct.Punct.TheVariants as the_punct
use Rattle.cc_tree.specs.Trees.{ValueTree, SpecTrees, DeclTree, declared, nameless, pointer, array, function, grouped, InitTree, init, DeclarationTree, declaration}
use Rattle.cc_grammar.specs.Names.{Names, has_typedef, after_declarator}
use Rattle.cc_grammar.specs.Outline.{Outline, end, token, part, ◌▸◌}
use Rattle.cc_grammar.specs.Outlines as outlines
use Rattle.cc_grammar.specs.Classes.{next_is, is_punct, skip, spot, starts_spec}
use Rattle.cc_grammar.specs.Outcomes.{Parser, and_then, take, pure, ◌<$>◌, ◌>>=◌, ◌>>◌}
use Rattle.cc_grammar.specs.Reading.{readers, with_name, given, inits_behind, inits, declaration_at, where_next, skipping}
use Rattle.cc_parse_laws.proofs.Spans.{Reads}
use Rattle.cc_parse_laws.proofs.Steps.{branch_true, branch_false, reads_length}
use Rattle.cc_parse_laws.proofs.Peeks.{punct_ends, punct_other, punct_ends_declarator, punct_ends_specs}
use Rattle.cc_parse_laws.proofs.NextTokens.{NextKind, kind_reads}
use Rattle.cc_parse_laws.proofs.Inner.{ReadsDeclarator, EndsSpecs, EndsDeclarator}
use Rattle.cc_parse_laws.proofs.Firsts.{first_specs}
use Rattle.cc_parse_laws.proofs.FirstTokens.{named_begins}
use Rattle.cc_parse_laws.proofs.Climbs.{bound}
use Rattle.cc_parse_laws.proofs.CompleteReaders.{readers_complete}
use Rattle.cc_parse_laws.proofs.CompleteValues.{given_again}
use Rattle.cc_parse_laws.proofs.CompleteDeclarations.{declaration_again}
use Rattle.cc_parse_places.proofs.Begun.{Begun}
use Rattle.cc_parse_places.proofs.BegunTypes.{missing}
use Rattle.cc_parse_places.proofs.Spent.{Spent, spent_bind, spent_map, spent_is, HasNext, no_next, Within, token_elim, part_elim, last_within, begun_sinks, at_kind, next_kind_punct}
use Rattle.cc_parse_places.proofs.SpentLists.{skip_length}
use Rattle.cc_parse_places.proofs.SpentTypes.{begun_declarator, begun_specs, specs_nil}
use Rattle.cc_parse_places.proofs.SpentReaders.{readers_spent}
use Rattle.cc_parse_places.proofs.SpentValues.{given_spent}

-- ---- No declarator with a name begins with a semicolon or a brace

pub record OpensNamed (names : Names) (ts : List Token) : Type 0 where
  pub no_spec : starts_spec names ts ≡ false
  pub no_brace : next_is the_punct.LeftBrace ts ≡ false
  pub no_semicolon : next_is the_punct.Semicolon ts ≡ false

not_semicolon : (x : TokenKind) (ts : List Token) → is_punct the_punct.Semicolon x ≡ false → NextKind x ts → next_is the_punct.Semicolon ts ≡ false
not_semicolon x ts e next = at_kind (next_is the_punct.Semicolon) (is_punct the_punct.Semicolon) (λ t us. refl) x ts next ∙ e

semicolon_token : {h g : Type 0} {m : Option Spot} {i : Outline} (x : TokenKind) (d : ℕ) (ts : List Token) → is_punct the_punct.Semicolon x ≡ false → HasNext ts → Within false h (token g x m i) d ts → next_is the_punct.Semicolon ts ≡ false
semicolon_token x d ts a more (inl e) = no_next ts more e
semicolon_token x d ts a more (inr z) = token_elim ts z.1 (no_next ts more) (λ h next st rest. not_semicolon x ts a next)

semicolon_left : {h : Type 0} {i : Outline} (names : Names) (f : DeclTree Spot) (d : ℕ) (ts : List Token) → outlines.is_named f ≡ true → HasNext ts → (Begun (outlines.declarator names f) d ts [] → next_is the_punct.Semicolon ts ≡ false) → Begun (part (outlines.is_written f) h (outlines.declarator names f) i) d ts [] → next_is the_punct.Semicolon ts ≡ false
semicolon_left names f d ts named more rec y = part_elim ts y (λ w. by w) (λ m next h z rest. let x = named_begins names f d ts m named z in x.no_semicolon)
  where
    by : {h : Type 0} → Within (outlines.is_written f) h (outlines.declarator names f) d ts → next_is the_punct.Semicolon ts ≡ false
    by (inl e) = no_next ts more e
    by (inr z) = rec (begun_sinks (outlines.is_written f) (outlines.declarator names f) d ts [] z.1)

no_semicolon : (names : Names) (f : DeclTree Spot) (d : ℕ) (ts : List Token) → outlines.is_named f ≡ true → HasNext ts → Begun (outlines.declarator names f) d ts [] → next_is the_punct.Semicolon ts ≡ false
no_semicolon names (declared n x) d ts named more y = token_elim ts y (no_next ts more) (λ h next st rest. not_semicolon (kind.Identifier x) ts refl next)
no_semicolon names nameless d ts named more y = absurd cc
no_semicolon names (pointer n c f) d ts named more y = semicolon_token (kind.Punct the_punct.Star) d ts refl more (last_within ts y)
no_semicolon names (array n f e) d ts named more y = by (λ z. no_semicolon names f d ts named more z) (last_within ts y)
  where
    by : {h g : Type 0} {i : Outline} → (Begun (outlines.declarator names f) d ts [] → next_is the_punct.Semicolon ts ≡ false) → Within false h (part (outlines.is_written f) g (outlines.declarator names f) i) d ts → next_is the_punct.Semicolon ts ≡ false
    by rec (inl z) = no_next ts more z
    by rec (inr z) = semicolon_left names f d ts named more rec z.1
no_semicolon names (function n f ps) d ts named more y = by (λ z. no_semicolon names f d ts named more z) (last_within ts y)
  where
    by : {h g : Type 0} {i : Outline} → (Begun (outlines.declarator names f) d ts [] → next_is the_punct.Semicolon ts ≡ false) → Within false h (part (outlines.is_written f) g (outlines.declarator names f) i) d ts → next_is the_punct.Semicolon ts ≡ false
    by rec (inl z) = no_next ts more z
    by rec (inr z) = semicolon_left names f d ts named more rec z.1
no_semicolon names (grouped n f) d ts named more y = semicolon_token (kind.Punct the_punct.LeftParen) d ts refl more (last_within ts y)

pub opens_named : (names : Names) (f : DeclTree Spot) (d : ℕ) (ts : List Token) → HasNext ts → Within (outlines.is_written f) (outlines.is_named f ≡ true) (outlines.declarator names f) d ts → OpensNamed names ts
opens_named names f d ts more (inl e) = no_next ts more e
opens_named names f d ts more (inr z) =
    let b = begun_sinks (outlines.is_written f) (outlines.declarator names f) d ts [] z.1 in
    let x = begun_declarator names f d ts more b in
    record { no_spec = x.no_spec; no_brace = x.no_brace; no_semicolon = no_semicolon names f d ts z.0 more b }

pub named_opens : (names : Names) (f : DeclTree Spot) (d : ℕ) (ts m : List Token) → outlines.is_named f ≡ true → ReadsDeclarator names d f ts m → OpensNamed names ts
named_opens names f d ts m named y = let x = named_begins names f d ts m named y in record { no_spec = x.no_spec; no_brace = x.no_brace; no_semicolon = x.no_semicolon }

-- ---- Declarators with their initialisers

pub named_nil : (names : Names) (d : ℕ) (ts : List Token) → ts ≡ [] → Spent ((readers names d).declarator with_name ts)
named_nil names d ts e = (readers_spent names d).declarator with_name (missing with_name) ts (inl e)

given_nil : (names : Names) (d : ℕ) → Spent (given names d [])
given_nil names d = given_spent names d None [] (inl refl)

abbrev others_behind : ℕ → Bool → ℕ → Names → DeclTree Spot → Option (ValueTree Spot) → Parser (List (InitTree Spot))
others_behind d typedef turns known f v = (readers known d).declarator with_name >>= (λ g. (λ is. init f v ∷ is) <$> inits_behind d typedef turns known g)

abbrev value_behind : ℕ → Bool → ℕ → Names → DeclTree Spot → Option (ValueTree Spot) → Parser (List (InitTree Spot))
value_behind d typedef turns known f w = where_next (next_is the_punct.Comma) (skipping (others_behind d typedef turns known f w)) (pure (init f w ∷ []))

behind_nil : (d : ℕ) (typedef : Bool) (turns : ℕ) (names : Names) (f : DeclTree Spot) → Spent (inits_behind d typedef turns names f [])
behind_nil d typedef zero names f = refl
behind_nil d typedef (suc turns) names f = spent_bind (given (after_declarator typedef f names) d []) (value_behind d typedef turns (after_declarator typedef f names) f) (given_nil (after_declarator typedef f names) d) (λ y. refl)

-- behind a declarator: some of its initialiser, or that and some of the others
abbrev pub BehindCut : Names → Bool → ℕ → DeclTree Spot → Option (ValueTree Spot) → List (InitTree Spot) → List Token → Type 0
BehindCut names typedef d f v is ts = Within false (Unit {0}) (outlines.given (after_declarator typedef f names) v) d ts
    ⊎ ((m : List Token) × HasNext m × Reads (outlines.given (after_declarator typedef f names) v) d ts m × Within false (Unit {0}) (outlines.more_inits (after_declarator typedef f names) typedef is) d m)

given_ends : (names : Names) (d : ℕ) (v : Option (ValueTree Spot)) (ts : List Token) → HasNext ts → Within false (Unit {0}) (outlines.given names v) d ts → EndsDeclarator ts × (next_is the_punct.LeftBrace ts ≡ false)
given_ends names d v ts more (inl e) = no_next ts more e
given_ends names d None ts more (inr z) = let x = z.1 in no_next ts more x.cut
given_ends names d (Some v) ts more (inr z) = token_elim ts z.1 (no_next ts more) (λ u next st rest. let c = next_kind_punct the_punct.Equal ts next in (punct_ends_declarator the_punct.Equal ts refl refl refl c, punct_other the_punct.LeftBrace the_punct.Equal ts refl c))

comma_first : (names : Names) (typedef : Bool) (d : ℕ) (is : List (InitTree Spot)) (m : List Token) → HasNext m → Within false (Unit {0}) (outlines.more_inits names typedef is) d m → next_is the_punct.Comma m ≡ true
comma_first names typedef d is m more (inl e) = no_next m more e
comma_first names typedef d [] m more (inr z) = let x = z.1 in no_next m more x.cut
comma_first names typedef d (init f v ∷ is) m more (inr z) = token_elim m z.1 (no_next m more) (λ u next st rest. next_kind_punct the_punct.Comma m next)

-- what ends a declarator, where its initialiser is there
read_ends : (names : Names) (d : ℕ) (v : Option (ValueTree Spot)) (ts m : List Token) → Reads (outlines.given names v) d ts m → EndsDeclarator m × (next_is the_punct.LeftBrace m ≡ false) → EndsDeclarator ts × (next_is the_punct.LeftBrace ts ≡ false)
read_ends names d None ts m y e = subst (λ us. EndsDeclarator us × (next_is the_punct.LeftBrace us ≡ false)) (sym y) e
read_ends names d (Some v) [] m y e = absurd y
read_ends names d (Some v) (t ∷ ts) m y e = let c = next_kind_punct the_punct.Equal (t ∷ ts) y.1 in (punct_ends_declarator the_punct.Equal (t ∷ ts) refl refl refl c, punct_other the_punct.LeftBrace the_punct.Equal (t ∷ ts) refl c)

comma_ends : (m : List Token) → next_is the_punct.Comma m ≡ true → EndsDeclarator m × (next_is the_punct.LeftBrace m ≡ false)
comma_ends m c = (punct_ends_declarator the_punct.Comma m refl refl refl c, punct_other the_punct.LeftBrace the_punct.Comma m refl c)

-- what ends a declarator of which something comes behind
pub cut_ends : (names : Names) (typedef : Bool) (d : ℕ) (f : DeclTree Spot) (v : Option (ValueTree Spot)) (is : List (InitTree Spot)) (ts : List Token) → HasNext ts → BehindCut names typedef d f v is ts → EndsDeclarator ts × (next_is the_punct.LeftBrace ts ≡ false)
cut_ends names typedef d f v is ts more (inl w) = given_ends (after_declarator typedef f names) d v ts more w
cut_ends names typedef d f v is ts more (inr x) = read_ends (after_declarator typedef f names) d v ts x.0 x.2 (comma_ends x.0 (comma_first (after_declarator typedef f names) typedef d is x.0 x.1 x.3))

-- the first of some declarators: some of it, or all of it and something behind it
pub inits_elim : {X : Type 0} (names : Names) (typedef : Bool) (d : ℕ) (f : DeclTree Spot) (v : Option (ValueTree Spot)) (is : List (InitTree Spot)) (ts : List Token) → Within false (Unit {0}) (outlines.inits names typedef (init f v ∷ is)) d ts
    → (Within (outlines.is_written f) (outlines.is_named f ≡ true) (outlines.declarator names f) d ts → X) → ((m : List Token) → HasNext m → outlines.is_named f ≡ true → ReadsDeclarator names d f ts m → BehindCut names typedef d f v is m → X) → X
inits_elim {X} names typedef d f v is ts w cut past = by w
  where
    one : Within false (Unit {0}) (outlines.init_of names typedef (init f v)) d ts → X
    one (inl e) = cut (inl e)
    one (inr z) = part_elim ts z.1 cut (λ m more named y rest. past m more named y (inl (last_within m rest)))

    more_then : (m e q : List Token) → HasNext e → ReadsDeclarator names d f ts m → outlines.is_named f ≡ true → Reads (outlines.given (after_declarator typedef f names) v) d m e → Within false (Unit {0}) (outlines.more_inits (after_declarator typedef f names) typedef is) d e → X
    more_then [] e q more y named g w = no_next e more (nothing v g)
      where
        nothing : (v : Option (ValueTree Spot)) → Reads (outlines.given (after_declarator typedef f names) v) d [] e → e ≡ []
        nothing None x = sym x
        nothing (Some u) x = absurd x
    more_then (t ∷ m) e q more y named g w = past (t ∷ m) tt named y (inr (e, more, g, w))

    by : Within false (Unit {0}) (outlines.inits names typedef (init f v ∷ is)) d ts → X
    by (inl e) = cut (inl e)
    by (inr z) = part_elim ts z.1 one (λ e more u y rest.
        let g : Reads (outlines.given (after_declarator typedef f names) v) d y.0 e = subst (Reads (outlines.given (after_declarator typedef f names) v) d y.0) y.3.3 y.3.2 in
        more_then y.0 e e more y.2 y.1 g (last_within e rest))

given_shrinks : (names : Names) (d : ℕ) (v : Option (ValueTree Spot)) (ts m : List Token) → Reads (outlines.given names v) d ts m → length m ≤ length ts
given_shrinks names d v ts m y = omega (arith, reads_length (outlines.given names v) d ts m y)

declarator_shrinks : (names : Names) (d : ℕ) (f : DeclTree Spot) (ts m : List Token) → outlines.is_named f ≡ true → ReadsDeclarator names d f ts m → length m ≤ length ts
declarator_shrinks names d f ts m named y = omega (arith, reads_length (outlines.named_one f (outlines.declarator names f) end) d ts m (m, named, y, refl))

behind_spent : (turns : ℕ) (is : List (InitTree Spot)) (names : Names) (typedef : Bool) (d : ℕ) (f : DeclTree Spot) (v : Option (ValueTree Spot)) (ts : List Token) → length ts < turns → BehindCut names typedef d f v is ts → Spent (inits_behind d typedef turns names f ts)
behind_spent zero is names typedef d f v ts h c = absurd (omega (arith, h))
behind_spent (suc turns) is names typedef d f v ts h (inl w) = spent_bind (given (after_declarator typedef f names) d ts) (value_behind d typedef turns (after_declarator typedef f names) f) (given_spent (after_declarator typedef f names) d v ts w) (λ y. refl)
behind_spent (suc turns) is names typedef d f v ts h (inr (m, more, g, inl e)) = no_next m more e
behind_spent (suc turns) [] names typedef d f v ts h (inr (m, more, g, inr z)) = let x = z.1 in no_next m more x.cut
behind_spent (suc turns) (init f2 v2 ∷ is) names typedef d f v ts h (inr (m, more, g, inr z)) =
    let known : Names = after_declarator typedef f names in
    token_elim m z.1 (no_next m more) (λ u next st rest.
    let comma = next_kind_punct the_punct.Comma m next in
    spent_is _ _
    (bound (value_behind d typedef turns known f) (given known d ts) v m (given_again readers_complete known d v ts m g (punct_ends 2 the_punct.Comma m (omega arith) comma))
    ∙ branch_true (next_is the_punct.Comma m) (skipping (others_behind d typedef turns known f v)) (pure (init f v ∷ [])) m comma)
    (inits_elim known typedef d f2 v2 is (skip m) (inr (tt, rest))
    (λ w. spent_bind ((readers known d).declarator with_name (skip m)) _ ((readers_spent known d).declarator with_name f2 (skip m) w) (λ y. spent_map (inits_behind d typedef turns known y []) _ (behind_nil d typedef turns known y)))
    (λ q more2 named y behind. let ends = cut_ends known typedef d f2 v2 is q more2 behind in
    spent_is _ _ (bound (λ k. (λ is. init f v ∷ is) <$> inits_behind d typedef turns known k) ((readers known d).declarator with_name (skip m)) f2 q ((readers_complete known d).declarator with_name f2 (skip m) q named y ends.0))
    (spent_map (inits_behind d typedef turns known f2 q) _
    (behind_spent turns is known typedef d f2 v2 q (omega (arith, h, given_shrinks known d v ts m g, skip_length m more, declarator_shrinks known d f2 (skip m) q named y)) behind)))))

-- ---- Declarations

abbrev declares : ℕ → Names → Spot → SpecTrees Spot → Parser (DeclarationTree Spot)
declares d names n ss = (readers names d).declarator with_name >>= inits d (has_typedef ss) names >>= (λ is. take the_punct.Semicolon >> pure (declaration n ss is))

abbrev behind_specs : ℕ → Names → Spot → SpecTrees Spot → Parser (DeclarationTree Spot)
behind_specs d names n ss = where_next (next_is the_punct.Semicolon) (skipping (pure (declaration n ss []))) (declares d names n ss)

pub inits_spent : (is : List (InitTree Spot)) (names : Names) (typedef : Bool) (d : ℕ) (f : DeclTree Spot) (v : Option (ValueTree Spot)) (ts : List Token) → BehindCut names typedef d f v is ts → Spent (inits d typedef names f ts)
inits_spent is names typedef d f v ts c = behind_spent (suc (length ts)) is names typedef d f v ts (omega arith) c

pub inits_nil : (d : ℕ) (typedef : Bool) (names : Names) (f : DeclTree Spot) → Spent (inits d typedef names f [])
inits_nil d typedef names f = behind_nil d typedef 1 names f

declares_nil : (d : ℕ) (names : Names) (n : Spot) (ss : SpecTrees Spot) → Spent (declares d names n ss [])
declares_nil d names n ss = spent_bind (and_then ((readers names d).declarator with_name []) (inits d (has_typedef ss) names)) _ (spent_bind ((readers names d).declarator with_name []) _ (named_nil names d [] refl) (inits_nil d (has_typedef ss) names)) (λ y. refl)

declaration_nil : (d : ℕ) (names : Names) (ts : List Token) → ts ≡ [] → Spent (declaration_at d names ts)
declaration_nil d names ts e = spent_bind ((readers names d).specs ts) _ (specs_nil names (readers names d) d (readers_complete names d) (readers_spent names d) ts e) (λ ss. declares_nil d names (spot ts) ss)

-- what comes behind the specifiers begins no others
pub inits_first : (names : Names) (typedef : Bool) (d : ℕ) (is : List (InitTree Spot)) (m : List Token) → HasNext m → Begun (outlines.within (outlines.inits names typedef is) ▸ outlines.punct the_punct.Semicolon ▸ end) d m [] → EndsSpecs names m
inits_first names typedef d [] m more x =
    part_elim m x (λ w. by w) (λ c next u y rest. token_elim c rest (no_next c next) (λ v semicolon st last. subst (EndsSpecs names) (sym y) (punct_ends_specs names the_punct.Semicolon c refl (next_kind_punct the_punct.Semicolon c semicolon))))
  where
    by : Within false (Unit {0}) (outlines.inits names typedef []) d m → EndsSpecs names m
    by (inl e) = no_next m more e
    by (inr z) = let y = z.1 in no_next m more y.cut
inits_first names typedef d (init f v ∷ is) m more x =
    part_elim m x (λ w. inits_elim names typedef d f v is m w (λ c. let q = opens_named names f d m more c in record { no_spec = q.no_spec; no_brace = q.no_brace }) (λ c next named y b. let q = named_opens names f d m c named y in record { no_spec = q.no_spec; no_brace = q.no_brace }))
    (λ c next u y rest. let q = named_opens names f d m y.2.0 y.2.1 y.2.2 in record { no_spec = q.no_spec; no_brace = q.no_brace })

declares_in : (d : ℕ) (names : Names) (n : Spot) (ss : SpecTrees Spot) (is : List (InitTree Spot)) (m : List Token) → HasNext m → Within false (Unit {0}) (outlines.inits names (has_typedef ss) is) d m → Spent (behind_specs d names n ss m)
declares_in d names n ss is m more (inl e) = no_next m more e
declares_in d names n ss [] m more (inr z) = let y = z.1 in no_next m more y.cut
declares_in d names n ss (init f v ∷ is) m more (inr z) =
    let typedef = has_typedef ss in
    inits_elim names typedef d f v is m (inr z)
    (λ c. let q = opens_named names f d m more c in
    spent_is _ _ (branch_false (next_is the_punct.Semicolon m) (skipping (pure (declaration n ss []))) (declares d names n ss) m q.no_semicolon)
    (spent_bind (and_then ((readers names d).declarator with_name m) (inits d typedef names)) _
    (spent_bind ((readers names d).declarator with_name m) _ ((readers_spent names d).declarator with_name f m c) (inits_nil d typedef names)) (λ y. refl)))
    (λ c next named y b. let q = named_opens names f d m c named y in let ends = cut_ends names typedef d f v is c next b in
    spent_is _ _ (branch_false (next_is the_punct.Semicolon m) (skipping (pure (declaration n ss []))) (declares d names n ss) m q.no_semicolon)
    (spent_bind (and_then ((readers names d).declarator with_name m) (inits d typedef names)) _
    (spent_is _ _ (bound (inits d typedef names) ((readers names d).declarator with_name m) f c ((readers_complete names d).declarator with_name f m c named y ends.0)) (inits_spent is names typedef d f v c b)) (λ z. refl)))

pub declaration_spent : (d : ℕ) (names : Names) (x : DeclarationTree Spot) (ts : List Token) → outlines.declaration_spot x → Begun (outlines.declaration_of names x) d ts [] → Spent (declaration_at d names ts)
declaration_spent d names (declaration n ss is) ts b x =
    part_elim ts x (λ w. by w)
    (λ m more u y rest.
    let read = (readers_complete names d).specs ss n ts m b y (inits_first names (has_typedef ss) d is m more rest) in
    spent_is _ _ (bound (behind_specs d names (spot ts)) ((readers names d).specs ts) ss m read)
    (part_elim m rest (declares_in d names (spot ts) ss is m more)
    (λ c next v q others. token_elim c others (no_next c next) (λ f semicolon st last.
    spent_is _ _ (sym (bound (behind_specs d names (spot ts)) ((readers names d).specs ts) ss m read)
    ∙ declaration_again readers_complete names d n ss is ts [] b (m, tt, y, (c, tt, q, kind_reads (Unit {0}) (kind.Punct the_punct.Semicolon) None end d c [] semicolon tt tt last.cut))) refl))))
  where
    by : Within false (Unit {0}) (outlines.specs names ss) d ts → Spent (declaration_at d names ts)
    by (inl e) = declaration_nil d names ts e
    by (inr z) = spent_bind ((readers names d).specs ts) _ ((readers_spent names d).specs ss n ts b z.1) (λ us. declares_nil d names (spot ts) us)

-- and it begins with a specifier
pub declaration_starts : (d : ℕ) (names : Names) (x : DeclarationTree Spot) (ts : List Token) → HasNext ts → outlines.declaration_spot x → Begun (outlines.declaration_of names x) d ts [] → starts_spec names ts ≡ true
declaration_starts d names (declaration n ss is) ts more b x = part_elim ts x (λ w. by w) (λ m next u y rest. let q = first_specs names ss n d ts m b y in q.0)
  where
    by : Within false (Unit {0}) (outlines.specs names ss) d ts → starts_spec names ts ≡ true
    by (inl e) = no_next ts more e
    by (inr z) = begun_specs names ss d ts more z.1
