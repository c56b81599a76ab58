-- Declarations are read back.
use Rattle.std.proofs.Common.{◌≡◌, ◌≤◌, ◌<◌, refl, ℕ, zero, suc, Bool, true, false, List, [], ◌∷◌, length, Option, Some, None, Ok, arith, sym, ap, ◌∙◌, subst, ◌⊎◌, inl, inr}
use Rattle.cc_base.specs.declared.place.Spot.{Spot}
use Rattle.cc_lex.specs.declared.token.Token.{Token}
use Rattle.cc_lex.specs.declared.punct.Punct.TheVariants as the_punct
use Rattle.cc_tree.specs.Trees.{SpecTrees, DeclTree, ValueTree, InitTree, init, declaration}
use Rattle.cc_grammar.specs.Outline.{end}
use Rattle.cc_grammar.specs.Outlines as outlines
use Rattle.cc_grammar.specs.Names.{Names, has_typedef, after_declarator}
use Rattle.cc_grammar.specs.Classes.{next_is, skip, spot}
use Rattle.cc_grammar.specs.Reading.{with_name, readers, inits_behind, inits, declaration_at}
use Rattle.cc_parse_laws.proofs.Spans.{Reads}
use Rattle.cc_parse_laws.proofs.Steps.{reads_length}
use Rattle.cc_parse_laws.proofs.Inner.{CompleteInner, Ends, EndsSpecs, EndsDeclarator, ReadsDeclarator}
use Rattle.cc_parse_laws.proofs.Peeks.{after, skip_shorter, punct_other, punct_ends, punct_ends_specs, punct_ends_declarator}
use Rattle.cc_parse_laws.proofs.Firsts.{first_specs}
use Rattle.cc_parse_laws.proofs.FirstTokens.{named_begins}
use Rattle.cc_parse_laws.proofs.Pieces.{comes, only, got_specs}
use Rattle.cc_parse_laws.proofs.CompleteValues.{given_again}

-- ---- What stands behind a declarator

-- a comma or a semicolon comes behind an initialiser
abbrev BehindInit : List Token → Type 0
BehindInit ts = (next_is the_punct.Comma ts ≡ true) ⊎ (next_is the_punct.Semicolon ts ≡ true)

behind_ends : (ts : List Token) → BehindInit ts → Ends 2 ts
behind_ends ts (inl c) = punct_ends 2 the_punct.Comma ts (omega arith) c
behind_ends ts (inr c) = punct_ends 2 the_punct.Semicolon ts (omega arith) c

more_behind : (names : Names) (typedef : Bool) (is : List (InitTree Spot)) (d : ℕ) (ts r : List Token) → Reads (outlines.more_inits names typedef is) d ts r → next_is the_punct.Semicolon r ≡ true → BehindInit ts
more_behind names typedef [] d ts r x e = inr (ap (next_is the_punct.Semicolon) x ∙ e)
more_behind names typedef (init f v ∷ is) d ts r x e = inl (comes the_punct.Comma None (after (outlines.more_inits names typedef (init f v ∷ is))) d ts r x).is

-- no other declarator goes on, and no body
pub record BehindDeclarator (ts : List Token) : Type 0 where
  pub ends : EndsDeclarator ts
  pub no_brace : next_is the_punct.LeftBrace ts ≡ false

behind_declarator : (ts : List Token) → BehindInit ts → BehindDeclarator ts
behind_declarator ts (inl c) = record { ends = punct_ends_declarator the_punct.Comma ts refl refl refl c; no_brace = punct_other the_punct.LeftBrace the_punct.Comma ts refl c }
behind_declarator ts (inr c) = record { ends = punct_ends_declarator the_punct.Semicolon ts refl refl refl c; no_brace = punct_other the_punct.LeftBrace the_punct.Semicolon ts refl c }

given_behind : (names : Names) (v : Option (ValueTree Spot)) (d : ℕ) (ts r : List Token) → Reads (outlines.given names v) d ts r → BehindInit r → BehindDeclarator ts
given_behind names None d ts r x b = subst BehindDeclarator (sym x) (behind_declarator r b)
given_behind names (Some v) d ts r x b =
    let equal = comes the_punct.Equal None (after (outlines.given names (Some v))) d ts r x in
    record { ends = punct_ends_declarator the_punct.Equal ts refl refl refl equal.is; no_brace = punct_other the_punct.LeftBrace the_punct.Equal ts refl equal.is }

-- a declarator and its initialiser, apart
pub record Apart (names : Names) (typedef : Bool) (f : DeclTree Spot) (v : Option (ValueTree Spot)) (is : List (InitTree Spot)) (d : ℕ) (ts r : List Token) : Type 0 where
  pub name_ends : List Token
  pub value_ends : List Token
  pub named : outlines.is_named f ≡ true
  pub declares : ReadsDeclarator names d f ts name_ends
  pub given : Reads (outlines.given (after_declarator typedef f names) v) d name_ends value_ends
  pub others : Reads (outlines.more_inits (after_declarator typedef f names) typedef is) d value_ends r

pub apart : (names : Names) (typedef : Bool) (f : DeclTree Spot) (v : Option (ValueTree Spot)) (is : List (InitTree Spot)) (d : ℕ) (ts r : List Token)
    → Reads (outlines.inits names typedef (init f v ∷ is)) d ts r → Apart names typedef f v is d ts r
apart names typedef f v is d ts r x =
    record {
      name_ends = x.2.0;
      value_ends = x.0;
      named = x.2.1;
      declares = x.2.2;
      given = only (outlines.given (after_declarator typedef f names) v) d x.2.0 x.0 x.2.3;
      others = only (outlines.more_inits (after_declarator typedef f names) typedef is) d x.0 r x.3;
    }

apart_length : (names : Names) (typedef : Bool) (f : DeclTree Spot) (v : Option (ValueTree Spot)) (is : List (InitTree Spot)) (d : ℕ) (ts r : List Token) (a : Apart names typedef f v is d ts r) → length a.name_ends ≤ length ts
apart_length names typedef f v is d ts r a = omega (arith, reads_length (outlines.named_one f (outlines.declarator names f) end) d ts a.name_ends (a.name_ends, a.named, a.declares, refl))

module _ (readers_complete : (names : Names) (d : ℕ) → CompleteInner names (readers names d) d) where
  no_more : (typedef : Bool) (f : DeclTree Spot) (v : Option (ValueTree Spot)) (names : Names) (d turns : ℕ) (ts m : List Token)
      → Reads (outlines.given (after_declarator typedef f names) v) d ts m → next_is the_punct.Semicolon m ≡ true → inits_behind d typedef (suc turns) names f ts ≡ Ok (init f v ∷ [], m)
  no_more typedef f v names d turns ts m g e =
      let value = given_again readers_complete (after_declarator typedef f names) d v ts m g (punct_ends 2 the_punct.Semicolon m (omega arith) e) in
      let no_comma : next_is the_punct.Comma m ≡ false = punct_other the_punct.Comma the_punct.Semicolon m refl e in
      rw (value, no_comma) refl

  -- initialisers are read back where a semicolon follows
  pub inits_behind_again : (is : List (InitTree Spot)) (typedef : Bool) (f : DeclTree Spot) (v : Option (ValueTree Spot)) (names : Names) (d turns : ℕ) (ts m r : List Token)
      → Reads (outlines.given (after_declarator typedef f names) v) d ts m → Reads (outlines.more_inits (after_declarator typedef f names) typedef is) d m r → next_is the_punct.Semicolon r ≡ true → length ts < turns
      → inits_behind d typedef turns names f ts ≡ Ok (init f v ∷ is, r)
  inits_behind_again is typedef f v names d zero ts m r g x e h = absurd (omega (arith, h))
  inits_behind_again [] typedef f v names d (suc turns) ts m r g x e h =
      let same : Reads (outlines.given (after_declarator typedef f names) v) d ts r = subst (λ q. Reads (outlines.given (after_declarator typedef f names) v) d ts q) x g in
      no_more typedef f v names d turns ts r same e
  inits_behind_again (init g w ∷ is) typedef f v names d (suc turns) ts m r y x e h =
      let known = after_declarator typedef f names in
      let comma = comes the_punct.Comma None (after (outlines.more_inits known typedef (init g w ∷ is))) d m r x in
      let a = apart known typedef g w is d (skip m) r comma.then in
      let value = given_again readers_complete known d v ts m y (punct_ends 2 the_punct.Comma m (omega arith) comma.is) in
      let ends = (given_behind (after_declarator typedef g known) w d a.name_ends a.value_ends a.given (more_behind (after_declarator typedef g known) typedef is d a.value_ends r a.others e)).ends in
      let declares = (readers_complete known d).declarator with_name g (skip m) a.name_ends a.named a.declares ends in
      let shorter : length a.name_ends < turns = omega (arith, h, reads_length (outlines.given known v) d ts m y, skip_shorter the_punct.Comma m comma.is, apart_length known typedef g w is d (skip m) r a) in
      let others = inits_behind_again is typedef g w known d turns a.name_ends a.value_ends r a.given a.others e shorter in
      rw (value, comma.is, declares, others) refl

  -- the declarators from one on that was read, up to the semicolon
  pub inits_again : (names : Names) (typedef : Bool) (f : DeclTree Spot) (v : Option (ValueTree Spot)) (is : List (InitTree Spot)) (d : ℕ) (ts r : List Token)
      → (a : Apart names typedef f v is d ts r) → next_is the_punct.Semicolon r ≡ true → inits d typedef names f a.name_ends ≡ Ok (init f v ∷ is, r)
  inits_again names typedef f v is d ts r a e = inits_behind_again is typedef f v names d (suc (length a.name_ends)) a.name_ends a.value_ends r a.given a.others e (omega arith)

  -- the first declarator
  pub first_again : (names : Names) (typedef : Bool) (f : DeclTree Spot) (v : Option (ValueTree Spot)) (is : List (InitTree Spot)) (d : ℕ) (ts r : List Token)
      → (a : Apart names typedef f v is d ts r) → next_is the_punct.Semicolon r ≡ true → ((readers names d).declarator with_name ts ≡ Ok (f, a.name_ends)) × (next_is the_punct.LeftBrace a.name_ends ≡ false)
  first_again names typedef f v is d ts r a e =
      let known = after_declarator typedef f names in
      let follows = given_behind known v d a.name_ends a.value_ends a.given (more_behind known typedef is d a.value_ends r a.others e) in
      ((readers_complete names d).declarator with_name f ts a.name_ends a.named a.declares follows.ends, follows.no_brace)

  -- what a declaration is after its specifiers
  pub inits_begin : (names : Names) (typedef : Bool) (is : List (InitTree Spot)) (d : ℕ) (ts r : List Token) → Reads (outlines.within (outlines.inits names typedef is) (outlines.punct the_punct.Semicolon end)) d ts r → EndsSpecs names ts
  inits_begin names typedef [] d ts r x =
      let semicolon = comes the_punct.Semicolon None end d x.0 r x.3 in
      subst (EndsSpecs names) (sym x.2) (punct_ends_specs names the_punct.Semicolon x.0 refl semicolon.is)
  inits_begin names typedef (init f v ∷ is) d ts r x =
      let a = apart names typedef f v is d ts x.0 x.2 in
      let begins = named_begins names f d ts a.name_ends a.named a.declares in
      record { no_spec = begins.no_spec; no_brace = begins.no_brace }

  pub declaration_again : (names : Names) (d : ℕ) (n : Spot) (ss : SpecTrees Spot) (is : List (InitTree Spot)) (ts r : List Token) → outlines.BeginAt ss n
      → Reads (outlines.declaration_of names (declaration n ss is)) d ts r → declaration_at d names ts ≡ Ok (declaration n ss is, r)
  declaration_again names d n ss [] ts r b x =
      let at : spot ts ≡ n = (first_specs names ss n d ts x.0 b x.2).1 in
      let specs = got_specs readers_complete names d ss n (after (outlines.declaration_of names (declaration n ss []))) ts r b (λ m y. inits_begin names (has_typedef ss) [] d m r y) x in
      let semicolon = comes the_punct.Semicolon None end d specs.rest r (subst (λ q. Reads (outlines.punct the_punct.Semicolon end) d q r) (sym specs.then.2) specs.then.3) in
      rw (at, specs.reads, semicolon.is, semicolon.then) refl
  declaration_again names d n ss (init f v ∷ is) ts r b x =
      let typedef = has_typedef ss in
      let at : spot ts ≡ n = (first_specs names ss n d ts x.0 b x.2).1 in
      let specs = got_specs readers_complete names d ss n (after (outlines.declaration_of names (declaration n ss (init f v ∷ is)))) ts r b (λ m y. inits_begin names typedef (init f v ∷ is) d m r y) x in
      let y = specs.then in
      let a = apart names typedef f v is d specs.rest y.0 y.2 in
      let semicolon = comes the_punct.Semicolon None end d y.0 r y.3 in
      let begins = named_begins names f d specs.rest a.name_ends a.named a.declares in
      let first = first_again names typedef f v is d specs.rest y.0 a semicolon.is in
      let others = inits_again names typedef f v is d specs.rest y.0 a semicolon.is in
      rw (at, specs.reads, begins.no_semicolon, first.0, others, semicolon.taken, semicolon.then) refl
