-- Specifiers that are read are there, given that their lists of members and constants are.
use Rattle.std.proofs.Common.{◌≡◌, refl, ℕ, Bool, true, false, List, [], ◌∷◌, Option, Some, None, Ok, ap, subst, inl, inr, ◌||◌}
use Rattle.std.proofs.lemmas.Bool.{or_parts}
use Rattle.cc_base.specs.declared.place.Spot.{Spot}
use Rattle.cc_lex.specs.declared.token.Token.{Token}
use Rattle.cc_lex.specs.declared.token.TokenKind.{TokenKind}
use Rattle.cc_lex.specs.declared.token.TokenKind.TheVariants as kind
use Rattle.cc_lex.specs.declared.keyword.Keyword.TheVariants as the_keyword
use Rattle.cc_lex.specs.declared.punct.Punct.TheVariants as the_punct
use Rattle.cc_tree.specs.Trees.{Name, SpecTree, word, named, struct, enum, SpecTrees, MemberTrees, no_members, more_members, ConstantTrees, no_constants, more_constants}
use Rattle.cc_tree.specs.Views.{gathered_specs, gathered_members, gathered_constants}
use Rattle.cc_grammar.specs.Levels.{word_keyword}
use Rattle.cc_grammar.specs.Names.{Names, is_type}
use Rattle.cc_grammar.specs.Outline.{Outline, end, token, ◌▸◌}
use Rattle.cc_grammar.specs.Outlines as outlines
use Rattle.cc_grammar.specs.Classes.{next_is, skip, spot, next_ident, SpecStart, spec_word, spec_struct, spec_enum, spec_named, no_spec, spec_start, starts_spec}
use Rattle.cc_grammar.specs.Outcomes.{Parser, pure, ◌<$>◌}
use Rattle.cc_grammar.specs.Reading as reader
use Rattle.cc_grammar.specs.Reading.{Inner, where_next, repeated}
use Rattle.cc_parse_laws.proofs.Spans.{Reads}
use Rattle.cc_parse_laws.proofs.Steps.{bind_ok, map_ok, ok_is, branched}
use Rattle.cc_parse_laws.proofs.NextTokens.{kind_reads, spec_token, spec_next, spec_is_named, ident_next}
use Rattle.cc_parse_laws.proofs.Lists.{IsSound, Following, Repeated, repeated_sound}

-- ---- Shapes

abbrev pub HasMembers : MemberTrees Spot → Type 0
HasMembers no_members = ⊥
HasMembers (more_members m ms) = Unit {0}

abbrev pub HasConstants : ConstantTrees Spot → Type 0
HasConstants no_constants = ⊥
HasConstants (more_constants c cs) = Unit {0}

pub struct_with_members : (n : Spot) (tag : Option Name) (ms : MemberTrees Spot) → HasMembers ms → outlines.IsShaped (struct n tag ms)
struct_with_members n None no_members h = absurd h
struct_with_members n None (more_members m ms) h = tt
struct_with_members n (Some x) ms h = tt

struct_with_tag : (names : Names) (inner : reader.Inner) (d : ℕ) (n : Spot) (tag : Option Name) → reader.untagged names inner d tag ≡ false → outlines.IsShaped (struct n tag no_members)
struct_with_tag names inner d n None e = absurd cc
struct_with_tag names inner d n (Some x) e = tt

pub enum_with_constants : (n : Spot) (tag : Option Name) (cs : ConstantTrees Spot) (last : Bool) → HasConstants cs → outlines.IsShaped (enum n tag cs last)
enum_with_constants n tag no_constants last h = absurd h
enum_with_constants n None (more_constants c cs) last h = tt
enum_with_constants n (Some x) (more_constants c cs) last h = tt

enum_with_tag : (names : Names) (inner : reader.Inner) (d : ℕ) (n : Spot) (tag : Option Name) → reader.untagged names inner d tag ≡ false → outlines.IsShaped (enum n tag no_constants false)
enum_with_tag names inner d n None e = absurd cc
enum_with_tag names inner d n (Some x) e = tt

-- ---- Specifiers

-- lists in braces that are read are there
abbrev pub MembersSound : Names → Inner → ℕ → Type 0
MembersSound names inner d = IsSound (reader.member_list names inner d) (λ ms ts r. HasMembers (gathered_members ms) × Reads (outlines.member_list names (gathered_members ms)) d ts r)

abbrev pub ConstantsSound : Names → Inner → ℕ → Type 0
ConstantsSound names inner d = IsSound (reader.constant_list names inner d) (λ cs ts r. HasConstants (gathered_constants cs.0) × Reads (outlines.constant_list names (gathered_constants cs.0) cs.1) d ts r)

module _ (names : Names) (inner : Inner) (d : ℕ) (members_sound : MembersSound names inner d) (constants_sound : ConstantsSound names inner d) where
  abbrev pub SpecAt : SpecTree Spot → List Token → List Token → Type 0
  SpecAt s ts r = (spot ts ≡ outlines.spec_spot s) × Reads (outlines.spec names s) d ts r

  opens : (h : Type 0) (w : TokenKind) (i : Outline) (ts r : List Token) → spec_token (spec_start names ts) ≡ Some w → h → Reads i d (skip ts) r → Reads (token h w (Some (spot ts)) i) d ts r
  opens h w i ts r e a x = kind_reads h w (Some (spot ts)) i d ts r (spec_next names w ts e) a refl x

  pub tag_sound : (ts : List Token) (x : Option Name × List Token) → reader.tag names inner d ts ≡ Ok x → Reads (outlines.tag_of x.0) d ts x.1
  tag_sound ts x e = by (next_ident ts) refl e
    where
      by : (y : Option Name) → next_ident ts ≡ y → reader.tag_by names inner d y ts ≡ Ok x → Reads (outlines.tag_of x.0) d ts x.1
      by None i f = subst (λ (z : Option Name × List Token). Reads (outlines.tag_of z.0) d ts z.1) (ok_is (None, ts) x f) refl
      by (Some y) i f =
          subst (λ (z : Option Name × List Token). Reads (outlines.tag_of z.0) d ts z.1) (ok_is (Some y, skip ts) x f)
          (kind_reads (Unit {0}) (kind.Identifier y) None end d ts (skip ts) (ident_next y ts i) tt tt refl)

  -- behind a keyword
  struct_sound : (ts : List Token) (x : SpecTree Spot × List Token) → spec_start names ts ≡ spec_struct → reader.spec_by names inner d spec_struct (spot ts) ts ≡ Ok x → SpecAt x.0 ts x.1
  struct_sound ts x s e =
      let n = spot ts in
      let with_list : Option Name → Parser (SpecTree Spot) = (λ t. (λ ms. struct n t (gathered_members ms)) <$> reader.member_list names inner d) in
      let t = bind_ok (reader.tag names inner d (skip ts)) (λ t. where_next (λ us. next_is the_punct.LeftBrace us || reader.untagged names inner d t) (with_list t) (pure (struct n t no_members))) x e in
      let u = tag_sound (skip ts) t.0 t.1 in
      elim (branched (next_is the_punct.LeftBrace t.0.1 || reader.untagged names inner d t.0.0) (with_list t.0.0) (pure (struct n t.0.0 no_members)) t.0.1 (Ok x) t.2) [
        | inl c ↦
            let m = map_ok (reader.member_list names inner d t.0.1) (λ ms. struct n t.0.0 (gathered_members ms)) x c.1 in
            let v = members_sound t.0.1 m.0 m.1 in
            let inside : Outline = outlines.within (outlines.tag_of t.0.0) ▸ outlines.within (outlines.member_list names (gathered_members m.0.0)) ▸ end in
            subst (λ (y : SpecTree Spot × List Token). SpecAt y.0 ts y.1) {x = (struct n t.0.0 (gathered_members m.0.0), m.0.1)} m.2 (
              refl,
              (
                m.0.1,
                struct_with_members n t.0.0 (gathered_members m.0.0) v.0,
                opens (Unit {0}) (kind.Keyword the_keyword.Struct) inside ts m.0.1 (ap spec_token s) tt (t.0.1, tt, u, (m.0.1, tt, v.1, refl)),
                refl,
              ),
            )
        | inr c ↦
            let inside : Outline = outlines.within (outlines.tag_of t.0.0) ▸ outlines.within (outlines.member_list names no_members) ▸ end in
            subst (λ (y : SpecTree Spot × List Token). SpecAt y.0 ts y.1) (ok_is (struct n t.0.0 no_members, t.0.1) x c.1) (
              refl,
              (
                t.0.1,
                struct_with_tag names inner d n t.0.0 (or_parts (next_is the_punct.LeftBrace t.0.1) (reader.untagged names inner d t.0.0) c.0).1,
                opens (Unit {0}) (kind.Keyword the_keyword.Struct) inside ts t.0.1 (ap spec_token s) tt (t.0.1, tt, u, (t.0.1, tt, refl, refl)),
                refl,
              ),
            )
      ]

  enum_sound : (ts : List Token) (x : SpecTree Spot × List Token) → spec_start names ts ≡ spec_enum → reader.spec_by names inner d spec_enum (spot ts) ts ≡ Ok x → SpecAt x.0 ts x.1
  enum_sound ts x s e =
      let n = spot ts in
      let with_list : Option Name → Parser (SpecTree Spot) = (λ t. (λ cs. enum n t (gathered_constants cs.0) cs.1) <$> reader.constant_list names inner d) in
      let t = bind_ok (reader.tag names inner d (skip ts)) (λ t. where_next (λ us. next_is the_punct.LeftBrace us || reader.untagged names inner d t) (with_list t) (pure (enum n t no_constants false))) x e in
      let u = tag_sound (skip ts) t.0 t.1 in
      elim (branched (next_is the_punct.LeftBrace t.0.1 || reader.untagged names inner d t.0.0) (with_list t.0.0) (pure (enum n t.0.0 no_constants false)) t.0.1 (Ok x) t.2) [
        | inl c ↦
            let m = map_ok (reader.constant_list names inner d t.0.1) (λ cs. enum n t.0.0 (gathered_constants cs.0) cs.1) x c.1 in
            let v = constants_sound t.0.1 m.0 m.1 in
            let inside : Outline = outlines.within (outlines.tag_of t.0.0) ▸ outlines.within (outlines.constant_list names (gathered_constants m.0.0.0) m.0.0.1) ▸ end in
            subst (λ (y : SpecTree Spot × List Token). SpecAt y.0 ts y.1) {x = (enum n t.0.0 (gathered_constants m.0.0.0) m.0.0.1, m.0.1)} m.2 (
              refl,
              (
                m.0.1,
                enum_with_constants n t.0.0 (gathered_constants m.0.0.0) m.0.0.1 v.0,
                opens (Unit {0}) (kind.Keyword the_keyword.Enum) inside ts m.0.1 (ap spec_token s) tt (t.0.1, tt, u, (m.0.1, tt, v.1, refl)),
                refl,
              ),
            )
        | inr c ↦
            let inside : Outline = outlines.within (outlines.tag_of t.0.0) ▸ outlines.within (outlines.constant_list names no_constants false) ▸ end in
            subst (λ (y : SpecTree Spot × List Token). SpecAt y.0 ts y.1) (ok_is (enum n t.0.0 no_constants false, t.0.1) x c.1) (
              refl,
              (
                t.0.1,
                enum_with_tag names inner d n t.0.0 (or_parts (next_is the_punct.LeftBrace t.0.1) (reader.untagged names inner d t.0.0) c.0).1,
                opens (Unit {0}) (kind.Keyword the_keyword.Enum) inside ts t.0.1 (ap spec_token s) tt (t.0.1, tt, u, (t.0.1, tt, refl, refl)),
                refl,
              ),
            )
      ]

  pub spec_by_sound : (s : SpecStart) (ts : List Token) (x : SpecTree Spot × List Token) → spec_start names ts ≡ s → reader.spec_by names inner d s (spot ts) ts ≡ Ok x → SpecAt x.0 ts x.1
  spec_by_sound (spec_word w) ts x s e =
      subst (λ (y : SpecTree Spot × List Token). SpecAt y.0 ts y.1) (ok_is (word (spot ts) w, skip ts) x e)
      (refl, opens (Unit {0}) (kind.Keyword (word_keyword w)) end ts (skip ts) (ap spec_token s) tt refl)
  spec_by_sound (spec_named y) ts x s e =
      subst (λ (z : SpecTree Spot × List Token). SpecAt z.0 ts z.1) (ok_is (named (spot ts) y, skip ts) x e)
      (refl, opens (is_type names y ≡ true) (kind.Identifier y) end ts (skip ts) (ap spec_token s) (spec_is_named names y ts s) refl)
  spec_by_sound spec_struct ts x s e = struct_sound ts x s e
  spec_by_sound spec_enum ts x s e = enum_sound ts x s e
  spec_by_sound no_spec ts x s e = absurd cc

  -- ---- One after another

  other_specs : (ss : List (SpecTree Spot)) (ts r : List Token) → Following (starts_spec names) SpecAt ss ts r → Reads (outlines.specs names (gathered_specs ss)) d ts r
  other_specs [] ts r x = x
  other_specs (s ∷ ss) ts r x = (x.0, tt, x.2.1, (r, tt, other_specs ss x.0 r x.3, refl))

  some_specs : (ss : List (SpecTree Spot)) (ts r : List Token) → Repeated (starts_spec names) SpecAt ss ts r → outlines.BeginAt (gathered_specs ss) (spot ts) × Reads (outlines.specs names (gathered_specs ss)) d ts r
  some_specs [] ts r x = absurd x
  some_specs (s ∷ ss) ts r x = (x.1.0, (x.0, tt, x.1.1, (r, tt, other_specs ss x.0 r x.2, refl)))

  pub specs_sound : (ts : List Token) (x : SpecTrees Spot × List Token) → reader.specs names inner d ts ≡ Ok x → outlines.BeginAt x.0 (spot ts) × Reads (outlines.specs names x.0) d ts x.1
  specs_sound ts x e =
      let one : Parser (SpecTree Spot) = (λ us. reader.spec_by names inner d (spec_start names us) (spot us) us) in
      let m = map_ok (repeated (starts_spec names) one ts) gathered_specs x e in
      let s = repeated_sound (starts_spec names) one SpecAt (λ us y f. spec_by_sound (spec_start names us) us y refl f) ts m.0 m.1 in
      subst (λ (y : SpecTrees Spot × List Token). outlines.BeginAt y.0 (spot ts) × Reads (outlines.specs names y.0) d ts y.1) m.2 (some_specs m.0.0 ts m.0.1 s)
