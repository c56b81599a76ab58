-- Specifiers are read back, before a token that could not go on with them, where the lists in braces in them are.
use Rattle.std.proofs.Common.{◌≡◌, refl, ℕ, Bool, true, false, List, ◌∷◌, Option, Some, None, Ok, sym, ap, ◌∙◌, subst}
use Rattle.std.specs.Prelude.{◌||◌}
use Rattle.cc_base.specs.declared.place.Spot.{Spot}
use Rattle.cc_lex.specs.declared.token.Token.{Token}
use Rattle.cc_lex.specs.declared.token.TokenKind.{TokenKind}
use Rattle.cc_lex.specs.declared.token.TokenKind.TheVariants as kind
use Rattle.cc_lex.specs.declared.keyword.Keyword.TheVariants as the_keyword
use Rattle.cc_lex.specs.declared.punct.Punct.TheVariants as the_punct
use Rattle.cc_tree.specs.declared.operator.SpecWord.{SpecWord}
use Rattle.cc_tree.specs.declared.operator.SpecWord.TheVariants as the_spec_word
use Rattle.cc_tree.specs.Trees.{Name, SpecTree, word, named, struct, enum, SpecTrees, no_specs, more_specs, MemberTree, MemberTrees, no_members, more_members, ConstantTree, ConstantTrees, no_constants, more_constants}
use Rattle.cc_tree.specs.Views.{gathered_specs, gathered_members, gathered_constants}
use Rattle.cc_grammar.specs.Levels.{word_keyword}
use Rattle.cc_grammar.specs.Names.{Names, is_type}
use Rattle.cc_grammar.specs.Outline.{Outline, end, token}
use Rattle.cc_grammar.specs.Outlines as outlines
use Rattle.cc_grammar.specs.Classes.{next_is, skip, spot, next_ident, ident, spec_start, spec_kind, spec_keyword, SpecStart, spec_word, spec_struct, spec_enum, spec_named, starts_spec}
use Rattle.cc_grammar.specs.Outcomes.{Parser, and_then, pure, ◌<$>◌}
use Rattle.cc_grammar.specs.Reading.{Inner, specs, spec_by, tag, tag_by, untagged, member_list, constant_list, where_next, repeated}
use Rattle.std.proofs.lemmas.Bool.{or_left, or_from}
use Rattle.cc_parse_laws.proofs.Spans.{Reads}
use Rattle.cc_parse_laws.proofs.Steps.{next_token, reads_next, branch_true, branch_false}
use Rattle.cc_parse_laws.proofs.Lists.{Again, repeated_again}
use Rattle.cc_parse_laws.proofs.Peeks.{after, inside, at_token, punct_ident}
use Rattle.cc_parse_laws.proofs.Firsts.{inside_sinks, spec_not}
use Rattle.cc_parse_laws.proofs.Climbs.{bound, mapped, done, rest_is}
use Rattle.cc_parse_laws.proofs.Listed as listed
use Rattle.cc_parse_laws.proofs.Inner.{EndsSpecs}

pub word_begins : (v : SpecWord) → spec_keyword (word_keyword v) ≡ spec_word v
word_begins the_spec_word.Typedef = refl
word_begins the_spec_word.Extern = refl
word_begins the_spec_word.Static = refl
word_begins the_spec_word.Inline = refl
word_begins the_spec_word.Const = refl
word_begins the_spec_word.Void = refl
word_begins the_spec_word.Char = refl
word_begins the_spec_word.Short = refl
word_begins the_spec_word.Int = refl
word_begins the_spec_word.Long = refl
word_begins the_spec_word.Signed = refl
word_begins the_spec_word.Unsigned = refl
word_begins the_spec_word.Bool = refl

pub name_begins : (names : Names) (x : Name) → is_type names x ≡ true → spec_kind names (kind.Identifier x) ≡ spec_named x
name_begins names x e = rw e refl

module _ (names : Names) (inner : Inner) (d : ℕ) where
  -- a list of members, or of constants, is read back
  abbrev pub MembersAgain : Type 0
  MembersAgain = (m : MemberTree Spot) (ms : MemberTrees Spot) (ts r : List Token) → Reads (outlines.member_list names (more_members m ms)) d ts r → member_list names inner d ts ≡ Ok (m ∷ listed.lines ms, r)

  abbrev pub ConstantsAgain : Type 0
  ConstantsAgain = (c : ConstantTree Spot) (cs : ConstantTrees Spot) (trailing : Bool) (ts r : List Token) → Reads (outlines.constant_list names (more_constants c cs) trailing) d ts r
      → constant_list names inner d ts ≡ Ok ((c ∷ listed.constants cs, trailing), r)

  members_begin : (m : MemberTree Spot) (ms : MemberTrees Spot) (ts r : List Token) → Reads (outlines.member_list names (more_members m ms)) d ts r → next_is the_punct.LeftBrace ts ≡ true
  members_begin m ms ts r y =
      let list = inside (outlines.member_list names (more_members m ms)) in
      reads_next (Unit {0}) the_punct.LeftBrace None (after list) d ts y.0 (inside_sinks true list d ts y.0 y.2)

  constants_begin : (c : ConstantTree Spot) (cs : ConstantTrees Spot) (trailing : Bool) (ts r : List Token) → Reads (outlines.constant_list names (more_constants c cs) trailing) d ts r → next_is the_punct.LeftBrace ts ≡ true
  constants_begin c cs trailing ts r y =
      let list = inside (outlines.constant_list names (more_constants c cs) trailing) in
      reads_next (Unit {0}) the_punct.LeftBrace None (after list) d ts y.0 (inside_sinks true list d ts y.0 y.2)

  -- ---- One specifier

  abbrev pub one_spec : Parser (SpecTree Spot)
  one_spec ts = spec_by names inner d (spec_start names ts) (spot ts) ts

  abbrev pub NoBrace : List Token → Type 0
  NoBrace us = next_is the_punct.LeftBrace us ≡ false

  begins : (k : TokenKind) (n : Spot) (h : Type 0) (i : Outline) (ts m r : List Token) (st : SpecStart) (q : SpecTree Spot) → Reads (token h k (Some n) i) d ts m → spec_kind names k ≡ st → spec_by names inner d st n ts ≡ Ok (q, r) → one_spec ts ≡ Ok (q, r)
  begins k n h i ts m r st q y is read =
      let t = next_token h k (Some n) i d ts m y in
      let starts : spec_start names ts ≡ st = at_token (spec_start names) (spec_kind names) (λ c us. refl) h k (Some n) i d ts m y ∙ is in
      ap (λ c. spec_by names inner d c (spot ts) ts) starts ∙ ap (λ c. spec_by names inner d st c ts) t.at ∙ read

  pub tag_none : (ts : List Token) → next_ident ts ≡ None → tag names inner d ts ≡ Ok (None, ts)
  tag_none ts e = ap (λ (z : Option Name). tag_by names inner d z ts) e

  pub tag_some : (x : Name) (ts q : List Token) → Reads (outlines.tag_of (Some x)) d ts q → tag names inner d ts ≡ Ok (Some x, q)
  tag_some x ts q y =
      let t = next_token (Unit {0}) (kind.Identifier x) None end d ts q y in
      ap (λ (z : Option Name). tag_by names inner d z ts) (at_token next_ident ident (λ c us. refl) (Unit {0}) (kind.Identifier x) None end d ts q y) ∙ rest_is (Some x) (skip ts) q t.after

  abbrev pub struct_behind : Spot → Option Name → Parser (SpecTree Spot)
  struct_behind n t = where_next (λ ts. next_is the_punct.LeftBrace ts || untagged names inner d t) ((λ ms. struct n t (gathered_members ms)) <$> member_list names inner d) (pure (struct n t no_members))

  abbrev pub enum_behind : Spot → Option Name → Parser (SpecTree Spot)
  enum_behind n t = where_next (λ ts. next_is the_punct.LeftBrace ts || untagged names inner d t) ((λ cs. enum n t (gathered_constants cs.0) cs.1) <$> constant_list names inner d) (pure (enum n t no_constants false))

  bare_struct : (n : Spot) (x : Name) (ts : List Token) → next_is the_punct.LeftBrace ts ≡ false → struct_behind n (Some x) ts ≡ Ok (struct n (Some x) no_members, ts)
  bare_struct n x ts e = branch_false (next_is the_punct.LeftBrace ts || false) ((λ ms. struct n (Some x) (gathered_members ms)) <$> member_list names inner d) (pure (struct n (Some x) no_members)) ts (or_from (next_is the_punct.LeftBrace ts) false e refl)

  bare_enum : (n : Spot) (x : Name) (ts : List Token) → next_is the_punct.LeftBrace ts ≡ false → enum_behind n (Some x) ts ≡ Ok (enum n (Some x) no_constants false, ts)
  bare_enum n x ts e =
      branch_false (next_is the_punct.LeftBrace ts || false) ((λ cs. enum n (Some x) (gathered_constants cs.0) cs.1) <$> constant_list names inner d) (pure (enum n (Some x) no_constants false)) ts (or_from (next_is the_punct.LeftBrace ts) false e refl)

  full_struct : MembersAgain → (n : Spot) (t : Option Name) (m : MemberTree Spot) (ms : MemberTrees Spot) (ts r : List Token) → Reads (outlines.member_list names (more_members m ms)) d ts r → struct_behind n t ts ≡ Ok (struct n t (more_members m ms), r)
  full_struct again n t m ms ts r y =
      branch_true (next_is the_punct.LeftBrace ts || untagged names inner d t) ((λ xs. struct n t (gathered_members xs)) <$> member_list names inner d) (pure (struct n t no_members)) ts
      (or_left (next_is the_punct.LeftBrace ts) (untagged names inner d t) (members_begin m ms ts r y))
      ∙ mapped (λ xs. struct n t (gathered_members xs)) (member_list names inner d ts) (m ∷ listed.lines ms) r (again m ms ts r y)
      ∙ ap (λ xs. done (struct n t (more_members m xs)) r) (listed.lines_back ms)

  full_enum : ConstantsAgain → (n : Spot) (t : Option Name) (c : ConstantTree Spot) (cs : ConstantTrees Spot) (trailing : Bool) (ts r : List Token) → Reads (outlines.constant_list names (more_constants c cs) trailing) d ts r
      → enum_behind n t ts ≡ Ok (enum n t (more_constants c cs) trailing, r)
  full_enum again n t c cs trailing ts r y =
      branch_true (next_is the_punct.LeftBrace ts || untagged names inner d t) ((λ xs. enum n t (gathered_constants xs.0) xs.1) <$> constant_list names inner d) (pure (enum n t no_constants false)) ts
      (or_left (next_is the_punct.LeftBrace ts) (untagged names inner d t) (constants_begin c cs trailing ts r y))
      ∙ mapped (λ xs. enum n t (gathered_constants xs.0) xs.1) (constant_list names inner d ts) (c ∷ listed.constants cs, trailing) r (again c cs trailing ts r y)
      ∙ ap (λ xs. done (enum n t (more_constants c xs) trailing) r) (listed.constants_back cs)

  -- with its tag, if it has one
  struct_again : MembersAgain → (n : Spot) (t : Option Name) (ms : MemberTrees Spot) (ts q m : List Token) → outlines.IsShaped (struct n t ms) → Reads (outlines.tag_of t) d ts q → Reads (outlines.member_list names ms) d q m → NoBrace m
      → and_then (tag names inner d ts) (struct_behind n) ≡ Ok (struct n t ms, m)
  struct_again again n None no_members ts q m shaped y z e = absurd shaped
  struct_again again n None (more_members l ls) ts q m shaped y z e =
      let here : Reads (outlines.member_list names (more_members l ls)) d ts m = subst (λ us. Reads (outlines.member_list names (more_members l ls)) d us m) (sym y) z in
      bound (struct_behind n) (tag names inner d ts) None ts (tag_none ts (punct_ident the_punct.LeftBrace ts (members_begin l ls ts m here))) ∙ full_struct again n None l ls ts m here
  struct_again again n (Some x) no_members ts q m shaped y z e =
      bound (struct_behind n) (tag names inner d ts) (Some x) q (tag_some x ts q y) ∙ bare_struct n x q (ap (next_is the_punct.LeftBrace) z ∙ e) ∙ rest_is (struct n (Some x) no_members) q m z
  struct_again again n (Some x) (more_members l ls) ts q m shaped y z e =
      bound (struct_behind n) (tag names inner d ts) (Some x) q (tag_some x ts q y) ∙ full_struct again n (Some x) l ls q m z

  enum_again : ConstantsAgain → (n : Spot) (t : Option Name) (cs : ConstantTrees Spot) (trailing : Bool) (ts q m : List Token) → outlines.IsShaped (enum n t cs trailing) → Reads (outlines.tag_of t) d ts q → Reads (outlines.constant_list names cs trailing) d q m → NoBrace m
      → and_then (tag names inner d ts) (enum_behind n) ≡ Ok (enum n t cs trailing, m)
  enum_again again n None no_constants trailing ts q m shaped y z e = absurd shaped
  enum_again again n None (more_constants c cs) trailing ts q m shaped y z e =
      let here : Reads (outlines.constant_list names (more_constants c cs) trailing) d ts m = subst (λ us. Reads (outlines.constant_list names (more_constants c cs) trailing) d us m) (sym y) z in
      bound (enum_behind n) (tag names inner d ts) None ts (tag_none ts (punct_ident the_punct.LeftBrace ts (constants_begin c cs trailing ts m here))) ∙ full_enum again n None c cs trailing ts m here
  enum_again again n (Some x) no_constants true ts q m shaped y z e = absurd shaped
  enum_again again n (Some x) no_constants false ts q m shaped y z e =
      bound (enum_behind n) (tag names inner d ts) (Some x) q (tag_some x ts q y) ∙ bare_enum n x q (ap (next_is the_punct.LeftBrace) z ∙ e) ∙ rest_is (enum n (Some x) no_constants false) q m z
  enum_again again n (Some x) (more_constants c cs) trailing ts q m shaped y z e =
      bound (enum_behind n) (tag names inner d ts) (Some x) q (tag_some x ts q y) ∙ full_enum again n (Some x) c cs trailing q m z

  pub spec_again : MembersAgain → ConstantsAgain → (q : SpecTree Spot) → Again one_spec (listed.SpecSpan names d) NoBrace q
  spec_again ma ca (word n v) ts r y e =
      let t = next_token (Unit {0}) (kind.Keyword (word_keyword v)) (Some n) end d ts r y in
      begins (kind.Keyword (word_keyword v)) n (Unit {0}) end ts r r (spec_word v) (word n v) y (word_begins v) (rest_is (word n v) (skip ts) r t.after)
  spec_again ma ca (named n x) ts r y e =
      let t = next_token (is_type names x ≡ true) (kind.Identifier x) (Some n) end d ts r y in
      begins (kind.Identifier x) n (is_type names x ≡ true) end ts r r (spec_named x) (named n x) y (name_begins names x t.holds) (rest_is (named n x) (skip ts) r t.after)
  spec_again ma ca (struct n tag_is ms) ts r y e =
      let rest = after (inside (outlines.spec names (struct n tag_is ms))) in
      let t = next_token (Unit {0}) (kind.Keyword the_keyword.Struct) (Some n) rest d ts y.0 y.2 in
      let z = t.after.3 in
      let list : Reads (outlines.member_list names ms) d t.after.0 r = subst (Reads (outlines.member_list names ms) d t.after.0) (z.3 ∙ y.3) z.2 in
      begins (kind.Keyword the_keyword.Struct) n (Unit {0}) rest ts y.0 r spec_struct (struct n tag_is ms) y.2 refl (struct_again ma n tag_is ms (skip ts) t.after.0 r y.1 t.after.2 list e)
  spec_again ma ca (enum n tag_is cs trailing) ts r y e =
      let rest = after (inside (outlines.spec names (enum n tag_is cs trailing))) in
      let t = next_token (Unit {0}) (kind.Keyword the_keyword.Enum) (Some n) rest d ts y.0 y.2 in
      let z = t.after.3 in
      let list : Reads (outlines.constant_list names cs trailing) d t.after.0 r = subst (Reads (outlines.constant_list names cs trailing) d t.after.0) (z.3 ∙ y.3) z.2 in
      begins (kind.Keyword the_keyword.Enum) n (Unit {0}) rest ts y.0 r spec_enum (enum n tag_is cs trailing) y.2 refl (enum_again ca n tag_is cs trailing (skip ts) t.after.0 r y.1 t.after.2 list e)

  -- ---- All specifiers

  pub specs_again : MembersAgain → ConstantsAgain → (ss : SpecTrees Spot) (n : Spot) (ts r : List Token) → outlines.BeginAt ss n → Reads (outlines.specs names ss) d ts r → EndsSpecs names r → specs names inner d ts ≡ Ok (ss, r)
  specs_again ma ca no_specs n ts r b y e = absurd b
  specs_again ma ca (more_specs q ss) n ts r b y e =
      let all : repeated (starts_spec names) one_spec ts ≡ Ok (q ∷ listed.specs ss, r) =
      repeated_again one_spec (listed.SpecSpan names d) NoBrace (spec_again ma ca) (listed.spec_shorter names d) (starts_spec names) (λ us. spec_not names the_punct.LeftBrace us) (q ∷ listed.specs ss) ts r
      (listed.spec_list names d q ss ts r y) e.no_spec e.no_brace in
      mapped gathered_specs (repeated (starts_spec names) one_spec ts) (q ∷ listed.specs ss) r all ∙ ap (λ xs. done (more_specs q xs) r) (listed.specs_back ss)
