-- Specifiers that are begun are taken.
use Rattle.std.proofs.Common.{◌≡◌, refl, ℕ, Bool, true, false, List, [], Option, Some, None, Ok, sym, ap, subst, ◌∙◌, inl, inr, ◌||◌}
use Rattle.cc_base.specs.declared.place.Spot.{Spot}
use Rattle.cc_lex.specs.declared.token.Token.{Token}
use Rattle.cc_lex.specs.declared.token.TokenKind.{TokenKind}
use Rattle.cc_lex.specs.declared.token.TokenKind.TheVariants as kind
use Rattle.cc_lex.specs.declared.keyword.Keyword.TheVariants as the_keyword
use Rattle.cc_lex.specs.declared.punct.Punct.TheVariants as the_punct
use Rattle.cc_tree.specs.Trees.{Name, SpecTree, word, named, struct, enum, SpecTrees, no_specs, more_specs, MemberTree, MemberTrees, no_members, more_members, ConstantTree, ConstantTrees, no_constants, more_constants}
use Rattle.cc_tree.specs.Views.{gathered_specs, gathered_members, gathered_constants}
use Rattle.cc_grammar.specs.Levels.{word_keyword}
use Rattle.cc_grammar.specs.Names.{Names, is_type}
use Rattle.cc_grammar.specs.Outline.{end, ◌▸◌}
use Rattle.cc_grammar.specs.Outlines as outlines
use Rattle.cc_grammar.specs.Classes.{next_is, skip, spot, starts_spec, spec_start, spec_kind, SpecStart, spec_struct, spec_enum}
use Rattle.cc_grammar.specs.Outcomes.{Parser, and_then, pure, ◌<$>◌}
use Rattle.cc_grammar.specs.Reading.{Inner, specs, spec_by, tag, untagged, member_list, constant_list, repeated}
use Rattle.std.proofs.lemmas.Bool.{or_left}
use Rattle.cc_parse_laws.proofs.Spans.{Reads}
use Rattle.cc_parse_laws.proofs.Steps.{branch_true}
use Rattle.cc_parse_laws.proofs.Peeks.{punct_ident}
use Rattle.cc_parse_laws.proofs.NextTokens.{NextKind, kind_reads}
use Rattle.cc_parse_laws.proofs.Firsts.{first_spec, spec_not}
use Rattle.cc_parse_laws.proofs.Climbs.{bound}
use Rattle.cc_parse_laws.proofs.Listed as listed
use Rattle.cc_parse_laws.proofs.CompleteSpecifiers.{MembersAgain, ConstantsAgain, one_spec, NoBrace, struct_behind, enum_behind, tag_none, tag_some, spec_again}
use Rattle.cc_parse_places.proofs.Begun.{Begun}
use Rattle.cc_parse_places.proofs.Spent.{Spent, spent_map, spent_is, HasNext, no_next, Within, token_elim, part_elim, last_within, begun_sinks, at_kind, next_kind_punct}
use Rattle.cc_parse_places.proofs.SpentLists.{FollowingCut, repeated_spent}
use Rattle.cc_parse_places.proofs.SpentTypes.{begun_spec}

-- What is begun of a list in braces is taken, and at the end of the text nothing is left.
pub record ListsSpent (names : Names) (inner : Inner) (d : ℕ) : Type 0 where
  pub members : (m : MemberTree Spot) (ms : MemberTrees Spot) (ts : List Token) → Begun (outlines.member_list names (more_members m ms)) d ts [] → Spent (member_list names inner d ts)
  pub no_members : Spent (member_list names inner d [])
  pub constants : (c : ConstantTree Spot) (cs : ConstantTrees Spot) (trailing : Bool) (ts : List Token) → Begun (outlines.constant_list names (more_constants c cs) trailing) d ts [] → Spent (constant_list names inner d ts)
  pub no_constants : Spent (constant_list names inner d [])

module _ (names : Names) (inner : Inner) (d : ℕ) (ma : MembersAgain names inner d) (ca : ConstantsAgain names inner d) (lists : ListsSpent names inner d) where
  abbrev OneTaken : List Token → Type 0
  OneTaken ts = Spent (spec_by names inner d (spec_start names ts) (spot ts) ts)

  spec_nil : (ts : List Token) → ts ≡ [] → OneTaken ts
  spec_nil ts e = subst OneTaken (sym e) refl

  starts_as : (x : TokenKind) (st : SpecStart) (ts : List Token) → spec_kind names x ≡ st → NextKind x ts → Spent (spec_by names inner d st (spot ts) ts) → OneTaken ts
  starts_as x st ts e next s = subst (λ c. Spent (spec_by names inner d c (spot ts) ts)) (sym (at_kind (spec_start names) (spec_kind names) (λ t us. refl) x ts next ∙ e)) s

  -- ---- struct

  struct_nil : (n : Spot) (t : Option Name) → Spent (struct_behind names inner d n t [])
  struct_nil n None = spent_map (member_list names inner d []) _ lists.no_members
  struct_nil n (Some x) = refl

  tag_nil : {A : Type 0} (f : Option Name → Parser A) (ts : List Token) → ts ≡ [] → ((t : Option Name) → Spent (f t [])) → Spent (and_then (tag names inner d ts) f)
  tag_nil f ts e s = subst (λ us. Spent (and_then (tag names inner d us) f)) (sym e) (s None)

  -- a tag that is begun is whole
  tag_taken : {A : Type 0} (f : Option Name → Parser A) (t : Option Name) (ts : List Token) → ((x : Option Name) → Spent (f x [])) → Within false (Unit {0}) (outlines.tag_of t) d ts → Spent (and_then (tag names inner d ts) f)
  tag_taken f t ts s (inl e) = tag_nil f ts e s
  tag_taken f None ts s (inr z) = let x = z.1 in tag_nil f ts x.cut s
  tag_taken f (Some x) ts s (inr z) =
      token_elim ts z.1 (λ e. tag_nil f ts e s) (λ u next st rest.
      spent_is _ _ (bound f (tag names inner d ts) (Some x) [] (tag_some names inner d x ts [] (kind_reads (Unit {0}) (kind.Identifier x) None end d ts [] next tt tt rest.cut))) (s (Some x)))

  tag_read : (t : Option Name) (ts m : List Token) → Reads (outlines.tag_of t) d ts m → next_is the_punct.LeftBrace m ≡ true → tag names inner d ts ≡ Ok (t, m)
  tag_read None ts m y e = tag_none names inner d ts (punct_ident the_punct.LeftBrace ts (ap (next_is the_punct.LeftBrace) y ∙ e)) ∙ ap (λ us. Ok (None, us)) y
  tag_read (Some x) ts m y e = tag_some names inner d x ts m y

  members_first : (m : MemberTree Spot) (ms : MemberTrees Spot) (ts : List Token) → HasNext ts → Begun (outlines.member_list names (more_members m ms)) d ts [] → next_is the_punct.LeftBrace ts ≡ true
  members_first m ms ts more x = by (last_within ts x)
    where
      by : Within true (Unit {0}) (outlines.punct the_punct.LeftBrace ▸ outlines.within (outlines.member_line names m) ▸ outlines.within (outlines.member_lines names ms) ▸ outlines.punct the_punct.RightBrace ▸ end) d ts → next_is the_punct.LeftBrace ts ≡ true
      by (inl e) = no_next ts more e
      by (inr z) = token_elim ts (begun_sinks true (outlines.punct the_punct.LeftBrace ▸ outlines.within (outlines.member_line names m) ▸ outlines.within (outlines.member_lines names ms) ▸ outlines.punct the_punct.RightBrace ▸ end) d ts [] z.1) (no_next ts more) (λ u next st rest. next_kind_punct the_punct.LeftBrace ts next)

  struct_list : (n : Spot) (t : Option Name) (ms : MemberTrees Spot) (ts m : List Token) → HasNext m → Reads (outlines.tag_of t) d ts m → Within false (Unit {0}) (outlines.member_list names ms) d m → Spent (and_then (tag names inner d ts) (struct_behind names inner d n))
  struct_list n t ms ts m more y (inl e) = no_next m more e
  struct_list n t no_members ts m more y (inr z) = let x = z.1 in no_next m more x.cut
  struct_list n t (more_members l ls) ts m more y (inr z) =
      let brace = members_first l ls m more z.1 in
      spent_is _ _ (bound (struct_behind names inner d n) (tag names inner d ts) t m (tag_read t ts m y brace)
      ∙ branch_true (next_is the_punct.LeftBrace m || untagged names inner d t) ((λ xs. struct n t (gathered_members xs)) <$> member_list names inner d) (pure (struct n t no_members)) m (or_left (next_is the_punct.LeftBrace m) (untagged names inner d t) brace))
      (spent_map (member_list names inner d m) _ (lists.members l ls m z.1))

  struct_spent : (n : Spot) (t : Option Name) (ms : MemberTrees Spot) (ts : List Token) → Begun (outlines.within (outlines.tag_of t) ▸ outlines.within (outlines.member_list names ms) ▸ end) d ts [] → Spent (and_then (tag names inner d ts) (struct_behind names inner d n))
  struct_spent n t ms ts x = part_elim ts x (tag_taken (struct_behind names inner d n) t ts (struct_nil n)) (λ m more u y rest. struct_list n t ms ts m more y (last_within m rest))

  -- ---- enum

  enum_nil : (n : Spot) (t : Option Name) → Spent (enum_behind names inner d n t [])
  enum_nil n None = spent_map (constant_list names inner d []) _ lists.no_constants
  enum_nil n (Some x) = refl

  constants_first : (c : ConstantTree Spot) (cs : ConstantTrees Spot) (trailing : Bool) (ts : List Token) → HasNext ts → Begun (outlines.constant_list names (more_constants c cs) trailing) d ts [] → next_is the_punct.LeftBrace ts ≡ true
  constants_first c cs trailing ts more x = by (last_within ts x)
    where
      by : Within true (Unit {0}) (outlines.punct the_punct.LeftBrace ▸ outlines.within (outlines.constant_of names c) ▸ outlines.within (outlines.more_constants_of names cs) ▸ outlines.within (outlines.trailing_comma trailing) ▸ outlines.punct the_punct.RightBrace ▸ end) d ts → next_is the_punct.LeftBrace ts ≡ true
      by (inl e) = no_next ts more e
      by (inr z) = token_elim ts (begun_sinks true (outlines.punct the_punct.LeftBrace ▸ outlines.within (outlines.constant_of names c) ▸ outlines.within (outlines.more_constants_of names cs) ▸ outlines.within (outlines.trailing_comma trailing) ▸ outlines.punct the_punct.RightBrace ▸ end) d ts [] z.1) (no_next ts more) (λ u next st rest. next_kind_punct the_punct.LeftBrace ts next)

  enum_list : (n : Spot) (t : Option Name) (cs : ConstantTrees Spot) (trailing : Bool) (ts m : List Token) → HasNext m → Reads (outlines.tag_of t) d ts m → Within false (Unit {0}) (outlines.constant_list names cs trailing) d m → Spent (and_then (tag names inner d ts) (enum_behind names inner d n))
  enum_list n t cs trailing ts m more y (inl e) = no_next m more e
  enum_list n t no_constants trailing ts m more y (inr z) = let x = z.1 in no_next m more x.cut
  enum_list n t (more_constants c cs) trailing ts m more y (inr z) =
      let brace = constants_first c cs trailing m more z.1 in
      spent_is _ _ (bound (enum_behind names inner d n) (tag names inner d ts) t m (tag_read t ts m y brace)
      ∙ branch_true (next_is the_punct.LeftBrace m || untagged names inner d t) ((λ xs. enum n t (gathered_constants xs.0) xs.1) <$> constant_list names inner d) (pure (enum n t no_constants false)) m (or_left (next_is the_punct.LeftBrace m) (untagged names inner d t) brace))
      (spent_map (constant_list names inner d m) _ (lists.constants c cs trailing m z.1))

  enum_spent : (n : Spot) (t : Option Name) (cs : ConstantTrees Spot) (trailing : Bool) (ts : List Token) → Begun (outlines.within (outlines.tag_of t) ▸ outlines.within (outlines.constant_list names cs trailing) ▸ end) d ts [] → Spent (and_then (tag names inner d ts) (enum_behind names inner d n))
  enum_spent n t cs trailing ts x = part_elim ts x (tag_taken (enum_behind names inner d n) t ts (enum_nil n)) (λ m more u y rest. enum_list n t cs trailing ts m more y (last_within m rest))

  -- ---- All specifiers

  abbrev SpecCut : SpecTree Spot → List Token → Type 0
  SpecCut q ts = Within false (Unit {0}) (outlines.spec names q) d ts

  whole : (q : SpecTree Spot) (ts : List Token) → Reads (outlines.spec names q) d ts [] → OneTaken ts
  whole q ts y = spent_is _ _ (spec_again names inner d ma ca q ts [] y refl) refl

  spec_spent : (q : SpecTree Spot) (ts : List Token) → SpecCut q ts → OneTaken ts
  spec_spent q ts (inl e) = spec_nil ts e
  spec_spent (word n v) ts (inr z) = token_elim ts z.1 (spec_nil ts) (λ h next st rest. whole (word n v) ts (kind_reads (Unit {0}) (kind.Keyword (word_keyword v)) (Some n) end d ts [] next tt st rest.cut))
  spec_spent (named n x) ts (inr z) = token_elim ts z.1 (spec_nil ts) (λ h next st rest. whole (named n x) ts (kind_reads (is_type names x ≡ true) (kind.Identifier x) (Some n) end d ts [] next h st rest.cut))
  spec_spent (struct n t ms) ts (inr z) = by (last_within ts z.1)
    where
      by : {h : Type 0} → Within false h (outlines.keyword_of n the_keyword.Struct ▸ outlines.within (outlines.tag_of t) ▸ outlines.within (outlines.member_list names ms) ▸ end) d ts → OneTaken ts
      by (inl e) = spec_nil ts e
      by (inr y) = token_elim ts y.1 (spec_nil ts) (λ u next st rest. starts_as (kind.Keyword the_keyword.Struct) spec_struct ts refl next (struct_spent (spot ts) t ms (skip ts) rest))
  spec_spent (enum n t cs trailing) ts (inr z) = by (last_within ts z.1)
    where
      by : {h : Type 0} → Within false h (outlines.keyword_of n the_keyword.Enum ▸ outlines.within (outlines.tag_of t) ▸ outlines.within (outlines.constant_list names cs trailing) ▸ end) d ts → OneTaken ts
      by (inl e) = spec_nil ts e
      by (inr y) = token_elim ts y.1 (spec_nil ts) (λ u next st rest. starts_as (kind.Keyword the_keyword.Enum) spec_enum ts refl next (enum_spent (spot ts) t cs trailing (skip ts) rest))

  following : (ss : SpecTrees Spot) (ts : List Token) → Within false (Unit {0}) (outlines.specs names ss) d ts → FollowingCut (listed.SpecSpan names d) SpecCut (listed.specs ss) ts
  following no_specs ts (inl e) = e
  following no_specs ts (inr z) = let x = z.1 in x.cut
  following (more_specs q ss) ts (inl e) = inl (inl e)
  following (more_specs q ss) ts (inr z) = part_elim ts z.1 (λ w. inl w) (λ m more u y rest. inr (m, more, y, following ss m (last_within m rest)))

  cut_begins : (q : SpecTree Spot) (ts : List Token) → HasNext ts → SpecCut q ts → starts_spec names ts ≡ true
  cut_begins q ts more (inl e) = no_next ts more e
  cut_begins q ts more (inr z) = begun_spec names q d ts more z.1

  pub specs_spent : (ss : SpecTrees Spot) (n : Spot) (ts : List Token) → outlines.BeginAt ss n → Begun (outlines.specs names ss) d ts [] → Spent (specs names inner d ts)
  specs_spent no_specs n ts b x = absurd b
  specs_spent (more_specs q ss) n ts b x =
      spent_map (repeated (starts_spec names) (one_spec names inner d) ts) gathered_specs
      (repeated_spent (starts_spec names) (one_spec names inner d) (listed.SpecSpan names d) SpecCut (NoBrace names inner d) (λ us. spec_not names the_punct.LeftBrace us) (spec_again names inner d ma ca) (listed.spec_shorter names d) spec_spent refl
      cut_begins (λ y us m z. first_spec names y d us m z) q (listed.specs ss) ts (following (more_specs q ss) ts (inr (tt, x))))
