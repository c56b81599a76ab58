-- Specifiers and their lists at which reading fails are begun.
use Rattle.std.proofs.Common.{◌≡◌, refl, ℕ, suc, Bool, true, false, List, [], ◌∷◌, length, Option, Some, None, Err, arith, sym, ap, subst, inl, inr, ◌||◌, ◌==◌}
use Rattle.cc_base.specs.declared.place.Spot.{Spot}
use Rattle.cc_lex.specs.declared.token.Token.{Token}
use Rattle.cc_lex.specs.declared.token.TokenKind.{TokenKind}
use Rattle.cc_lex.specs.declared.punct.Punct.TheVariants as the_punct
use Rattle.cc_tree.specs.Trees.{Name, no_expr, an_expr, SpecTree, word, struct, enum, SpecTrees, MemberTree, members, ConstantTree, constant, DeclTree, declared, no_declarators}
use Rattle.cc_tree.specs.declared.operator.SpecWord.TheVariants as the_spec_word
use Rattle.cc_tree.specs.Views.{gathered_specs, gathered_members, gathered_constants, gathered_declarators}
use Rattle.cc_grammar.specs.Names.{Names}
use Rattle.cc_grammar.specs.Outline.{Outline, end, token}
use Rattle.cc_grammar.specs.Outlines as outlines
use Rattle.cc_grammar.specs.Classes.{next_is, next_ident, skip, spot, starts_spec, spec_start, SpecStart, spec_word, spec_struct, spec_enum, spec_named, no_spec}
use Rattle.cc_grammar.specs.Outcomes.{Parser, and_then, take}
use Rattle.cc_grammar.specs.Reading as reader
use Rattle.cc_grammar.specs.Reading.{Inner, no_inner, Mode, with_name, id, separated, repeated, enclosed}
use Rattle.cc_parse_laws.proofs.Steps.{bind_ok, take_ok}
use Rattle.cc_parse_laws.proofs.NextTokens.{spec_token, spec_next, id_reads}
use Rattle.cc_parse_laws.proofs.Lists.{Repeated, separated_sound, repeated_sound}
use Rattle.cc_parse_laws.proofs.Inner.{SoundInner}
use Rattle.cc_parse_laws.proofs.SoundSpecifiers.{HasMembers, HasConstants, MembersSound, ConstantsSound, struct_with_members, enum_with_constants, tag_sound, spec_by_sound, SpecAt}
use Rattle.cc_parse_laws.proofs.SoundLists.{Named, some_declarators, Line, member_line_sound, other_lines, One, one_constant_sound}
use Rattle.cc_parse_places.proofs.Begun.{Begun, Part, at, token_then, token_read, punct_then, part_in, part_past, part_of, within_in, within_past}
use Rattle.cc_parse_places.proofs.Failures.{err_is, bind_err, map_err, branch_err, take_bind, until_err, id_err}
use Rattle.cc_parse_places.proofs.BegunTypes.{BegunInner, Fails, OthersBegun, SomeBegun, BracedBegun, FollowingBegun, RepeatedBegun, separated_fails, enclosed_fails, repeated_by_fails, some_spec}

module _ (names : Names) (inner : Inner) (d : ℕ) (good : SoundInner names inner d) (fails : BegunInner names inner d) where
  -- ---- Members

  abbrev NamedBegun : DeclTree Spot → List Token → List Token → Type 0
  NamedBegun f ts m = (outlines.is_named f ≡ true) × Part (outlines.is_written f) (outlines.declarator names f) d ts m

  named_fails : Fails (inner.declarator with_name) NamedBegun
  named_fails ts m e = let q = fails.declarator with_name ts m e in (q.0, (q.1, q.2))

  no_named : (ts : List Token) → (f : DeclTree Spot) × NamedBegun f ts ts
  no_named ts = (declared (spot ts) [], (refl, inl refl))

  others_begun : (fs : List (DeclTree Spot)) (ts m : List Token) → OthersBegun (Named names inner d good) NamedBegun fs ts m → Begun (outlines.more_of_them names (gathered_declarators fs)) d ts m
  others_begun [] ts m x = at x
  others_begun (f ∷ fs) ts m (c, inl x) = punct_then c tt (part_of x.0 x.1)
  others_begun (f ∷ fs) ts m (c, inr x) = punct_then c tt (part_past {c = outlines.is_written f} x.0 x.1.0 x.1.1 (within_in (others_begun fs x.0 m x.2)))

  some_begun : (fs : List (DeclTree Spot)) (ts m : List Token) → SomeBegun (Named names inner d good) NamedBegun fs ts m → outlines.HasDeclarators (gathered_declarators fs) × Begun (outlines.declarators names (gathered_declarators fs)) d ts m
  some_begun [] ts m x = absurd x
  some_begun (f ∷ fs) ts m (inl x) = (tt, part_of x.0 x.1)
  some_begun (f ∷ fs) ts m (inr x) = (tt, part_past {c = outlines.is_written f} x.0 x.1.0 x.1.1 (within_in (others_begun fs x.0 m x.2)))

  abbrev LineBegun : MemberTree Spot → List Token → List Token → Type 0
  LineBegun x ts m = Begun (outlines.member_line names x) d ts m

  line_fails : Fails (reader.member_line names inner (suc d)) LineBegun
  line_fails ts m e =
      let n = spot ts in
      bind_err (inner.specs ts) _ e
      (λ f. let s = fails.specs ts m f in (members n s.0 no_declarators, part_in {c = false} s.1 (within_in s.2)))
      (λ y ok f. let s = good.specs ts y ok in bind_err (separated (inner.declarator with_name) y.1) _ f
      (λ g.
      let q = separated_fails (inner.declarator with_name) (Named names inner d good) NamedBegun no_named (good.declarator with_name) named_fails y.1 m g in
      let v = some_begun q.0 y.1 m q.1 in
      (members n y.0 (gathered_declarators q.0), part_in {c = false} s.0 (within_past y.1 s.1 (part_in {c = false} v.0 v.1))))
      (λ z done g.
      let v = some_declarators names inner d good z.0 y.1 z.1 (separated_sound (inner.declarator with_name) (Named names inner d good) (good.declarator with_name) y.1 z done) in
      (members n y.0 (gathered_declarators z.0), part_in {c = false} s.0 (within_past y.1 s.1 (part_past {c = false} z.1 v.0 v.1 (at (until_err the_punct.Semicolon (members n y.0 (gathered_declarators z.0)) z.1 g)))))))

  no_line : (ts : List Token) → (x : MemberTree Spot) × LineBegun x ts ts
  no_line ts = (members (spot ts) (some_spec (spot ts)) no_declarators, at refl)

  lines_begun : (ms : List (MemberTree Spot)) (ts m : List Token) → FollowingBegun (Line names inner d good) LineBegun ms ts m → Begun (outlines.member_lines names (gathered_members ms)) d ts m
  lines_begun [] ts m x = at x
  lines_begun (y ∷ ys) ts m (inl x) = within_in x
  lines_begun (y ∷ ys) ts m (inr x) = within_past x.0 x.1 (within_in (lines_begun ys x.0 m x.2))

  abbrev MembersBegun : List (MemberTree Spot) → List Token → List Token → Type 0
  MembersBegun ms ts m = HasMembers (gathered_members ms) × Begun (outlines.member_list names (gathered_members ms)) (suc d) ts m

  in_braces : (ms : List (MemberTree Spot)) (ts m : List Token) → next_is the_punct.LeftBrace ts ≡ true → RepeatedBegun (Line names inner d good) LineBegun ms (skip ts) m → MembersBegun ms ts m
  in_braces [] ts m b x = absurd x
  in_braces (y ∷ ys) ts m b (inl x) = (tt, part_in {c = true} tt (punct_then b tt (within_in x)))
  in_braces (y ∷ ys) ts m b (inr x) = (tt, part_in {c = true} tt (punct_then b tt (within_past x.0 x.1 (within_in (lines_begun ys x.0 m x.2)))))

  unclosed : (more : List Token → Bool) (ms : List (MemberTree Spot)) (ts u m : List Token) → next_is the_punct.LeftBrace ts ≡ true → Repeated more (Line names inner d good) ms (skip ts) u → u ≡ m → MembersBegun ms ts m
  unclosed more [] ts u m b x e = absurd x
  unclosed more (y ∷ ys) ts u m b x e = (tt, part_in {c = true} tt (punct_then b tt (within_past x.0 x.1 (within_past u (other_lines names inner d good more ys x.0 u x.2) (at e)))))

  no_members_there : (ts m : List Token) → ts ≡ m → (ms : List (MemberTree Spot)) × MembersBegun ms ts m
  no_members_there ts m e = let x = no_line ts in (x.0 ∷ [], (tt, at e))

  pub members_fail : Fails (reader.member_list names inner (suc d)) MembersBegun
  members_fail ts m e =
      let more : List Token → Bool = reader.goes_on_members names inner (suc d) in
      let line : Parser (MemberTree Spot) = reader.member_line names inner (suc d) in
      branch_err (suc d == 0) _ _ ts e
      (λ c f. no_members_there ts m (err_is {A = List (MemberTree Spot)} f))
      (λ c f. bind_err (and_then (take the_punct.LeftBrace ts) (λ z. repeated more line)) _ f
      (λ g. take_bind the_punct.LeftBrace ts _ g
      (λ h. no_members_there ts m h)
      (λ b h.
      let q = repeated_by_fails more line (Line names inner d good) LineBegun no_line (member_line_sound names inner d good) line_fails (length (skip ts)) (skip ts) m h in
      (q.0, in_braces q.0 ts m b q.1)))
      (λ y ok g.
      let a = bind_ok (take the_punct.LeftBrace ts) (λ z. repeated more line) y ok in
      let t = take_ok the_punct.LeftBrace ts a.0 a.1 in
      let s = repeated_sound more line (Line names inner d good) (member_line_sound names inner d good) a.0.1 y a.2 in
      (y.0, unclosed more y.0 ts y.1 m t.0 (subst (λ us. Repeated more (Line names inner d good) y.0 us y.1) (sym t.1) s) (until_err the_punct.RightBrace y.0 y.1 g))))

  -- ---- Constants

  value_fails : Fails (reader.constant_value names inner (suc d)) (λ x ts m. Begun (outlines.constant_value names x) d ts m)
  value_fails ts m e =
      branch_err (next_is the_punct.Equal ts) _ _ ts e
      (λ c f. let q = fails.expr 3 (omega arith) (omega arith) (skip ts) m (map_err _ _ f) in (an_expr q.0, punct_then c tt (part_of q.1 q.2)))
      (λ c f. absurd cc)

  abbrev OneBegun : ConstantTree Spot → List Token → List Token → Type 0
  OneBegun c ts m = Begun (outlines.constant_of names c) d ts m

  one_fails : Fails (reader.one_constant names inner (suc d)) OneBegun
  one_fails ts m e =
      bind_err (id names ts) _ e
      (λ f. (constant (spot ts) [] no_expr, at (id_err names ts f)))
      (λ y ok f.
      let q = value_fails y.1 m (map_err _ _ f) in
      (constant (spot ts) y.0 q.0, token_read y.1 (id_reads names (Some (spot ts)) end d ts y.1 y ok refl refl) (within_in q.1)))

  no_one : (ts : List Token) → (c : ConstantTree Spot) × OneBegun c ts ts
  no_one ts = (constant (spot ts) [] no_expr, at refl)

  other_ones : (cs : List (ConstantTree Spot)) (ts m : List Token) → OthersBegun (One names inner d good) OneBegun cs ts m → Begun (outlines.more_constants_of names (gathered_constants cs)) d ts m
  other_ones [] ts m x = at x
  other_ones (c ∷ cs) ts m (b, inl x) = punct_then b tt (within_in x)
  other_ones (c ∷ cs) ts m (b, inr x) = punct_then b tt (within_past x.0 x.1 (within_in (other_ones cs x.0 m x.2)))

  abbrev ConstantsBegun : List (ConstantTree Spot) × Bool → List Token → List Token → Type 0
  ConstantsBegun cs ts m = HasConstants (gathered_constants cs.0) × Begun (outlines.constant_list names (gathered_constants cs.0) cs.1) (suc d) ts m

  ones_begun : (cs : List (ConstantTree Spot)) (last : Bool) (ts m : List Token) → BracedBegun (One names inner d good) OneBegun cs ts m → ConstantsBegun (cs, last) ts m
  ones_begun [] last ts m x = absurd x
  ones_begun (c ∷ cs) last ts m (inl e) = (tt, at e)
  ones_begun (c ∷ cs) last ts m (inr (b, inl x)) = (tt, part_in {c = true} tt (punct_then b tt (within_in x)))
  ones_begun (c ∷ cs) last ts m (inr (b, inr x)) = (tt, part_in {c = true} tt (punct_then b tt (within_past x.0 x.1 (within_in (other_ones cs x.0 m x.2)))))

  pub constants_fail : Fails (reader.constant_list names inner (suc d)) ConstantsBegun
  constants_fail ts m e =
      branch_err (suc d == 0) _ _ ts e
      (λ c f. (((no_one ts).0 ∷ [], false), (tt, at (err_is {A = List (ConstantTree Spot) × Bool} f))))
      (λ c f.
      let q = enclosed_fails (reader.one_constant names inner (suc d)) (One names inner d good) OneBegun no_one (one_constant_sound names inner d good) one_fails ts m f in
      (q.0, ones_begun q.0.0 q.0.1 ts m q.1))

-- ---- Specifiers

-- lists in braces at which reading fails are begun
abbrev pub MembersFail : Names → Inner → ℕ → Type 0
MembersFail names inner d = Fails (reader.member_list names inner d) (λ ms ts m. HasMembers (gathered_members ms) × Begun (outlines.member_list names (gathered_members ms)) d ts m)

abbrev pub ConstantsFail : Names → Inner → ℕ → Type 0
ConstantsFail names inner d = Fails (reader.constant_list names inner d) (λ cs ts m. HasConstants (gathered_constants cs.0) × Begun (outlines.constant_list names (gathered_constants cs.0) cs.1) d ts m)

module _ (names : Names) (inner : Inner) (d : ℕ) (members_sound : MembersSound names inner d) (constants_sound : ConstantsSound names inner d) (members_fail : MembersFail names inner d) (constants_fail : ConstantsFail names inner d) where
  abbrev SpecBegun : SpecTree Spot → List Token → List Token → Type 0
  SpecBegun s ts m = (spot ts ≡ outlines.spec_spot s) × Begun (outlines.spec names s) d ts m

  opens : {h : Type 0} {i : Outline} (x : TokenKind) (ts m : List Token) → spec_token (spec_start names ts) ≡ Some x → h → Begun i d (skip ts) m → Begun (token h x (Some (spot ts)) i) d ts m
  opens x ts m e a y = token_then a (spec_next names x ts e) refl y

  tag_never : (ts m : List Token) → reader.tag names inner d ts ≡ Err m → ⊥
  tag_never ts m e = by (next_ident ts) e
    where
      by : (x : Option Name) → reader.tag_by names inner d x ts ≡ Err m → ⊥
      by None f = cc
      by (Some x) f = cc

  struct_fails : (ts m : List Token) → spec_start names ts ≡ spec_struct → reader.spec_by names inner d spec_struct (spot ts) ts ≡ Err m → (s : SpecTree Spot) × SpecBegun s ts m
  struct_fails ts m s e =
      let n = spot ts in
      bind_err (reader.tag names inner d (skip ts)) _ e
      (λ f. absurd (tag_never (skip ts) m f))
      (λ t ok f. branch_err (next_is the_punct.LeftBrace t.1 || reader.untagged names inner d t.0) _ _ t.1 f
      (λ c g.
      let q = members_fail t.1 m (map_err _ _ g) in
      let ms = gathered_members q.0 in
      let u = tag_sound names inner d members_sound constants_sound (skip ts) t ok in
      (struct n t.0 ms, (refl, part_in {c = false} (struct_with_members n t.0 ms q.1.0) (opens _ ts m (ap spec_token s) tt (within_past t.1 u (within_in q.1.1))))))
      (λ c g. absurd cc))

  enum_fails : (ts m : List Token) → spec_start names ts ≡ spec_enum → reader.spec_by names inner d spec_enum (spot ts) ts ≡ Err m → (s : SpecTree Spot) × SpecBegun s ts m
  enum_fails ts m s e =
      let n = spot ts in
      bind_err (reader.tag names inner d (skip ts)) _ e
      (λ f. absurd (tag_never (skip ts) m f))
      (λ t ok f. branch_err (next_is the_punct.LeftBrace t.1 || reader.untagged names inner d t.0) _ _ t.1 f
      (λ c g.
      let q = constants_fail t.1 m (map_err _ _ g) in
      let cs = gathered_constants q.0.0 in
      let u = tag_sound names inner d members_sound constants_sound (skip ts) t ok in
      (enum n t.0 cs q.0.1, (refl, part_in {c = false} (enum_with_constants n t.0 cs q.0.1 q.1.0) (opens _ ts m (ap spec_token s) tt (within_past t.1 u (within_in q.1.1))))))
      (λ c g. absurd cc))

  no_spec_there : (ts m : List Token) → ts ≡ m → (s : SpecTree Spot) × SpecBegun s ts m
  no_spec_there ts m e = (word (spot ts) the_spec_word.Int, (refl, at e))

  spec_fails : (s : SpecStart) (ts m : List Token) → spec_start names ts ≡ s → reader.spec_by names inner d s (spot ts) ts ≡ Err m → (x : SpecTree Spot) × SpecBegun x ts m
  spec_fails (spec_word k) ts m s e = absurd cc
  spec_fails (spec_named y) ts m s e = absurd cc
  spec_fails spec_struct ts m s e = struct_fails ts m s e
  spec_fails spec_enum ts m s e = enum_fails ts m s e
  spec_fails no_spec ts m s e = no_spec_there ts m (err_is {A = SpecTree Spot} e)

  abbrev There : SpecTree Spot → List Token → List Token → Type 0
  There = SpecAt names inner d members_sound constants_sound

  specs_begun : (ss : List (SpecTree Spot)) (ts m : List Token) → FollowingBegun There SpecBegun ss ts m → Begun (outlines.specs names (gathered_specs ss)) d ts m
  specs_begun [] ts m x = at x
  specs_begun (s ∷ ss) ts m (inl x) = within_in x.1
  specs_begun (s ∷ ss) ts m (inr x) = within_past x.0 x.1.1 (within_in (specs_begun ss x.0 m x.2))

  first_begun : (ss : List (SpecTree Spot)) (ts m : List Token) → RepeatedBegun There SpecBegun ss ts m → outlines.BeginAt (gathered_specs ss) (spot ts) × Begun (outlines.specs names (gathered_specs ss)) d ts m
  first_begun [] ts m x = absurd x
  first_begun (s ∷ ss) ts m (inl x) = (x.0, within_in x.1)
  first_begun (s ∷ ss) ts m (inr x) = (x.1.0, within_past x.0 x.1.1 (within_in (specs_begun ss x.0 m x.2)))

  pub specs_fail : (ts m : List Token) → reader.specs names inner d ts ≡ Err m → (ss : SpecTrees Spot) × outlines.BeginAt ss (spot ts) × Begun (outlines.specs names ss) d ts m
  specs_fail ts m e =
      let one : Parser (SpecTree Spot) = (λ us. reader.spec_by names inner d (spec_start names us) (spot us) us) in
      let q = repeated_by_fails (starts_spec names) one There SpecBegun (λ us. no_spec_there us us refl) (λ us y f. spec_by_sound names inner d members_sound constants_sound (spec_start names us) us y refl f) (λ us v f. spec_fails (spec_start names us) us v refl f) (length ts) ts m (map_err _ _ e) in
      let v = first_begun q.0 ts m q.1 in
      (gathered_specs q.0, v.0, v.1)
