-- Lists of members and of constants that are read are there.
use Rattle.std.proofs.Common.{◌≡◌, refl, ℕ, suc, Bool, true, false, List, [], ◌∷◌, Some, None, Ok, Err, arith, sym, subst, inl, inr, ◌==◌}
use Rattle.cc_base.specs.declared.place.Spot.{Spot}
use Rattle.cc_lex.specs.declared.token.Token.{Token}
use Rattle.cc_lex.specs.declared.punct.Punct.TheVariants as the_punct
use Rattle.cc_tree.specs.Trees.{SpecTrees, ExprOption, no_expr, an_expr, MemberTree, members, ConstantTree, constant, DeclTree}
use Rattle.cc_tree.specs.Views.{gathered_members, gathered_constants, gathered_declarators}
use Rattle.cc_grammar.specs.Names.{Names}
use Rattle.cc_grammar.specs.Outline.{Outline, end, ◌▸◌}
use Rattle.cc_grammar.specs.Outlines as outlines
use Rattle.cc_grammar.specs.Classes.{next_is, skip, spot}
use Rattle.cc_grammar.specs.Outcomes.{Parser, take, ◌>>=◌, ◌>>◌, pure, ◌<$>◌, refuse}
use Rattle.cc_grammar.specs.Reading as reader
use Rattle.cc_grammar.specs.Reading.{Inner, no_inner, id, skipping, with_name, separated, repeated, enclosed}
use Rattle.cc_parse_laws.proofs.Spans.{Reads}
use Rattle.cc_parse_laws.proofs.Steps.{bind_ok, map_ok, ok_is, branched, next_reads, take_ok}
use Rattle.cc_parse_laws.proofs.NextTokens.{take_last, id_reads}
use Rattle.cc_parse_laws.proofs.Lists.{Span, Others, Separated, separated_sound, Enclosed, enclosed_sound, Following, Repeated, repeated_sound}
use Rattle.cc_parse_laws.proofs.Inner.{ReadsDeclarator, SoundInner}
use Rattle.cc_parse_laws.proofs.SoundSpecifiers.{HasMembers, HasConstants, MembersSound, ConstantsSound}

-- items with commas between them, then a last comma or none, and the brace
pub enclosed_ends : {A : Type 0} (P : Span A) (xs : List A) (last : Bool) (d : ℕ) (ts r : List Token) → Enclosed P xs last ts r
    → (m : List Token) × Separated P xs ts m × Reads (outlines.within (outlines.trailing_comma last) ▸ outlines.punct the_punct.RightBrace ▸ end) d m r
enclosed_ends P xs true d ts r x = (x.0, x.1, (skip x.0, tt, next_reads the_punct.Comma None end d x.0 (skip x.0) x.2 tt refl, next_reads the_punct.RightBrace None end d (skip x.0) r x.3 tt x.4))
enclosed_ends P xs false d ts r x = (x.0, x.1, (x.0, tt, refl, next_reads the_punct.RightBrace None end d x.0 r x.2 tt x.3))

module _ (names : Names) (inner : Inner) (d : ℕ) (good : SoundInner names inner d) where
  -- ---- Members

  abbrev pub Named : DeclTree Spot → List Token → List Token → Type 0
  Named f ts r = (outlines.is_named f ≡ true) × ReadsDeclarator names d f ts r

  other_declarators : (fs : List (DeclTree Spot)) (ts r : List Token) → Others Named fs ts r → Reads (outlines.more_of_them names (gathered_declarators fs)) d ts r
  other_declarators [] ts r x = x
  other_declarators (f ∷ fs) ts r x =
      next_reads the_punct.Comma None (outlines.named_one f (outlines.declarator names f) ▸ outlines.within (outlines.more_of_them names (gathered_declarators fs)) ▸ end) d ts r x.1 tt (x.0, x.2.0, x.2.1, (r, tt, other_declarators fs x.0 r x.3, refl))

  pub some_declarators : (fs : List (DeclTree Spot)) (ts r : List Token) → Separated Named fs ts r → outlines.HasDeclarators (gathered_declarators fs) × Reads (outlines.declarators names (gathered_declarators fs)) d ts r
  some_declarators [] ts r x = absurd x
  some_declarators (f ∷ fs) ts r x = (tt, (x.0, x.1.0, x.1.1, (r, tt, other_declarators fs x.0 r x.2, refl)))

  abbrev pub Line : MemberTree Spot → List Token → List Token → Type 0
  Line m ts r = Reads (outlines.member_line names m) d ts r

  line_reads : (n : Spot) (ss : SpecTrees Spot) (fs : List (DeclTree Spot)) (ts m u r : List Token) → outlines.BeginAt ss n → Reads (outlines.specs names ss) d ts m → Separated Named fs m u → Reads (outlines.punct the_punct.Semicolon ▸ end) d u r
      → Line (members n ss (gathered_declarators fs)) ts r
  line_reads n ss fs ts m u r b x y z =
      let v = some_declarators fs m u y in
      (r, b, (m, tt, x, (u, v.0, v.1, z)), refl)

  pub member_line_sound : (ts : List Token) (x : MemberTree Spot × List Token) → reader.member_line names inner (suc d) ts ≡ Ok x → Line x.0 ts x.1
  member_line_sound ts x e =
      let n = spot ts in
      let ss = bind_ok (inner.specs ts) (λ ss. separated (inner.declarator with_name) >>= (λ fs. take the_punct.Semicolon >> pure (members n ss (gathered_declarators fs)))) x e in
      let fs = bind_ok (separated (inner.declarator with_name) ss.0.1) (λ fs. take the_punct.Semicolon >> pure (members n ss.0.0 (gathered_declarators fs))) x ss.2 in
      let c = map_ok (take the_punct.Semicolon fs.0.1) (λ z. members n ss.0.0 (gathered_declarators fs.0.0)) x fs.2 in
      let u = good.specs ts ss.0 ss.1 in
      let v = separated_sound (inner.declarator with_name) Named (good.declarator with_name) ss.0.1 fs.0 fs.1 in
      subst (λ (y : MemberTree Spot × List Token). Line y.0 ts y.1) {x = (members n ss.0.0 (gathered_declarators fs.0.0), c.0.1)} c.2
      (line_reads n ss.0.0 fs.0.0 ts ss.0.1 fs.0.1 c.0.1 u.0 u.1 v (take_last the_punct.Semicolon d fs.0.1 c.0 c.1))

  pub other_lines : (more : List Token → Bool) (ms : List (MemberTree Spot)) (ts r : List Token) → Following more Line ms ts r → Reads (outlines.member_lines names (gathered_members ms)) d ts r
  other_lines more [] ts r x = x
  other_lines more (m ∷ ms) ts r x = (x.0, tt, x.2, (r, tt, other_lines more ms x.0 r x.3, refl))

  -- between its braces
  lines_in_braces : (more : List Token → Bool) (ms : List (MemberTree Spot)) (ts m r : List Token) → next_is the_punct.LeftBrace ts ≡ true → Repeated more Line ms (skip ts) m → Reads (outlines.punct the_punct.RightBrace ▸ end) d m r
      → HasMembers (gathered_members ms) × Reads (outlines.member_list names (gathered_members ms)) (suc d) ts r
  lines_in_braces more [] ts m r a x z = absurd x
  lines_in_braces more (y ∷ ys) ts m r a x z =
      let inside : Outline = outlines.within (outlines.member_line names y) ▸ outlines.within (outlines.member_lines names (gathered_members ys)) ▸ outlines.punct the_punct.RightBrace ▸ end in
      (tt, (r, tt, next_reads the_punct.LeftBrace None inside d ts r a tt (x.0, tt, x.1, (m, tt, other_lines more ys x.0 m x.2, z)), refl))

  pub member_list_sound : MembersSound names inner (suc d)
  member_list_sound ts x e =
      let more : List Token → Bool = reader.goes_on_members names inner (suc d) in
      let line : Parser (MemberTree Spot) = reader.member_line names inner (suc d) in
      elim (branched (suc d == 0) refuse (take the_punct.LeftBrace >> repeated more line >>= (λ ms. take the_punct.RightBrace >> pure ms)) ts (Ok x) e) [
        | inl c ↦ absurd (let no : Err ts ≡ Ok x = c.1 in cc)
        | inr c ↦
            let ms = bind_ok ((take the_punct.LeftBrace >> repeated more line) ts) (λ ms. take the_punct.RightBrace >> pure ms) x c.1 in
            let a = bind_ok (take the_punct.LeftBrace ts) (λ z. repeated more line) ms.0 ms.1 in
            let b = map_ok (take the_punct.RightBrace ms.0.1) (λ z. ms.0.0) x ms.2 in
            let t = take_ok the_punct.LeftBrace ts a.0 a.1 in
            let s = repeated_sound more line Line member_line_sound a.0.1 ms.0 a.2 in
            subst (λ (y : List (MemberTree Spot) × List Token). HasMembers (gathered_members y.0) × Reads (outlines.member_list names (gathered_members y.0)) (suc d) ts y.1) {x = (ms.0.0, b.0.1)} b.2
            (lines_in_braces more ms.0.0 ts ms.0.1 b.0.1 t.0 (subst (λ us. Repeated more Line ms.0.0 us ms.0.1) (sym t.1) s) (take_last the_punct.RightBrace d ms.0.1 b.0 b.1))
      ]

  -- ---- Constants

  constant_value_sound : (ts : List Token) (x : ExprOption Spot × List Token) → reader.constant_value names inner (suc d) ts ≡ Ok x → Reads (outlines.constant_value names x.0) d ts x.1
  constant_value_sound ts x e =
      elim (branched (next_is the_punct.Equal ts) (skipping (an_expr <$> inner.expr 3)) (pure no_expr) ts (Ok x) e) [
        | inl c ↦
            let m = map_ok (inner.expr 3 (skip ts)) an_expr x c.1 in
            let v = good.expr 3 (omega arith) (skip ts) m.0 m.1 in
            subst (λ (y : ExprOption Spot × List Token). Reads (outlines.constant_value names y.0) d ts y.1) m.2
            (next_reads the_punct.Equal None (outlines.operand 3 m.0.0 (outlines.expr names m.0.0) ▸ end) d ts m.0.1 c.0 tt (m.0.1, v.0, v.1, refl))
        | inr c ↦ subst (λ (y : ExprOption Spot × List Token). Reads (outlines.constant_value names y.0) d ts y.1) (ok_is (no_expr, ts) x c.1) refl
      ]

  abbrev pub One : ConstantTree Spot → List Token → List Token → Type 0
  One c ts r = Reads (outlines.constant_of names c) d ts r

  pub one_constant_sound : (ts : List Token) (x : ConstantTree Spot × List Token) → reader.one_constant names inner (suc d) ts ≡ Ok x → One x.0 ts x.1
  one_constant_sound ts x e =
      let y = bind_ok (id names ts) (λ y. constant (spot ts) y <$> reader.constant_value names inner (suc d)) x e in
      let v = map_ok (reader.constant_value names inner (suc d) y.0.1) (constant (spot ts) y.0.0) x y.2 in
      let u = constant_value_sound y.0.1 v.0 v.1 in
      subst (λ (z : ConstantTree Spot × List Token). One z.0 ts z.1) {x = (constant (spot ts) y.0.0 v.0.0, v.0.1)} v.2
      (id_reads names (Some (spot ts)) (outlines.within (outlines.constant_value names v.0.0) ▸ end) d ts v.0.1 y.0 y.1 refl (v.0.1, tt, u, refl))

  pub other_constants : (cs : List (ConstantTree Spot)) (ts r : List Token) → Others One cs ts r → Reads (outlines.more_constants_of names (gathered_constants cs)) d ts r
  other_constants [] ts r x = x
  other_constants (c ∷ cs) ts r x =
      next_reads the_punct.Comma None (outlines.within (outlines.constant_of names c) ▸ outlines.within (outlines.more_constants_of names (gathered_constants cs)) ▸ end) d ts r x.1 tt (x.0, tt, x.2, (r, tt, other_constants cs x.0 r x.3, refl))

  -- between its braces
  constants_in_braces : (cs : List (ConstantTree Spot)) (last : Bool) (ts m r : List Token) → next_is the_punct.LeftBrace ts ≡ true → Separated One cs (skip ts) m → Reads (outlines.within (outlines.trailing_comma last) ▸ outlines.punct the_punct.RightBrace ▸ end) d m r
      → HasConstants (gathered_constants cs) × Reads (outlines.constant_list names (gathered_constants cs) last) (suc d) ts r
  constants_in_braces [] last ts m r a x z = absurd x
  constants_in_braces (c ∷ cs) last ts m r a x z =
      let inside : Outline = outlines.within (outlines.constant_of names c) ▸ outlines.within (outlines.more_constants_of names (gathered_constants cs)) ▸ outlines.within (outlines.trailing_comma last) ▸ outlines.punct the_punct.RightBrace ▸ end in
      (tt, (r, tt, next_reads the_punct.LeftBrace None inside d ts r a tt (x.0, tt, x.1, (m, tt, other_constants cs x.0 m x.2, z)), refl))

  pub constant_list_sound : ConstantsSound names inner (suc d)
  constant_list_sound ts x e =
      elim (branched (suc d == 0) refuse (enclosed (reader.one_constant names inner (suc d))) ts (Ok x) e) [
        | inl c ↦ absurd (let no : Err ts ≡ Ok x = c.1 in cc)
        | inr c ↦
            let s = enclosed_sound (reader.one_constant names inner (suc d)) One one_constant_sound ts x c.1 in
            let q = enclosed_ends One x.0.0 x.0.1 d (skip ts) x.1 s.1 in
            constants_in_braces x.0.0 x.0.1 ts q.0 x.1 s.0 q.1 q.2
      ]

-- at depth 0 there are none
pub no_member_list : (names : Names) → MembersSound names no_inner 0
no_member_list names ts x e = absurd cc

pub no_constant_list : (names : Names) → ConstantsSound names no_inner 0
no_constant_list names ts x e = absurd cc
