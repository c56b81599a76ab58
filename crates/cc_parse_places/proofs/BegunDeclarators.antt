-- Declarators at which reading fails are begun.
use Rattle.std.proofs.Common.{◌≡◌, ◌<◌, ◌+◌, refl, ℕ, zero, suc, Bool, true, false, List, length, Ok, Err, arith, subst, ◌∙◌, inl, inr, nat_lt, ◌&&◌, ◌==◌}
use Rattle.std.proofs.lemmas.Bool.{and_parts, ltb-true}
use Rattle.cc_base.specs.declared.place.Spot.{Spot}
use Rattle.cc_lex.specs.declared.token.Token.{Token}
use Rattle.cc_lex.specs.declared.keyword.Keyword.TheVariants as the_keyword
use Rattle.cc_lex.specs.declared.punct.Punct.TheVariants as the_punct
use Rattle.cc_tree.specs.Trees.{an_expr, DeclTree, declared, nameless, pointer, array, function, grouped}
use Rattle.cc_tree.specs.Views.{gathered_types}
use Rattle.cc_tree.specs.Depth as depths
use Rattle.cc_grammar.specs.Names.{Names}
use Rattle.cc_grammar.specs.Outline.{Outline, end, part, ◌▸◌}
use Rattle.cc_grammar.specs.Outlines as outlines
use Rattle.cc_grammar.specs.Classes.{next_is, next_is_keyword, next_ident, skip, spot}
use Rattle.cc_grammar.specs.Outcomes.{and_then, pure, refuse, ◌<$>◌}
use Rattle.cc_grammar.specs.Reading as reader
use Rattle.cc_grammar.specs.Reading.{Inner, Mode, spot_or, opening, wants_name, takes_name, skipping, branch}
use Rattle.cc_parse_laws.proofs.Depths.{declarator_depth}
use Rattle.cc_parse_laws.proofs.Steps.{bind_ok, branched, ok_is}
use Rattle.cc_parse_laws.proofs.Inner.{ReadsDeclarator, Suits, SoundInner}
use Rattle.cc_parse_laws.proofs.SoundClimbing.{sinks}
use Rattle.cc_parse_laws.proofs.SoundDeclarators.{has_spot, suffix_stands, closes_over, opening_stands, suits_too, suits_pointer, suits_grouped, other_of, consts_by_sound, Direct, suffix_sound, direct_sound}
use Rattle.cc_parse_places.proofs.Begun.{Begun, Part, at, punct_then, part_in, part_past, part_of, within_in, within_past}
use Rattle.cc_parse_places.proofs.Failures.{err_is, bind_err, map_err, branch_err, until_err, id_err}
use Rattle.cc_parse_places.proofs.BegunTypes.{BegunInner, Fails, missing, missing_suits, parameters_fail}

-- stars are followed by `const` as often as it stands there
consts_never : (names : Names) (inner : Inner) (d turns : ℕ) (ts m : List Token) → reader.consts_by names inner d turns ts ≡ Err m → ⊥
consts_never names inner d zero ts m e = cc
consts_never names inner d (suc turns) ts m e =
    branch_err (next_is_keyword the_keyword.Const ts) (skipping ((λ c. c + 1) <$> reader.consts_by names inner d turns)) (pure 0) ts e
    (λ c f. consts_never names inner d turns (skip ts) m (map_err _ _ f))
    (λ c f. cc)

-- a part that is there only where it is written
written_part : {i : Outline} (names : Names) (d : ℕ) (f : DeclTree Spot) (ts m : List Token) → Part (outlines.is_written f) (outlines.declarator names f) d ts m → Begun (part (outlines.is_written f) (outlines.is_written f ≡ true) (outlines.declarator names f) i) d ts m
written_part names d nameless ts m (inl e) = at e
written_part names d nameless ts m (inr x) = at x.cut
written_part names d (declared n x) ts m q = part_of refl q
written_part names d (pointer n c f) ts m q = part_of refl q
written_part names d (array n f e) ts m q = part_of refl q
written_part names d (function n f ps) ts m q = part_of refl q
written_part names d (grouped n f) ts m q = part_of refl q

unwritten_reads : (names : Names) (d : ℕ) (f : DeclTree Spot) (ts m : List Token) → outlines.is_written f ≡ false → ReadsDeclarator names d f ts m → ts ≡ m
unwritten_reads names d nameless ts m e x = x
unwritten_reads names d (declared n y) ts m e x = absurd cc
unwritten_reads names d (pointer n c f) ts m e x = absurd cc
unwritten_reads names d (array n f y) ts m e x = absurd cc
unwritten_reads names d (function n f ps) ts m e x = absurd cc
unwritten_reads names d (grouped n f) ts m e x = absurd cc

-- a declarator, itself counted, begun
abbrev pub DeclaratorBegun : Names → ℕ → Mode → List Token → List Token → Type 0
DeclaratorBegun names d mode ts m = (f : DeclTree Spot) × Suits mode f × Part (outlines.is_written f) (outlines.declarator names f) d ts m

-- nothing of it is there
nothing_there : (names : Names) (d : ℕ) (mode : Mode) (ts m : List Token) → ts ≡ m → DeclaratorBegun names d mode ts m
nothing_there names d mode ts m e = (missing mode, missing_suits mode, inl e)

pub nothing_fails : (names : Names) (inner : Inner) (d e : ℕ) (mode : Mode) (ts m : List Token) → reader.nothing names inner d mode ts ≡ Err m → DeclaratorBegun names e mode ts m
nothing_fails names inner d e mode ts m f = branch_err (wants_name mode) _ _ ts f (λ c g. nothing_there names e mode ts m (err_is {A = DeclTree Spot} g)) (λ c g. absurd cc)

module _ (names : Names) (inner : Inner) (d : ℕ) (good : SoundInner names inner d) (fails : BegunInner names inner d) where
  -- ---- Suffixes

  array_length_fails : Fails (reader.array_length names inner (suc d)) (λ x ts m. Begun (outlines.within (outlines.length_of names x) ▸ outlines.punct the_punct.RightBracket ▸ end) d ts m)
  array_length_fails ts m e =
      branch_err (next_is the_punct.RightBracket ts) _ _ ts e (λ c f. absurd cc)
      (λ c f. bind_err (inner.expr 3 ts) _ f
      (λ g. let q = fails.expr 3 (omega arith) (omega arith) ts m g in (an_expr q.0, within_in (part_of q.1 q.2)))
      (λ y ok g. let u = good.expr 3 (omega arith) ts y ok in (an_expr y.0, within_past y.1 (y.1, u.0, u.1, refl) (at (until_err the_punct.RightBracket (an_expr y.0) y.1 g)))))

  array_fails : (mode : Mode) (left : DeclTree Spot) (first ts m : List Token) → Direct names d mode first (left, ts) → next_is the_punct.LeftBracket ts ≡ true
      → (array (spot_or left (spot ts)) left <$> reader.array_length names inner (suc d)) (skip ts) ≡ Err m → DeclaratorBegun names (suc d) mode first m
  array_fails mode left first ts m a c e =
      let n = spot_or left (spot ts) in
      let q = array_length_fails (skip ts) m (map_err _ _ e) in
      (array n left q.0, suits_too mode left (array n left q.0) refl a.0, inr (part_in {c = false} (has_spot left (spot ts)) (part_past {c = outlines.is_written left} ts a.1 a.2 (punct_then c (suffix_stands left (spot ts)) q.1))))

  function_fails : (mode : Mode) (left : DeclTree Spot) (first ts m : List Token) → Direct names d mode first (left, ts) → next_is the_punct.LeftParen ts ≡ true
      → ((λ ps. function (spot_or left (spot ts)) left (gathered_types ps)) <$> reader.parameters names inner (suc d)) (skip ts) ≡ Err m → DeclaratorBegun names (suc d) mode first m
  function_fails mode left first ts m a c e =
      let n = spot_or left (spot ts) in
      let q = parameters_fail names inner d good fails (skip ts) m (map_err _ _ e) in
      let ps = gathered_types q.0 in
      (function n left ps, suits_too mode left (function n left ps) refl a.0, inr (part_in {c = false} (has_spot left (spot ts)) (part_past {c = outlines.is_written left} ts a.1 a.2 (punct_then c (suffix_stands left (spot ts)) q.1))))

  suffix_fails : (mode : Mode) (left : DeclTree Spot) (first ts m : List Token) → Direct names d mode first (left, ts) → reader.suffix_comes names inner (suc d) ts ≡ true → reader.suffix names inner (suc d) left ts ≡ Err m → DeclaratorBegun names (suc d) mode first m
  suffix_fails mode left first ts m a comes e =
      branch_err (next_is the_punct.LeftBracket ts) _ _ ts e
      (λ c f. array_fails mode left first ts m a c f)
      (λ c f. function_fails mode left first ts m a (other_of (next_is the_punct.LeftBracket ts) (next_is the_punct.LeftParen ts) comes c) f)

  suffixes_fail : (mode : Mode) (turns : ℕ) (left : DeclTree Spot) (first ts m : List Token) → Direct names (suc d) mode first (left, ts) → reader.suffixes names inner (suc d) turns left ts ≡ Err m → DeclaratorBegun names (suc d) mode first m
  suffixes_fail mode zero left first ts m a e = absurd cc
  suffixes_fail mode (suc turns) left first ts m a e =
      let comes : Bool = reader.suffix_comes names inner (suc d) ts in
      let small : Bool = nat_lt (depths.declarator_depth left) (suc d) in
      branch_err (comes && small) _ _ ts e
      (λ c f.
      let t = and_parts comes small c in
      let less : depths.declarator_depth left < suc d = ltb-true _ _ t.1 in
      let sunk : ReadsDeclarator names d left first ts = sinks (outlines.is_written left) (outlines.declarator names left) d first ts a.2 (omega (arith, less, declarator_depth names left)) in
      bind_err (reader.suffix names inner (suc d) left ts) _ f
      (λ g. suffix_fails mode left first ts m (a.0, a.1, sunk) t.0 g)
      (λ y ok g. suffixes_fail mode turns y.0 first y.1 m (suffix_sound names inner d good mode left first ts y (a.0, a.1, sunk) t.0 ok) g))
      (λ c f. absurd cc)

  -- ---- What suffixes stand behind

  group_closes : (mode : Mode) (ts m : List Token) (y : DeclTree Spot × List Token) → next_is the_punct.LeftParen ts ≡ true → and_then (inner.declarator mode (skip ts)) (reader.written_only names inner (suc d)) ≡ Ok y → y.1 ≡ m → DeclaratorBegun names (suc d) mode ts m
  group_closes mode ts m y c ok e =
      let n = spot ts in
      let f = bind_ok (inner.declarator mode (skip ts)) (reader.written_only names inner (suc d)) y ok in
      let v = good.declarator mode (skip ts) f.0 f.1 in
      elim (branched (outlines.is_written f.0.0) (pure f.0.0) refuse f.0.1 (Ok y) f.2) [
        | inl w ↦
            let same : f.0 ≡ y = ok_is (f.0.0, f.0.1) y w.1 in
            let g : Suits mode y.0 × ReadsDeclarator names d y.0 (skip ts) y.1 = subst (λ (z : DeclTree Spot × List Token). Suits mode z.0 × ReadsDeclarator names d z.0 (skip ts) z.1) same v in
            let written : outlines.is_written y.0 ≡ true = subst (λ (z : DeclTree Spot × List Token). outlines.is_written z.0 ≡ true) same w.0 in
            (grouped (opening y.0 n) y.0, suits_grouped mode (opening y.0 n) y.0 g.0, inr (part_in {c = false} (closes_over y.0 n) (punct_then c (opening_stands y.0 n) (part_past {c = outlines.is_written y.0} y.1 written g.1 (at e)))))
        | inr w ↦ absurd (let no : Err f.0.1 ≡ Ok y = w.1 in cc)
      ]

  group_begins : (mode : Mode) (ts m : List Token) → next_is the_punct.LeftParen ts ≡ true → and_then (inner.declarator mode (skip ts)) (reader.written_only names inner (suc d)) ≡ Err m → DeclaratorBegun names (suc d) mode ts m
  group_begins mode ts m c e =
      let n = spot ts in
      let none = missing mode in
      bind_err (inner.declarator mode (skip ts)) _ e
      (λ g. let q = fails.declarator mode (skip ts) m g in
      (grouped (opening q.0 n) q.0, suits_grouped mode (opening q.0 n) q.0 q.1, inr (part_in {c = false} (closes_over q.0 n) (punct_then c (opening_stands q.0 n) (written_part names d q.0 (skip ts) m q.2)))))
      (λ y ok g. branch_err (outlines.is_written y.0) _ _ y.1 g (λ b h. absurd cc)
      (λ b h.
      let here : skip ts ≡ m = unwritten_reads names d y.0 (skip ts) y.1 b (good.declarator mode (skip ts) y ok).1 ∙ err_is {A = DeclTree Spot} h in
      (grouped (opening none n) none, suits_grouped mode (opening none n) none (missing_suits mode), inr (part_in {c = false} (closes_over none n) (punct_then c (opening_stands none n) (at here))))))

  group_fails : (mode : Mode) (ts m : List Token) → next_is the_punct.LeftParen ts ≡ true → reader.group names inner (suc d) mode ts ≡ Err m → DeclaratorBegun names (suc d) mode ts m
  group_fails mode ts m c e =
      bind_err (and_then (inner.declarator mode (skip ts)) (reader.written_only names inner (suc d))) _ e
      (λ f. group_begins mode ts m c f)
      (λ y ok f. group_closes mode ts m y c ok (until_err the_punct.RightParen (grouped (opening y.0 (spot ts)) y.0) y.1 f))

  direct_fails : (mode : Mode) (ts m : List Token) → reader.direct names inner (suc d) mode ts ≡ Err m → DeclaratorBegun names (suc d) mode ts m
  direct_fails mode ts m e =
      branch_err (takes_name mode && reader.is_id names inner (suc d) (next_ident ts)) _ _ ts e
      (λ c f. nothing_there names (suc d) mode ts m (id_err names ts (map_err _ _ f)))
      (λ c f. branch_err (next_is the_punct.LeftParen ts && reader.opposite (reader.begins_parameters names inner (suc d) mode ts)) _ _ ts f
      (λ b g. group_fails mode ts m (and_parts (next_is the_punct.LeftParen ts) (reader.opposite (reader.begins_parameters names inner (suc d) mode ts)) b).0 g)
      (λ b g. nothing_fails names inner (suc d) (suc d) mode ts m g))

  pointer_fails : (mode : Mode) (ts m : List Token) → next_is the_punct.Star ts ≡ true → and_then (reader.consts names inner (suc d) (skip ts)) (λ c. (λ x. pointer (opening x (spot ts)) c x) <$> inner.declarator mode) ≡ Err m → DeclaratorBegun names (suc d) mode ts m
  pointer_fails mode ts m c e =
      let n = spot ts in
      bind_err (reader.consts names inner (suc d) (skip ts)) _ e
      (λ f. absurd (consts_never names inner (suc d) (length (skip ts)) (skip ts) m f))
      (λ y ok f. let q = fails.declarator mode y.1 m (map_err _ _ f) in
      let k = opening q.0 n in (
        pointer k y.0 q.0,
        suits_pointer mode k y.0 q.0 q.1,
        inr (part_in {c = false} (closes_over q.0 n) (punct_then c (opening_stands q.0 n) (within_past y.1 (consts_by_sound names inner (suc d) d (length (skip ts)) (skip ts) y ok) (part_of tt q.2)))),
      ))

  pub declarator_fails : (mode : Mode) (ts m : List Token) → reader.declarator names inner (suc d) mode ts ≡ Err m → DeclaratorBegun names (suc d) mode ts m
  declarator_fails mode ts m e =
      branch_err (suc d == 0) _ _ ts e
      (λ c f. nothing_fails names inner (suc d) (suc d) mode ts m f)
      (λ c f. branch_err (next_is the_punct.Star ts) _ _ ts f
      (λ b g. pointer_fails mode ts m b g)
      (λ b g. bind_err (reader.direct names inner (suc d) mode ts) _ g
      (λ h. direct_fails mode ts m h)
      (λ y ok h. suffixes_fail mode (suc d) y.0 ts y.1 m (direct_sound names inner d good mode ts y ok) h)))
