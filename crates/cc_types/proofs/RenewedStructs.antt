-- Structs without members, at the beginning of another file and before they are complete; and what more types change.
use Rattle.std.proofs.Common.{◌≡◌, refl, ap, sym, ◌∙◌, subst, ℕ, zero, suc, ◌≤◌, ◌^◌, ◌-◌, Bool, true, false, ◌&&◌, not, List, [], ◌∷◌, map, length, get_or, arith, nat_lt, nat_eq, if◌then◌else◌, slice_set}
use Rattle.std.proofs.lemmas.Bool.{ltb-true, ltb-false, eqb-true, eqb-false}
use Rattle.std.proofs.lemmas.List.{get_or_append_left, get_or_past, get_or-set_same, get_or-set_other, length-set}
use Rattle.cc_tree.specs.declared.ids.StructId.{StructId}
use Rattle.cc_types.specs.declared.structs.StructEntry.{StructEntry}
use Rattle.cc_types.specs.declared.structs.Member.{Member}
use Rattle.cc_types.specs.declared.measure.Measure.{Measure}
use Rattle.cc_types.specs.declared.depth.Depth.{Depth}
use Rattle.cc_types.specs.declared.depth.DepthItem.{DepthItem}
use Rattle.cc_types.specs.declared.shape.Shape.{Shape}
use Rattle.cc_types.specs.CTypes.{CTypeTree, has_const}
use Rattle.cc_types.specs.Depths.{flat, sunk, deepest, depth_of, deepest_from, struct_depth, members_depth}
use Rattle.cc_types.specs.Shapes.{type_at, types_of, Extends}
use Rattle.cc_types.specs.Measures.{entry_of, declared_entry, measure_of, joined, empty, members_from, members_measured}
use Rattle.cc_types.specs.Structs.{is_complete, added, completed, renewed, entry_renewed, depth_renewed, with_members}
use Rattle.cc_types.specs.Laws.{AreMeasured, AreDeep, AreBare, Begins}
use Rattle.cc_types.proofs.GrowingTables.{both}
use Rattle.cc_types.proofs.MeasuredStructs.{starts, type_stays, complete_within}
use Rattle.cc_types.proofs.DeepStructs.{each_more}

pub added_stay : (es : List StructEntry) (is_tagged : Bool) (token : ℕ) (other : StructId) → is_complete es other ≡ true → entry_of (added es is_tagged token).0 other ≡ entry_of es other
added_stay es is_tagged token other e = get_or_append_left es (declared_entry is_tagged token ∷ []) (declared_entry false 0) other.0 (complete_within es other e)

-- ---- No members

pub none_bare : AreBare []
none_bare = record { bare = λ id e. refl }

abbrev Bare : StructEntry → Type 0
Bare e = e.measure.is_complete ≡ false → e.members ≡ []

pub more_bare : (es : List StructEntry) (is_tagged : Bool) (token : ℕ) → AreBare es → AreBare (added es is_tagged token).0
more_bare es is_tagged token h = record {
  bare = λ id. each_more es is_tagged token (λ x y. Bare y → Bare x) (λ e p. p) (λ p q. refl) id (h.bare id);
}

module _ (ss : List Shape) (es : List StructEntry) (ds : List DepthItem) (id : StructId) (ms : List Member) (h : AreBare es) where
  abbrev room : Measure
  room = members_measured (types_of ss) es ms

  abbrev full : StructEntry
  full = with_members (entry_of es id) ms room (members_depth ss es ds ms)

  abbrev filled : List StructEntry
  filled = slice_set es id.0 full

  at_id : room.is_complete ≡ true → (other : StructId) → other.0 ≡ id.0 → (b : Bool) → nat_lt id.0 (length es) ≡ b → Bare (entry_of filled other)
  at_id whole other same true q e =
      let is : entry_of filled other ≡ full = ap (λ i. get_or filled i (declared_entry false 0)) same ∙ get_or-set_same es id.0 full (declared_entry false 0) (ltb-true _ _ q) in
      let none : true ≡ false = sym whole ∙ sym (ap (λ x. x.measure.is_complete) is) ∙ e in
      cc
  at_id whole other same false q e =
      ap (λ x. x.members) (get_or_past filled other.0 (declared_entry false 0) (omega (arith, same, ltb-false _ _ q, length-set es id.0 full)))

  filled_bare : room.is_complete ≡ true → AreBare filled
  filled_bare whole = record { bare = λ other. by other (nat_eq other.0 id.0) refl }
    where
      by : (other : StructId) (b : Bool) → nat_eq other.0 id.0 ≡ b → Bare (entry_of filled other)
      by other true q = at_id whole other (eqb-true _ _ q) (nat_lt id.0 (length es)) refl
      by other false q = subst Bare (sym (get_or-set_other es id.0 other.0 full (declared_entry false 0) (eqb-false other.0 id.0 q))) (h.bare other)

  pub completed_bare : AreBare (completed ss es ds id ms)
  completed_bare = by (is_complete es id) room.is_complete refl
    where
      by : (a b : Bool) → room.is_complete ≡ b → AreBare (if not a && b then filled else es)
      by false true q = filled_bare q
      by false false q = h
      by true b q = h

-- ---- More types

module _ (ts us : List CTypeTree) (more : Extends ts us) (es : List StructEntry) where
  deepest_stays : (s : Measure) (d : Depth) (ms : List Member) → (members_from ts es s ms).is_complete ≡ true → deepest_from us es d ms ≡ deepest_from ts es d ms
  deepest_stays s d [] e = refl
  deepest_stays s d (m ∷ ms) e =
      let t = type_at ts m.kind in
      let one = joined s (has_const t) (measure_of es t) in
      let whole : (measure_of es t).is_complete ≡ true = (both s.is_complete (measure_of es t).is_complete (starts ts es one ms e)).1 in
      ap (λ x. deepest_from us es (deepest d (depth_of es x)) ms) (type_stays ts us es es more (λ other h. refl) m.kind whole)
      ∙ deepest_stays one (deepest d (depth_of es t)) ms e

  pub more_types_deep : AreMeasured ts es → AreDeep ts es → AreDeep us es
  more_types_deep measured deep = record {
    kept = λ id e.
        let whole : (members_measured ts es (entry_of es id).members).is_complete ≡ true = sym (ap (λ x. x.is_complete) (measured.kept id e)) ∙ e in
        deep.kept id e ∙ sym (ap sunk (deepest_stays empty (flat 0) (entry_of es id).members whole));
  }

-- ---- Another file

entry_at : (es : List StructEntry) (i : ℕ) → get_or (map entry_renewed es) i (declared_entry false 0) ≡ entry_renewed (get_or es i (declared_entry false 0))
entry_at [] i = refl
entry_at (e ∷ es) zero = refl
entry_at (e ∷ es) (suc i) = entry_at es i

module _ (es : List StructEntry) where
  entry_is : (id : StructId) → entry_of (renewed es) id ≡ entry_renewed (entry_of es id)
  entry_is id = entry_at es id.0

  none_complete : (id : StructId) → is_complete (renewed es) id ≡ false
  none_complete id = ap (λ x. x.measure.is_complete) (entry_is id)

  never : (id : StructId) → is_complete (renewed es) id ≡ true → ⊥
  never id e = let none : true ≡ false = sym e ∙ none_complete id in cc

  whole_counted : (b : Bool) (d : Depth) → d.whole ≤ 2 ^ 64 - 1 → (depth_renewed b d).whole ≤ 2 ^ 64 - 1
  whole_counted true d h = omega arith
  whole_counted false d h = h

  inside_counted : (b : Bool) (d : Depth) → d.inside ≤ 2 ^ 64 - 1 → (depth_renewed b d).inside ≤ 2 ^ 64 - 1
  inside_counted true d h = omega arith
  inside_counted false d h = h

  inside_by : (b : Bool) (d : Depth) → ◌≡◌ {A = ℕ} (if b then 1 else (depth_renewed b d).inside) (if b then 1 else d.inside)
  inside_by true d = refl
  inside_by false d = refl

  pub begins : Begins es (renewed es)
  begins = record {
    measured = λ ts. record { kept = λ id e. absurd (never id e) };
    deep = λ ts. record { kept = λ id e. absurd (never id e) };
    bare = record { bare = λ id e. ap (λ x. x.members) (entry_is id) };
    counted = λ h. record {
      whole = λ id. subst (λ x. x.depth.whole ≤ 2 ^ 64 - 1) (sym (entry_is id)) (whole_counted (entry_of es id).is_tagged (entry_of es id).depth (h.whole id));
      inside = λ id. subst (λ x. x.depth.inside ≤ 2 ^ 64 - 1) (sym (entry_is id)) (inside_counted (entry_of es id).is_tagged (entry_of es id).depth (h.inside id));
    };
    inside = λ id. ap (λ x. (struct_depth x).inside) (entry_is id) ∙ inside_by (entry_of es id).is_tagged (entry_of es id).depth;
  }
