-- Adding and completing structs keeps the depths of types that are listed, and those that structs keep.
use Rattle.std.proofs.Common.{◌≡◌, refl, ap, sym, ◌∙◌, subst, ℕ, ◌+◌, ◌-◌, ◌^◌, ◌<◌, ◌≤◌, Bool, true, false, ◌&&◌, ◌||◌, not, List, [], ◌∷◌, length, get_or, arith, nat_lt, nat_eq, if◌then◌else◌, length-append, slice_set, ◌⊎◌, inl, inr}
use Rattle.std.proofs.lemmas.Bool.{ltb-true, ltb-false, eqb-true, eqb-false}
use Rattle.std.proofs.lemmas.List.{get_or_append_left, get_or_past, get_or-set_same, get_or-set_other, length-set}
use Rattle.std.proofs.Math.Seq.{get_or-append_seam}
use Rattle.cc_tree.specs.declared.ids.StructId.{StructId}
use Rattle.cc_types.specs.declared.structs.StructEntry.{StructEntry}
use Rattle.cc_types.specs.declared.structs.Member.{Member}
use Rattle.cc_types.specs.declared.measure.Measure.{Measure}
use Rattle.cc_types.specs.declared.depth.Depth.{Depth}
use Rattle.cc_types.specs.declared.depth.DepthItem.{DepthItem}
use Rattle.cc_types.specs.declared.shape.Shape.{Shape}
use Rattle.cc_types.specs.declared.shape.TypeId.{TypeId}
use Rattle.cc_types.specs.CTypes.{CTypeTree, void, integer_of, pointer_to, array_of, returning, taking, struct_by, has_const}
use Rattle.cc_types.specs.Shapes.{type_at, types_of, IsTable}
use Rattle.cc_types.specs.Interning.{shape_of}
use Rattle.cc_types.specs.Measures.{entry_of, declared_entry, measure_of, joined, empty, members_from, members_measured, is_known, larger}
use Rattle.cc_types.specs.Depths.{deeper, deepest, sunk, flat, depth_of, struct_depth, depth_in, depth_from, members_depth, deepest_from, struct_deep, mentions}
use Rattle.cc_types.specs.Structs.{is_complete, added, completed, with_members}
use Rattle.cc_types.specs.Laws.{AreMeasured, AreCounted, AreListed, IsFree, AreDeep}
use Rattle.cc_types.proofs.GrowingTables.{both}
use Rattle.cc_types.proofs.MadeShapes.{type_is}
use Rattle.cc_types.proofs.MeasuredStructs.{starts, complete_within}
use Rattle.cc_types.proofs.ListedDepths.{depth_is, capped_within, three_ways}

either_of : (a b : Bool) → (a || b) ≡ false → (a ≡ false) × (b ≡ false)
either_of false b e = (refl, e)
either_of true b e = cc

-- The entries of two lists of structs are as deep inside, but maybe at one number; `at` says that they are there too, or
-- that a type does not mention that struct.
module _ (es new : List StructEntry) (id : StructId) (others : (other : StructId) → (other.0 ≡ id.0 → ⊥) → (struct_depth (entry_of new other)).inside ≡ (struct_depth (entry_of es other)).inside) where
  abbrev Same : Type 0
  Same = (struct_depth (entry_of new id)).inside ≡ (struct_depth (entry_of es id)).inside

  abbrev Free : CTypeTree → Type 0
  Free t = Same ⊎ (mentions id t ≡ false)

  first_free : (t f : CTypeTree) → Free (taking t f) → Free t
  first_free t f (inl p) = inl p
  first_free t f (inr p) = inr (either_of (mentions id t) (mentions id f) p).0

  rest_free : (t f : CTypeTree) → Free (taking t f) → Free f
  rest_free t f (inl p) = inl p
  rest_free t f (inr p) = inr (either_of (mentions id t) (mentions id f) p).1

  inside_stays : (t : CTypeTree) → Free t → (depth_of new t).inside ≡ (depth_of es t).inside
  inside_stays (void k) h = refl
  inside_stays (integer_of k kind) h = refl
  inside_stays (pointer_to k t) h = ap deeper (inside_stays t h)
  inside_stays (array_of k t n) h = ap deeper (inside_stays t h)
  inside_stays (returning t) h = ap deeper (inside_stays t h)
  inside_stays (taking t f) h =
      ap (λ x. larger (deeper x) (depth_of new f).inside) (inside_stays t (first_free t f h)) ∙ ap (larger (deeper (depth_of es t).inside)) (inside_stays f (rest_free t f h))
  inside_stays (struct_by k other) h = by (nat_eq other.0 id.0) refl h
    where
      by : (b : Bool) → nat_eq other.0 id.0 ≡ b → Free (struct_by k other) → (struct_depth (entry_of new other)).inside ≡ (struct_depth (entry_of es other)).inside
      by true q (inl p) = let same : other.0 ≡ id.0 = eqb-true _ _ q in
          let at : (es_ : List StructEntry) → entry_of es_ other ≡ entry_of es_ id = λ es_. ap (λ i. get_or es_ i (declared_entry false 0)) same in
          ap (λ x. (struct_depth x).inside) (at new) ∙ p ∙ sym (ap (λ x. (struct_depth x).inside) (at es))
      by true q (inr p) = let none : true ≡ false = sym q ∙ p in cc
      by false q p = others other (eqb-false _ _ q)

  pub lists_stay : (ss : List Shape) (ds : List DepthItem) → ((t : TypeId) → Free (type_at (types_of ss) t)) → AreListed ss es ds → AreListed ss new ds
  lists_stay ss ds free all = record {
    long = all.long;
    items = λ t. let i = all.items t in record { inside = i.inside ∙ sym (inside_stays (type_at (types_of ss) t) (free t)); whole = i.whole; base = i.base; sound = i.sound };
  }

  module _ (agree : (other : StructId) → is_complete es other ≡ true → entry_of new other ≡ entry_of es other) where
    whole_stays : (t : CTypeTree) → Free t → (measure_of es t).is_complete ≡ true → (depth_of new t).whole ≡ (depth_of es t).whole
    whole_stays (void k) h e = refl
    whole_stays (integer_of k kind) h e = refl
    whole_stays (pointer_to k t) h e = ap deeper (inside_stays t h)
    whole_stays (array_of k t n) h e = ap deeper (whole_stays t h (both (is_known n) (measure_of es t).is_complete e).1)
    whole_stays (returning t) h e = ap deeper (inside_stays t h)
    whole_stays (taking t f) h e = inside_stays (taking t f) h
    whole_stays (struct_by k other) h e = ap (λ x. x.depth.whole) (agree other e)

    depth_stays : (t : CTypeTree) → Free t → (measure_of es t).is_complete ≡ true → depth_of new t ≡ depth_of es t
    depth_stays t h e = pair (depth_of new t) (depth_of es t) (whole_stays t h e) (inside_stays t h)
      where
        made : ℕ → ℕ → Depth
        made w i = record { whole = w; inside = i }

        pair : (c d : Depth) → c.whole ≡ d.whole → c.inside ≡ d.inside → c ≡ d
        pair c d p q = let x : made c.whole c.inside ≡ made d.whole d.inside = ap (λ w. made w c.inside) p ∙ ap (made d.whole) q in x

    module _ (ts : List CTypeTree) (free : (t : TypeId) → Free (type_at ts t)) where
      deepest_stays : (s : Measure) (d : Depth) (ms : List Member) → (members_from ts es s ms).is_complete ≡ true → deepest_from ts new d ms ≡ deepest_from ts es d ms
      deepest_stays s d [] e = refl
      deepest_stays s d (m ∷ ms) e =
          let t = type_at ts m.kind in
          let one = joined s (has_const t) (measure_of es t) in
          let whole : (measure_of es t).is_complete ≡ true = (both s.is_complete (measure_of es t).is_complete (starts ts es one ms e)).1 in
          ap (λ x. deepest_from ts new (deepest d x) ms) (depth_stays t (free m.kind) whole) ∙ deepest_stays one (deepest d (depth_of es t)) ms e

      struct_stays : (ms : List Member) → (members_measured ts es ms).is_complete ≡ true → struct_deep ts new ms ≡ struct_deep ts es ms
      struct_stays ms e = ap sunk (deepest_stays empty (flat 0) ms e)

      deep_stays : AreMeasured ts es → AreDeep ts es → (other : StructId) → is_complete es other ≡ true → (entry_of new other).depth ≡ struct_deep ts new (entry_of new other).members
      deep_stays measured deep other e =
          let whole : (members_measured ts es (entry_of es other).members).is_complete ≡ true = sym (ap (λ x. x.is_complete) (measured.kept other e)) ∙ e in
          ap (λ x. x.depth) (agree other e) ∙ deep.kept other e ∙ sym (struct_stays (entry_of es other).members whole) ∙ sym (ap (λ x. struct_deep ts new x.members) (agree other e))

-- ---- Numbers that can be counted

pub none_counted : AreCounted []
none_counted = record {
  whole = λ id. subst (λ x. x.depth.whole ≤ 2 ^ 64 - 1) (sym (get_or_past [] id.0 (declared_entry false 0) (omega arith))) (omega arith);
  inside = λ id. subst (λ x. x.depth.inside ≤ 2 ^ 64 - 1) (sym (get_or_past [] id.0 (declared_entry false 0) (omega arith))) (omega arith);
}

-- ---- One struct more

module _ (es : List StructEntry) (is_tagged : Bool) (token : ℕ) where
  abbrev more : List StructEntry
  more = (added es is_tagged token).0

  -- what holds of the entries, and of one without members, holds of all then
  pub each_more : (P : StructEntry → StructEntry → Type 0) → ((e : StructEntry) → P e e) → P (declared_entry is_tagged token) (declared_entry false 0) → (other : StructId) → P (entry_of more other) (entry_of es other)
  each_more P same fresh other = by (three_ways other.0 (length es))
    where
      by : ((other.0 < length es) ⊎ (other.0 ≡ length es)) ⊎ (length es + 1 ≤ other.0) → P (entry_of more other) (entry_of es other)
      by (inl (inl less)) = subst (λ x. P x (entry_of es other)) (sym (get_or_append_left es (declared_entry is_tagged token ∷ []) (declared_entry false 0) other.0 less)) (same (entry_of es other))
      by (inl (inr last)) =
          let new : entry_of more other ≡ declared_entry is_tagged token = ap (λ i. get_or more i (declared_entry false 0)) last ∙ get_or-append_seam es (declared_entry is_tagged token) [] (declared_entry false 0) in
          let old : entry_of es other ≡ declared_entry false 0 = get_or_past es other.0 (declared_entry false 0) (omega (arith, last)) in
          subst (λ x. P x (entry_of es other)) (sym new) (subst (P (declared_entry is_tagged token)) (sym old) fresh)
      by (inr past) =
          let new : entry_of more other ≡ declared_entry false 0 = get_or_past more other.0 (declared_entry false 0) (omega (arith, past, length-append es (declared_entry is_tagged token ∷ []))) in
          let old : entry_of es other ≡ declared_entry false 0 = get_or_past es other.0 (declared_entry false 0) (omega (arith, past)) in
          subst (λ x. P x (entry_of es other)) (sym new) (subst (P (declared_entry false 0)) (sym old) (same (declared_entry false 0)))

  one_inside : (b : Bool) → ◌≡◌ {A = ℕ} (if b then 1 else 1) 1
  one_inside true = refl
  one_inside false = refl

  more_inside : (other : StructId) → (struct_depth (entry_of more other)).inside ≡ (struct_depth (entry_of es other)).inside
  more_inside other = each_more (λ x y. (struct_depth x).inside ≡ (struct_depth y).inside) (λ e. refl) (one_inside is_tagged) other

  pub more_counted : AreCounted es → AreCounted more
  more_counted h = record {
    whole = λ id. each_more (λ x y. y.depth.whole ≤ 2 ^ 64 - 1 → x.depth.whole ≤ 2 ^ 64 - 1) (λ e p. p) (λ p. omega arith) id (h.whole id);
    inside = λ id. each_more (λ x y. y.depth.inside ≤ 2 ^ 64 - 1 → x.depth.inside ≤ 2 ^ 64 - 1) (λ e p. p) (λ p. omega arith) id (h.inside id);
  }

  none : StructId
  none = record { 0 = 0 }

  pub more_listed : (ss : List Shape) (ds : List DepthItem) → AreListed ss es ds → AreListed ss more ds
  more_listed ss ds all = lists_stay es more none (λ other apart. more_inside other) ss ds (λ t. inl (more_inside none)) all

  pub more_deep : (ss : List Shape) → AreMeasured (types_of ss) es → AreDeep (types_of ss) es → AreDeep (types_of ss) more
  more_deep ss measured deep = record {
    kept = λ id e. deep_stays es more none (λ other apart. more_inside other)
        (λ other h. get_or_append_left es (declared_entry is_tagged token ∷ []) (declared_entry false 0) other.0 (complete_within es other h))
        (types_of ss) (λ t. inl (more_inside none)) measured deep id (was_complete id e);
  }
    where
      was_complete : (id : StructId) → is_complete more id ≡ true → is_complete es id ≡ true
      was_complete id e = each_more (λ x y. x.measure.is_complete ≡ true → y.measure.is_complete ≡ true) (λ x h. h) (λ h. h) id e

-- ---- The members of a struct

module _ (ss : List Shape) (es : List StructEntry) (ds : List DepthItem) (id : StructId) (ms : List Member) where
  abbrev ts : List CTypeTree
  ts = types_of ss

  abbrev room : Measure
  room = members_measured ts es ms

  abbrev full : StructEntry
  full = with_members (entry_of es id) ms room (members_depth ss es ds ms)

  abbrev filled : List StructEntry
  filled = slice_set es id.0 full

  -- what holds of each entry, and of this one with its members, holds of all then
  each_filled : (P : StructEntry → StructEntry → Type 0) → ((e : StructEntry) → P e e) → P full (entry_of es id) → (other : StructId) → P (entry_of filled other) (entry_of es other)
  each_filled P same at other = by (nat_eq other.0 id.0) (nat_lt id.0 (length es)) refl refl
    where
      by : (a b : Bool) → nat_eq other.0 id.0 ≡ a → nat_lt id.0 (length es) ≡ b → P (entry_of filled other) (entry_of es other)
      by false b p q = subst (λ x. P x (entry_of es other)) (sym (get_or-set_other es id.0 other.0 full (declared_entry false 0) (eqb-false _ _ p))) (same (entry_of es other))
      by true true p q =
          let e : other.0 ≡ id.0 = eqb-true _ _ p in
          let new : entry_of filled other ≡ full = ap (λ i. get_or filled i (declared_entry false 0)) e ∙ get_or-set_same es id.0 full (declared_entry false 0) (ltb-true _ _ q) in
          let old : entry_of es other ≡ entry_of es id = ap (λ i. get_or es i (declared_entry false 0)) e in
          subst (λ x. P x (entry_of es other)) (sym new) (subst (P full) (sym old) at)
      by true false p q =
          let e : other.0 ≡ id.0 = eqb-true _ _ p in
          let far : length es ≤ other.0 = omega (arith, e, ltb-false _ _ q) in
          let new : entry_of filled other ≡ declared_entry false 0 = get_or_past filled other.0 (declared_entry false 0) (omega (arith, far, length-set es id.0 full)) in
          let old : entry_of es other ≡ declared_entry false 0 = get_or_past es other.0 (declared_entry false 0) far in
          subst (λ x. P x (entry_of es other)) (sym new) (subst (P (declared_entry false 0)) (sym old) (same (declared_entry false 0)))

  filled_counted : AreCounted es → AreCounted filled
  filled_counted h = record {
    whole = λ other. each_filled (λ x y. y.depth.whole ≤ 2 ^ 64 - 1 → x.depth.whole ≤ 2 ^ 64 - 1) (λ e p. p) (λ p. capped_within _) other (h.whole other);
    inside = λ other. each_filled (λ x y. y.depth.inside ≤ 2 ^ 64 - 1 → x.depth.inside ≤ 2 ^ 64 - 1) (λ e p. p) (λ p. capped_within _) other (h.inside other);
  }

  pub completed_counted : AreCounted es → AreCounted (completed ss es ds id ms)
  completed_counted h = by (not (is_complete es id) && room.is_complete)
    where
      by : (b : Bool) → AreCounted (if b then filled else es)
      by true = filled_counted h
      by false = h

  apart_inside : (other : StructId) → (other.0 ≡ id.0 → ⊥) → (struct_depth (entry_of filled other)).inside ≡ (struct_depth (entry_of es other)).inside
  apart_inside other apart = ap (λ x. (struct_depth x).inside) (get_or-set_other es id.0 other.0 full (declared_entry false 0) apart)

  tagged_inside : (entry_of es id).is_tagged ≡ true → (struct_depth (entry_of filled id)).inside ≡ (struct_depth (entry_of es id)).inside
  tagged_inside e = each_filled (λ x y. (struct_depth x).inside ≡ (struct_depth y).inside) (λ x. refl) (by (entry_of es id).is_tagged e) id
    where
      by : (b : Bool) → b ≡ true → (if b then 1 else (members_depth ss es ds ms).inside) ≡ (if b then 1 else (entry_of es id).depth.inside)
      by true q = refl
      by false q = cc

  same_inside : (members_depth ss es ds ms).inside ≡ (entry_of es id).depth.inside → (struct_depth (entry_of filled id)).inside ≡ (struct_depth (entry_of es id)).inside
  same_inside e = each_filled (λ x y. (struct_depth x).inside ≡ (struct_depth y).inside) (λ x. refl) (by (entry_of es id).is_tagged) id
    where
      by : (b : Bool) → (if b then 1 else (members_depth ss es ds ms).inside) ≡ (if b then 1 else (entry_of es id).depth.inside)
      by true = refl
      by false = e

  free_types : IsFree ss es ds id ms → (t : TypeId) → ((struct_depth (entry_of filled id)).inside ≡ (struct_depth (entry_of es id)).inside) ⊎ (mentions id (type_at ts t) ≡ false)
  free_types (inl (inl e)) t = inl (tagged_inside e)
  free_types (inl (inr e)) t = inl (same_inside e)
  free_types (inr h) t = inr (h t)

  pub completed_listed : IsFree ss es ds id ms → AreListed ss es ds → AreListed ss (completed ss es ds id ms) ds
  completed_listed free all = by (not (is_complete es id) && room.is_complete)
    where
      by : (b : Bool) → AreListed ss (if b then filled else es) ds
      by true = lists_stay es filled id apart_inside ss ds (free_types free) all
      by false = all

  module _ (table : IsTable ss) (counted : AreCounted es) (all : AreListed ss es ds) where
    from_is : (d : Depth) (ns : List Member) → depth_from ss es ds d ns ≡ deepest_from ts es d ns
    from_is d [] = refl
    from_is d (m ∷ ns) =
        let one : depth_in es ds (shape_of ss m.kind) ≡ depth_of es (type_at ts m.kind) = depth_is ss es ds all counted (shape_of ss m.kind) ∙ ap (depth_of es) (type_is ss table m.kind) in
        ap (λ x. depth_from ss es ds (deepest d x) ns) one ∙ from_is (deepest d (depth_of es (type_at ts m.kind))) ns

    filled_deep : IsFree ss es ds id ms → is_complete es id ≡ false → room.is_complete ≡ true → AreMeasured ts es → AreDeep ts es → AreDeep ts filled
    filled_deep free fresh whole measured deep = record { kept = λ other e. by other e (nat_eq other.0 id.0) refl }
      where
        agree : (other : StructId) → is_complete es other ≡ true → entry_of filled other ≡ entry_of es other
        agree other e = get_or-set_other es id.0 other.0 full (declared_entry false 0) (λ same. let h : is_complete es other ≡ is_complete es id = ap (λ i. (get_or es i (declared_entry false 0)).measure.is_complete) same in let no : true ≡ false = sym e ∙ h ∙ fresh in cc)

        by : (other : StructId) → is_complete filled other ≡ true → (b : Bool) → nat_eq other.0 id.0 ≡ b → (entry_of filled other).depth ≡ struct_deep ts filled (entry_of filled other).members
        by other e true q =
            let same : other.0 ≡ id.0 = eqb-true _ _ q in
            let less : id.0 < length es = omega (arith, complete_within filled other e, same, length-set es id.0 full) in
            let is : entry_of filled other ≡ full = ap (λ i. get_or filled i (declared_entry false 0)) same ∙ get_or-set_same es id.0 full (declared_entry false 0) less in
            let kept : members_depth ss es ds ms ≡ struct_deep ts filled ms = ap sunk (from_is (flat 0) ms) ∙ sym (struct_stays es filled id apart_inside agree ts (free_types free) ms whole) in
            ap (λ x. x.depth) is ∙ kept ∙ sym (ap (λ x. struct_deep ts filled x.members) is)
        by other e false q =
            let was : entry_of filled other ≡ entry_of es other = get_or-set_other es id.0 other.0 full (declared_entry false 0) (eqb-false _ _ q) in
            deep_stays es filled id apart_inside agree ts (free_types free) measured deep other (ap (λ x. x.measure.is_complete) (sym was) ∙ e)

    pub completed_deep : IsFree ss es ds id ms → AreMeasured ts es → AreDeep ts es → AreDeep ts (completed ss es ds id ms)
    completed_deep free measured deep = by (is_complete es id) room.is_complete refl refl
      where
        by : (a b : Bool) → is_complete es id ≡ a → room.is_complete ≡ b → AreDeep ts (if not a && b then filled else es)
        by false true p q = filled_deep free p q measured deep
        by false false p q = deep
        by true b p q = deep
