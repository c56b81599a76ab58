-- The depths that are listed are those of the types.
use Rattle.std.proofs.Common.{◌≡◌, refl, ap, sym, ◌∙◌, subst, ℕ, ◌+◌, ◌-◌, ◌^◌, ◌<◌, ◌≤◌, min, Bool, true, false, List, [], ◌∷◌, ◌++◌, length, get_or, take, drop, arith, nat_lt, if◌then◌else◌, length-append, ◌⊎◌, inl, inr}
use Rattle.std.proofs.lemmas.Bool.{ltb-true, ltb-false}
use Rattle.std.proofs.lemmas.List.{get_or_append_left, get_or_past, append-nil, append_assoc, take-append-drop}
use Rattle.std.proofs.Math.Seq.{get_or-append_seam}
use Rattle.cc_tree.specs.declared.ids.StructId.{StructId}
use Rattle.cc_types.specs.declared.structs.StructEntry.{StructEntry}
use Rattle.cc_types.specs.declared.depth.Depth.{Depth}
use Rattle.cc_types.specs.declared.depth.DepthItem.{DepthItem}
use Rattle.cc_types.specs.declared.shape.Shape.{Shape}
use Rattle.cc_types.specs.declared.shape.Shape.TheVariants as s
use Rattle.cc_types.specs.declared.shape.TypeId.{TypeId}
use Rattle.cc_types.specs.CTypes.{CTypeTree, void, integer_of, pointer_to, array_of, returning, taking, struct_by}
use Rattle.cc_types.specs.Asked.{is_array}
use Rattle.cc_types.specs.Shapes.{type_at, built, is_sound, IsSound, types_of, types_from, are_sound, IsTable, Extends}
use Rattle.cc_types.specs.Measures.{capped, larger, entry_of}
use Rattle.cc_types.specs.Depths.{deeper, depth_of, struct_depth, item_at, no_item, inside_at, inside_in, levels_in, base_in, item_in, base_depth, depth_in, listed, caught_up}
use Rattle.cc_types.specs.Laws.{AreCounted, ItemIs, AreListed}
use Rattle.cc_types.proofs.GrowingTables.{built_stays, sound_stays, one_more, types_append, length_from, both}

-- ---- Numbers

abbrev most : ℕ
most = 2 ^ 64 - 1

pub capped_within : (n : ℕ) → capped n ≤ most
capped_within n = omega arith

larger_within : (a b m : ℕ) → a ≤ m → b ≤ m → larger a b ≤ m
larger_within a b m p q = by (nat_lt a b)
  where
    by : (x : Bool) → (if x then b else a) ≤ m
    by true = q
    by false = p

stays_capped : (n : ℕ) → n ≤ most → capped (0 + n) ≡ n
stays_capped n h = omega (arith, h)

one_level : (l w m : ℕ) → min (min (l + 1) m + w) m ≡ min (min (l + w) m + 1) m
one_level l w m = omega arith

abbrev depth_from : ℕ → ℕ → Depth
depth_from w i = record { whole = w; inside = i }

record Within (d : Depth) : Type 0 where
  whole : d.whole ≤ most
  inside : d.inside ≤ most

one_depth : (n : ℕ) → n ≤ most → Within (record { whole = n; inside = n })
one_depth n h = record { whole = h; inside = h }

module _ (es : List StructEntry) (counted : AreCounted es) where
  struct_within : (id : StructId) → Within (struct_depth (entry_of es id))
  struct_within id = record { whole = counted.whole id; inside = by (entry_of es id).is_tagged }
    where
      by : (b : Bool) → (if b then 1 else (entry_of es id).depth.inside) ≤ most
      by true = omega arith
      by false = counted.inside id

  within : (t : CTypeTree) → Within (depth_of es t)
  within (void k) = one_depth 1 (omega arith)
  within (integer_of k kind) = one_depth 1 (omega arith)
  within (pointer_to k t) = one_depth _ (capped_within ((depth_of es t).inside + 1))
  within (array_of k t n) = record { whole = capped_within ((depth_of es t).whole + 1); inside = capped_within ((depth_of es t).inside + 1) }
  within (returning t) = one_depth _ (capped_within ((depth_of es t).inside + 1))
  within (taking t f) = one_depth _ (larger_within (deeper (depth_of es t).inside) (depth_of es f).inside most (capped_within ((depth_of es t).inside + 1)) (within f).inside)
  within (struct_by k id) = struct_within id

-- ---- A shape whose parts are listed

module _ (ss : List Shape) (es : List StructEntry) (ds : List DepthItem) (all : AreListed ss es ds) where
  inside_is : (a : Shape) → inside_in es ds a ≡ (depth_of es (built (types_of ss) a)).inside
  inside_is (s.Void k) = refl
  inside_is (s.Integer k kind) = refl
  inside_is (s.Pointer k t) = ap deeper (all.items t).inside
  inside_is (s.Array k t n) = ap deeper (all.items t).inside
  inside_is (s.Function t) = ap deeper (all.items t).inside
  inside_is (s.Takes t f) = ap (λ x. larger (deeper x) (inside_at ds f)) (all.items t).inside ∙ ap (larger (deeper (depth_of es (type_at (types_of ss) t)).inside)) (all.items f).inside
  inside_is (s.Struct k id) = refl

  base_is : (a : Shape) → is_array a ≡ false → base_depth es ds a ≡ (depth_of es (built (types_of ss) a)).whole
  base_is (s.Void k) e = refl
  base_is (s.Integer k kind) e = refl
  base_is (s.Pointer k t) e = inside_is (s.Pointer k t)
  base_is (s.Array k t n) e = cc
  base_is (s.Function t) e = inside_is (s.Function t)
  base_is (s.Takes t f) e = inside_is (s.Takes t f)
  base_is (s.Struct k id) e = refl

  -- what is listed of the shape is right, for any structs
  levels_are : (a : Shape) → (any : List StructEntry) → AreCounted any → capped (levels_in ds a + (depth_of any (built (types_of ss) (base_in ds a))).whole) ≡ (depth_of any (built (types_of ss) a)).whole
  levels_are (s.Array k t n) any counted =
      one_level (item_at ds t).levels (depth_of any (built (types_of ss) (item_at ds t).base)).whole most ∙ ap deeper ((all.items t).whole any counted)
  levels_are (s.Void k) any counted = stays_capped _ (within any counted (void k)).whole
  levels_are (s.Integer k kind) any counted = stays_capped _ (within any counted (integer_of k kind)).whole
  levels_are (s.Pointer k t) any counted = stays_capped _ (within any counted (built (types_of ss) (s.Pointer k t))).whole
  levels_are (s.Function t) any counted = stays_capped _ (within any counted (built (types_of ss) (s.Function t))).whole
  levels_are (s.Takes t f) any counted = stays_capped _ (within any counted (built (types_of ss) (s.Takes t f))).whole
  levels_are (s.Struct k id) any counted = stays_capped _ (within any counted (struct_by k id)).whole

  base_array : (a : Shape) → is_array (base_in ds a) ≡ false
  base_array (s.Array k t n) = (all.items t).base
  base_array (s.Void k) = refl
  base_array (s.Integer k kind) = refl
  base_array (s.Pointer k t) = refl
  base_array (s.Function t) = refl
  base_array (s.Takes t f) = refl
  base_array (s.Struct k id) = refl

  base_sound : (a : Shape) → IsSound (types_of ss) a → IsSound (types_of ss) (base_in ds a)
  base_sound (s.Array k t n) h = (all.items t).sound
  base_sound (s.Void k) h = refl
  base_sound (s.Integer k kind) h = refl
  base_sound (s.Pointer k t) h = h
  base_sound (s.Function t) h = h
  base_sound (s.Takes t f) h = h
  base_sound (s.Struct k id) h = refl

  whole_is : AreCounted es → (a : Shape) → capped (levels_in ds a + base_depth es ds (base_in ds a)) ≡ (depth_of es (built (types_of ss) a)).whole
  whole_is counted a = ap (λ w. capped (levels_in ds a + w)) (base_is (base_in ds a) (base_array a)) ∙ levels_are a es counted

  pub depth_is : AreCounted es → (a : Shape) → depth_in es ds a ≡ depth_of es (built (types_of ss) a)
  depth_is counted a = pair _ _ (depth_of es (built (types_of ss) a)) (whole_is counted a) (inside_is a)
    where
      pair : (w i : ℕ) (d : Depth) → w ≡ d.whole → i ≡ d.inside → depth_from w i ≡ d
      pair w i d p q = ap (λ x. depth_from x i) p ∙ ap (depth_from d.whole) q

  item_is : (a : Shape) → IsSound (types_of ss) a → ItemIs (types_of ss) es (item_in es ds a) (built (types_of ss) a)
  item_is a h = record { inside = inside_is a; whole = levels_are a; base = base_array a; sound = base_sound a h }

-- ---- One shape more

item_stays : (ts us : List CTypeTree) (es : List StructEntry) (i : DepthItem) (t : CTypeTree) → Extends ts us → ItemIs ts es i t → ItemIs us es i t
item_stays ts us es i t more h = record {
  inside = h.inside;
  whole = λ any counted. ap (λ x. capped (i.levels + (depth_of any x).whole)) (built_stays ts us more i.base h.sound) ∙ h.whole any counted;
  base = h.base;
  sound = sound_stays ts us more i.base h.sound;
}

void_item : (ts : List CTypeTree) (es : List StructEntry) → ItemIs ts es no_item (void false)
void_item ts es = record { inside = refl; whole = λ any counted. stays_capped 1 (omega arith); base = refl; sound = refl }

pub three_ways : (i n : ℕ) → ((i < n) ⊎ (i ≡ n)) ⊎ (n + 1 ≤ i)
three_ways i n = by (nat_lt i n) (nat_lt i (n + 1)) refl refl
  where
    by : (a b : Bool) → nat_lt i n ≡ a → nat_lt i (n + 1) ≡ b → ((i < n) ⊎ (i ≡ n)) ⊎ (n + 1 ≤ i)
    by true b p q = inl (inl (ltb-true i n p))
    by false true p q = inl (inr (omega (arith, ltb-false i n p, ltb-true i (n + 1) q)))
    by false false p q = inr (ltb-false i (n + 1) q)

module _ (ss : List Shape) (es : List StructEntry) (ds : List DepthItem) (all : AreListed ss es ds) (a : Shape) (sound : IsSound (types_of ss) a) where
  abbrev ts : List CTypeTree
  ts = types_of ss

  abbrev us : List CTypeTree
  us = ts ++ built ts a ∷ []

  abbrev more : List DepthItem
  more = ds ++ item_in es ds a ∷ []

  long : length ds ≡ length ts
  long = omega (arith, all.long, length_from [] ss)

  item_more : (id : TypeId) → ((id.0 < length ds) ⊎ (id.0 ≡ length ds)) ⊎ (length ds + 1 ≤ id.0) → ItemIs us es (item_at more id) (type_at us id)
  item_more id (inl (inl less)) =
      let i : item_at more id ≡ item_at ds id = get_or_append_left ds (item_in es ds a ∷ []) no_item id.0 less in
      let t : type_at us id ≡ type_at ts id = get_or_append_left ts (built ts a ∷ []) (void false) id.0 (omega (arith, less, long)) in
      let h = item_stays ts us es (item_at ds id) (type_at ts id) (one_more ts (built ts a)) (all.items id) in
      subst (λ x. ItemIs us es (item_at more id) x) (sym t) (subst (λ x. ItemIs us es x (type_at ts id)) (sym i) h)
  item_more id (inl (inr last)) =
      let i : item_at more id ≡ item_in es ds a = ap (λ n. get_or more n no_item) last ∙ get_or-append_seam ds (item_in es ds a) [] no_item in
      let t : type_at us id ≡ built ts a = ap (λ n. get_or us n (void false)) (last ∙ long) ∙ get_or-append_seam ts (built ts a) [] (void false) in
      let h = item_stays ts us es (item_in es ds a) (built ts a) (one_more ts (built ts a)) (item_is ss es ds all a sound) in
      subst (λ x. ItemIs us es (item_at more id) x) (sym t) (subst (λ x. ItemIs us es x (built ts a)) (sym i) h)
  item_more id (inr past) =
      let i : item_at more id ≡ no_item = get_or_past more id.0 no_item (omega (arith, past, length-append ds (item_in es ds a ∷ []))) in
      let t : type_at us id ≡ void false = get_or_past us id.0 (void false) (omega (arith, past, long, length-append ts (built ts a ∷ []))) in
      subst (λ x. ItemIs us es (item_at more id) x) (sym t) (subst (λ x. ItemIs us es x (void false)) (sym i) (void_item us es))

  lists_one : AreListed (ss ++ a ∷ []) es more
  lists_one = record {
    long = omega (arith, all.long, length-append ds (item_in es ds a ∷ []), length-append ss (a ∷ []));
    items = λ id. subst (λ xs. ItemIs xs es (item_at more id) (type_at xs id)) (sym (types_append [] ss a)) (item_more id (three_ways id.0 (length ds)));
  }

-- ---- The whole table

pub nothing_listed : (es : List StructEntry) → AreListed [] es []
nothing_listed es = record { long = refl; items = λ id. subst (λ t. ItemIs [] es t (type_at [] id)) (sym (get_or_past [] id.0 no_item (omega arith))) (subst (ItemIs [] es no_item) (sym (get_or_past [] id.0 (void false) (omega arith))) (void_item [] es)) }

-- each shape of the rest is sound after those before it
rest_sound : (ts : List CTypeTree) (ss : List Shape) (a : Shape) (rest : List Shape) → are_sound ts (ss ++ a ∷ rest) ≡ true → is_sound (types_from ts ss) a ≡ true
rest_sound ts [] a rest h = (both (is_sound ts a) (are_sound (ts ++ built ts a ∷ []) rest) h).0
rest_sound ts (b ∷ ss) a rest h = rest_sound (ts ++ built ts b ∷ []) ss a rest (both (is_sound ts b) (are_sound (ts ++ built ts b ∷ []) (ss ++ a ∷ rest)) h).1

lists_rest : (ss : List Shape) (es : List StructEntry) (ds : List DepthItem) (rest : List Shape) → are_sound [] (ss ++ rest) ≡ true → AreListed ss es ds → AreListed (ss ++ rest) es (listed es ds rest)
lists_rest ss es ds [] h all = subst (λ x. AreListed x es ds) (sym (append-nil ss)) all
lists_rest ss es ds (a ∷ rest) h all =
    let one = lists_one ss es ds all a (rest_sound [] ss a rest h) in
    let same : (ss ++ a ∷ []) ++ rest ≡ ss ++ a ∷ rest = append_assoc ss (a ∷ []) rest in
    subst (λ x. AreListed x es (listed es (ds ++ item_in es ds a ∷ []) rest)) same
    (lists_rest (ss ++ a ∷ []) es (ds ++ item_in es ds a ∷ []) rest (subst (λ x. are_sound [] x ≡ true) (sym same) h) one)

pub catches_up : (ss : List Shape) (es : List StructEntry) (ds : List DepthItem) → IsTable ss → AreListed (take (length ds) ss) es ds → AreListed ss es (caught_up ss es ds)
catches_up ss es ds table all =
    let whole : take (length ds) ss ++ drop (length ds) ss ≡ ss = take-append-drop (length ds) ss in
    subst (λ x. AreListed x es (caught_up ss es ds)) whole
    (lists_rest (take (length ds) ss) es ds (drop (length ds) ss) (subst (λ x. are_sound [] x ≡ true) (sym whole) table.sound) all)
