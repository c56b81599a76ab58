-- What interning makes.
use Rattle.std.proofs.Common.{◌≡◌, refl, ap, sym, ◌∙◌, subst, ℕ, suc, ◌+◌, ◌<◌, Bool, true, false, ◌&&◌, ◌||◌, not, List, [], ◌∷◌, length, get_or, arith, nat_lt, if◌then◌else◌, length-append}
use Rattle.std.specs.Prelude.{Option}
use Rattle.std.specs.List.{list_any, position_or_len}
use Rattle.std.proofs.lemmas.Bool.{lt-ltb}
use Rattle.std.proofs.Math.Seq.{get_or-append_seam}
use Rattle.indexmap.specs.IndexSet.{insert_key}
use Rattle.cc_types.specs.CTypes as types
use Rattle.cc_types.specs.CTypes.{CTypeTree, void, integer_of, pointer_to, array_of, returning, taking, struct_by, array_from, function_to, function_taking}
use Rattle.cc_types.specs.Questions as spec
use Rattle.cc_types.specs.declared.shape.Shape.{Shape}
use Rattle.cc_types.specs.declared.shape.Shape.TheVariants as s
use Rattle.cc_types.specs.declared.shape.TypeId.{TypeId}
use Rattle.cc_types.specs.Shapes.{type_at, built, is_bare, is_function_number, is_sound, IsSound, types_of, IsTable}
use Rattle.cc_types.specs.Interning.{same_shape, is_const, with_const, shape_of, is_bare_in, is_function_in, is_made, made_or_void, numbered, interned, interned_at, array_made, function_made, taking_made, const_made}
use Rattle.cc_types.specs.Laws.{Makes}
use Rattle.cc_types.proofs.GrowingTables.{insert_table, extends_on, built_stays, function_stays, length_from, and_both}
use Rattle.cc_types.proofs.MadeShapes.{const_of, function_of, type_is, shape_sound}
use Rattle.cc_types.proofs.AskedTypes.{const_type, const_sound, two_tests}
use Rattle.cc_types.proofs.ShapeEquality.{says, tells}

-- ---- Where a shape stands

abbrev place : List Shape → Shape → ℕ
place ss a = position_or_len (same_shape a) ss

record StandsAt (ss : List Shape) (a : Shape) (i : ℕ) : Type 0 where
  within : i < length ss
  is : get_or ss i (s.Void false) ≡ a

stands_next : (b : Shape) (ss : List Shape) (a : Shape) (i : ℕ) → StandsAt ss a i → StandsAt (b ∷ ss) a (1 + i)
stands_next b ss a i h =
    let next : 1 + i ≡ suc i = omega arith in
    record { within = omega (arith, h.within); is = ap (λ j. get_or (b ∷ ss) j (s.Void false)) next ∙ h.is }

found_at : (ss : List Shape) (a : Shape) → list_any (same_shape a) ss ≡ true → StandsAt ss a (place ss a)
found_at [] a e = cc
found_at (b ∷ ss) a e = by (same_shape a b) refl e (found_at ss a)
  where
    by : (x : Bool) → same_shape a b ≡ x → (x || list_any (same_shape a) ss) ≡ true → (list_any (same_shape a) ss ≡ true → StandsAt ss a (place ss a)) → StandsAt (b ∷ ss) a (place (b ∷ ss) a)
    by true q h again = rw q (record { within = omega arith; is = sym (says a b q) })
    by false q h again = rw q (stands_next b ss a (place ss a) (again h))

at_end : (ss : List Shape) (a : Shape) → list_any (same_shape a) ss ≡ false → place ss a ≡ length ss
at_end [] a e = refl
at_end (b ∷ ss) a e = by (same_shape a b) refl e (at_end ss a)
  where
    by : (x : Bool) → same_shape a b ≡ x → (x || list_any (same_shape a) ss) ≡ false → (list_any (same_shape a) ss ≡ false → place ss a ≡ length ss) → place (b ∷ ss) a ≡ length (b ∷ ss)
    by true q h again = cc
    by false q h again = rw q (omega (arith, again h))

inserted_at : (ss : List Shape) (a : Shape) → StandsAt (insert_key same_shape ss a) a (place ss a)
inserted_at ss a = by (list_any (same_shape a) ss) refl
  where
    by : (x : Bool) → list_any (same_shape a) ss ≡ x → StandsAt (insert_key same_shape ss a) a (place ss a)
    by true q = rw q (found_at ss a q)
    by false q = rw (q, at_end ss a q) (record { within = omega (arith, length-append ss (a ∷ [])); is = get_or-append_seam ss a [] (s.Void false) })

module _ (ss : List Shape) (table : IsTable ss) where
  long : length ss ≡ length (types_of ss)
  long = omega (arith, length_from [] ss)

  bare_is : (t : TypeId) → is_bare_in ss t ≡ is_bare (types_of ss) t
  bare_is t = two_tests (λ x y. x && not y) _ _ _ _ (ap (nat_lt t.0) long) (sym (const_of (types_of ss) (shape_of ss t)) ∙ ap types.has_const (type_is ss table t))

  function_is : (t : TypeId) → is_function_in ss t ≡ is_function_number (types_of ss) t
  function_is t = two_tests (λ x y. x && y) _ _ _ _ (ap (nat_lt t.0) long) (sym (function_of (types_of ss) (shape_of ss t)) ∙ ap types.is_function (type_is ss table t))

  made_is : (a : Shape) → is_made ss a ≡ is_sound (types_of ss) a
  made_is (s.Pointer k t) = ap (nat_lt t.0) long
  made_is (s.Array k t n) = bare_is t
  made_is (s.Function t) = bare_is t
  made_is (s.Takes t f) = two_tests (λ x y. x && y) _ _ _ _ (bare_is t) (function_is f)
  made_is (s.Void k) = refl
  made_is (s.Integer k kind) = refl
  made_is (s.Struct k id) = refl

  stays_made : (a : Shape) → IsSound (types_of ss) a → made_or_void ss a ≡ a
  stays_made a h = ap (λ b. if b then a else s.Void false) (made_is a ∙ h)

  at_makes : (a : Shape) → IsSound (types_of ss) a → Makes ss (interned_at ss a) (built (types_of ss) a)
  at_makes a h =
      let new = insert_key same_shape ss a in
      let t = insert_table same_shape tells ss a table h in
      let p = inserted_at ss a in
      record {
        table = t.table;
        extends = t.extends;
        within = p.within;
        is = sym (type_is new t.table (numbered (place ss a))) ∙ ap (built (types_of new)) p.is ∙ built_stays (types_of ss) (types_of new) t.extends a h;
      }

  pub makes : (a : Shape) → IsSound (types_of ss) a → Makes ss (interned ss a) (built (types_of ss) a)
  makes a h = subst (λ x. Makes ss (interned_at ss x) (built (types_of ss) a)) (sym (stays_made a h)) (at_makes a h)

  -- a type made after others
  pub makes_on : (p q : List Shape × TypeId) (t u : CTypeTree) → Makes ss p t → Makes p.0 q u → Makes ss q u
  makes_on p q t u a b = record { table = b.table; extends = extends_on _ _ _ a.extends b.extends; within = b.within; is = b.is }

never_const : (t : CTypeTree) → not (types.has_const (types.with_const false t)) ≡ true
never_const (void k) = refl
never_const (integer_of k kind) = refl
never_const (pointer_to k t) = refl
never_const (array_of k t n) = refl
never_const (returning t) = refl
never_const (taking t f) = refl
never_const (struct_by k id) = refl

module _ (ss : List Shape) (table : IsTable ss) where
  abbrev bare : TypeId → List Shape × TypeId
  bare t = interned ss (with_const false (shape_of ss t))

  const_kept : (k : Bool) (t : TypeId) → built (types_of ss) (with_const k (shape_of ss t)) ≡ types.with_const k (type_at (types_of ss) t)
  const_kept k t = const_type (types_of ss) k (shape_of ss t) ∙ ap (types.with_const k) (type_is ss table t)

  const_is : (t : TypeId) → is_const (shape_of ss t) ≡ types.has_const (type_at (types_of ss) t)
  const_is t = sym (const_of (types_of ss) (shape_of ss t)) ∙ ap types.has_const (type_is ss table t)

  const_makes : (k : Bool) (t : TypeId) → Makes ss (interned ss (with_const k (shape_of ss t))) (types.with_const k (type_at (types_of ss) t))
  const_makes k t = subst (Makes ss _) (const_kept k t) (makes ss table (with_const k (shape_of ss t)) (const_sound (types_of ss) k (shape_of ss t) (shape_sound ss table t)))

  bare_stands : (t : TypeId) → is_bare (types_of (bare t).0) (bare t).1 ≡ true
  bare_stands t =
      let m = const_makes false t in
      let less : (bare t).1.0 < length (types_of (bare t).0) = omega (arith, m.within, length_from [] (bare t).0) in
      and_both _ _ (lt-ltb _ _ less) (ap (λ x. not (types.has_const x)) m.is ∙ never_const (type_at (types_of ss) t))

  made_on : (t : TypeId) (a : Shape) (u : CTypeTree) → IsSound (types_of (bare t).0) a → built (types_of (bare t).0) a ≡ u → Makes ss (interned (bare t).0 a) u
  made_on t a u h e =
      let m = const_makes false t in
      makes_on ss table (bare t) (interned (bare t).0 a) _ u m (subst (Makes (bare t).0 _) e (makes (bare t).0 m.table a h))

  pub array_makes : (t : TypeId) (n : Option ℕ) → Makes ss (array_made ss t n) (array_from (type_at (types_of ss) t) n)
  array_makes t n =
      let m = const_makes false t in
      made_on t (s.Array (is_const (shape_of ss t)) (bare t).1 n) _ (bare_stands t)
      (ap (λ x. array_of (is_const (shape_of ss t)) x n) m.is ∙ ap (λ k. array_of k (types.with_const false (type_at (types_of ss) t)) n) (const_is t))

  pub function_makes : (t : TypeId) → Makes ss (function_made ss t) (function_to (type_at (types_of ss) t))
  function_makes t = made_on t (s.Function (bare t).1) _ (bare_stands t) (ap returning (const_makes false t).is)

  pub taking_makes : (t f : TypeId) → f.0 < length ss → types.is_function (type_at (types_of ss) f) ≡ true → Makes ss (taking_made ss t f) (function_taking (type_at (types_of ss) t) (type_at (types_of ss) f))
  taking_makes t f less e =
      let m = const_makes false t in
      let there : is_function_number (types_of ss) f ≡ true = and_both _ _ (lt-ltb _ _ (omega (arith, less, length_from [] ss))) e in
      let stays : type_at (types_of (bare t).0) f ≡ type_at (types_of ss) f = m.extends.same f.0 (omega (arith, less, length_from [] ss)) in
      made_on t (s.Takes (bare t).1 f) _ (and_both _ _ (bare_stands t) (function_stays (types_of ss) (types_of (bare t).0) m.extends f there))
      (ap (λ x. taking x (type_at (types_of (bare t).0) f)) m.is ∙ ap (taking (types.with_const false (type_at (types_of ss) t))) stays)

  pub const_added : (k : Bool) (t : TypeId) → Makes ss (const_made ss k t) (spec.also_const k (type_at (types_of ss) t))
  const_added k t = subst (λ b. Makes ss (const_made ss k t) (types.with_const (k || b) (type_at (types_of ss) t))) (const_is t) (const_makes (k || is_const (shape_of ss t)) t)
