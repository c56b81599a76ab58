-- What is asked of shapes is asked of their types.
use Rattle.std.proofs.Common.{◌≡◌, refl, ap, ◌∙◌, Bool, true, ◌&&◌, ◌||◌, not, List, [], ◌<◌, length, arith}
use Rattle.std.specs.Prelude.{Option, Some, None, IfSome, option_map}
use Rattle.std.proofs.lemmas.Bool.{ltb-true, eqb-true, eq-eqb}
use Rattle.cc_types.specs.CTypes as types
use Rattle.cc_types.specs.CTypes.{CTypeTree}
use Rattle.cc_types.specs.SameTypes.{same_type, same_flag}
use Rattle.cc_types.specs.declared.shape.Shape.{Shape}
use Rattle.cc_types.specs.declared.shape.Shape.TheVariants as s
use Rattle.cc_types.specs.declared.shape.TypeId.{TypeId}
use Rattle.cc_types.specs.declared.expr_type.ExprType.{ExprType}
use Rattle.cc_types.specs.declared.expr_type.ExprType.TheVariants.{Plain, Address}
use Rattle.cc_types.specs.Shapes.{type_number, type_at, built, IsSound, types_of, IsTable}
use Rattle.cc_types.specs.ExprTypes.{expr_type, HasSound}
use Rattle.cc_types.specs.Interning.{same_shape, with_const, shape_of}
use Rattle.cc_types.specs.Questions as spec
use Rattle.cc_types.specs.Asked as asked
use Rattle.cc_types.proofs.GrowingTables.{one_shape, bare_parts, length_from}
use Rattle.cc_types.proofs.MadeShapes.{type_is, shape_sound}
use Rattle.cc_types.proofs.ShapeEquality as shapes
use Rattle.cc_types.proofs.TypeEquality.{says, tells, one_test}

module _ (ts : List CTypeTree) where
  pub const_type : (k : Bool) (a : Shape) → built ts (with_const k a) ≡ types.with_const k (built ts a)
  const_type k (s.Void j) = refl
  const_type k (s.Integer j kind) = refl
  const_type k (s.Pointer j t) = refl
  const_type k (s.Array j t n) = refl
  const_type k (s.Function t) = refl
  const_type k (s.Takes t f) = refl
  const_type k (s.Struct j id) = refl

  pub const_sound : (k : Bool) (a : Shape) → IsSound ts a → IsSound ts (with_const k a)
  const_sound k (s.Void j) h = refl
  const_sound k (s.Integer j kind) h = refl
  const_sound k (s.Pointer j t) h = h
  const_sound k (s.Array j t n) h = h
  const_sound k (s.Function t) h = h
  const_sound k (s.Takes t f) h = h
  const_sound k (s.Struct j id) h = refl

  unqualified_type : (a : Shape) → built ts (asked.unqualified a) ≡ spec.unqualified (built ts a)
  unqualified_type (s.Void j) = refl
  unqualified_type (s.Integer j kind) = refl
  unqualified_type (s.Pointer j t) = refl
  unqualified_type (s.Array j t n) = refl
  unqualified_type (s.Function t) = refl
  unqualified_type (s.Takes t f) = refl
  unqualified_type (s.Struct j id) = refl

  unqualified_sound : (a : Shape) → IsSound ts a → IsSound ts (asked.unqualified a)
  unqualified_sound (s.Void j) h = refl
  unqualified_sound (s.Integer j kind) h = refl
  unqualified_sound (s.Pointer j t) h = h
  unqualified_sound (s.Array j t n) h = h
  unqualified_sound (s.Function t) h = h
  unqualified_sound (s.Takes t f) h = h
  unqualified_sound (s.Struct j id) h = refl

  array_type : (a : Shape) → asked.is_array a ≡ types.is_array (built ts a)
  array_type (s.Void j) = refl
  array_type (s.Integer j kind) = refl
  array_type (s.Pointer j t) = refl
  array_type (s.Array j t n) = refl
  array_type (s.Function t) = refl
  array_type (s.Takes t f) = refl
  array_type (s.Struct j id) = refl

module _ (ss : List Shape) (table : IsTable ss) where
  pub pointee_asked : (t : ExprType) → option_map (built (types_of ss)) (asked.pointee_in ss t) ≡ spec.pointee_of (expr_type (types_of ss) t)
  pointee_asked (Address a) = refl
  pointee_asked (Plain (s.Pointer k id)) = ap Some (type_is ss table id)
  pointee_asked (Plain (s.Void k)) = refl
  pointee_asked (Plain (s.Integer k kind)) = refl
  pointee_asked (Plain (s.Array k id n)) = refl
  pointee_asked (Plain (s.Function id)) = refl
  pointee_asked (Plain (s.Takes id f)) = refl
  pointee_asked (Plain (s.Struct k id)) = refl

  pub pointee_sound : (t : ExprType) → HasSound (types_of ss) t → IfSome (asked.pointee_in ss t) (IsSound (types_of ss))
  pointee_sound (Address a) h = h
  pointee_sound (Plain (s.Pointer k id)) h = shape_sound ss table id
  pointee_sound (Plain (s.Void k)) h = tt
  pointee_sound (Plain (s.Integer k kind)) h = tt
  pointee_sound (Plain (s.Array k id n)) h = tt
  pointee_sound (Plain (s.Function id)) h = tt
  pointee_sound (Plain (s.Takes id f)) h = tt
  pointee_sound (Plain (s.Struct k id)) h = tt

pub two_tests : (f : Bool → Bool → Bool) (a b c d : Bool) → a ≡ b → c ≡ d → f a c ≡ f b d
two_tests f a b c d p q = rw (p, q) refl

module _ (ss : List Shape) (table : IsTable ss) where
  pub same_asked : (a b : Shape) → IsSound (types_of ss) a → IsSound (types_of ss) b → same_shape a b ≡ same_type (built (types_of ss) a) (built (types_of ss) b)
  same_asked a b ha hb =
      one_test _ _
      (λ h. tells _ _ (ap (built (types_of ss)) (shapes.says a b h)))
      (λ h. shapes.tells a b (one_shape (types_of ss) table.once a b ha hb (says _ _ h)))

  pub unqualified_asked : (a b : Shape) → IsSound (types_of ss) a → IsSound (types_of ss) b → asked.same_unqualified a b ≡ spec.same_unqualified (built (types_of ss) a) (built (types_of ss) b)
  unqualified_asked a b ha hb =
      let p = same_asked (asked.unqualified a) (asked.unqualified b) (unqualified_sound (types_of ss) a ha) (unqualified_sound (types_of ss) b hb) in
      p ∙ ap (λ x. same_type x (built (types_of ss) (asked.unqualified b))) (unqualified_type (types_of ss) a) ∙ ap (same_type (spec.unqualified (built (types_of ss) a))) (unqualified_type (types_of ss) b)

  pub gains_asked : (a b : Shape) → IsSound (types_of ss) a → IsSound (types_of ss) b → asked.is_or_gains_const a b ≡ spec.is_or_gains_const (built (types_of ss) a) (built (types_of ss) b)
  gains_asked a b ha hb =
      let ts = types_of ss in
      let p = same_asked a b ha hb in
      let q = same_asked (with_const true a) b (const_sound ts true a ha) hb ∙ ap (λ x. same_type x (built ts b)) (const_type ts true a) in
      two_tests (λ x y. x || y) _ _ _ _ p (two_tests (λ x y. not x && y) _ _ _ _ (array_type ts a) q)

  module _ (on_shapes : Shape → Shape → Bool) (on_types : CTypeTree → CTypeTree → Bool) (law : (a b : Shape) → IsSound (types_of ss) a → IsSound (types_of ss) b → on_shapes a b ≡ on_types (built (types_of ss) a) (built (types_of ss) b)) where
    both_asked : (m n : Option Shape) → IfSome m (IsSound (types_of ss)) → IfSome n (IsSound (types_of ss)) → asked.if_both on_shapes m n ≡ spec.if_both on_types (option_map (built (types_of ss)) m) (option_map (built (types_of ss)) n)
    both_asked (Some a) (Some b) ha hb = law a b ha hb
    both_asked (Some a) None ha hb = refl
    both_asked None (Some b) ha hb = refl
    both_asked None None ha hb = refl

    pub pointees_asked : (s t : ExprType) → HasSound (types_of ss) s → HasSound (types_of ss) t
        → asked.if_both on_shapes (asked.pointee_in ss s) (asked.pointee_in ss t) ≡ spec.if_both on_types (spec.pointee_of (expr_type (types_of ss) s)) (spec.pointee_of (expr_type (types_of ss) t))
    pointees_asked s t hs ht =
        both_asked (asked.pointee_in ss s) (asked.pointee_in ss t) (pointee_sound ss table s hs) (pointee_sound ss table t ht)
        ∙ ap (λ m. spec.if_both on_types m (option_map (built (types_of ss)) (asked.pointee_in ss t))) (pointee_asked ss table s)
        ∙ ap (spec.if_both on_types (spec.pointee_of (expr_type (types_of ss) s))) (pointee_asked ss table t)

  pub one_pointee : (s t : ExprType) → HasSound (types_of ss) s → HasSound (types_of ss) t → asked.point_at_one ss s t ≡ spec.point_at_one (expr_type (types_of ss) s) (expr_type (types_of ss) t)
  one_pointee s t hs ht = pointees_asked same_shape same_type same_asked s t hs ht

  pub alike_asked : (s t : ExprType) → HasSound (types_of ss) s → HasSound (types_of ss) t → asked.point_alike ss s t ≡ spec.point_alike (expr_type (types_of ss) s) (expr_type (types_of ss) t)
  alike_asked s t hs ht = pointees_asked asked.same_unqualified spec.same_unqualified unqualified_asked s t hs ht

  pub may_point_asked : (s t : ExprType) → HasSound (types_of ss) s → HasSound (types_of ss) t → asked.may_point_at ss s t ≡ spec.may_point_at (expr_type (types_of ss) s) (expr_type (types_of ss) t)
  may_point_asked s t hs ht = pointees_asked asked.is_or_gains_const spec.is_or_gains_const gains_asked s t hs ht

  pub fits_asked : (s : ExprType) (is_null : Bool) (t : ExprType) → HasSound (types_of ss) s → HasSound (types_of ss) t → asked.fits_scalar ss s is_null t ≡ spec.fits_scalar (expr_type (types_of ss) s) is_null (expr_type (types_of ss) t)
  fits_asked s is_null t hs ht = ap (λ b. asked.is_integer ss s && asked.is_integer ss t || b || is_null && asked.is_pointer ss t) (may_point_asked s t hs ht)

  -- ---- Declarations of one name

  pub number_asked : (a b : TypeId) → a.0 < length (types_of ss) → b.0 < length (types_of ss) → asked.same_number a b ≡ same_type (type_at (types_of ss) a) (type_at (types_of ss) b)
  number_asked a b ha hb =
      one_test _ _
      (λ h. tells _ _ (ap (type_number (types_of ss)) (eqb-true a.0 b.0 h)))
      (λ h. eq-eqb a.0 b.0 (table.once a.0 b.0 ha hb (says _ _ h)))

  length_asked : (a b : Shape) → IsSound (types_of ss) a → IsSound (types_of ss) b → asked.alike_but_length a b ≡ spec.alike_but_length (built (types_of ss) a) (built (types_of ss) b)
  length_asked (s.Array k t m) (s.Array j u n) ha hb =
      let p = bare_parts (types_of ss) t ha in
      let q = bare_parts (types_of ss) u hb in
      ap (λ e. same_flag k j && e && spec.lacks_length m n) (number_asked t u (ltb-true _ _ p.0) (ltb-true _ _ q.0))
  length_asked a b ha hb = refl

  pub compatible_asked : (a b : TypeId) → a.0 < length ss → b.0 < length ss → asked.compatible ss a b ≡ spec.compatible (type_at (types_of ss) a) (type_at (types_of ss) b)
  compatible_asked a b ha hb =
      let ts = types_of ss in
      let long = length_from [] ss in
      let p = number_asked a b (omega (arith, ha, long)) (omega (arith, hb, long)) in
      let q = length_asked (shape_of ss a) (shape_of ss b) (shape_sound ss table a) (shape_sound ss table b) in
      let r = ap (λ x. spec.alike_but_length x (built ts (shape_of ss b))) (type_is ss table a) ∙ ap (spec.alike_but_length (type_at ts a)) (type_is ss table b) in
      two_tests (λ x y. x || y) _ _ _ _ p (q ∙ r)
