-- Shapes that are made of what is there.
use Rattle.std.proofs.Common.{◌≡◌, refl, ap, sym, ◌∙◌, subst, ℕ, ◌<◌, ◌≤◌, Bool, true, false, not, List, [], length, arith, nat_lt, if◌then◌else◌}
use Rattle.std.specs.Prelude.{Result, IfOk, OnErr}
use Rattle.std.proofs.lemmas.Bool.{ltb-true, ltb-false}
use Rattle.std.proofs.lemmas.List.{get_or_past}
use Rattle.indexmap.specs.IndexSet.{insert_key}
use Rattle.cc_types.specs.CTypes as types
use Rattle.cc_types.specs.CTypes.{CTypeTree, void}
use Rattle.cc_types.specs.declared.shape.Shape.{Shape}
use Rattle.cc_types.specs.declared.shape.Shape.TheVariants as s
use Rattle.cc_types.specs.declared.shape.TypeId.{TypeId}
use Rattle.cc_types.specs.Shapes.{type_at, built, is_bare, is_function_number, is_sound, IsSound, types_of, IsTable}
use Rattle.cc_types.specs.Interning.{same_shape, is_const, is_function, shape_of, is_bare_in, is_function_in, is_made, made_or_void}
use Rattle.cc_types.proofs.GrowingTables.{after, shape_at, length_from, both, and_both}
use Rattle.cc_types.proofs.ShapeEquality.{tells}

-- what is asked of a shape is asked of its type
pub const_of : (ts : List CTypeTree) (a : Shape) → types.has_const (built ts a) ≡ is_const a
const_of ts (s.Void k) = refl
const_of ts (s.Integer k kind) = refl
const_of ts (s.Pointer k t) = refl
const_of ts (s.Array k t n) = refl
const_of ts (s.Function t) = refl
const_of ts (s.Takes t f) = refl
const_of ts (s.Struct k id) = refl

pub function_of : (ts : List CTypeTree) (a : Shape) → types.is_function (built ts a) ≡ is_function a
function_of ts (s.Void k) = refl
function_of ts (s.Integer k kind) = refl
function_of ts (s.Pointer k t) = refl
function_of ts (s.Array k t n) = refl
function_of ts (s.Function t) = refl
function_of ts (s.Takes t f) = refl
function_of ts (s.Struct k id) = refl

module _ (ss : List Shape) (table : IsTable ss) where
  long : length (types_of ss) ≡ length ss
  long = omega (arith, length_from [] ss)

  there : (i : ℕ) → nat_lt i (length ss) ≡ true → nat_lt i (length (types_of ss)) ≡ true
  there i e = subst (λ n. nat_lt i n ≡ true) (sym long) e

  within : (id : TypeId) → id.0 < length (types_of ss) → (built (types_of ss) (shape_of ss id) ≡ type_at (types_of ss) id) × (is_sound (types_of ss) (shape_of ss id) ≡ true)
  within id less = shape_at ss (s.Void false) table.sound id.0 less

  past : (id : TypeId) → nat_lt id.0 (length ss) ≡ false → shape_of ss id ≡ s.Void false
  past id e = get_or_past ss id.0 (s.Void false) (ltb-false _ _ e)

  past_type : (id : TypeId) → nat_lt id.0 (length ss) ≡ false → type_at (types_of ss) id ≡ void false
  past_type id e = get_or_past (types_of ss) id.0 (void false) (ltb-false _ _ (subst (λ n. nat_lt id.0 n ≡ false) (sym long) e))

  pub void_past : (id : TypeId) → length ss ≤ id.0 → void false ≡ type_at (types_of ss) id
  void_past id e = sym (get_or_past (types_of ss) id.0 (void false) (omega (arith, e, long)))

  pub type_is : (id : TypeId) → built (types_of ss) (shape_of ss id) ≡ type_at (types_of ss) id
  type_is id = by (nat_lt id.0 (length ss)) refl
    where
      by : (b : Bool) → nat_lt id.0 (length ss) ≡ b → built (types_of ss) (shape_of ss id) ≡ type_at (types_of ss) id
      by true e = (within id (ltb-true _ _ (there id.0 e))).0
      by false e = ap (built (types_of ss)) (past id e) ∙ sym (past_type id e)

  pub shape_sound : (id : TypeId) → IsSound (types_of ss) (shape_of ss id)
  shape_sound id = by (nat_lt id.0 (length ss)) refl
    where
      by : (b : Bool) → nat_lt id.0 (length ss) ≡ b → IsSound (types_of ss) (shape_of ss id)
      by true e = (within id (ltb-true _ _ (there id.0 e))).1
      by false e = subst (IsSound (types_of ss)) (sym (past id e)) refl

  bare : (id : TypeId) → is_bare_in ss id ≡ true → is_bare (types_of ss) id ≡ true
  bare id e =
      let p = both (nat_lt id.0 (length ss)) (not (is_const (shape_of ss id))) e in
      and_both _ _ (there id.0 p.0) (ap (λ t. not (types.has_const t)) (sym (type_is id)) ∙ ap not (const_of (types_of ss) (shape_of ss id)) ∙ p.1)

  function : (id : TypeId) → is_function_in ss id ≡ true → is_function_number (types_of ss) id ≡ true
  function id e =
      let p = both (nat_lt id.0 (length ss)) (is_function (shape_of ss id)) e in
      and_both _ _ (there id.0 p.0) (ap types.is_function (sym (type_is id)) ∙ function_of (types_of ss) (shape_of ss id) ∙ p.1)

  is_sound_made : (a : Shape) → is_made ss a ≡ true → IsSound (types_of ss) a
  is_sound_made (s.Pointer k t) e = there t.0 e
  is_sound_made (s.Array k t n) e = bare t e
  is_sound_made (s.Function t) e = bare t e
  is_sound_made (s.Takes t f) e =
      let p = both (is_bare_in ss t) (is_function_in ss f) e in
      and_both _ _ (bare t p.0) (function f p.1)
  is_sound_made (s.Void k) e = refl
  is_sound_made (s.Integer k kind) e = refl
  is_sound_made (s.Struct k id) e = refl

  pub made_sound : (a : Shape) → IsSound (types_of ss) (made_or_void ss a)
  made_sound a = by (is_made ss a) refl
    where
      by : (b : Bool) → is_made ss a ≡ b → IsSound (types_of ss) (if b then a else s.Void false)
      by true e = is_sound_made a e
      by false e = refl

  pub inserted : {R E : Type 0} (new : List Shape) (a : Shape) (r : Result R E) → IfOk r (λ x. new ≡ insert_key same_shape ss a) → OnErr r (new ≡ ss) → IsSound (types_of ss) a → IsTable new
  inserted new a r ok err sound = (after _ tells ss new a r ok err table sound).table
