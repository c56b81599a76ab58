-- What the parts of rules mean.
use Rattle.std.proofs.Common.{◌≡◌, refl, ap, sym, ◌∙◌, ℕ, Bool, true, false, ◌||◌, List, if◌then◌else◌}
use Rattle.std.specs.Prelude.{Option, Some, None, IfSome, option_map}
use Rattle.cc_types.specs.CTypes as types
use Rattle.cc_types.specs.CTypes.{CTypeTree, pointer_to}
use Rattle.cc_types.specs.Questions.{value_type}
use Rattle.cc_types.specs.Asked.{value_in}
use Rattle.cc_types.specs.declared.shape.Shape.{Shape}
use Rattle.cc_types.specs.declared.shape.Shape.TheVariants as s
use Rattle.cc_types.specs.declared.expr_type.ExprType.{ExprType}
use Rattle.cc_types.specs.declared.expr_type.ExprType.TheVariants.{Plain, Address}
use Rattle.cc_types.specs.Shapes.{built, type_at, types_of, IsTable, IsSound}
use Rattle.cc_types.specs.ExprTypes.{expr_type, HasSound}
use Rattle.cc_types.specs.Interning.{shape_of}
use Rattle.cc_types.proofs.AskedTypes.{const_type, const_sound}
use Rattle.cc_types.proofs.MadeShapes.{type_is, shape_sound}
use Rattle.cc_judging.specs.declared.judged.Judged.{Judged}
use Rattle.cc_judging.specs.declared.judged.Judged.TheVariants as j
use Rattle.cc_judging.specs.declared.judged.Part.{Part}
use Rattle.cc_judging.specs.Judging as numbers
use Rattle.cc_typing_laws.specs.Judgements.{Judgement, typed, breaks, misfits, untyped, type_part, or_breaks, meant, JudgedSound}

pub contra : {A : Type 0} → false ≡ true → A
contra e = cc

module _ (ts : List CTypeTree) where
  pub or_is : (b : Bool) (t : ExprType) (r : ℕ) (p : Part) → meant ts (numbers.or_breaks b t r p) ≡ or_breaks b (expr_type ts t) r p
  or_is true t r p = refl
  or_is false t r p = refl

  pub or_sound : (b : Bool) (t : ExprType) (r : ℕ) (p : Part) → HasSound ts t → JudgedSound ts (numbers.or_breaks b t r p)
  or_sound true t r p h = h
  or_sound false t r p h = tt

  pub if_is : (b : Bool) (x y : Judged) (u v : Judgement) → meant ts x ≡ u → meant ts y ≡ v → meant ts (if b then x else y) ≡ (if b then u else v)
  if_is true x y u v p q = p
  if_is false x y u v p q = q

  pub if_sound : (b : Bool) (x y : Judged) → JudgedSound ts x → JudgedSound ts y → JudgedSound ts (if b then x else y)
  if_sound true x y p q = p
  if_sound false x y p q = q

  pub part_is : (x : Judged) → option_map (expr_type ts) (numbers.kind_of x) ≡ type_part (meant ts x)
  part_is (j.Typed t) = refl
  part_is (j.Breaks r p) = refl
  part_is (j.Misfits t) = refl
  part_is j.Untyped = refl

module _ (ss : List Shape) (table : IsTable ss) where
  pub value_is : (t : ExprType) → expr_type (types_of ss) (value_in ss t) ≡ value_type (expr_type (types_of ss) t)
  value_is (Address a) = refl
  value_is (Plain (s.Array k t n)) = ap (pointer_to false) (const_type (types_of ss) k (shape_of ss t) ∙ ap (types.with_const k) (type_is ss table t))
  value_is (Plain (s.Void k)) = refl
  value_is (Plain (s.Integer k kind)) = refl
  value_is (Plain (s.Pointer k t)) = refl
  value_is (Plain (s.Function t)) = refl
  value_is (Plain (s.Takes t f)) = refl
  value_is (Plain (s.Struct k id)) = refl

  pub value_sound : (t : ExprType) → HasSound (types_of ss) t → HasSound (types_of ss) (value_in ss t)
  value_sound (Address a) h = h
  value_sound (Plain (s.Array k t n)) h = const_sound (types_of ss) k (shape_of ss t) (shape_sound ss table t)
  value_sound (Plain (s.Void k)) h = h
  value_sound (Plain (s.Integer k kind)) h = h
  value_sound (Plain (s.Pointer k t)) h = h
  value_sound (Plain (s.Function t)) h = h
  value_sound (Plain (s.Takes t f)) h = h
  value_sound (Plain (s.Struct k id)) h = h
