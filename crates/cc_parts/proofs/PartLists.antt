-- Parts that are put one after another are the parts of the type, behind those that are there.
use Rattle.std.proofs.Common.{◌≡◌, ℕ, zero, suc, ◌+◌, ◌-◌, ◌<◌, Bool, true, List, [], ◌∷◌, ◌++◌, length, refl, sym, ap, ◌∙◌, arith, append_assoc, append-nil}
use Rattle.std.specs.Prelude.{slice_set}
use Rattle.cc_tree.specs.declared.ids.StructId.{StructId}
use Rattle.cc_types.specs.declared.shape.Shape.{Shape}
use Rattle.cc_types.specs.declared.shape.Shape.TheVariants as s
use Rattle.cc_types.specs.declared.shape.TypeId.{TypeId}
use Rattle.cc_types.specs.declared.structs.Member.{Member}
use Rattle.cc_types.specs.declared.structs.StructEntry.{StructEntry}
use Rattle.cc_types.specs.Interning.{shape_of}
use Rattle.cc_types.specs.Measures.{entry_of}
use Rattle.cc_parts.specs.declared.part.Part.{Part}
use Rattle.cc_parts.specs.declared.part.Form.{Form}
use Rattle.cc_parts.specs.declared.part.Form.TheVariants as form
use Rattle.cc_parts.specs.TypeParts.{part, headed, parts_of_members, parts_by_shape, parts_of}
use Rattle.cc_parts.specs.Putting.{with_leaf, closed, with_members, array_by, struct_by, shape_by, with_parts}

set_head : (old inner : List Part) (x y : Part) → slice_set ((old ++ x ∷ []) ++ inner) (length old) y ≡ old ++ y ∷ inner
set_head [] inner x y = refl
set_head (z ∷ old) inner x y = ap (λ xs. z ∷ xs) (set_head old inner x y)

long_since : (old inner : List Part) (x : Part) → length ((old ++ x ∷ []) ++ inner) - length old ≡ suc (length inner)
long_since [] inner x = omega arith
long_since (z ∷ old) inner x = omega (arith, long_since old inner x)

-- a part that was put before what it is made of, and then said to be made of it
wrapped : (old inner : List Part) (o : ℕ) (f : Form) (a : Bool) → closed (length old) o f a (with_leaf o form.Other a old ++ inner) ≡ old ++ headed o f a inner
wrapped old inner o f a =
    let x = part o form.Other a 1 in
    ap (λ k. slice_set ((old ++ x ∷ []) ++ inner) (length old) (part o f a k)) (long_since old inner x) ∙ set_head old inner x (part o f a (suc (length inner)))

module _ (put : Bool → TypeId → List Part → List Part) (parts : Bool → TypeId → List Part) (same : (a : Bool) (t : TypeId) (out : List Part) → put a t out ≡ out ++ parts a t) where
  members_put : (a : Bool) (ms : List Member) (out : List Part) → with_members (put a) ms out ≡ out ++ parts_of_members (parts a) ms
  members_put a [] out = sym (append-nil out)
  members_put a (m ∷ ms) out =
      members_put a ms (put a m.kind out) ∙ ap (λ xs. xs ++ parts_of_members (parts a) ms) (same a m.kind out) ∙ append_assoc out (parts a m.kind) (parts_of_members (parts a) ms)

  shape_put : (es : List StructEntry) (o : ℕ) (a : Bool) (x : Shape) (out : List Part) → shape_by put es o a x out ≡ out ++ parts_by_shape parts es o a x
  shape_put es o a (s.Array k t n) out = ap (closed (length out) o form.Array a) (same true t (with_leaf o form.Other a out)) ∙ wrapped out (parts true t) o form.Array a
  shape_put es o a (s.Struct k id) out =
      let ms = (entry_of es id).members in
      ap (closed (length out) o (form.Struct id) a) (members_put a ms (with_leaf o form.Other a out)) ∙ wrapped out (parts_of_members (parts a) ms) o (form.Struct id) a
  shape_put es o a (s.Pointer k t) out = refl
  shape_put es o a (s.Integer k kind) out = refl
  shape_put es o a (s.Void k) out = refl
  shape_put es o a (s.Function t) out = refl
  shape_put es o a (s.Takes t f) out = refl

pub parts_put : (ss : List Shape) (es : List StructEntry) (o depth : ℕ) (a : Bool) (t : TypeId) (out : List Part) → with_parts ss es o depth a t out ≡ out ++ parts_of ss es o depth a t
parts_put ss es o zero a t out = refl
parts_put ss es o (suc depth) a t out = shape_put (with_parts ss es o depth) (parts_of ss es o depth) (parts_put ss es o depth) es o a (shape_of ss t) out

-- one type less deep
pub with_parts-step : (ss : List Shape) (es : List StructEntry) (o depth k : ℕ) (a : Bool) (t : TypeId) (out : List Part) → depth ≡ k + 1
    → with_parts ss es o depth a t out ≡ shape_by (with_parts ss es o k) es o a (shape_of ss t) out
with_parts-step ss es o zero k a t out e = absurd (omega arith)
with_parts-step ss es o (suc n) k a t out e =
    let same : n ≡ k = omega arith in
    ap (λ m. shape_by (with_parts ss es o m) es o a (shape_of ss t) out) same

pub with_parts-none : (ss : List Shape) (es : List StructEntry) (o depth : ℕ) (a : Bool) (t : TypeId) (out : List Part) → depth ≡ 0
    → with_parts ss es o depth a t out ≡ with_leaf o form.Other a out
with_parts-none ss es o zero a t out e = refl
with_parts-none ss es o (suc n) a t out e = absurd (omega arith)
