-- Which slots are put for an lvalue.
use Rattle.std.proofs.Common.{◌≡◌, ℕ, zero, suc, ◌+◌, ◌-◌, ◌<◌, ◌≤◌, ◌⊎◌, inl, inr, true, if◌then◌else◌, List, [], ◌∷◌, ◌++◌, length, take, drop, Option, Some, None, refl, sym, ap, ◌∙◌, subst, arith}
use Rattle.std.specs.Prelude.{slice_get}
use Rattle.std.proofs.lemmas.Bool.{cases_lt}
use Rattle.std.proofs.lemmas.List.{drop-drop, length-drop}
use Rattle.std.proofs.lemmas.Option.{slice_get_within}
use Rattle.cc_facts.specs.declared.facts.Facts.{Facts}
use Rattle.cc_facts.specs.Told.{has_part}
use Rattle.cc_listed.specs.declared.table.Access.{Access}
use Rattle.cc_parts.specs.declared.part.Part.{Part}
use Rattle.cc_parts.specs.PartTables.{is_scalar, form_in, size_in, is_slot}
use Rattle.cc_rows.specs.Gains.{Gains}
use Rattle.cc_rows.proofs.Gained.{gains_none, gains_on, gains_as}
use Rattle.cc_uses.specs.declared.put.Reach.{Reach}
use Rattle.cc_uses.specs.declared.put.Reach.TheVariants.{Itself, Inner}
use Rattle.cc_uses.specs.Putting.{put_from}
use Rattle.cc_uses.specs.Accessing.{reached, access, put_slot, with_part, with_parts, with_lvalue}
use Rattle.cc_uses.specs.Uses.{size_by, MayHave}
use Rattle.cc_uses.proofs.Gaining.{OneOf, put_gains, gains_if, gains_one}

-- the first n of a list
taken : {A : Type 0} (xs : List A) (n i : ℕ) (x : A) → slice_get (take n xs) i ≡ Some x → (i < n) × (slice_get xs i ≡ Some x)
taken xs zero i x at = absurd (let e = at in cc)
taken [] (suc n) i x at = absurd (let e = at in cc)
taken (y ∷ ys) (suc n) zero x at = (omega arith, at)
taken (y ∷ ys) (suc n) (suc i) x at = let h = taken ys n i x at in (omega arith, h.1)

takes : {A : Type 0} (xs : List A) (n i : ℕ) (x : A) → i < n → slice_get xs i ≡ Some x → slice_get (take n xs) i ≡ Some x
takes xs zero i x lt at = absurd (omega arith)
takes [] (suc n) i x lt at = absurd (let e = at in cc)
takes (y ∷ ys) (suc n) zero x lt at = at
takes (y ∷ ys) (suc n) (suc i) x lt at = takes ys n i x (omega arith) at

get_dropped : {A : Type 0} (xs : List A) (q i : ℕ) → slice_get (drop q xs) i ≡ slice_get xs (q + i)
get_dropped xs zero i = let e : i ≡ 0 + i = omega arith in ap (λ m. slice_get xs m) e
get_dropped [] (suc q) i = let e : suc (q + i) ≡ suc q + i = omega arith in ap (λ m. slice_get [] m) e
get_dropped (y ∷ ys) (suc q) i = let e : suc (q + i) ≡ suc q + i = omega arith in get_dropped ys q i ∙ ap (λ m. slice_get (y ∷ ys) m) e

a_part : (o : Option Part) → is_scalar (form_in o) ≡ true → (x : Part) × (o ≡ Some x)
a_part (Some x) is = (x, refl)
a_part None is = absurd (let e = is in cc)

slot_within : (parts : List Part) (s : ℕ) → is_slot parts s ≡ true → s < length parts
slot_within parts s is = let h = a_part (slice_get parts s) is in slice_get_within parts s h.0 h.1

module _ (parts : List Part) (point l : ℕ) where
  -- the slot is among those that the part q is made of
  abbrev pub InPart : Reach → ℕ → Access → Type 0
  InPart r q a = (q ≤ a.slot) × (a.slot < q + size_by r parts q) × (is_slot parts a.slot ≡ true) × (access point a.slot l ≡ a)

  abbrev pub IsPut : ℕ → Part → Access → Type 0
  IsPut q x a = (is_scalar x.form ≡ true) × (access point q l ≡ a)

  slot_gains : (q : ℕ) (x : Part) (out : List Access) → Gains out (put_slot point l q x out) (IsPut q x)
  slot_gains q x out = gains_if (is_scalar x.form) out (out ++ access point q l ∷ []) (λ a. access point q l ≡ a) (gains_one out (access point q l))

  sized : (r : Reach) (q : ℕ) (x : Part) → slice_get parts q ≡ Some x → reached r x ≡ size_by r parts q
  sized Itself q x at = refl
  sized Inner q x at = sym (ap size_in at)

  to_part : (r : Reach) (q : ℕ) (x : Part) (xs : List Part) → x ∷ xs ≡ drop q parts → (a : Access) → OneOf IsPut (take (reached r x) (x ∷ xs)) q a → InPart r q a
  to_part r q x xs is a (i, y, at, put) =
      let here = taken (x ∷ xs) (reached r x) i y at in
      let there : slice_get parts (q + i) ≡ Some y = sym (get_dropped parts q i) ∙ (ap (λ ys. slice_get ys i) (sym is) ∙ here.1) in
      let first : slice_get parts q ≡ Some x = ap (λ m. slice_get parts m) (let e : q ≡ q + 0 = omega arith in e) ∙ (sym (get_dropped parts q 0) ∙ ap (λ ys. slice_get ys 0) (sym is)) in
      let high : q + i < q + size_by r parts q = omega (arith, sized r q x first, here.0) in
      let slot : is_slot parts (q + i) ≡ true = ap (λ o. is_scalar (form_in o)) there ∙ put.0 in
      let same : q + i ≡ a.slot = ap (λ (b : Access). b.slot) put.1 in
      subst (λ s. (q ≤ s) × (s < q + size_by r parts q) × (is_slot parts s ≡ true) × (access point s l ≡ a)) same (omega arith, high, slot, put.1)

  from_part : (r : Reach) (q : ℕ) (x : Part) (xs : List Part) → x ∷ xs ≡ drop q parts → (a : Access) → InPart r q a → OneOf IsPut (take (reached r x) (x ∷ xs)) q a
  from_part r q x xs is a (low, high, slot, same) =
      let i : ℕ = a.slot - q in
      let at : q + i ≡ a.slot = omega arith in
      let y = a_part (slice_get parts a.slot) slot in
      let first : slice_get parts q ≡ Some x = ap (λ m. slice_get parts m) (let e : q ≡ q + 0 = omega arith in e) ∙ (sym (get_dropped parts q 0) ∙ ap (λ ys. slice_get ys 0) (sym is)) in
      let lt : i < reached r x = omega (arith, sized r q x first) in
      let there : slice_get (x ∷ xs) i ≡ Some y.0 = ap (λ ys. slice_get ys i) is ∙ (get_dropped parts q i ∙ (ap (λ m. slice_get parts m) at ∙ y.1)) in
      let scalar : is_scalar y.0.form ≡ true = ap (λ o. is_scalar (form_in o)) (sym y.1) ∙ slot in
      (i, y.0, takes (x ∷ xs) (reached r x) i y.0 lt there, (scalar, ap (λ m. access point m l) at ∙ same))

  past : (r : Reach) (q u : ℕ) → [] ≡ drop q parts → q ≤ u → (a : Access) → InPart r u a → ⊥
  past r q u is le a (low, high, slot, same) =
      let few : length parts - q ≡ 0 = sym (length-drop q parts) ∙ ap length (sym is) in
      omega (arith, slot_within parts a.slot slot)

  pub part_gains : (r : Reach) (q : ℕ) (xs : List Part) (out : List Access) → xs ≡ drop q parts → Gains out (with_part r point l xs q out) (InPart r q)
  part_gains r q [] out is = gains_none out (InPart r q) (past r q q is (omega arith))
  part_gains r q (x ∷ xs) out is =
      gains_as out (put_from (put_slot point l) (take (reached r x) (x ∷ xs)) q out) (OneOf IsPut (take (reached r x) (x ∷ xs)) q) (InPart r q)
      (to_part r q x xs is) (from_part r q x xs is) (put_gains (put_slot point l) IsPut slot_gains (take (reached r x) (x ∷ xs)) q out)

module _ (F : Facts) (r : Reach) (point l : ℕ) where
  -- the slot is in a part of the lvalue, from the q-th on
  abbrev pub InParts : ℕ → Access → Type 0
  InParts q a = (u : ℕ) × (q ≤ u) × (has_part F l u ≡ true) × InPart F.parts.parts point l r u a

  abbrev pub Here : ℕ → Access → Type 0
  Here q a = (has_part F l q ≡ true) × InPart F.parts.parts point l r q a

  split : (q : ℕ) (a : Access) → InParts q a → Here q a ⊎ InParts (q + 1) a
  split q a (u, low, has, in_part) = elim (cases_lt q u) [
    | inl lt ↦ inr (u, omega arith, has, in_part)
    | inr ge ↦ let same : u ≡ q = omega arith in inl (subst (λ m. Here m a) same (has, in_part))
  ]

  parts_gains : (xs : List Part) (q : ℕ) (out : List Access) → xs ≡ drop q F.parts.parts → Gains out (with_parts F r point l xs q out) (InParts q)
  parts_gains [] q out is = gains_none out (InParts q) (λ a (u, low, has, in_part). past F.parts.parts point l r q u is low a in_part)
  parts_gains (x ∷ xs) q out is =
      let put = with_part r point l (x ∷ xs) q out in
      let mid = if has_part F l q then put else out in
      let rest : xs ≡ drop (q + 1) F.parts.parts = ap (drop 1) is ∙ drop-drop 1 q F.parts.parts in
      gains_on out mid (with_parts F r point l xs (q + 1) mid) (Here q) (InParts (q + 1)) (InParts q)
      (gains_if (has_part F l q) out put (InPart F.parts.parts point l r q) (part_gains F.parts.parts point l r q (x ∷ xs) out is))
      (parts_gains xs (q + 1) mid rest)
      (split q)
      (λ a here. (q, omega arith, here.0, here.1))
      (λ a (u, low, has, in_part). (u, omega arith, has, in_part))

  pub parts_all : (out : List Access) → Gains out (with_parts F r point l F.parts.parts 0 out) (InParts 0)
  parts_all out = parts_gains F.parts.parts 0 out refl

-- an access of the lvalue l, with this reach, at this point
pub record IsOf (F : Facts) (reach : Option Reach) (point : Option ℕ) (l : ℕ) (a : Access) : Type 0 where
  pub r : Reach
  pub reaches : reach ≡ Some r
  pub at : point ≡ Some a.point
  pub lvalue : l ≡ a.occurrence
  pub slot : MayHave F r l a.slot

to_lvalue : (F : Facts) (r : Reach) (point l : ℕ) (a : Access) → InParts F r point l 0 a → IsOf F (Some r) (Some point) l a
to_lvalue F r point l a (u, le, has, (low, high, slot, same)) = record {
  r = r;
  reaches = refl;
  at = ap (λ (b : Access). Some b.point) same;
  lvalue = ap (λ (b : Access). b.occurrence) same;
  slot = record { part = u; may = has; low = low; high = high; slot = slot };
}

pub whole : (a : Access) (point l : ℕ) → point ≡ a.point → l ≡ a.occurrence → access point a.slot l ≡ a
whole a point l at lvalue = ap (λ m. access m a.slot l) at ∙ ap (λ m. access a.point a.slot m) lvalue

from_lvalue : (F : Facts) (r : Reach) (point l : ℕ) (a : Access) → IsOf F (Some r) (Some point) l a → InParts F r point l 0 a
from_lvalue F r point l a h =
    let same : h.r ≡ r = let e = h.reaches in cc in
    let at : point ≡ a.point = let e = h.at in cc in
    let s : MayHave F r l a.slot = subst (λ x. MayHave F x l a.slot) same h.slot in
    (s.part, omega arith, s.may, (s.low, s.high, s.slot, whole a point l at h.lvalue))

pub lvalue_gains : (F : Facts) (reach : Option Reach) (point : Option ℕ) (l : ℕ) (out : List Access) → Gains out (with_lvalue F reach point l out) (IsOf F reach point l)
lvalue_gains F (Some r) (Some point) l out =
    gains_as out (with_parts F r point l F.parts.parts 0 out) (InParts F r point l 0) (IsOf F (Some r) (Some point) l)
    (to_lvalue F r point l) (from_lvalue F r point l) (parts_all F r point l out)
lvalue_gains F (Some r) None l out = gains_none out (IsOf F (Some r) None l) (λ a h. let e = h.at in cc)
lvalue_gains F None point l out = gains_none out (IsOf F None point l) (λ a h. let e = h.reaches in cc)
