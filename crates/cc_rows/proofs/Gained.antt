-- Rows that were added to others.
use Rattle.std.proofs.Common.{ℕ, zero, suc, ◌+◌, ◌<◌, ◌≡◌, ◌⊎◌, inl, inr, ⊎_elim, List, [], ◌∷◌, ◌++◌, take, length, Some, sym, ap, ◌∙◌, subst, arith}
use Rattle.std.specs.Prelude.{Contains, ◌↔◌, Result, Ok, Err, OnOk, slice_get}
use Rattle.std.specs.declared.cmp.Ordering.{Ordering}
use Rattle.std.proofs.lemmas.List.Elements.{Contains-push, Contains-push_cases, Contains-append_left}
use Rattle.std.proofs.lemmas.Option.{slice_get_within, get_or_from_slice_get, slice_get-get_or}
use Rattle.cc_rows.specs.Gains.{Gains, Or, Each}
use Rattle.cc_rows.specs.Limits.{HasMore}

pub gains_none : {X : Type 0} (a : List X) (P : X → Type 0) → ((x : X) → P x → ⊥) → Gains a a P
gains_none a P never x = (inl, ⊎_elim (λ old. old) (λ p. absurd (never x p)))

pub gains_on : {X : Type 0} (a b c : List X) (P Q R : X → Type 0) → Gains a b P → Gains b c Q → ((x : X) → R x → P x ⊎ Q x) → ((x : X) → P x → R x) → ((x : X) → Q x → R x) → Gains a c R
gains_on a b c P Q R g h split left right x = (
  λ is. ⊎_elim (λ old. ⊎_elim inl (λ p. inr (left x p)) ((g x).0 old)) (λ q. inr (right x q)) ((h x).0 is),
  ⊎_elim (λ old. (h x).1 (inl ((g x).1 (inl old)))) (λ r. ⊎_elim (λ p. (h x).1 (inl ((g x).1 (inr p)))) (λ q. (h x).1 (inr q)) (split x r)),
)

pub gains_as : {X : Type 0} (a b : List X) (P Q : X → Type 0) → ((x : X) → P x → Q x) → ((x : X) → Q x → P x) → Gains a b P → Gains a b Q
gains_as a b P Q to from g x = (
  λ is. ⊎_elim inl (λ p. inr (to x p)) ((g x).0 is),
  ⊎_elim (λ old. (g x).1 (inl old)) (λ q. (g x).1 (inr (from x q))),
)

pub gains_as_ok : {X T E : Type 0} (r : Result T E) (a b : List X) (P Q : X → Type 0) → ((x : X) → P x → Q x) → ((x : X) → Q x → P x) → OnOk r (Gains a b P) → OnOk r (Gains a b Q)
gains_as_ok (Ok u) a b P Q to from g = gains_as a b P Q to from g
gains_as_ok (Err e) a b P Q to from g = g

-- one more, where there is none of that kind but it
pub gains_one_ok : {X T E : Type 0} (r : Result T E) (a b : List X) (y : X) (P : X → Type 0) → P y → ((x : X) → P x → y ≡ x) →
    OnOk r ((x : X) → Contains b x ↔ (Contains a x ⊎ (y ≡ x))) → OnOk r (Gains a b P)
gains_one_ok {X} (Ok u) a b y P here only same = λ (x : X). (
  λ is. ⊎_elim inl (λ e. inr (subst P e here)) ((same x).0 is),
  λ z. (same x).1 (⊎_elim inl (λ p. inr (only x p)) z),
)
gains_one_ok (Err e) a b y P here only same = same

-- there are more rows than a number
module _ {X : Type 0} (cmp : X → X → Ordering) (most : ℕ) where
  pub more_as : (P Q : X → Type 0) → ((x : X) → P x → Q x) → HasMore cmp P most → HasMore cmp Q most
  more_as P Q to h = (h.0, h.1, h.2, λ x is. to x (h.3 x is))

  pub or_as : (old : List X) (P Q : X → Type 0) → ((x : X) → P x → Q x) → (x : X) → Or old P x → Or old Q x
  or_as old P Q to x y = ⊎_elim inl (λ p. inr (to x p)) y

  -- also with what is added later
  pub more_now : (old now : List X) (P Q : X → Type 0) → Gains old now P → ((x : X) → P x → Q x) → HasMore cmp (Contains now) most → HasMore cmp (Or old Q) most
  more_now old now P Q g to h = (h.0, h.1, h.2, λ x is. ⊎_elim inl (λ p. inr (to x p)) ((g x).0 (h.3 x is)))

  pub more_later : (old now : List X) (P R Q : X → Type 0) → Gains old now P → ((x : X) → P x → Q x) → ((x : X) → R x → Q x) → HasMore cmp (Or now R) most → HasMore cmp (Or old Q) most
  more_later old now P R Q g to from h = (h.0, h.1, h.2, λ x is. ⊎_elim (λ here. ⊎_elim inl (λ p. inr (to x p)) ((g x).0 here)) (λ r. inr (from x r)) (h.3 x is))

-- places in lists
pub contains_at : {X : Type 0} (xs : List X) (k : ℕ) (x : X) → slice_get xs k ≡ Some x → Contains xs x
contains_at xs k x at = (k, slice_get_within xs k x at, get_or_from_slice_get xs k x x at)

pub place : {X : Type 0} (xs : List X) (x : X) (has : Contains xs x) → slice_get xs has.0 ≡ Some x
place {X} xs x has = slice_get-get_or xs has.0 x has.1 ∙ ap (λ (y : X). Some y) has.2

pub take_in : {X : Type 0} (xs : List X) (k : ℕ) (x : X) → Contains (take k xs) x → Contains xs x
take_in {X} xs k x is = contains_at xs is.0 x (take_is xs k is.0 x (place (take k xs) x is))
  where
    take_is : (ys : List X) (n i : ℕ) (y : X) → slice_get (take n ys) i ≡ Some y → slice_get ys i ≡ Some y
    take_is ys zero i y at = absurd (let e = at in cc)
    take_is [] (suc n) i y at = absurd (let e = at in cc)
    take_is (z ∷ ys) (suc n) zero y at = at
    take_is (z ∷ ys) (suc n) (suc i) y at = take_is ys n i y at

-- a loop that adds what each item of a list gives
module _ {X Y : Type 0} (P : Y → X → Type 0) where
  pub each_none : (a : List X) → Gains a a (Each [] P)
  each_none a = gains_none a (Each [] P) (λ x w. let lt = w.1.1 in omega arith)

  pub each_on : (ys : List Y) (y : Y) (a b c : List X) → Gains a b (Each ys P) → Gains b c (P y) → Gains a c (Each (ys ++ y ∷ []) P)
  each_on ys y a b c g h = gains_on a b c (Each ys P) (P y) (Each (ys ++ y ∷ []) P) g h
      (λ x w. ⊎_elim
      (λ old. inl (w.0, old, w.2))
      (λ e. inr (subst (λ (z : Y). P z x) (sym e) w.2))
      (Contains-push_cases ys y w.0 w.1))
      (λ x p. (p.0, Contains-append_left ys (y ∷ []) p.0 p.1, p.2))
      (λ x q. (y, Contains-push ys y, q))

  pub each_in : (ys : List Y) (k : ℕ) (x : X) → Each (take k ys) P x → Each ys P x
  each_in ys k x w = (w.0, take_in ys k w.0 w.1, w.2)

  pub each_one : (ys : List Y) (k : ℕ) (y : Y) → slice_get ys k ≡ Some y → (x : X) → P y x → Each ys P x
  each_one ys k y at x p = (y, contains_at ys k y at, p)

pub gains_push : {X : Type 0} (a : List X) (y : X) (P : X → Type 0) → P y → ((x : X) → P x → y ≡ x) → Gains a (a ++ y ∷ []) P
gains_push a y P here only x = (
  λ is. ⊎_elim inl (λ e. inr (subst P e here)) (Contains-push_cases a y x is),
  ⊎_elim (λ old. Contains-append_left a (y ∷ []) x old) (λ p. subst (Contains (a ++ y ∷ [])) (only x p) (Contains-push a y)),
)

-- all that was added to nothing
pub gains_all : {X : Type 0} (a b : List X) (P : X → Type 0) → a ≡ [] → Gains a b P → (x : X) → Contains b x ↔ P x
gains_all {X} a b P e g x = (
  λ is. ⊎_elim (λ old. absurd (let h = (subst (λ (xs : List X). Contains xs x) e old).1 in omega arith)) (λ p. p) ((g x).0 is),
  λ p. (g x).1 (inr p),
)
