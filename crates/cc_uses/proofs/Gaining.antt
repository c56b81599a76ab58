-- What is put at the end of a list, one thing after another.
use Rattle.std.proofs.Common.{◌≡◌, ℕ, zero, suc, ◌+◌, ◌⊎◌, inl, inr, Bool, true, false, if◌then◌else◌, List, [], ◌∷◌, ◌++◌, Some, refl, subst, arith}
use Rattle.std.specs.Prelude.{slice_get}
use Rattle.cc_rows.specs.Gains.{Gains}
use Rattle.cc_rows.proofs.Gained.{gains_none, gains_on, gains_as, gains_push}
use Rattle.cc_uses.specs.Putting.{put_from}

-- one of these puts it, the first of which is the n-th
abbrev pub OneOf : {X Y : Type 0} → (ℕ → Y → X → Type 0) → List Y → ℕ → X → Type 0
OneOf {Y = Y} P ys n x = (i : ℕ) × (y : Y) × (slice_get ys i ≡ Some y) × P (n + i) y x

module _ {X Y : Type 0} (put : ℕ → Y → List X → List X) (P : ℕ → Y → X → Type 0)
    (each : (n : ℕ) (y : Y) (out : List X) → Gains out (put n y out) (P n y)) where
  split : (y : Y) (ys : List Y) (n : ℕ) (x : X) → OneOf P (y ∷ ys) n x → P n y x ⊎ OneOf P ys (n + 1) x
  split y ys n x (zero, z, at, p) = inl (let is : z ≡ y = cc in subst (λ w. P n w x) is (subst (λ m. P m z x) (omega arith) p))
  split y ys n x (suc i, z, at, p) = inr (i, z, at, subst (λ m. P m z x) (omega arith) p)

  left : (y : Y) (ys : List Y) (n : ℕ) (x : X) → P n y x → OneOf P (y ∷ ys) n x
  left y ys n x p = (zero, y, refl, subst (λ m. P m y x) (omega arith) p)

  right : (y : Y) (ys : List Y) (n : ℕ) (x : X) → OneOf P ys (n + 1) x → OneOf P (y ∷ ys) n x
  right y ys n x (i, z, at, p) = (suc i, z, at, subst (λ m. P m z x) (omega arith) p)

  pub put_gains : (ys : List Y) (n : ℕ) (out : List X) → Gains out (put_from put ys n out) (OneOf P ys n)
  put_gains [] n out = gains_none out (OneOf P [] n) (λ x (i, y, at, p). cc)
  put_gains (y ∷ ys) n out =
      gains_on out (put n y out) (put_from put ys (n + 1) (put n y out)) (P n y) (OneOf P ys (n + 1)) (OneOf P (y ∷ ys) n)
      (each n y out) (put_gains ys (n + 1) (put n y out)) (split y ys n) (left y ys n) (right y ys n)

-- what is put on a condition
pub gains_if : {X : Type 0} (b : Bool) (old new : List X) (P : X → Type 0) → Gains old new P → Gains old (if b then new else old) (λ x. (b ≡ true) × P x)
gains_if {X} true old new P g = gains_as old new P (λ (x : X). (true ≡ true) × P x) (λ x p. (refl, p)) (λ x q. q.1) g
gains_if {X} false old new P g = gains_none old (λ (x : X). (false ≡ true) × P x) (λ x q. let e = q.0 in cc)

pub gains_one : {X : Type 0} (old : List X) (y : X) → Gains old (old ++ y ∷ []) (λ x. y ≡ x)
gains_one {X} old y = gains_push old y (λ (x : X). y ≡ x) refl (λ x e. e)

-- one of these puts it, the first of which is that of the number 0
abbrev pub SomeOf : {X Y : Type 0} → (ℕ → Y → X → Type 0) → List Y → X → Type 0
SomeOf {Y = Y} P ys x = (i : ℕ) × (y : Y) × (slice_get ys i ≡ Some y) × P i y x

pub all_gains : {X Y : Type 0} (put : ℕ → Y → List X → List X) (P : ℕ → Y → X → Type 0) → ((n : ℕ) (y : Y) (out : List X) → Gains out (put n y out) (P n y))
    → (ys : List Y) (out : List X) → Gains out (put_from put ys 0 out) (SomeOf P ys)
all_gains put P each ys out = gains_as out (put_from put ys 0 out) (OneOf P ys 0) (SomeOf P ys)
    (λ x (i, y, at, q). (i, y, at, subst (λ m. P m y x) (omega arith) q))
    (λ x (i, y, at, q). (i, y, at, subst (λ m. P m y x) (omega arith) q))
    (put_gains put P each ys 0 out)
