-- Tests.
use Rattle.std.proofs.Common.{ℕ, ◌≡◌, ◌⊎◌, inl, inr, Bool, true, false, ◌&&◌, ◌||◌, refl, sym}
use Rattle.std.specs.Prelude.{◌↔◌, IsTrue, nat_eq, Result, Err}
use Rattle.std.proofs.lemmas.Bool.{cases_eq, eq-eqb, ne_eqb}

pub test_is : (b : Bool) (n : ℕ) → IsTrue b ↔ (n ≡ 1) → b ≡ nat_eq n 1
test_is true n e = sym (eq-eqb n 1 (e.0 refl))
test_is false n e = elim (cases_eq n 1) [
  | inl one ↦ absurd (let h = e.1 one in cc)
  | inr ne ↦ sym (ne_eqb n 1 ne)
]

pub and_true : (a b : Bool) → (a && b) ≡ true → (a ≡ true) × (b ≡ true)
and_true true b e = (refl, e)
and_true false b e = absurd (let h = e in cc)

pub true_and : (a b : Bool) → a ≡ true → b ≡ true → (a && b) ≡ true
true_and true b x y = y
true_and false b x y = absurd (let h = x in cc)

pub or_true : (a b : Bool) → (a || b) ≡ true → (a ≡ true) ⊎ (b ≡ true)
or_true true b e = inl refl
or_true false b e = inr e

pub true_or : (a b : Bool) → (a ≡ true) ⊎ (b ≡ true) → (a || b) ≡ true
true_or true b e = refl
true_or false b (inl e) = absurd (let h = e in cc)
true_or false b (inr e) = e

-- an error that was handed on
pub error_is : {X Y : Type 0} (r : Result X Y) (x y e : Y) → r ≡ Err x → x ≡ y → r ≡ Err e → y ≡ e
error_is r x y e p q is = let a = p in let b = q in let c = is in cc
