-- What stands in a list, and after a write or a push.
use Rattle.std.proofs.Common.{◌≡◌, ◌≢◌, ℕ, zero, suc, ◌<◌, inl, inr, ◌⊎◌, List, [], ◌∷◌, ◌++◌, length, Some, refl, sym, ap, arith}
use Rattle.std.specs.Prelude.{slice_get, slice_set, Contains}

-- the place that was written has the new value
pub slice_get-set_same : {A : Type 0} (xs : List A) (i : ℕ) (x : A) → i < length xs → slice_get (slice_set xs i x) i ≡ Some x
slice_get-set_same [] i x h = absurd (omega arith)
slice_get-set_same (y ∷ xs) zero x h = refl
slice_get-set_same (y ∷ xs) (suc i) x h = slice_get-set_same xs i x (omega arith)

-- any other place is as it was
pub slice_get-set_other : {A : Type 0} (xs : List A) (i k : ℕ) (x : A) → k ≢ i → slice_get (slice_set xs i x) k ≡ slice_get xs k
slice_get-set_other [] i k x h = refl
slice_get-set_other (y ∷ xs) zero zero x h = absurd (h refl)
slice_get-set_other (y ∷ xs) zero (suc k) x h = refl
slice_get-set_other (y ∷ xs) (suc i) zero x h = refl
slice_get-set_other (y ∷ xs) (suc i) (suc k) x h = slice_get-set_other xs i k x (λ e. h (ap suc e))

-- what stands in a list after a push stood there before, or was pushed
pub slice_get-push_cases : {A : Type 0} (xs : List A) (y : A) (k : ℕ) (x : A) → slice_get (xs ++ y ∷ []) k ≡ Some x → (slice_get xs k ≡ Some x) ⊎ (y ≡ x)
slice_get-push_cases [] y zero x h = inr (let e = h in cc)
slice_get-push_cases [] y (suc k) x h = absurd (let e = h in cc)
slice_get-push_cases (z ∷ xs) y zero x h = inl h
slice_get-push_cases (z ∷ xs) y (suc k) x h = slice_get-push_cases xs y k x h

-- a list without an element has none
pub Contains-nil : {A : Type 0} (x : A) → Contains [] x → ⊥
Contains-nil x (k, within, e) = omega arith

-- a list of one element has that element alone
pub Contains-one : {A : Type 0} (x y : A) → Contains (y ∷ []) x → x ≡ y
Contains-one x y (zero, within, e) = sym e
Contains-one x y (suc k, within, e) = absurd (omega arith)

-- a list of length 0 has no element
pub nil_from_length : {A : Type 0} (xs : List A) → length xs ≡ 0 → xs ≡ []
nil_from_length [] h = refl
nil_from_length (x ∷ xs) h = absurd (omega arith)
