-- Items of a list that has grown at its end.
use Rattle.std.proofs.Common.{◌≡◌, ℕ, zero, suc, ◌<◌, List, [], ◌∷◌, ◌++◌, Some, length, refl, arith}
use Rattle.std.specs.Prelude.{slice_get}

module _ {A : Type 0} where
  pub at_push : (xs : List A) (y : A) (k : ℕ) → k ≡ length xs → slice_get (xs ++ y ∷ []) k ≡ Some y
  at_push [] y zero e = refl
  at_push [] y (suc k) e = absurd (omega arith)
  at_push (x ∷ xs) y zero e = absurd (omega arith)
  at_push (x ∷ xs) y (suc k) e = at_push xs y k (omega arith)

  pub before_push : (xs : List A) (y : A) (k : ℕ) → k < length xs → slice_get (xs ++ y ∷ []) k ≡ slice_get xs k
  before_push [] y k lt = absurd (omega arith)
  before_push (x ∷ xs) y zero lt = refl
  before_push (x ∷ xs) y (suc k) lt = before_push xs y k (omega arith)
