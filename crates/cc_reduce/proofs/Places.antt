-- Places of a list that grows at its end.
use Rattle.std.proofs.Common.{◌≡◌, ℕ, zero, suc, ◌+◌, ◌<◌, ⊎_elim, List, [], ◌∷◌, ◌++◌, Option, Some, length, refl, sym, ◌∙◌, subst, arith, length-append}
use Rattle.std.specs.Prelude.{slice_get}
use Rattle.std.proofs.lemmas.Bool.{cases_lt}
use Rattle.cc_score.specs.Firsts.{first_to, marks_to}

module _ {A : Type 0} where
  pub at_push : (xs : List A) (y : A) (k : ℕ) → k ≡ length xs → slice_get (xs ++ y ∷ []) k ≡ Some y
  at_push [] y zero e = refl
  at_push [] y (suc k) e = absurd (omega arith)
  at_push (x ∷ xs) y zero e = absurd (omega arith)
  at_push (x ∷ xs) y (suc k) e = at_push xs y k (omega arith)

  pub before_push : (xs : List A) (y : A) (k : ℕ) → k < length xs → slice_get (xs ++ y ∷ []) k ≡ slice_get xs k
  before_push [] y k lt = absurd (omega arith)
  before_push (x ∷ xs) y zero lt = refl
  before_push (x ∷ xs) y (suc k) lt = before_push xs y k (omega arith)

marks_length : (sets : List (List ℕ)) (count : ℕ) → length (marks_to sets count) ≡ count
marks_length sets zero = refl
marks_length sets (suc count) =
    let one : List (Option ℕ) = first_to sets count (length sets) ∷ [] in
    let more : length (marks_to sets count ++ one) ≡ length (marks_to sets count) + length one = length-append (marks_to sets count) one in
    let before : length (marks_to sets count) ≡ count = marks_length sets count in
    let last : length one ≡ 1 = refl in
    omega arith

-- the mark of a row is the first test that exercises it
pub mark_at : (sets : List (List ℕ)) (count row : ℕ) → row < count → slice_get (marks_to sets count) row ≡ Some (first_to sets row (length sets))
mark_at sets zero row lt = absurd (omega arith)
mark_at sets (suc count) row lt =
    let size : length (marks_to sets count) ≡ count = marks_length sets count in
    ⊎_elim
    (λ before. before_push (marks_to sets count) (first_to sets count (length sets)) row (omega arith) ∙ mark_at sets count row before)
    (λ after. let same : count ≡ row = omega arith in
    subst (λ (r : ℕ). slice_get (marks_to sets (suc count)) r ≡ Some (first_to sets r (length sets))) same (at_push (marks_to sets count) (first_to sets count (length sets)) count (sym size)))
    (cases_lt row count)
