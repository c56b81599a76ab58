-- What is left of a list at an index.
use Rattle.std.proofs.Common.{◌≡◌, ℕ, ◌+◌, List, [], ◌∷◌, ◌++◌, Some, drop, slice_get, ◌∙◌, ap, append_assoc, sym}
use Rattle.std.proofs.lemmas.List.{drop_more}
use Rattle.std.proofs.lemmas.Option.{get_or_from_slice_get, slice_get_within}

pub rest_at : {A : Type 0} (xs : List A) (i : ℕ) (x : A) → slice_get xs i ≡ Some x → drop i xs ≡ x ∷ drop (i + 1) xs
rest_at xs i x h = drop_more xs i x (slice_get_within xs i x h) ∙ ap (λ y. y ∷ drop (i + 1) xs) (get_or_from_slice_get xs i x x h)

-- one more copied
pub copied_more : {A : Type 0} (xs done more : List A) (i : ℕ) (x y : A) → slice_get xs i ≡ Some x → y ≡ x → more ≡ done ++ y ∷ [] → done ++ drop i xs ≡ xs → more ++ drop (i + 1) xs ≡ xs
copied_more xs done more i x y h same is so_far =
    ap (λ z. z ++ drop (i + 1) xs) (is ∙ ap (λ z. done ++ z ∷ []) same)
    ∙ append_assoc done (x ∷ []) (drop (i + 1) xs)
    ∙ ap (λ z. done ++ z) (sym (rest_at xs i x h))
    ∙ so_far
