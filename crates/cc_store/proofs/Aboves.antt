-- The item over others is found from below.
use Rattle.std.proofs.Common.{◌≡◌, ℕ, zero, suc, List, [], ◌∷◌, ◌++◌, length, refl, sym, ap, ◌∙◌, reverse}
use Rattle.std.specs.Prelude.{slice_get}
use Rattle.std.proofs.lemmas.List.{reverse-append, length-reverse, reverse-reverse}
use Rattle.cc_store.specs.Stacks.{above, if_so, same}

-- the item at k of a list with one more at its end
get_end : {A : Type 0} (xs : List A) (x : A) (k : ℕ) → slice_get (xs ++ x ∷ []) k ≡ if_so (same (length xs) k) x (slice_get xs k)
get_end [] x zero = refl
get_end [] x (suc k) = refl
get_end (y ∷ xs) x zero = refl
get_end (y ∷ xs) x (suc k) = get_end xs x k

get_back : {A : Type 0} (xs : List A) (k : ℕ) → slice_get (reverse xs) k ≡ above k xs
get_back [] k = refl
get_back (x ∷ xs) k =
    ap (λ ys. slice_get ys k) (reverse-append (x ∷ []) xs)
    ∙ get_end (reverse xs) x k
    ∙ ap (λ n. if_so (same n k) x (slice_get (reverse xs) k)) (length-reverse xs)
    ∙ ap (if_so (same (length xs) k) x) (get_back xs k)

pub get_above : {A : Type 0} (xs : List A) (k : ℕ) → slice_get xs k ≡ above k (reverse xs)
get_above xs k = ap (λ ys. slice_get ys k) (sym (reverse-reverse xs)) ∙ get_back (reverse xs) k
