-- A list read on by one item.
use Rattle.std.proofs.Common.{◌≡◌, ℕ, ◌+◌, ◌<◌, List, ◌∷◌, length, drop, refl, sym, ap, ◌∙◌, get_or, add-one}
use Rattle.std.proofs.Math.Seq.{drop-cons}

pub next_of : {X : Type 0} (xs : List X) (i : ℕ) (x : X) → i < length xs → x ≡ get_or xs i x → drop i xs ≡ x ∷ drop (i + 1) xs
next_of xs i x h e =
    let d : drop i xs ≡ get_or xs i x ∷ drop (i + 1) xs = rw (add-one, drop-cons xs i x) refl in
    d ∙ ap (λ y. y ∷ drop (i + 1) xs) (sym e)
