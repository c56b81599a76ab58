-- Loops over a list of parts, for the walks above.
use Rattle.std.proofs.Common.{◌≡◌, ℕ, ◌+◌, ◌*◌, ◌<◌, ◌≤◌, List, ◌∷◌, length, drop, get_or, sym, ◌∙◌, ap}
use Rattle.std.proofs.lemmas.List.{drop_more}
use denote.Param.Weighed.{most, at_most}
use borrow.Author.Sizes.{ranked_below}

-- what is left at an item is the item, and then what is left behind it
pub rest_at : {A : Type 0} (xs : List A) (i : ℕ) (x : A) → i < length xs → x ≡ get_or xs i x → drop i xs ≡ x ∷ drop (i + 1) xs
rest_at xs i x h e = drop_more xs i x h ∙ ap (λ y. y ∷ drop (i + 1) xs) (sym e)

-- an item's size is at most the list's, and the callee has the lower rank
pub item_falls : {A : Type 0} (size : A → ℕ) (c r s : ℕ) (xs : List A) (i : ℕ) (x : A) (t : ℕ) → i < length xs → x ≡ get_or xs i x → c * most size xs + s ≡ t → r < s → c * size x + r < t
item_falls size c r s xs i x t h e is p =
    let small : size (get_or xs i x) ≤ most size xs = at_most size xs i x h in
    let smaller : size x ≤ most size xs = rw e small in
    rw (sym is) (ranked_below c r s (size x) (most size xs) p smaller)
