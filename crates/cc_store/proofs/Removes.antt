-- The first items of a list are what is under its last ones.
use Rattle.std.proofs.Common.{◌≡◌, ℕ, zero, suc, ◌-◌, ◌≤◌, List, [], ◌∷◌, ◌++◌, length, take, drop, refl, sym, ap, ◌∙◌, reverse, arith}
use Rattle.std.proofs.lemmas.List.{reverse-append, length-reverse, reverse-reverse, take_all, take-append-le}

take_none : {A : Type 0} (k : ℕ) → take k (let none : List A = [] in none) ≡ []
take_none zero = refl
take_none (suc k) = refl

take_back : {A : Type 0} (ys : List A) (n : ℕ) → take (length ys - n) (reverse ys) ≡ reverse (drop n ys)
take_back ys zero = take_all (length ys - 0) (reverse ys) (let e : length (reverse ys) ≡ length ys = length-reverse ys in omega (arith, e))
take_back {A} [] (suc n) = take_none (length {A = A} [] - suc n)
take_back (y ∷ ys) (suc n) =
    let fewer : length (y ∷ ys) - suc n ≡ length ys - n = omega arith in
    let long : length (reverse ys) ≡ length ys = length-reverse ys in
    ap (λ k. take k (reverse (y ∷ ys))) fewer
    ∙ ap (take (length ys - n)) (reverse-append (y ∷ []) ys)
    ∙ take-append-le (length ys - n) (reverse ys) (y ∷ []) (omega (arith, long))
    ∙ take_back ys n

pub reverse_take : {A : Type 0} (xs : List A) (n : ℕ) → reverse (take (length xs - n) xs) ≡ drop n (reverse xs)
reverse_take xs n =
    ap reverse (
    ap (λ k. take (k - n) xs) (sym (length-reverse xs))
    ∙ ap (take (length (reverse xs) - n)) (sym (reverse-reverse xs))
    ∙ take_back (reverse xs) n
    )
    ∙ reverse-reverse (drop n (reverse xs))
