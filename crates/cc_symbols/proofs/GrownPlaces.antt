-- Places that are added one by one.
use Rattle.std.proofs.Common.{◌≡◌, ℕ, suc, ◌+◌, ◌-◌, ◌<◌, List, [], ◌∷◌, ◌++◌, ap, sym, ◌∙◌, arith, replicate}
use Rattle.std.proofs.lemmas.List.{append_assoc}

pub one_more : {X : Type 0} (xs new ys : List X) (x : X) (i n : ℕ) → i < n → new ≡ xs ++ x ∷ []
    → xs ++ replicate (n - i) x ≡ ys → new ++ replicate (n - (i + 1)) x ≡ ys
one_more xs new ys x i n less e h =
    let next : n - i ≡ suc (n - (i + 1)) = omega arith in
    ap (λ zs. zs ++ replicate (n - (i + 1)) x) e
    ∙ append_assoc xs (x ∷ []) (replicate (n - (i + 1)) x)
    ∙ ap (λ k. xs ++ replicate k x) (sym next)
    ∙ h
