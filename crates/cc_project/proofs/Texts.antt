-- Lists of texts behind references.
use Rattle.std.proofs.Common.{◌≡◌, ℕ, Bool, ◌||◌, List, [], ◌∷◌, map, Bor, refl, ap}
use Rattle.std.specs.List.{list_any}

pub any_of_texts : (test : List ℕ → Bool) (texts : List (Bor (List ℕ))) → list_any test (map (λ text. text.now) texts) ≡ list_any (λ text. test text.now) texts
any_of_texts test [] = refl
any_of_texts test (text ∷ rest) = ap (λ b. test text.now || b) (any_of_texts test rest)
