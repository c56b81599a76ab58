-- The texts of keys, as they are written.
use Rattle.std.proofs.Common.{◌≡◌, ℕ, List, [], ◌∷◌, ◌++◌, append_assoc}
use Rattle.std.specs.Fmt.{decimal}
use Rattle.cc_project.specs.Places.{item_key, member_key}

pub member_written : (array : List ℕ) (i : ℕ) (name : List ℕ) → array ++ (91 ∷ (decimal i ++ (93 ∷ 46 ∷ name))) ≡ member_key (item_key array i) name
member_written array i name = simp append_assoc

pub item_written : (array : List ℕ) (i : ℕ) (name : List ℕ) (k : ℕ)
    → array ++ (91 ∷ (decimal i ++ (93 ∷ 46 ∷ (name ++ (91 ∷ (decimal k ++ (93 ∷ []))))))) ≡ item_key (member_key (item_key array i) name) k
item_written array i name k = simp append_assoc
