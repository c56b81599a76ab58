-- The loops over the parts of a tree: what one more item does to a sum, what stands when none is left, and that a
-- call on the list that a node holds comes nearer to the end.
use Rattle.std.proofs.Common.{◌≡◌, ℕ, ◌+◌, ◌*◌, ◌-◌, ◌^◌, ◌<◌, ◌≤◌, max, min, List, [], ◌∷◌, length, drop, get_or, sym, ◌∙◌, ap, arith}
use Rattle.std.proofs.lemmas.List.{drop_all}
use Rattle.cc_tree.proofs.Loops.{rest_at}
use denote.Param.Weighed.{most}
use borrow.Author.Sizes.{ranked_under}

-- f of an item, F of a list: the sum, where 2^64 - 1 stands for more
module _ {A : Type 0} (F : List A → ℕ) (f : A → ℕ) (more : (x : A) (xs : List A) → F (x ∷ xs) ≡ f x + F xs) (xs : List A) (i : ℕ) (n : ℕ) (so_far : min (n + F (drop i xs)) (2 ^ 64 - 1) ≡ min (F xs) (2 ^ 64 - 1)) where
  pub sum_next : (x : A) (d m : ℕ) → i < length xs → x ≡ get_or xs i x → d ≡ min (f x) (2 ^ 64 - 1) → m ≡ min (n + d) (2 ^ 64 - 1) → min (m + F (drop (i + 1) xs)) (2 ^ 64 - 1) ≡ min (F xs) (2 ^ 64 - 1)
  sum_next x d m h e p q =
      let now = rw (rest_at xs i x h e) at so_far in
      let step = more x (drop (i + 1) xs) in
      omega (arith, now, step, p, q)

  pub sum_all : F [] ≡ 0 → length xs ≤ i → n < 2 ^ 64 → n ≡ min (F xs) (2 ^ 64 - 1)
  sum_all none h small =
      let now = rw (drop_all i xs h) at so_far in
      omega (arith, now, none, small)

pub fits : (a m : ℕ) → m ≡ min a (2 ^ 64 - 1) → m < 2 ^ 64
fits a m e = omega (arith, e)

-- the list that a node of size m holds is smaller, whatever the callee's rank
pub list_falls : {A : Type 0} (size : A → ℕ) (c r s : ℕ) (xs ys : List A) (m t : ℕ) → ys ≡ xs → m ≡ max 0 (max (most size xs) 0) + 1 → c * m + r ≡ t → s < c → c * most size ys + s < t
list_falls size c r s xs ys m t e n is p =
    let smaller : most size ys < m = rw e (omega (arith, n)) in
    rw (sym is) (ranked_under c s r (most size ys) m p smaller)
