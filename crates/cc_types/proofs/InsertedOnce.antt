-- Lists in which nothing stands twice, and one that is inserted there.
use Rattle.std.proofs.Common.{◌≡◌, refl, ap, sym, ◌∙◌, ℕ, zero, suc, ◌+◌, Bool, true, false, ◌||◌, List, [], ◌∷◌, ◌++◌, length, arith, ◌⊎◌, inl, inr, if◌then◌else◌}
use Rattle.std.specs.Prelude.{Some, slice_get}
use Rattle.std.specs.List.{list_any, position_or_len}
use Rattle.indexmap.specs.IndexSet.{insert_key}
use Rattle.cc_types.specs.MemberLists.{IsOnce}

pub stays : {X : Type 0} (xs ys : List X) (i : ℕ) (x : X) → slice_get xs i ≡ Some x → slice_get (xs ++ ys) i ≡ Some x
stays [] ys i x e = cc
stays (b ∷ xs) ys zero x e = e
stays (b ∷ xs) ys (suc i) x e = stays xs ys i x e

at_seam : {X : Type 0} (xs : List X) (a : X) → slice_get (xs ++ a ∷ []) (length xs) ≡ Some a
at_seam [] a = refl
at_seam (b ∷ xs) a = let e : length (b ∷ xs) ≡ suc (length xs) = omega arith in ap (slice_get (b ∷ (xs ++ a ∷ []))) e ∙ at_seam xs a

-- it stands in the list before, or is the last
one_of : {X : Type 0} (xs : List X) (a : X) (i : ℕ) (x : X) → slice_get (xs ++ a ∷ []) i ≡ Some x → (slice_get xs i ≡ Some x) ⊎ ((i ≡ length xs) × (x ≡ a))
one_of [] a zero x e = inr (refl, cc)
one_of [] a (suc i) x e = cc
one_of (b ∷ xs) a zero x e = inl e
one_of {X} (b ∷ xs) a (suc i) x e = by (one_of xs a i x e)
  where
    by : (slice_get xs i ≡ Some x) ⊎ ((i ≡ length xs) × (x ≡ a)) → (slice_get (b ∷ xs) (suc i) ≡ Some x) ⊎ ((suc i ≡ length (b ∷ xs)) × (x ≡ a))
    by (inl p) = inl p
    by (inr p) = let q : i ≡ length xs = p.0 in inr (omega (arith, q), p.1)

second : (a b : Bool) → (a || b) ≡ false → b ≡ false
second true b e = cc
second false b e = e

module _ {X : Type 0} (eq : X → X → Bool) (says : (a b : X) → eq a b ≡ true → a ≡ b) (tells : (a b : X) → a ≡ b → eq a b ≡ true) where
  missing : (xs : List X) (a x : X) (i : ℕ) → list_any (eq a) xs ≡ false → slice_get xs i ≡ Some x → x ≡ a → ⊥
  missing [] a x i none e h = cc
  missing (b ∷ xs) a x zero none e h = let same : a ≡ b = cc in let t : eq a b ≡ true = tells a b same in cc
  missing (b ∷ xs) a x (suc i) none e h = missing xs a x i (second (eq a b) (list_any (eq a) xs) none) e h

  once_by : (xs : List X) (a : X) → IsOnce xs → list_any (eq a) xs ≡ false → (i j : ℕ) (x : X)
      → (slice_get xs i ≡ Some x) ⊎ ((i ≡ length xs) × (x ≡ a)) → (slice_get xs j ≡ Some x) ⊎ ((j ≡ length xs) × (x ≡ a)) → i ≡ j
  once_by xs a once none i j x (inl p) (inl q) = once i j x p q
  once_by xs a once none i j x (inl p) (inr q) = absurd (missing xs a x i none p q.1)
  once_by xs a once none i j x (inr p) (inl q) = absurd (missing xs a x j none q p.1)
  once_by xs a once none i j x (inr p) (inr q) = p.0 ∙ sym q.0

  once_more : (xs : List X) (a : X) → IsOnce xs → list_any (eq a) xs ≡ false → IsOnce (xs ++ a ∷ [])
  once_more xs a once none i j x p q = once_by xs a once none i j x (one_of xs a i x p) (one_of xs a j x q)

  pub once_inserted : (xs : List X) (a : X) → IsOnce xs → IsOnce (insert_key eq xs a)
  once_inserted xs a once = by (list_any (eq a) xs) refl
    where
      by : (c : Bool) → list_any (eq a) xs ≡ c → IsOnce (if c then xs else xs ++ a ∷ [])
      by true e = once
      by false e = once_more xs a once e

  pub stays_inserted : (xs : List X) (a : X) (i : ℕ) (x : X) → slice_get xs i ≡ Some x → slice_get (insert_key eq xs a) i ≡ Some x
  stays_inserted xs a i x e = by (list_any (eq a) xs)
    where
      by : (c : Bool) → slice_get (if c then xs else xs ++ a ∷ []) i ≡ Some x
      by true = e
      by false = stays xs (a ∷ []) i x e

  abbrev place : List X → X → ℕ
  place xs a = position_or_len (eq a) xs

  next_is : (b : X) (xs : List X) (n : ℕ) → slice_get (b ∷ xs) (1 + n) ≡ slice_get xs n
  next_is b xs n = let e : 1 + n ≡ suc n = omega arith in ap (slice_get (b ∷ xs)) e

  found : (xs : List X) (a : X) → list_any (eq a) xs ≡ true → slice_get xs (place xs a) ≡ Some a
  found [] a e = cc
  found (b ∷ xs) a e = by (eq a b) refl e (found xs a)
    where
      by : (c : Bool) → eq a b ≡ c → (c || list_any (eq a) xs) ≡ true → (list_any (eq a) xs ≡ true → slice_get xs (place xs a) ≡ Some a) → slice_get (b ∷ xs) (place (b ∷ xs) a) ≡ Some a
      by true q h again = rw q (ap Some (sym (says a b q)))
      by false q h again = rw q (next_is b xs (place xs a) ∙ again h)

  at_end : (xs : List X) (a : X) → list_any (eq a) xs ≡ false → place xs a ≡ length xs
  at_end [] a e = refl
  at_end (b ∷ xs) a e = by (eq a b) refl e (at_end xs a)
    where
      by : (c : Bool) → eq a b ≡ c → (c || list_any (eq a) xs) ≡ false → (list_any (eq a) xs ≡ false → place xs a ≡ length xs) → place (b ∷ xs) a ≡ length (b ∷ xs)
      by true q h again = cc
      by false q h again = rw q (omega (arith, again h))

  pub placed : (xs : List X) (a : X) → slice_get (insert_key eq xs a) (place xs a) ≡ Some a
  placed xs a = by (list_any (eq a) xs) refl
    where
      by : (c : Bool) → list_any (eq a) xs ≡ c → slice_get (if c then xs else xs ++ a ∷ []) (place xs a) ≡ Some a
      by true e = found xs a e
      by false e = ap (slice_get (xs ++ a ∷ [])) (at_end xs a e) ∙ at_seam xs a
