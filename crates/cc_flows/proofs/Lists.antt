-- Elements of lists.
use Rattle.std.proofs.Common.{ℕ, zero, suc, ◌+◌, ◌-◌, ◌<◌, ◌≤◌, ◌≡◌, ◌⊎◌, inl, inr, List, [], ◌∷◌, ◌++◌, Some, length, take, drop, refl, sym, ap, ◌∙◌, arith, add-one, ⊎_elim}
use Rattle.std.specs.Prelude.{Contains, slice_get, slice_range}
use Rattle.cc_rows.proofs.Gained.{contains_at, place}

pub none : {X : Type 0} (x : X) → Contains [] x → ⊥
none x is = let h = is.1 in omega arith

pub push_old : {X : Type 0} (xs : List X) (y : X) (i : ℕ) (x : X) → slice_get xs i ≡ Some x → slice_get (xs ++ y ∷ []) i ≡ Some x
push_old [] y i x at = absurd (let e = at in cc)
push_old (z ∷ xs) y zero x at = at
push_old (z ∷ xs) y (suc i) x at = push_old xs y i x at

pub push_new : {X : Type 0} (xs : List X) (y : X) (i : ℕ) → length xs ≡ i → slice_get (xs ++ y ∷ []) i ≡ Some y
push_new [] y zero e = refl
push_new [] y (suc i) e = absurd (omega arith)
push_new (z ∷ xs) y zero e = absurd (omega arith)
push_new (z ∷ xs) y (suc i) e = push_new xs y i (omega arith)

pub push_cases : {X : Type 0} (xs : List X) (y : X) (i : ℕ) (x : X) → slice_get (xs ++ y ∷ []) i ≡ Some x → (slice_get xs i ≡ Some x) ⊎ ((length xs ≡ i) × (y ≡ x))
push_cases [] y zero x at = inr (refl, let e = at in cc)
push_cases [] y (suc i) x at = absurd (let e = at in cc)
push_cases (z ∷ xs) y zero x at = inl at
push_cases (z ∷ xs) y (suc i) x at = ⊎_elim inl (λ n. inr (omega (arith, n.0), n.1)) (push_cases xs y i x at)

take_split : {X : Type 0} (xs : List X) (a n m : ℕ) → m ≡ a + n → take m xs ≡ take a xs ++ take n (drop a xs)
take_split xs zero n m e = ap (λ k. take k xs) (let f : m ≡ n = omega arith in f)
take_split [] (suc a) n zero e = absurd (omega arith)
take_split [] (suc a) zero (suc m) e = refl
take_split [] (suc a) (suc n) (suc m) e = refl
take_split (x ∷ xs) (suc a) n zero e = absurd (omega arith)
take_split (x ∷ xs) (suc a) n (suc m) e = ap (λ ys. x ∷ ys) (take_split xs a n m (omega arith))

-- the first ones are those before, and a range
pub range_on : {X : Type 0} (xs : List X) (a b : ℕ) → a ≤ b → take b xs ≡ take a xs ++ slice_range xs a b
range_on xs a b le = take_split xs a (b - a) b (omega arith)

pub range_in : {X : Type 0} (xs : List X) (a b : ℕ) (x : X) → Contains (slice_range xs a b) x → Contains xs x
range_in {X} xs a b x is = let at = place (slice_range xs a b) x is in contains_at xs (a + is.0) x (sym (drop_is xs a is.0 (a + is.0) refl) ∙ take_is (drop a xs) (b - a) is.0 x at)
  where
    take_is : (ys : List X) (n k : ℕ) (y : X) → slice_get (take n ys) k ≡ Some y → slice_get ys k ≡ Some y
    take_is ys zero k y at = absurd (let e = at in cc)
    take_is [] (suc n) k y at = absurd (let e = at in cc)
    take_is (z ∷ ys) (suc n) zero y at = at
    take_is (z ∷ ys) (suc n) (suc k) y at = take_is ys n k y at

    drop_is : (ys : List X) (n k m : ℕ) → m ≡ n + k → slice_get (drop n ys) k ≡ slice_get ys m
    drop_is ys zero k m e = ap (slice_get ys) (let f : k ≡ m = omega arith in f)
    drop_is [] (suc n) k m e = refl
    drop_is (z ∷ ys) (suc n) k zero e = absurd (omega arith)
    drop_is (z ∷ ys) (suc n) k (suc m) e = drop_is ys n k m (omega arith)

pub take_next : {X : Type 0} (xs : List X) (k : ℕ) (x : X) → slice_get xs k ≡ Some x → take (k + 1) xs ≡ take k xs ++ x ∷ []
take_next {X = X} xs k x at = rw add-one (go xs k x at)
  where
    go : (ys : List X) (j : ℕ) (y : X) → slice_get ys j ≡ Some y → take (suc j) ys ≡ take j ys ++ y ∷ []
    go [] j y a = absurd (let e = a in cc)
    go (z ∷ ys) zero y a = ap (λ w. w ∷ []) (let e : z ≡ y = (let q = a in cc) in e)
    go (z ∷ ys) (suc j) y a = ap (λ ws. z ∷ ws) (go ys j y a)
