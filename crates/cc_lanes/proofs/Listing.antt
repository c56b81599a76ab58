-- Elements of lists that were mapped or filtered.
use Rattle.std.proofs.Common.{ℕ, zero, suc, ◌≡◌, ◌+◌, ◌<◌, ◌⊎◌, inl, inr, ⊎_elim, Bool, true, false, cond, List, [], ◌∷◌, ◌++◌, map, filter, length, Some, refl, sym, ap, ◌∙◌, subst, arith, take, add-one}
use Rattle.std.specs.Prelude.{Contains, slice_get}

pub none : {X : Type 0} (x : X) → Contains [] x → ⊥
none x is = let h = is.1 in omega arith

pub cons_cases : {X : Type 0} (x : X) (xs : List X) (y : X) → Contains (x ∷ xs) y → (x ≡ y) ⊎ Contains xs y
cons_cases x xs y (zero, lt, e) = inl e
cons_cases x xs y (suc k, lt, e) = inr (k, omega arith, e)

pub here : {X : Type 0} (x : X) (xs : List X) → Contains (x ∷ xs) x
here x xs = (0, omega arith, refl)

pub later : {X : Type 0} (x : X) (xs : List X) (y : X) → Contains xs y → Contains (x ∷ xs) y
later x xs y c = (suc c.0, omega (arith, c.1), c.2)

pub map_new : {X Y : Type 0} (f : X → Y) (xs : List X) (x : X) → Contains xs x → Contains (map f xs) (f x)
map_new f [] x is = absurd (none x is)
map_new {Y = Y} f (z ∷ xs) x is = ⊎_elim
    (λ e. subst (λ (y : Y). Contains (f z ∷ map f xs) y) (ap f e) (here (f z) (map f xs)))
    (λ more. later (f z) (map f xs) (f x) (map_new f xs x more))
    (cons_cases z xs x is)

pub take_next : {X : Type 0} (xs : List X) (k : ℕ) (x : X) → slice_get xs k ≡ Some x → take (k + 1) xs ≡ take k xs ++ x ∷ []
take_next {X = X} xs k x at = rw add-one (go xs k x at)
  where
    go : (ys : List X) (j : ℕ) (y : X) → slice_get ys j ≡ Some y → take (suc j) ys ≡ take j ys ++ y ∷ []
    go [] j y a = absurd (let e = a in cc)
    go (z ∷ ys) zero y a = ap (λ w. w ∷ []) (let e : z ≡ y = (let q = a in cc) in e)
    go (z ∷ ys) (suc j) y a = ap (λ ws. z ∷ ws) (go ys j y a)

cond_cases : {X : Type 0} (b : Bool) (x : X) (ys : List X) (y : X) → Contains (cond b (x ∷ ys) ys) y → ((b ≡ true) × (x ≡ y)) ⊎ Contains ys y
cond_cases true x ys y is = ⊎_elim (λ e. inl (refl, e)) inr (cons_cases x ys y is)
cond_cases false x ys y is = inr is

cond_here : {X : Type 0} (b : Bool) (x : X) (ys : List X) → b ≡ true → Contains (cond b (x ∷ ys) ys) x
cond_here true x ys e = here x ys
cond_here false x ys e = absurd (let h = e in cc)

cond_later : {X : Type 0} (b : Bool) (x : X) (ys : List X) (y : X) → Contains ys y → Contains (cond b (x ∷ ys) ys) y
cond_later true x ys y is = later x ys y is
cond_later false x ys y is = is

pub filter_only : {X : Type 0} (p : X → Bool) (xs : List X) (x : X) → Contains (filter p xs) x → Contains xs x × (p x ≡ true)
filter_only p [] x is = absurd (none x is)
filter_only p (z ∷ xs) x is = ⊎_elim
    (λ e. (subst (Contains (z ∷ xs)) e.1 (here z xs), ap p (sym e.1) ∙ e.0))
    (λ more. let h = filter_only p xs x more in (later z xs x h.0, h.1))
    (cond_cases (p z) z (filter p xs) x is)

pub filter_new : {X : Type 0} (p : X → Bool) (xs : List X) (x : X) → Contains xs x → p x ≡ true → Contains (filter p xs) x
filter_new p [] x is passes = absurd (none x is)
filter_new p (z ∷ xs) x is passes = ⊎_elim
    (λ e. subst (Contains (filter p (z ∷ xs))) e (cond_here (p z) z (filter p xs) (ap p e ∙ passes)))
    (λ more. cond_later (p z) z (filter p xs) x (filter_new p xs x more passes))
    (cons_cases z xs x is)

pub map_only : {X Y : Type 0} (f : X → Y) (xs : List X) (y : Y) → Contains (map f xs) y → (x : X) × Contains xs x × (f x ≡ y)
map_only f [] y is = absurd (none y is)
map_only f (z ∷ xs) y is = ⊎_elim
    (λ e. (z, here z xs, e))
    (λ more. let h = map_only f xs y more in (h.0, later z xs h.0 h.1, h.2))
    (cons_cases (f z) (map f xs) y is)
