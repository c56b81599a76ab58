-- Elements of lists.
use Rattle.std.proofs.Common.{ℕ, zero, suc, ◌≡◌, ◌+◌, ◌<◌, ◌⊎◌, inl, inr, ⊎_elim, List, [], ◌∷◌, Some, map, length, refl, sym, ap, subst, arith}
use Rattle.std.specs.Prelude.{Contains, Result, Ok, Err, OnOk, slice_get, slice_index_or}
use Rattle.std.proofs.lemmas.Bool.{cases_lt}
use Rattle.std.proofs.lemmas.List.{get_or_past}
use Rattle.std.proofs.lemmas.Option.{slice_get-get_or, get_or_from_slice_get}
use Rattle.cc_rows.specs.Gains.{Gains, Each}
use Rattle.cc_rows.proofs.Gained.{gains_none, gains_on}

pub none : {X : Type 0} (x : X) → Contains [] x → ⊥
none x is = let h = is.1 in omega arith

pub cons_cases : {X : Type 0} (x : X) (xs : List X) (y : X) → Contains (x ∷ xs) y → (x ≡ y) ⊎ Contains xs y
cons_cases x xs y (zero, lt, e) = inl e
cons_cases x xs y (suc k, lt, e) = inr (k, omega arith, e)

pub here : {X : Type 0} (x : X) (xs : List X) → Contains (x ∷ xs) x
here x xs = (0, omega arith, refl)

pub later : {X : Type 0} (x : X) (xs : List X) (y : X) → Contains xs y → Contains (x ∷ xs) y
later x xs y c = (suc c.0, omega (arith, c.1), c.2)

pub map_new : {X Y : Type 0} (f : X → Y) (xs : List X) (x : X) → Contains xs x → Contains (map f xs) (f x)
map_new f [] x is = absurd (none x is)
map_new {Y = Y} f (z ∷ xs) x is = ⊎_elim
    (λ e. subst (λ (y : Y). Contains (f z ∷ map f xs) y) (ap f e) (here (f z) (map f xs)))
    (λ more. later (f z) (map f xs) (f x) (map_new f xs x more))
    (cons_cases z xs x is)

pub map_only : {X Y : Type 0} (f : X → Y) (xs : List X) (y : Y) → Contains (map f xs) y → (x : X) × Contains xs x × (f x ≡ y)
map_only f [] y is = absurd (none y is)
map_only f (z ∷ xs) y is = ⊎_elim
    (λ e. (z, here z xs, e))
    (λ more. let h = map_only f xs y more in (h.0, later z xs h.0 h.1, h.2))
    (cons_cases (f z) (map f xs) y is)

-- what the first of a list gives, and then what each of the others does
module _ {X Y : Type 0} (P : Y → X → Type 0) where
  pub each_nil : (a : List X) → Gains a a (Each [] P)
  each_nil a = gains_none a (Each [] P) (λ x w. none w.0 w.1)

  pub each_cons : (y : Y) (ys : List Y) (a b c : List X) → Gains a b (P y) → Gains b c (Each ys P) → Gains a c (Each (y ∷ ys) P)
  each_cons y ys a b c g h = gains_on a b c (P y) (Each ys P) (Each (y ∷ ys) P) g h
      (λ x w. ⊎_elim
      (λ e. inl (subst (λ (z : Y). P z x) (sym e) w.2))
      (λ more. inr (w.0, more, w.2))
      (cons_cases y ys w.0 w.1))
      (λ x p. (y, here y ys, p))
      (λ x w. (w.0, later y ys w.0 w.1, w.2))

-- what one of a list gives by its number, where the first has the number n
abbrev pub Numbered : {X Y : Type 0} → (ℕ → Y → X → Type 0) → List Y → ℕ → X → Type 0
Numbered {Y = Y} P ys n x = (i : ℕ) × (y : Y) × (slice_get ys i ≡ Some y) × P (n + i) y x

module _ {X Y : Type 0} (P : ℕ → Y → X → Type 0) where
  pub numbered_nil : (n : ℕ) (a : List X) → Gains a a (Numbered P [] n)
  numbered_nil n a = gains_none a (Numbered P [] n) (λ x w. let e = w.2 in cc)

  pub numbered_cons : (y : Y) (ys : List Y) (n : ℕ) (a b c : List X) → Gains a b (P n y) → Gains b c (Numbered P ys (n + 1)) → Gains a c (Numbered P (y ∷ ys) n)
  numbered_cons y ys n a b c g h = gains_on a b c (P n y) (Numbered P ys (n + 1)) (Numbered P (y ∷ ys) n) g h
      (split)
      (λ x p. (zero, y, refl, subst (λ m. P m y x) (omega arith) p))
      (λ x w. (suc w.0, w.1, w.2, subst (λ m. P m w.1 x) (omega arith) w.3))
    where
      split : (x : X) → Numbered P (y ∷ ys) n x → P n y x ⊎ Numbered P ys (n + 1) x
      split x (zero, z, at, p) = inl (let is : z ≡ y = (let e = at in cc) in subst (λ w. P n w x) is (subst (λ m. P m z x) (omega arith) p))
      split x (suc i, z, at, p) = inr (i, z, at, subst (λ m. P m z x) (omega arith) p)

-- rows
abbrev pub Rows : Type 0
Rows = List (List ℕ)

-- a row past the last one is empty
pub within : (rows : Rows) (r x : ℕ) → Contains (slice_index_or rows r []) x → r < length rows
within rows r x is = elim (cases_lt r (length rows)) [
  | inl lt ↦ lt
  | inr ge ↦ absurd (none x (subst (λ (xs : List ℕ). Contains xs x) (get_or_past rows r [] ge) is))
]

pub row_there : (rows : Rows) (r x : ℕ) → Contains (slice_index_or rows r []) x → slice_get rows r ≡ Some (slice_index_or rows r [])
row_there rows r x is = slice_get-get_or rows r [] (within rows r x is)

pub row_is : (rows : Rows) (r : ℕ) (row : List ℕ) → slice_get rows r ≡ Some row → slice_index_or rows r [] ≡ row
row_is rows r row at = get_or_from_slice_get rows r row [] at

-- what follows from what is said of an answer
pub ok_then : {T E : Type 0} (r : Result T E) (P Q : Type 0) → (P → Q) → OnOk r P → OnOk r Q
ok_then (Ok x) P Q f p = f p
ok_then (Err e) P Q f p = p
