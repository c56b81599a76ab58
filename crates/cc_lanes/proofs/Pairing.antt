-- What is in rows of pairs.
use Rattle.std.proofs.Common.{ℕ, zero, suc, ◌≡◌, ◌≢◌, ◌+◌, ◌<◌, ◌≤◌, ◌⊎◌, inl, inr, ⊎_elim, List, [], ◌∷◌, ◌++◌, Some, length, replicate, take, refl, sym, ap, ◌∙◌, subst, arith}
use Rattle.std.specs.Prelude.{Contains, ◌↔◌, slice_get}
use Rattle.std.proofs.lemmas.Option.{slice_get_within}
use Rattle.std.proofs.lemmas.Bool.{cases_eq, cases_lt}
use Rattle.std.proofs.lemmas.List.{length-set, get_or-set_same, get_or-set_other, get_or_past}
use Rattle.std.proofs.lemmas.List.Elements.{Contains-push, Contains-push_cases, Contains-append_left}
use Rattle.cc_flows.specs.Masks.{row_of}
use Rattle.cc_lanes.specs.Rows.{Pair, put, Holds}
use Rattle.cc_lanes.specs.Lanes.{AreNumbered}
use Rattle.cc_lanes.proofs.Listing.{none, take_next}

abbrev pub Rows : Type 0
Rows = List (List ℕ)

pub put_long : (rows : Rows) (r x : ℕ) → length (put r x rows) ≡ length rows
put_long rows r x = length-set rows r _

put_same : (rows : Rows) (r x : ℕ) → r < length rows → row_of (put r x rows) r ≡ row_of rows r ++ x ∷ []
put_same rows r x lt = get_or-set_same rows r (row_of rows r ++ x ∷ []) [] lt

put_other : (rows : Rows) (r k x : ℕ) → k ≢ r → row_of (put r x rows) k ≡ row_of rows k
put_other rows r k x ne = get_or-set_other rows r k (row_of rows r ++ x ∷ []) [] ne

-- a row past the last one is empty
pub within : (rows : Rows) (r x : ℕ) → Contains (row_of rows r) x → r < length rows
within rows r x is = elim (cases_lt r (length rows)) [
  | inl lt ↦ lt
  | inr ge ↦ absurd (none x (subst (λ (xs : List ℕ). Contains xs x) (get_or_past rows r [] ge) is))
]

put_only : (rows : Rows) (r x k y : ℕ) → Contains (row_of (put r x rows) k) y → Contains (row_of rows k) y ⊎ ((r ≡ k) × (x ≡ y))
put_only rows r x k y is = elim (cases_eq k r) [
  | inl e ↦ (let lt : r < length rows = subst (λ n. r < n) (put_long rows r x) (subst (λ i. i < length (put r x rows)) e (within (put r x rows) k y is)) in
      ⊎_elim
      (λ old. inl (subst (λ i. Contains (row_of rows i) y) (sym e) old))
      (λ f. inr (sym e, f))
      (Contains-push_cases (row_of rows r) x y (subst (λ (xs : List ℕ). Contains xs y) (put_same rows r x lt) (subst (λ i. Contains (row_of (put r x rows) i) y) e is))))
  | inr ne ↦ inl (subst (λ (xs : List ℕ). Contains xs y) (put_other rows r k x ne) is)
]

put_kept : (rows : Rows) (r x k y : ℕ) → Contains (row_of rows k) y → Contains (row_of (put r x rows) k) y
put_kept rows r x k y is = elim (cases_eq k r) [
  | inl e ↦ (let lt : r < length rows = subst (λ i. i < length rows) e (within rows k y is) in
      subst (λ i. Contains (row_of (put r x rows) i) y) (sym e) (subst (λ (xs : List ℕ). Contains xs y) (sym (put_same rows r x lt)) (Contains-append_left (row_of rows r) (x ∷ []) y (subst (λ i. Contains (row_of rows i) y) e is))))
  | inr ne ↦ subst (λ (xs : List ℕ). Contains xs y) (sym (put_other rows r k x ne)) is
]

put_new : (rows : Rows) (r x : ℕ) → r < length rows → Contains (row_of (put r x rows) r) x
put_new rows r x lt = subst (λ (xs : List ℕ). Contains xs x) (sym (put_same rows r x lt)) (Contains-push (row_of rows r) x)

pub holds_none : (rows : Rows) → ((r x : ℕ) → Contains (row_of rows r) x → ⊥) → Holds rows []
holds_none rows never r x = (λ is. absurd (never r x is), λ w. absurd (none w.1.0 w.1.1))

-- one pair more
pub holds_on : (rows : Rows) (pairs : List Pair) (p : Pair) → Holds rows pairs → Holds (put p.0 p.1 rows) (pairs ++ p ∷ [])
holds_on rows pairs p before r x = (
  λ is. (
    within (put p.0 p.1 rows) r x is,
    ⊎_elim
        (λ old. (let w = ((before r x).0 old).1 in (w.0, Contains-append_left pairs (p ∷ []) w.0 w.1, w.2, w.3)))
        (λ e. (p, Contains-push pairs p, e.0, e.1))
        (put_only rows p.0 p.1 r x is),
  ),
  λ w. ⊎_elim
      (λ old. put_kept rows p.0 p.1 r x ((before r x).1 (subst (λ n. r < n) (put_long rows p.0 p.1) w.0, (w.1.0, old, w.1.2, w.1.3))))
      (λ (e : p ≡ w.1.0). (let first : p.0 ≡ r = ap (λ (q : Pair). q.0) e ∙ w.1.2 in
      let second : p.1 ≡ x = ap (λ (q : Pair). q.1) e ∙ w.1.3 in
      let lt : p.0 < length rows = subst (λ n. n < length rows) (sym first) (subst (λ n. r < n) (put_long rows p.0 p.1) w.0) in
      subst (λ n. Contains (row_of (put p.0 p.1 rows) n) x) first (subst (λ y. Contains (row_of (put p.0 p.1 rows) p.0) y) second (put_new rows p.0 p.1 lt))))
      (Contains-push_cases pairs p w.1.0 w.1.1),
)

push_cases : {X : Type 0} (xs : List X) (y : X) (i : ℕ) (x : X) → slice_get (xs ++ y ∷ []) i ≡ Some x → (slice_get xs i ≡ Some x) ⊎ ((length xs ≡ i) × (y ≡ x))
push_cases [] y zero x at = inr (refl, let e = at in cc)
push_cases [] y (suc i) x at = absurd (let e = at in cc)
push_cases (z ∷ xs) y zero x at = inl at
push_cases (z ∷ xs) y (suc i) x at = ⊎_elim inl (λ n. inr (omega (arith, n.0), n.1)) (push_cases xs y i x at)

push_old : {X : Type 0} (xs : List X) (y : X) (i : ℕ) (x : X) → slice_get xs i ≡ Some x → slice_get (xs ++ y ∷ []) i ≡ Some x
push_old [] y i x at = absurd (let e = at in cc)
push_old (z ∷ xs) y zero x at = at
push_old (z ∷ xs) y (suc i) x at = push_old xs y i x at

push_new : {X : Type 0} (xs : List X) (y : X) (i : ℕ) → length xs ≡ i → slice_get (xs ++ y ∷ []) i ≡ Some y
push_new [] y zero e = refl
push_new [] y (suc i) e = absurd (omega arith)
push_new (z ∷ xs) y zero e = absurd (omega arith)
push_new (z ∷ xs) y (suc i) e = push_new xs y i (omega arith)

taken : {X : Type 0} (xs : List X) (k : ℕ) → k < length xs → length (take k xs) ≡ k
taken xs zero lt = refl
taken [] (suc k) lt = absurd (omega arith)
taken (x ∷ xs) (suc k) lt = omega (arith, taken xs k (omega arith))

abbrev pair_of : ℕ → ℕ → Pair
pair_of a b = (a, b)

pair_is : (a b : ℕ) (q : Pair) → a ≡ q.0 → b ≡ q.1 → ◌≡◌ {A = Pair} (a, b) q
pair_is a b q e f = ap (λ i. pair_of i b) e ∙ ap (λ i. pair_of q.0 i) f

pub numbered_none : AreNumbered [] []
numbered_none p = (λ is. absurd (none p is), λ w. absurd (let e = w.1 in cc))

-- one lane more
pub numbered_on : (xs : List Pair) (y : Pair) (k n : ℕ) (out : List Pair) → length xs ≡ k → n ≡ k → AreNumbered xs out → AreNumbered (xs ++ y ∷ []) (out ++ (y.0, n) ∷ [])
numbered_on xs y k n out long same before p = (
  λ is. ⊎_elim
      (λ old. (let w = (before p).0 old in (w.0, push_old xs y p.1 w.0 w.1, w.2)))
      (λ e. (y, push_new xs y p.1 (long ∙ sym same ∙ ap (λ (q : Pair). q.1) e), ap (λ (q : Pair). q.0) e))
      (Contains-push_cases out (y.0, n) p is),
  λ w. ⊎_elim
      (λ old. Contains-append_left out ((y.0, n) ∷ []) p ((before p).1 (w.0, old, w.2)))
      (λ e. (let first : y.0 ≡ p.0 = ap (λ (q : Pair). q.0) e.1 ∙ w.2 in
      let second : n ≡ p.1 = same ∙ sym long ∙ e.0 in
      subst (λ (q : Pair). Contains (out ++ (y.0, n) ∷ []) q) (pair_is y.0 n p first second) (Contains-push out (y.0, n))))
      (push_cases xs y p.1 w.0 w.1),
)

pub numbered_next : (xs : List Pair) (k n : ℕ) (y : Pair) (out : List Pair) → slice_get xs k ≡ Some y → n ≡ k → AreNumbered (take k xs) out → AreNumbered (take (k + 1) xs) (out ++ (y.0, n) ∷ [])
numbered_next xs k n y out at same before = subst (λ ys. AreNumbered ys (out ++ (y.0, n) ∷ [])) (sym (take_next xs k y at)) (numbered_on (take k xs) y k n out (taken xs k (slice_get_within xs k y at)) same before)

-- the rows of slots
pub slot_rows : (slots : ℕ) (pairs numbers : List Pair) (rows : Rows) → length rows ≡ slots → Holds rows numbers → AreNumbered pairs numbers →
    (s k : ℕ) → Contains (row_of rows s) k ↔ ((s < slots) × ((lane : Pair) × (slice_get pairs k ≡ Some lane) × (lane.0 ≡ s)))
slot_rows slots pairs numbers rows long holds numbered s k = (
  λ is. (let w = (holds s k).0 is in
      let x = (numbered w.1.0).0 w.1.1 in
      (omega (arith, w.0, long), (x.0, ap (slice_get pairs) (sym w.1.3) ∙ x.1, x.2 ∙ w.1.2))),
  λ w. (holds s k).1 (omega (arith, w.0, long), ((s, k), (numbered (s, k)).1 (w.1.0, w.1.1, w.1.2), refl, refl)),
)

pub empty_row : (n r x : ℕ) → Contains (row_of (replicate n []) r) x → ⊥
empty_row zero r x is = none x is
empty_row (suc n) zero x is = none x is
empty_row (suc n) (suc r) x is = empty_row n r x is
