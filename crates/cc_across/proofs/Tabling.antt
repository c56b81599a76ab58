-- What is in the rows of a table of pairs.
use Rattle.std.proofs.Common.{ℕ, zero, suc, ◌≡◌, ◌≢◌, ◌<◌, ◌≤◌, ◌⊎◌, inl, inr, ⊎_elim, List, [], ◌∷◌, ◌++◌, length, replicate, refl, sym, ap, ◌∙◌, subst, arith}
use Rattle.std.specs.Prelude.{Contains, ◌↔◌}
use Rattle.std.specs.List.{AllByRecursion}
use Rattle.std.specs.List.Sorted.{IsStrictlySortedBy}
use Rattle.std.specs.declared.cmp.Ordering.{Ordering}
use Rattle.std.specs.declared.cmp.Ordering.TheVariants.{Less}
use Rattle.std.specs.Ordering.{nat_cmp, ordering_then}
use Rattle.std.proofs.lemmas.Bool.{cases_eq, cases_lt}
use Rattle.std.proofs.lemmas.Bool.Decides.{nat_tests}
use Rattle.std.proofs.lemmas.List.{length-set, length-replicate, get_or-set_same, get_or-set_other, get_or_past}
use Rattle.std.proofs.lemmas.List.Elements.{Contains-push, Contains-push_cases, Contains-append_left}
use Rattle.cc_graph.specs.Linking.{row_of}
use Rattle.cc_graph.specs.Order.{IsBelow, IsAscending}
use Rattle.cc_across.specs.Pairs.{Pair, put, tabled, AreRows}
use Rattle.cc_across.proofs.Lists.{Rows, none, cons_cases, here, later, within}

put_long : (rows : Rows) (r x : ℕ) → length (put r x rows) ≡ length rows
put_long rows r x = length-set rows r _

put_same : (rows : Rows) (r x : ℕ) → r < length rows → row_of (put r x rows) r ≡ row_of rows r ++ x ∷ []
put_same rows r x lt = get_or-set_same rows r (row_of rows r ++ x ∷ []) [] lt

put_other : (rows : Rows) (r k x : ℕ) → k ≢ r → row_of (put r x rows) k ≡ row_of rows k
put_other rows r k x ne = get_or-set_other rows r k (row_of rows r ++ x ∷ []) [] ne

put_only : (rows : Rows) (r x k y : ℕ) → Contains (row_of (put r x rows) k) y → Contains (row_of rows k) y ⊎ ((r ≡ k) × (x ≡ y))
put_only rows r x k y is = elim (cases_eq k r) [
  | inl e ↦ (let lt : r < length rows = subst (λ n. r < n) (put_long rows r x) (subst (λ i. i < length (put r x rows)) e (within (put r x rows) k y is)) in
      ⊎_elim
      (λ old. inl (subst (λ i. Contains (row_of rows i) y) (sym e) old))
      (λ f. inr (sym e, f))
      (Contains-push_cases (row_of rows r) x y (subst (λ (xs : List ℕ). Contains xs y) (put_same rows r x lt) (subst (λ i. Contains (row_of (put r x rows) i) y) e is))))
  | inr ne ↦ inl (subst (λ (xs : List ℕ). Contains xs y) (put_other rows r k x ne) is)
]

put_kept : (rows : Rows) (r x k y : ℕ) → Contains (row_of rows k) y → Contains (row_of (put r x rows) k) y
put_kept rows r x k y is = elim (cases_eq k r) [
  | inl e ↦ (let lt : r < length rows = subst (λ i. i < length rows) e (within rows k y is) in
      subst (λ i. Contains (row_of (put r x rows) i) y) (sym e) (subst (λ (xs : List ℕ). Contains xs y) (sym (put_same rows r x lt)) (Contains-append_left (row_of rows r) (x ∷ []) y (subst (λ i. Contains (row_of rows i) y) e is))))
  | inr ne ↦ subst (λ (xs : List ℕ). Contains xs y) (sym (put_other rows r k x ne)) is
]

put_new : (rows : Rows) (r x : ℕ) → r < length rows → Contains (row_of (put r x rows) r) x
put_new rows r x lt = subst (λ (xs : List ℕ). Contains xs x) (sym (put_same rows r x lt)) (Contains-push (row_of rows r) x)

abbrev pub pair : ℕ → ℕ → Pair
pair a b = (a, b)

pub pair_is : (q : Pair) (i j : ℕ) → q.0 ≡ i → q.1 ≡ j → ◌≡◌ {A = Pair} q (i, j)
pair_is q i j e f = ap (λ n. pair n q.1) e ∙ ap (λ n. pair i n) f

pub tabled_long : (pairs : List Pair) (rows : Rows) → length (tabled pairs rows) ≡ length rows
tabled_long [] rows = refl
tabled_long (x ∷ pairs) rows = tabled_long pairs (put x.0 x.1 rows) ∙ put_long rows x.0 x.1

tabled_only : (pairs : List Pair) (rows : Rows) (r k : ℕ) → Contains (row_of (tabled pairs rows) r) k → Contains (row_of rows r) k ⊎ Contains pairs (r, k)
tabled_only [] rows r k is = inl is
tabled_only (x ∷ pairs) rows r k is = ⊎_elim
    (λ old. ⊎_elim inl (λ e. inr (subst (λ (y : Pair). Contains (x ∷ pairs) y) (pair_is x r k e.0 e.1) (here x pairs))) (put_only rows x.0 x.1 r k old))
    (λ more. inr (later x pairs (r, k) more))
    (tabled_only pairs (put x.0 x.1 rows) r k is)

tabled_kept : (pairs : List Pair) (rows : Rows) (r k : ℕ) → Contains (row_of rows r) k → Contains (row_of (tabled pairs rows) r) k
tabled_kept [] rows r k is = is
tabled_kept (x ∷ pairs) rows r k is = tabled_kept pairs (put x.0 x.1 rows) r k (put_kept rows x.0 x.1 r k is)

tabled_new : (pairs : List Pair) (rows : Rows) (r k : ℕ) → r < length rows → Contains pairs (r, k) → Contains (row_of (tabled pairs rows) r) k
tabled_new [] rows r k lt is = absurd (none (pair r k) is)
tabled_new (x ∷ pairs) rows r k lt is = ⊎_elim
    (λ (e : ◌≡◌ {A = Pair} x (r, k)). tabled_kept pairs (put x.0 x.1 rows) r k (subst (λ (y : Pair). Contains (row_of (put y.0 y.1 rows) r) k) (sym e) (put_new rows r k lt)))
    (λ more. tabled_new pairs (put x.0 x.1 rows) r k (subst (λ n. r < n) (sym (put_long rows x.0 x.1)) lt) more)
    (cons_cases x pairs (pair r k) is)

-- by the first number, then by the second
abbrev pub pair_cmp : Pair → Pair → Ordering
pair_cmp x y = ordering_then (nat_cmp x.0 y.0) (nat_cmp x.1 y.1)

all_in : {X : Type 0} (P : X → Type 0) (xs : List X) (x : X) → AllByRecursion P xs → Contains xs x → P x
all_in P [] x all is = absurd (none x is)
all_in P (z ∷ xs) x all is = ⊎_elim (λ e. subst P e all.0) (λ more. all_in P xs x all.1 more) (cons_cases z xs x is)

below_push : (a y : ℕ) (xs : List ℕ) → IsBelow a xs → a < y → IsBelow a (xs ++ y ∷ [])
below_push a y [] all lt = (lt, tt)
below_push a y (x ∷ xs) all lt = (all.0, below_push a y xs all.1 lt)

ascending_push : (xs : List ℕ) (y : ℕ) → IsAscending xs → ((k : ℕ) → Contains xs k → k < y) → IsAscending (xs ++ y ∷ [])
ascending_push [] y up above = (tt, tt)
ascending_push (x ∷ xs) y up above = (below_push x y xs up.0 (above x (here x xs)), ascending_push xs y up.1 (λ k is. above k (later x xs k is)))

-- each row ascends, and what is in it is below what is still to come
record Ready (rows : Rows) (pairs : List Pair) : Type 0 where
  up : (r : ℕ) → IsAscending (row_of rows r)
  above : (r k j : ℕ) → Contains (row_of rows r) k → Contains pairs (r, j) → k < j

cmp_above : (a b c d : ℕ) → ordering_then (nat_cmp a c) (nat_cmp b d) ≡ Less → a ≡ c → b < d
cmp_above a b c d less same = grind (arith, nat_tests)

ready_on : (x : Pair) (pairs : List Pair) (rows : Rows) → AllByRecursion (λ y. pair_cmp x y ≡ Less) pairs → Ready rows (x ∷ pairs) → Ready (put x.0 x.1 rows) pairs
ready_on x pairs rows least ready = record {
  up = λ r. elim (cases_eq r x.0) [
    | inl e ↦ elim (cases_lt x.0 (length rows)) [
      | inl lt ↦ subst (λ i. IsAscending (row_of (put x.0 x.1 rows) i)) (sym e) (subst IsAscending (sym (put_same rows x.0 x.1 lt)) (ascending_push (row_of rows x.0) x.1 (ready.up x.0) (λ k is. ready.above x.0 k x.1 is (here x pairs))))
      | inr ge ↦ (let past : length (put x.0 x.1 rows) ≤ r = omega (arith, put_long rows x.0 x.1, e) in subst IsAscending (sym (get_or_past (put x.0 x.1 rows) r [] past)) tt)
    ]
    | inr ne ↦ subst IsAscending (sym (put_other rows x.0 r x.1 ne)) (ready.up r)
  ];
  above = λ r k j is more. ⊎_elim
      (λ old. ready.above r k j old (later x pairs (r, j) more))
      (λ e. let less = all_in (λ (y : Pair). pair_cmp x y ≡ Less) pairs (r, j) least more in subst (λ n. n < j) e.1 (cmp_above x.0 x.1 r j less e.0))
      (put_only rows x.0 x.1 r k is);
}

tabled_ascends : (pairs : List Pair) (rows : Rows) → IsStrictlySortedBy pair_cmp pairs → Ready rows pairs → (r : ℕ) → IsAscending (row_of (tabled pairs rows) r)
unfolding IsStrictlySortedBy
tabled_ascends [] rows sorted ready r = ready.up r
tabled_ascends (x ∷ pairs) rows sorted ready r = tabled_ascends pairs (put x.0 x.1 rows) sorted.1 (ready_on x pairs rows sorted.0 ready) r

empty_is : (n r : ℕ) → row_of (replicate n []) r ≡ []
empty_is zero r = refl
empty_is (suc n) zero = refl
empty_is (suc n) (suc r) = empty_is n r

module _ (count : ℕ) (arranged : List Pair) (rows : Rows) (is : rows ≡ tabled arranged (replicate count [])) where
  pub table_long : length rows ≡ count
  table_long = ap length is ∙ tabled_long arranged (replicate count []) ∙ length-replicate {A = List ℕ} count []

  pub table_exact : (pairs : List Pair) → ((x : Pair) → Contains arranged x ↔ Contains pairs x) → AreRows rows count pairs
  table_exact pairs same r k = (
    λ has. (
      omega (arith, within rows r k has, table_long),
      ⊎_elim
          (λ old. absurd (none k (subst (λ (xs : List ℕ). Contains xs k) (empty_is count r) old)))
          (λ new. (same (r, k)).0 new)
          (tabled_only arranged (replicate count []) r k (subst (λ rs. Contains (row_of rs r) k) is has)),
    ),
    λ w. subst (λ rs. Contains (row_of rs r) k) (sym is) (tabled_new arranged (replicate count []) r k (subst (λ n. r < n) (sym (length-replicate {A = List ℕ} count [])) w.0) ((same (r, k)).1 w.1)),
  )

  pub table_ascends : IsStrictlySortedBy pair_cmp arranged → (r : ℕ) → IsAscending (row_of rows r)
  table_ascends sorted r = subst (λ rs. IsAscending (row_of rs r)) (sym is) (tabled_ascends arranged (replicate count []) sorted ready r)
    where
      ready : Ready (replicate count []) arranged
      ready = record {
        up = λ r. subst IsAscending (sym (empty_is count r)) tt;
        above = λ r k j old more. absurd (none k (subst (λ (xs : List ℕ). Contains xs k) (empty_is count r) old));
      }
