-- What all nodes ask.
use Rattle.std.proofs.Common.{ℕ, zero, suc, ◌+◌, ◌<◌, ◌≤◌, ◌≡◌, ◌⊎◌, inl, inr, ⊎_elim, List, [], ◌∷◌, ◌++◌, Some, refl, ap, subst, arith}
use Rattle.std.specs.Prelude.{Contains, slice_get}
use Rattle.std.proofs.lemmas.List.Elements.{Contains-push, Contains-push_cases, Contains-append_left}
use Rattle.cc_points_base.specs.declared.view.Seen.{Seen}
use Rattle.cc_points_base.specs.declared.layout.Layout.{Layout}
use Rattle.cc_points_base.specs.declared.constraint.Constraint.{Constraint}
use Rattle.cc_points_base.specs.Layouts.{copies_in, all_copies, before}
use Rattle.std.proofs.lemmas.Bool.{cases_lt}
use Rattle.cc_points_base.specs.Saying.{asks, reads, all_pushed, asked, all_asked}
use Rattle.cc_points_solve.proofs.Lists.{none, cons_cases, Every}

pushed_kept : (cs out : List Constraint) (y : Constraint) → Contains out y → Contains (all_pushed cs out) y
pushed_kept [] out y is = is
pushed_kept (c ∷ cs) out y is = pushed_kept cs (out ++ c ∷ []) y (Contains-append_left out (c ∷ []) y is)

pushed_new : (cs out : List Constraint) (y : Constraint) → Contains cs y → Contains (all_pushed cs out) y
pushed_new [] out y is = absurd (none y is)
pushed_new (c ∷ cs) out y is = ⊎_elim
    (λ e. pushed_kept cs (out ++ c ∷ []) y (subst (Contains (out ++ c ∷ [])) e (Contains-push out c)))
    (λ more. pushed_new cs (out ++ c ∷ []) y more)
    (cons_cases c cs y is)

pushed_are : (Q : Constraint → Type 0) (cs out : List Constraint) → ((y : Constraint) → Contains out y → Q y) → Every Q cs → (y : Constraint) → Contains (all_pushed cs out) y → Q y
pushed_are Q [] out old all y is = old y is
pushed_are Q (c ∷ cs) out old all y is = pushed_are Q cs (out ++ c ∷ []) (λ z has. ⊎_elim (old z) (λ e. subst Q e all.0) (Contains-push_cases out c z has)) all.1 y is

module _ (L : Layout) (lists : List ℕ) where
  asked_kept : (xs : List Seen) (n k : ℕ) (out : List Constraint) (y : Constraint) → Contains out y → Contains (all_asked L lists xs n k out) y
  asked_kept [] n k out y is = is
  asked_kept (x ∷ xs) n k out y is = asked_kept xs (n + 1) (k + copies_in lists x.what x.class) (asked L lists n k x out) y (pushed_kept (reads L n x.class x.used) _ y (pushed_kept (asks L lists n k x.class x.what) out y is))

  -- what a node asks is asked
  pub asked_has : (xs : List Seen) (n k i m j : ℕ) (x : Seen) (out : List Constraint) (y : Constraint) → m ≡ n + i → j ≡ k + before lists xs i → slice_get xs i ≡ Some x → Contains (asks L lists m j x.class x.what) y ⊎ Contains (reads L m x.class x.used) y → Contains (all_asked L lists xs n k out) y
  asked_has [] n k i m j x out y e f at is = absurd (let q = at in cc)
  asked_has (z ∷ xs) n k zero m j x out y e f at is =
      let same : x ≡ z = (let q = at in cc) in
      let first : m ≡ n = omega arith in
      let copy : j ≡ k = omega arith in
      asked_kept xs (n + 1) (k + copies_in lists z.what z.class) (asked L lists n k z out) y (⊎_elim
      (λ a. pushed_kept (reads L n z.class z.used) _ y (pushed_new (asks L lists n k z.class z.what) out y (subst (λ i. Contains (asks L lists n i z.class z.what) y) copy (subst (λ i. Contains (asks L lists i j z.class z.what) y) first (subst (λ (p : Seen). Contains (asks L lists m j p.class p.what) y) same a)))))
      (λ r. pushed_new (reads L n z.class z.used) (all_pushed (asks L lists n k z.class z.what) out) y (subst (λ i. Contains (reads L i z.class z.used) y) first (subst (λ (p : Seen). Contains (reads L m p.class p.used) y) same r)))
      is)
  asked_has (z ∷ xs) n k (suc i) m j x out y e f at is = asked_has xs (n + 1) (k + copies_in lists z.what z.class) i m j x (asked L lists n k z out) y (omega arith) (omega arith) at is

  -- and all that is asked is asked by a node
  pub asked_are : (Q : Constraint → Type 0) (xs : List Seen) (n k : ℕ) (out : List Constraint) → ((y : Constraint) → Contains out y → Q y) →
      ((i m j : ℕ) (x : Seen) → m ≡ n + i → j ≡ k + before lists xs i → slice_get xs i ≡ Some x → Every Q (asks L lists m j x.class x.what) × Every Q (reads L m x.class x.used)) →
      (y : Constraint) → Contains (all_asked L lists xs n k out) y → Q y
  asked_are Q [] n k out old all y is = old y is
  asked_are Q (x ∷ xs) n k out old all y is =
      let now = all 0 n k x (omega arith) (omega arith) refl in
      asked_are Q xs (n + 1) (k + copies_in lists x.what x.class) (asked L lists n k x out)
      (λ z has. pushed_are Q (reads L n x.class x.used) (all_pushed (asks L lists n k x.class x.what) out) (λ v h. pushed_are Q (asks L lists n k x.class x.what) out old now.0 v h) now.1 z has)
      (λ i m j v e f at. all (suc i) m j v (omega arith) (omega arith) at)
      y is

  -- what a node copies lies before what a later one copies, and within what all copy
  pub before_later : (xs : List Seen) (n m : ℕ) (x : Seen) → slice_get xs n ≡ Some x → n < m → before lists xs n + copies_in lists x.what x.class ≤ before lists xs m
  before_later [] n m x at lt = absurd (let q = at in cc)
  before_later (z ∷ xs) n zero x at lt = absurd (omega arith)
  before_later (z ∷ xs) zero (suc m) x at lt =
      let same : z ≡ x = (let q = at in cc) in
      omega (arith, ap (λ (p : Seen). copies_in lists p.what p.class) same)
  before_later (z ∷ xs) (suc n) (suc m) x at lt = omega (arith, before_later xs n m x at (omega arith))

  pub before_within : (xs : List Seen) (n : ℕ) (x : Seen) → slice_get xs n ≡ Some x → before lists xs n + copies_in lists x.what x.class ≤ all_copies lists xs
  before_within [] n x at = absurd (let q = at in cc)
  before_within (z ∷ xs) zero x at =
      let same : z ≡ x = (let q = at in cc) in
      omega (arith, ap (λ (p : Seen). copies_in lists p.what p.class) same)
  before_within (z ∷ xs) (suc n) x at = omega (arith, before_within xs n x at)

  -- a copy is of one node alone, and of one pointer
  pub one_copy : (xs : List Seen) (n m i j : ℕ) (x y : Seen) → slice_get xs n ≡ Some x → slice_get xs m ≡ Some y → i < copies_in lists x.what x.class → j < copies_in lists y.what y.class → before lists xs n + i ≡ before lists xs m + j → (n ≡ m) × (i ≡ j)
  one_copy xs n m i j x y at_n at_m lt_i lt_j e = elim (cases_lt n m) [
    | inl lt ↦ absurd (omega (arith, before_later xs n m x at_n lt))
    | inr ge ↦ elim (cases_lt m n) [
      | inl gt ↦ absurd (omega (arith, before_later xs m n y at_m gt))
      | inr le ↦ (let same : n ≡ m = omega arith in (same, omega (arith, ap (before lists xs) same)))
    ]
  ]
