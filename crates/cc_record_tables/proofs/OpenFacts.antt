-- Activations that are opened and closed.
use Rattle.std.proofs.Common.{◌≡◌, ℕ, suc, ◌+◌, ◌-◌, ◌<◌, List, [], ◌∷◌, ◌++◌, length, ⊎_elim, Some, None, Bool, true, false, refl, sym, ap, ◌∙◌, subst, arith, cond, reverse, take, eq-eqb}
use Rattle.std.specs.Prelude.{nat_eq, slice_get, remove}
use Rattle.std.proofs.lemmas.Bool.{cases_eq, ne_eqb}
use Rattle.std.proofs.lemmas.List.{reverse-append}
use Rattle.cc_record_laws.specs.Kept.{without}
use Rattle.cc_record_laws.specs.Watching.{Distinct, is_among}
use Rattle.cc_record_laws.proofs.Exact.{eqb_is}
use Rattle.cc_record_tables.specs.Opened.{place_from, is_it, is_last}

pub reverse_push : (xs : List ℕ) (a : ℕ) → reverse (xs ++ a ∷ []) ≡ a ∷ reverse xs
reverse_push xs a = reverse-append xs (a ∷ [])

reverse_cons : (x : ℕ) (xs : List ℕ) → reverse (x ∷ xs) ≡ reverse xs ++ x ∷ []
reverse_cons x xs = reverse-append (x ∷ []) xs

pub without_append : (act : ℕ) (xs ys : List ℕ) → without act (xs ++ ys) ≡ without act xs ++ without act ys
without_append act [] ys = refl
without_append act (x ∷ xs) ys = ap (λ r. cond (nat_eq act x) r (x ∷ r)) (without_append act xs ys) ∙ by (nat_eq act x)
  where
    by : (b : Bool) → cond b (without act xs ++ without act ys) (x ∷ (without act xs ++ without act ys)) ≡ cond b (without act xs) (x ∷ without act xs) ++ without act ys
    by true = refl
    by false = refl

pub without_reverse : (act : ℕ) (xs : List ℕ) → without act (reverse xs) ≡ reverse (without act xs)
without_reverse act [] = refl
without_reverse act (x ∷ xs) = ap (without act) (reverse_cons x xs) ∙ (without_append act (reverse xs) (x ∷ []) ∙ (ap (λ r. r ++ without act (x ∷ [])) (without_reverse act xs) ∙ by (nat_eq act x)))
  where
    nil : (ys : List ℕ) → ys ++ [] ≡ ys
    nil [] = refl
    nil (y ∷ ys) = ap (λ r. y ∷ r) (nil ys)

    by : (b : Bool) → reverse (without act xs) ++ cond b [] (x ∷ []) ≡ reverse (cond b (without act xs) (x ∷ without act xs))
    by true = nil (reverse (without act xs))
    by false = sym (reverse_cons x (without act xs))

pub without_absent : (act : ℕ) (xs : List ℕ) → is_among act xs ≡ false → without act xs ≡ xs
without_absent act [] h = refl
without_absent act (x ∷ xs) h = by (nat_eq act x) h (λ g. without_absent act xs g)
  where
    by : (b : Bool) → cond b true (is_among act xs) ≡ false → (is_among act xs ≡ false → without act xs ≡ xs) → cond b (without act xs) (x ∷ without act xs) ≡ x ∷ xs
    by true h g = absurd (let z = h in cc)
    by false h g = ap (λ r. x ∷ r) (g h)

same_back : (a b : ℕ) → nat_eq a b ≡ true → nat_eq b a ≡ true
same_back a b h = eq-eqb b a (sym (eqb_is a b h))

apart_back : (a b : ℕ) → nat_eq a b ≡ false → nat_eq b a ≡ false
apart_back a b h = ⊎_elim (λ e. absurd (let z : true ≡ false = sym (eq-eqb a b (sym e)) ∙ h in cc)) (λ ne. ne_eqb b a ne) (cases_eq b a)

-- one that stands at a place is taken out there
pub without_remove : (act n m : ℕ) (xs : List ℕ) → place_from n xs act ≡ Some m → (k : ℕ) × (m ≡ n + k) × (k < length xs) × (without act (remove xs k) ≡ without act xs)
without_remove act n m [] h = absurd (let z = h in cc)
without_remove act n m (x ∷ xs) h = by (nat_eq x act) refl h (λ q. without_remove act (n + 1) m xs q)
  where
    by : (b : Bool) → nat_eq x act ≡ b → cond b (Some n) (place_from (n + 1) xs act) ≡ Some m
        → (place_from (n + 1) xs act ≡ Some m → (k : ℕ) × (m ≡ (n + 1) + k) × (k < length xs) × (without act (remove xs k) ≡ without act xs))
        → (k : ℕ) × (m ≡ n + k) × (k < length (x ∷ xs)) × (without act (remove (x ∷ xs) k) ≡ without act (x ∷ xs))
    by true e q ih = (0, (let z : n ≡ m = (let w = q in cc) in omega arith), omega arith, sym (ap (λ b. cond b (without act xs) (x ∷ without act xs)) (same_back x act e)))
    by false e q ih =
        let p = ih q in
        (suc p.0, (let z = p.1 in omega arith), (let z = p.2 in omega arith), ap (λ r. cond (nat_eq act x) r (x ∷ r)) p.3)

pub removed_first : (act m : ℕ) (xs : List ℕ) → place_from 0 xs act ≡ Some m → (m < length xs) × (without act (remove xs m) ≡ without act xs)
removed_first act m xs h =
    let p = without_remove act 0 m xs h in
    let e : p.0 ≡ m = (let z = p.1 in omega arith) in
    (subst (λ k. k < length xs) e p.2, subst (λ k. without act (remove xs k) ≡ without act xs) e p.3)

pub none_left : (act n : ℕ) (xs : List ℕ) → place_from n xs act ≡ None → without act xs ≡ xs
none_left act n [] h = refl
none_left act n (x ∷ xs) h = by (nat_eq x act) refl h (λ q. none_left act (n + 1) xs q)
  where
    by : (b : Bool) → nat_eq x act ≡ b → cond b (Some n) (place_from (n + 1) xs act) ≡ None → (place_from (n + 1) xs act ≡ None → without act xs ≡ xs) → without act (x ∷ xs) ≡ x ∷ xs
    by true e q ih = absurd (let z = q in cc)
    by false e q ih = ap (λ b. cond b (without act xs) (x ∷ without act xs)) (apart_back x act e) ∙ ap (λ r. x ∷ r) (ih q)

-- a list that ends in the activation
last_is : (xs : List ℕ) (act : ℕ) → is_last xs act ≡ true → (ys : List ℕ) × (xs ≡ ys ++ act ∷ []) × (take (length xs - 1) xs ≡ ys)
last_is [] act h = absurd (let z = h in cc)
last_is (x ∷ []) act h = ([], ap (λ x. x ∷ []) (eqb_is x act h), refl)
last_is (x ∷ y ∷ xs) act h =
    let e : length (x ∷ y ∷ xs) - 1 ≡ suc (length (y ∷ xs) - 1) = omega arith in
    let p = last_is (y ∷ xs) act (ap (λ k. is_it (slice_get (x ∷ y ∷ xs) k) act) (sym e) ∙ h) in
    (x ∷ p.0, ap (λ r. x ∷ r) p.1, ap (λ k. take k (x ∷ y ∷ xs)) e ∙ ap (λ r. x ∷ r) p.2)

pub closed_last : (xs : List ℕ) (act : ℕ) → is_last xs act ≡ true → Distinct (reverse xs) → reverse (take (length xs - 1) xs) ≡ without act (reverse xs)
closed_last xs act h d =
    let p = last_is xs act h in
    let e : reverse xs ≡ act ∷ reverse p.0 = ap reverse p.1 ∙ reverse_push p.0 act in
    let d' : Distinct (act ∷ reverse p.0) = subst Distinct e d in
    ap reverse p.2 ∙ sym (ap (without act) e ∙ (ap (λ b. cond b (without act (reverse p.0)) (act ∷ without act (reverse p.0))) (eq-eqb act act refl) ∙ without_absent act (reverse p.0) d'.0))
