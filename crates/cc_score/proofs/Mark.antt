-- One more row or test of the marks.
use Rattle.std.proofs.Common.{◌≡◌, ◌≢◌, ℕ, zero, suc, ◌+◌, ◌<◌, ◌≤◌, ⊎_elim, List, [], ◌∷◌, ◌++◌, Option, Some, None, Bool, true, false, length, get_or, set, refl, ap, sym, ◌∙◌, arith}
use Rattle.std.specs.Prelude.{slice_get, nat_eq, is_none, ◌||◌}
use Rattle.std.specs.Option.{option_map}
use Rattle.std.proofs.lemmas.Bool.{cases_eq, eq-eqb, ne_eqb}
use Rattle.std.proofs.lemmas.Option.{slice_get-get_or, slice_get_past}
use Rattle.cc_score.specs.Firsts.{exercises, first_to, has_to, is_row, marks_to, or_test}

pub marks_more : (exercised : List (List ℕ)) (count : ℕ) → marks_to exercised (count + 1) ≡ marks_to exercised count ++ first_to exercised count (length exercised) ∷ []
marks_more exercised count = let e : count + 1 ≡ suc count = omega arith in ap (marks_to exercised) e

pub first_more : (exercised : List (List ℕ)) (row count : ℕ) → first_to exercised row (count + 1) ≡ or_test (first_to exercised row count) (exercises (slice_get exercised count) row) count
first_more exercised row count = let e : count + 1 ≡ suc count = omega arith in ap (first_to exercised row) e

has_more : (rows : List ℕ) (row count : ℕ) → has_to rows row (count + 1) ≡ is_row (slice_get rows count) row || has_to rows row count
has_more rows row count = let e : count + 1 ≡ suc count = omega arith in ap (has_to rows row) e

or_twice : (m : Option ℕ) (a b : Bool) (test : ℕ) → or_test (or_test m a test) b test ≡ or_test m (b || a) test
or_twice (Some first) a b test = refl
or_twice None true true test = refl
or_twice None true false test = refl
or_twice None false true test = refl
or_twice None false false test = refl

map_twice : {A : Type 0} (f g h : A → A) → ((x : A) → f (g x) ≡ h x) → (o : Option A) → option_map f (option_map g o) ≡ option_map h o
map_twice f g h same None = refl
map_twice f g h same (Some x) = ap Some (same x)

-- one row more
pub rows_more : (rows : List ℕ) (index k row test : ℕ) (first : Option (Option ℕ)) (mid new : Option (Option ℕ)) → slice_get rows index ≡ Some row
    → mid ≡ option_map (λ mark. or_test mark (has_to rows k index) test) first
    → new ≡ option_map (λ mark. or_test mark (nat_eq row k) test) mid
    → new ≡ option_map (λ mark. or_test mark (has_to rows k (index + 1)) test) first
rows_more rows index k row test first mid new at before now =
    let more : nat_eq row k || has_to rows k index ≡ has_to rows k (index + 1) = ap (λ o. is_row o k || has_to rows k index) (sym at) ∙ sym (has_more rows k index) in
    now ∙ (ap (option_map (λ mark. or_test mark (nat_eq row k) test)) before
    ∙ map_twice (λ mark. or_test mark (nat_eq row k) test) (λ mark. or_test mark (has_to rows k index) test) (λ mark. or_test mark (has_to rows k (index + 1)) test)
    (λ mark. or_twice mark (has_to rows k index) (nat_eq row k) test ∙ ap (λ b. or_test mark b test) more) first)

-- a slice that was written at one place, if at all
unmarked : (m : Option ℕ) (test : ℕ) → or_test m false test ≡ m
unmarked (Some first) test = refl
unmarked None test = refl

map_same : {A : Type 0} (f : A → A) → ((x : A) → f x ≡ x) → (o : Option A) → option_map f o ≡ o
map_same f same None = refl
map_same f same (Some x) = ap Some (same x)

-- nothing is marked elsewhere
pub elsewhere : (k row test : ℕ) (o : Option (Option ℕ)) → row ≢ k → o ≡ option_map (λ mark. or_test mark (nat_eq row k) test) o
elsewhere k row test o ne =
    let no = ne_eqb row k ne in
    sym (map_same (λ mark. or_test mark (nat_eq row k) test) (λ m. ap (λ b. or_test m b test) no ∙ unmarked m test) o)

-- the row has a mark
pub marked_already : (first : List (Option ℕ)) (row test : ℕ) → row < length first → is_none (get_or first row None) ≡ false
    → (k : ℕ) → slice_get first k ≡ option_map (λ mark. or_test mark (nat_eq row k) test) (slice_get first k)
marked_already first row test lt some k =
    ⊎_elim (λ same. by (get_or first row None) refl same) (λ ne. elsewhere k row test (slice_get first k) ne) (cases_eq row k)
  where
    by : (m : Option ℕ) → get_or first row None ≡ m → row ≡ k → slice_get first k ≡ option_map (λ mark. or_test mark (nat_eq row k) test) (slice_get first k)
    by None e same = absurd (let z : true ≡ false = sym (ap is_none e) ∙ some in cc)
    by (Some one) e same =
        let at : slice_get first k ≡ Some (Some one) = sym (ap (slice_get first) same) ∙ (slice_get-get_or first row None lt ∙ ap Some e) in
        at ∙ sym (ap (option_map (λ mark. or_test mark (nat_eq row k) test)) at)

-- there is no such row
pub no_row : (first : List (Option ℕ)) (row test : ℕ) → length first ≤ row → (k : ℕ) → slice_get first k ≡ option_map (λ mark. or_test mark (nat_eq row k) test) (slice_get first k)
no_row first row test past k =
    ⊎_elim
    (λ same. let none = slice_get_past first k (omega arith) in none ∙ sym (ap (option_map (λ mark. or_test mark (nat_eq row k) test)) none))
    (λ ne. elsewhere k row test (slice_get first k) ne)
    (cases_eq row k)

slice_get-set_other : {A : Type 0} (xs : List A) (i k : ℕ) (a : A) → k ≢ i → slice_get (set xs i a) k ≡ slice_get xs k
slice_get-set_other [] i k a ne = refl
slice_get-set_other (x ∷ xs) zero zero a ne = absurd (ne refl)
slice_get-set_other (x ∷ xs) zero (suc k) a ne = refl
slice_get-set_other (x ∷ xs) (suc i) zero a ne = refl
slice_get-set_other (x ∷ xs) (suc i) (suc k) a ne = slice_get-set_other xs i k a (λ e. ne (ap suc e))

slice_get-set_same : {A : Type 0} (xs : List A) (i : ℕ) (a : A) → i < length xs → slice_get (set xs i a) i ≡ Some a
slice_get-set_same [] i a lt = absurd (omega arith)
slice_get-set_same (x ∷ xs) zero a lt = refl
slice_get-set_same (x ∷ xs) (suc i) a lt = slice_get-set_same xs i a (omega arith)

-- the row is marked
pub marked_now : (first : List (Option ℕ)) (row test : ℕ) → row < length first → is_none (get_or first row None) ≡ true
    → (k : ℕ) → slice_get (set first row (Some test)) k ≡ option_map (λ mark. or_test mark (nat_eq row k) test) (slice_get first k)
marked_now first row test lt none k =
    ⊎_elim (λ same. by (get_or first row None) refl same)
    (λ ne. slice_get-set_other first row k (Some test) (λ e. ne (sym e)) ∙ elsewhere k row test (slice_get first k) ne) (cases_eq row k)
  where
    by : (m : Option ℕ) → get_or first row None ≡ m → row ≡ k → slice_get (set first row (Some test)) k ≡ option_map (λ mark. or_test mark (nat_eq row k) test) (slice_get first k)
    by (Some one) e same = absurd (let z : false ≡ true = sym (ap is_none e) ∙ none in cc)
    by None e same =
        let at : slice_get first k ≡ Some None = sym (ap (slice_get first) same) ∙ (slice_get-get_or first row None lt ∙ ap Some e) in
        sym (ap (slice_get (set first row (Some test))) same) ∙ (slice_get-set_same first row (Some test) lt
        ∙ sym (ap (option_map (λ mark. or_test mark (nat_eq row k) test)) at ∙ ap (λ b. Some (or_test None b test)) (eq-eqb row k same)))
