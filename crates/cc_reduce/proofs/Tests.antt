-- Tests that some row passes.
use Rattle.std.proofs.Common.{◌≡◌, ℕ, zero, suc, ◌+◌, ◌<◌, ⊎_elim, List, Option, Some, None, Bool, true, false, length, refl, ap, sym, ◌∙◌, arith}
use Rattle.std.specs.Prelude.{slice_get, nat_eq, not, ◌||◌}
use Rattle.std.proofs.lemmas.Bool.{true≢false, or_left, or_right, or_from, or_cases, cases_lt}
use Rattle.std.proofs.lemmas.Option.{slice_get_past}
use Rattle.cc_score.specs.Any.{any_to}
use Rattle.cc_score.specs.Firsts.{exercises, has_to, is_row}
use Rattle.cc_tables.specs.TestTable.{rows_or}
use Rattle.cc_reduce.specs.Rows.{has}

pub any_true : (f : ℕ → Bool) (n : ℕ) → any_to f n ≡ true → (i : ℕ) × (i < n) × (f i ≡ true)
any_true f zero h = absurd (true≢false (sym h))
any_true f (suc n) h =
    ⊎_elim (λ here. (n, omega arith, here))
    (λ before. let r = any_true f n before in (r.0, (let lt = r.1 in omega arith), r.2))
    (or_cases (f n) (any_to f n) h)

pub any_found : (f : ℕ → Bool) (n i : ℕ) → i < n → f i ≡ true → any_to f n ≡ true
any_found f zero i lt h = absurd (omega arith)
any_found f (suc n) i lt h =
    ⊎_elim (λ before. or_right (f n) (any_to f n) (any_found f n i before h))
    (λ after. let same : i ≡ n = omega arith in or_left (f n) (any_to f n) (sym (ap f same) ∙ h))
    (cases_lt i n)

pub any_none : (f : ℕ → Bool) (n : ℕ) → ((i : ℕ) → i < n → f i ≡ false) → any_to f n ≡ false
any_none f zero h = refl
any_none f (suc n) h = or_from (f n) (any_to f n) (h n (omega arith)) (any_none f n (λ i lt. h i (omega arith)))

pub both_ways : (a b : Bool) → (a ≡ true → b ≡ true) → (b ≡ true → a ≡ true) → a ≡ b
both_ways true b to from = sym (to refl)
both_ways false true to from = from refl
both_ways false false to from = refl

pub not_so : (a : Bool) → (a ≡ true → ⊥) → a ≡ false
not_so true h = absurd (h refl)
not_so false h = refl

pub not_false : (a : Bool) → a ≡ false → not a ≡ true
not_false a h = ap not h

pub not_true : (a : Bool) → not a ≡ true → a ≡ false
not_true true h = absurd (true≢false (sym h))
not_true false h = refl

-- one row of a set more
pub has_more : (rows : List ℕ) (row count one : ℕ) → slice_get rows count ≡ Some one → has_to rows row (count + 1) ≡ nat_eq one row || has_to rows row count
has_more rows row count one h =
    let e : count + 1 ≡ suc count = omega arith in
    ap (has_to rows row) e ∙ ap (λ o. is_row o row || has_to rows row count) h

-- a test that exercises a row is one of the tests
pub has_within : (sets : List (List ℕ)) (test row : ℕ) → has sets test row ≡ true → test < length sets
has_within sets test row h =
    ⊎_elim (λ lt. lt) (λ ge. absurd (true≢false (sym h ∙ ap (λ o. exercises o row) (slice_get_past sets test ge)))) (cases_lt test (length sets))

-- where there is no set, there are no rows
pub rows_or_none : (o : Option (List ℕ)) (row : ℕ) → exercises (Some (rows_or o)) row ≡ exercises o row
rows_or_none (Some rows) row = refl
rows_or_none None row = refl

-- one row more
pub any_more : (f : ℕ → Bool) (count : ℕ) → any_to f (count + 1) ≡ f count || any_to f count
any_more f count = let e : count + 1 ≡ suc count = omega arith in ap (any_to f) e
