-- How many rows pass a test.
use Rattle.std.proofs.Common.{◌≡◌, ◌≢◌, ℕ, zero, suc, ◌+◌, ◌<◌, ◌≤◌, ⊎_elim, Bool, true, false, refl, ap, ◌∙◌, arith}
use Rattle.std.proofs.lemmas.Bool.{cases_lt}
use Rattle.cc_score.specs.Counts.{one_if}
use Rattle.cc_reduce.specs.Rows.{count_to}

pub count_same : (f g : ℕ → Bool) (n : ℕ) → ((i : ℕ) → i < n → f i ≡ g i) → count_to f n ≡ count_to g n
count_same f g zero same = refl
count_same f g (suc n) same =
    let before : count_to f n ≡ count_to g n = count_same f g n (λ i lt. same i (omega arith)) in
    let here : one_if (f n) ≡ one_if (g n) = ap one_if (same n (omega arith)) in
    omega arith

-- one more row passes
pub count_one : (f g : ℕ → Bool) (n x : ℕ) → x < n → f x ≡ false → g x ≡ true → ((i : ℕ) → i ≢ x → f i ≡ g i) → count_to g n ≡ count_to f n + 1
count_one f g zero x lt off on same = absurd (omega arith)
count_one f g (suc n) x lt off on same =
    ⊎_elim
    (λ before.
    let more : count_to g n ≡ count_to f n + 1 = count_one f g n x before off on same in
    let here : one_if (f n) ≡ one_if (g n) = ap one_if (same n (λ e. let z : n ≡ x = e in absurd (omega arith))) in
    omega arith)
    (λ after.
    let at : n ≡ x = omega arith in
    let before : count_to f n ≡ count_to g n = count_same f g n (λ i lt. same i (λ e. let z : i ≡ x = e in absurd (omega arith))) in
    let zero : one_if (f n) ≡ 0 = ap (λ i. one_if (f i)) at ∙ ap one_if off in
    let one : one_if (g n) ≡ 1 = ap (λ i. one_if (g i)) at ∙ ap one_if on in
    omega arith)
    (cases_lt x n)

one_most : (b : Bool) → one_if b ≤ 1
one_most true = omega arith
one_most false = omega arith

pub count_most : (f : ℕ → Bool) (n : ℕ) → count_to f n ≤ n
count_most f zero = omega arith
count_most f (suc n) =
    let before : count_to f n ≤ n = count_most f n in
    let here : one_if (f n) ≤ 1 = one_most (f n) in
    omega arith

pub count_none : (n : ℕ) → count_to (λ i. false) n ≡ 0
count_none zero = refl
count_none (suc n) = let before : count_to (λ i. false) n ≡ 0 = count_none n in omega arith
