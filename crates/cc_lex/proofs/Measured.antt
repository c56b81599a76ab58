-- What the lengths that the reader counts say of the fronts of a text.
use Rattle.std.proofs.Common.{not, ◌≡◌, ℕ, zero, suc, ◌≤◌, ◌<◌, Bool, true, false, cond, ◌&&◌, ◌||◌, eqb, leb, max, List, [], ◌∷◌, length, take, length-take, refl, arith, ◌⊎◌, inl, inr}
use Rattle.std.proofs.lemmas.Bool.{and_parts, cases_Bool, eqb-true, leb-false, leb-true, not-true, or_cases, or_left, or_right}
use Rattle.cc_lex.specs.Bytes.{chain}
use Rattle.cc_lex.specs.Spellings.{is_closed}
use Rattle.cc_lex.specs.Pieces.{ends_block}
use Rattle.cc_lex.specs.Reading.{run, closing, block_len, more}

-- The front of this length passes, and no longer one does.
pub record Measures (passes : List ℕ → Bool) (n : ℕ) (text : List ℕ) : Type 0 where
  pub within : n ≤ length text
  pub found : 0 < n → passes (take n text) ≡ true
  pub most : (m : ℕ) → m ≤ length text → passes (take m text) ≡ true → m ≤ n

pub run_within : (test : ℕ → ℕ → Bool) (before : ℕ) (z : List ℕ) → run test before z ≤ length z
run_within test before [] = omega arith
run_within test before (b ∷ z) = elim (test before b) as (λ v. cond v (suc (run test b z)) 0 ≤ suc (length z)) [ true ↦ omega (arith, run_within test b z) | false ↦ omega arith ]

pub run_chain : (test : ℕ → ℕ → Bool) (before : ℕ) (z : List ℕ) → chain test before (take (run test before z) z) ≡ true
run_chain test before [] = refl
run_chain test before (b ∷ z) = elim (cases_Bool (test before b)) [ inl e ↦ rw (e, e) (run_chain test b z) | inr e ↦ rw e refl ]

pub run_most : (test : ℕ → ℕ → Bool) (before : ℕ) (z : List ℕ) (m : ℕ) → m ≤ length z → chain test before (take m z) ≡ true → m ≤ run test before z
run_most test before z zero h e = omega arith
run_most test before [] (suc m) h e = absurd (omega arith)
run_most test before (b ∷ z) (suc m) h e =
    let p = and_parts (test before b) (chain test b (take m z)) e in
    let q : m ≤ run test b z = run_most test b z m (omega arith) p.1 in
    rw p.0 (omega arith)

pub more_cases : (n : ℕ) → ((n ≡ 0) × (more n ≡ 0)) ⊎ ((0 < n) × (more n ≡ suc n))
more_cases zero = inl (refl, refl)
more_cases (suc n) = inr (omega arith, refl)

pub more_above : (m n : ℕ) → 0 < m → m ≤ n → suc m ≤ more n
more_above m zero p h = absurd (omega arith)
more_above m (suc n) p h = omega arith

pub closed_some : (quote : ℕ) (escaped : Bool) (z : List ℕ) (m : ℕ) → is_closed quote escaped (take m z) ≡ true → 0 < m
closed_some quote escaped z zero e = absurd (let no : is_closed quote escaped [] ≡ true = e in cc)
closed_some quote escaped z (suc m) e = omega arith

length_zero : (m : ℕ) (z : List ℕ) → m ≤ length z → eqb (length (take m z)) 0 ≡ true → m ≡ 0
length_zero zero z h e = refl
length_zero (suc m) [] h e = absurd (omega arith)
length_zero (suc m) (b ∷ z) h e = absurd (omega (arith, eqb-true (length (take (suc m) (b ∷ z))) 0 e))

pub closing_most : (quote : ℕ) (escaped : Bool) (z : List ℕ) (m : ℕ) → m ≤ length z → is_closed quote escaped (take m z) ≡ true → m ≤ closing quote escaped z
closing_most quote escaped z zero h e = omega arith
closing_most quote escaped [] (suc m) h e = absurd (omega arith)
closing_most quote true (b ∷ z) (suc m) h e =
    let p = and_parts (not (eqb b 10)) (is_closed quote false (take m z)) e in
    let q : eqb b 10 ≡ false = not-true _ p.0 in
    rw q (more_above m _ (closed_some quote false z m p.1) (closing_most quote false z m (omega arith) p.1))
closing_most quote false (b ∷ z) (suc m) h e =
    elim (cases_Bool (eqb b quote)) [
      | inl quote ↦ let n : m ≡ 0 = length_zero m z (omega arith) (rw quote at e) in rw quote (omega arith)
      | inr other ↦
          let p = and_parts (not (eqb b 10)) (is_closed quote (eqb b 92) (take m z)) (rw other at e) in
          let q : eqb b 10 ≡ false = not-true _ p.0 in
          rw (other, q) (more_above m _ (closed_some quote (eqb b 92) z m p.1) (closing_most quote (eqb b 92) z m (omega arith) p.1))
    ]

pub more_at : (P : ℕ → Type 0) (n : ℕ) → P 0 → (0 < n → P (suc n)) → P (more n)
more_at P zero p q = p
more_at P (suc n) p q = q (omega arith)

pub closing_found : (quote : ℕ) (escaped : Bool) (z : List ℕ) → 0 < closing quote escaped z → is_closed quote escaped (take (closing quote escaped z) z) ≡ true
closing_found quote escaped [] = λ h. absurd (omega arith)
closing_found quote true (b ∷ z) =
    elim (cases_Bool (eqb b 10)) as (λ _. 0 < closing quote true (b ∷ z) → is_closed quote true (take (closing quote true (b ∷ z)) (b ∷ z)) ≡ true) [
      | inl e ↦ rw e (λ h. absurd (omega arith))
      | inr e ↦ rw e (more_at (λ n. 0 < n → is_closed quote true (take n (b ∷ z)) ≡ true) (closing quote false z) (λ h. absurd (omega arith)) (λ h _. rw (e, closing_found quote false z h) refl))
    ]
closing_found quote false (b ∷ z) =
    elim (cases_Bool (eqb b quote)) as (λ _. 0 < closing quote false (b ∷ z) → is_closed quote false (take (closing quote false (b ∷ z)) (b ∷ z)) ≡ true) [
      | inl quote ↦ rw quote (λ h. rw quote refl)
      | inr other ↦
          elim (cases_Bool (eqb b 10)) as (λ _. 0 < closing quote false (b ∷ z) → is_closed quote false (take (closing quote false (b ∷ z)) (b ∷ z)) ≡ true) [
            | inl e ↦ rw (other, e) (λ h. absurd (omega arith))
            | inr e ↦ rw (other, e) (more_at (λ n. 0 < n → is_closed quote false (take n (b ∷ z)) ≡ true) (closing quote (eqb b 92) z) (λ h. absurd (omega arith)) (λ h _. rw (other, e, closing_found quote (eqb b 92) z h) refl))
          ]
    ]

pub closing_within : (quote : ℕ) (escaped : Bool) (z : List ℕ) → closing quote escaped z ≤ length z
closing_within quote escaped [] = omega arith
closing_within quote true (b ∷ z) =
    elim (cases_Bool (eqb b 10)) [
      | inl e ↦ rw e (omega arith)
      | inr e ↦ rw e (more_at (λ n. n ≤ suc (length z)) (closing quote false z) (omega arith) (λ _. omega (arith, closing_within quote false z)))
    ]
closing_within quote false (b ∷ z) =
    elim (cases_Bool (eqb b quote)) [
      | inl e ↦ rw e (omega arith)
      | inr o ↦
          elim (cases_Bool (eqb b 10)) [
            | inl e ↦ rw (o, e) (omega arith)
            | inr e ↦ rw (o, e) (more_at (λ n. n ≤ suc (length z)) (closing quote (eqb b 92) z) (omega arith) (λ _. omega (arith, closing_within quote (eqb b 92) z)))
          ]
    ]

take_none : (m : ℕ) (z : List ℕ) → m ≤ length z → length (take m z) ≡ 0 → m ≡ 0
take_none m z h e = omega (arith, length-take {A = ℕ})

block_step : (b c : ℕ) (z : List ℕ) (n : ℕ) → 0 < n → (eqb b 42 && eqb c 47) ≡ false → ends_block (take n (c ∷ z)) ≡ true → ends_block (take (suc n) (b ∷ c ∷ z)) ≡ true
block_step b c z zero h q e = absurd (omega arith)
block_step b c z (suc n) h q e = rw q e

pub block_some : (z : List ℕ) (m : ℕ) → ends_block (take m z) ≡ true → 0 < m
block_some z zero e = absurd (let no : ends_block [] ≡ true = e in cc)
block_some z (suc m) e = omega arith

pub block_most : (z : List ℕ) (m : ℕ) → m ≤ length z → ends_block (take m z) ≡ true → m ≤ block_len z
block_most z zero h e = omega arith
block_most [] (suc m) h e = absurd (omega arith)
block_most (b ∷ []) (suc zero) h e = absurd (elim (cases_Bool (eqb b 42)) [ inl q ↦ let no : false ≡ true = rw q at e in cc | inr q ↦ let no : false ≡ true = rw q at e in cc ])
block_most (b ∷ []) (suc (suc m)) h e = absurd (omega arith)
block_most (b ∷ c ∷ z) (suc zero) h e = absurd (elim (cases_Bool (eqb b 42)) [ inl q ↦ let no : false ≡ true = rw q at e in cc | inr q ↦ let no : false ≡ true = rw q at e in cc ])
block_most (b ∷ c ∷ z) (suc (suc m)) h e =
    elim (cases_Bool (eqb b 42 && eqb c 47)) [
      | inl q ↦ let n : suc (length (take m z)) ≡ 1 = eqb-true _ _ (rw q at e) in let k : m ≡ 0 = take_none m z (omega arith) (omega arith) in rw q (omega arith)
      | inr q ↦ rw q (more_above (suc m) _ (omega arith) (block_most (c ∷ z) (suc m) (omega arith) (rw q at e)))
    ]

pub block_found : (z : List ℕ) → 0 < block_len z → ends_block (take (block_len z) z) ≡ true
block_found [] = λ h. absurd (omega arith)
block_found (b ∷ []) =
    elim (cases_Bool (eqb b 42)) as (λ _. 0 < block_len (b ∷ []) → ends_block (take (block_len (b ∷ [])) (b ∷ [])) ≡ true) [ inl q ↦ rw q (λ h. absurd (omega arith)) | inr q ↦ rw q (λ h. absurd (omega arith)) ]
block_found (b ∷ c ∷ z) =
    elim (cases_Bool (eqb b 42 && eqb c 47)) as (λ _. 0 < block_len (b ∷ c ∷ z) → ends_block (take (block_len (b ∷ c ∷ z)) (b ∷ c ∷ z)) ≡ true) [
      | inl q ↦ rw q (λ h. rw q refl)
      | inr q ↦
          rw q (more_at (λ n. 0 < n → ends_block (take n (b ∷ c ∷ z)) ≡ true) (block_len (c ∷ z)) (λ h. absurd (omega arith))
          (λ h _. block_step b c z (block_len (c ∷ z)) h q (block_found (c ∷ z) h)))
    ]

pub block_within : (z : List ℕ) → block_len z ≤ length z
block_within [] = omega arith
block_within (b ∷ []) = elim (cases_Bool (eqb b 42)) [ inl q ↦ rw q (omega arith) | inr q ↦ rw q (omega arith) ]
block_within (b ∷ c ∷ z) =
    elim (cases_Bool (eqb b 42 && eqb c 47)) [
      | inl q ↦ rw q (omega arith)
      | inr q ↦ rw q (more_at (λ n. n ≤ suc (suc (length z))) (block_len (c ∷ z)) (omega arith) (λ _. omega (arith, block_within (c ∷ z))))
    ]

-- the longer of two fronts that each pass one of two tests
pub either : (p q : List ℕ → Bool) (n m : ℕ) (text : List ℕ) → Measures p n text → Measures q m text → Measures (λ w. p w || q w) (max n m) text
either p q n m text a b = record { within = omega (arith, a.within, b.within); found = found p q n m text a b; most = most p q n m text a b }
  where
    found : (p q : List ℕ → Bool) (n m : ℕ) (text : List ℕ) → Measures p n text → Measures q m text → 0 < max n m → (p (take (max n m) text) || q (take (max n m) text)) ≡ true
    found p q n m text a b =
        elim (cases_Bool (leb n m)) as (λ _. 0 < max n m → (p (take (max n m) text) || q (take (max n m) text)) ≡ true) [
          | inl l ↦
              let h : n ≤ m = leb-true _ _ l in
              let is : max n m ≡ m = omega arith in
              rw is (λ some. or_right (p (take m text)) (q (take m text)) (b.found some))
          | inr l ↦
              let h : m < n = omega (arith, leb-false _ _ l) in
              let is : max n m ≡ n = omega arith in
              rw is (λ some. or_left (p (take n text)) (q (take n text)) (a.found some))
        ]

    most : (p q : List ℕ → Bool) (n m : ℕ) (text : List ℕ) → Measures p n text → Measures q m text → (k : ℕ) → k ≤ length text → (p (take k text) || q (take k text)) ≡ true → k ≤ max n m
    most p q n m text a b k h e =
        elim (or_cases (p (take k text)) (q (take k text)) e) [
          | inl x ↦ let l : k ≤ n = a.most k h x in omega arith
          | inr y ↦ let l : k ≤ m = b.most k h y in omega arith
        ]
