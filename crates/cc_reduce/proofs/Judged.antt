-- The tests that are kept cover all, and each of them is needed.
use Rattle.std.proofs.Common.{◌≡◌, ◌≢◌, ℕ, zero, suc, ◌<◌, ◌≤◌, ⊎_elim, List, Bool, true, false, length, replicate, set, refl, ap, sym, ◌∙◌, subst, arith, get_or-set_other, get_or-set_same}
use Rattle.std.specs.Prelude.{nat_eq, not, ◌&&◌}
use Rattle.std.proofs.lemmas.Bool.{true≢false, and_from, and_parts, cases_eq, cases_lt, ne_eqb}
use Rattle.std.proofs.lemmas.List.{get_or-replicate, get_or_past}
use Rattle.cc_reduce.specs.Laws.{EachKeptTestIsNeeded, KeptTestsCoverAll}
use Rattle.cc_reduce.specs.Reduced.{is_needed, others, reduced_from}
use Rattle.cc_reduce.specs.Rows.{at, has}
use Rattle.cc_reduce.proofs.Tests.{any_found, any_true, has_within, not_false, not_true}

-- what is marked is within
pub at_within : (marks : List Bool) (i : ℕ) → at marks i ≡ true → i < length marks
at_within marks i h = ⊎_elim (λ lt. lt) (λ ge. absurd (true≢false (sym h ∙ get_or_past marks i false ge))) (cases_lt i (length marks))

eqb_ne : (a b : ℕ) → not (nat_eq a b) ≡ true → a ≢ b
eqb_ne a b h e = absurd (true≢false (sym h ∙ ap not (subst (λ (x : ℕ). nat_eq a x ≡ true) e (same a))))
  where
    same : (a : ℕ) → nat_eq a a ≡ true
    same a = grind arith

module _ (sets : List (List ℕ)) (rows : ℕ) where
  -- another kept test exercises the row
  pub others_found : (kept : List Bool) (test row other : ℕ) → other ≢ test → at kept other ≡ true → has sets other row ≡ true → others sets kept test row ≡ true
  others_found kept test row other ne k h =
      any_found (λ o. not (nat_eq o test) && (at kept o && has sets o row)) (length sets) other (has_within sets other row h)
      (and_from (not (nat_eq other test)) (at kept other && has sets other row) (not_false (nat_eq other test) (ne_eqb other test ne)) (and_from (at kept other) (has sets other row) k h))

  pub others_true : (kept : List Bool) (test row : ℕ) → others sets kept test row ≡ true → (other : ℕ) × (other ≢ test) × (at kept other ≡ true) × (has sets other row ≡ true)
  others_true kept test row h =
      let found = any_true (λ o. not (nat_eq o test) && (at kept o && has sets o row)) (length sets) h in
      let other = found.0 in
      let parts = and_parts (not (nat_eq other test)) (at kept other && has sets other row) found.2 in
      let both = and_parts (at kept other) (has sets other row) parts.1 in
      (other, eqb_ne other test parts.0, both.0, both.1)

  abbrev pub Covers : List Bool → ℕ → Type 0
  Covers kept row = (test : ℕ) × (at kept test ≡ true) × (has sets test row ≡ true)

  -- looking at one test leaves no row uncovered
  step : (kept : List Bool) (test row : ℕ) → row < rows → Covers kept row → Covers (set kept test (is_needed sets rows kept test)) row
  step kept test row lt c =
      ⊎_elim
      (λ e. by (is_needed sets rows kept test) refl
      (subst (λ (t : ℕ). at kept t ≡ true) e c.1) (subst (λ (t : ℕ). has sets t row ≡ true) e c.2))
      (λ ne. (c.0, get_or-set_other kept test c.0 (is_needed sets rows kept test) false ne ∙ c.1, c.2))
      (cases_eq c.0 test)
    where
      by : (b : Bool) → b ≡ is_needed sets rows kept test → at kept test ≡ true → has sets test row ≡ true → Covers (set kept test (is_needed sets rows kept test)) row
      by true e k h = (test, get_or-set_same kept test (is_needed sets rows kept test) false (at_within kept test k) ∙ sym e, h)
      by false e k h =
          let there = others_true kept test row (is_there (others sets kept test row) refl h) in
          (there.0, get_or-set_other kept test there.0 (is_needed sets rows kept test) false there.1 ∙ there.2, there.3)
        where
          is_there : (o : Bool) → o ≡ others sets kept test row → has sets test row ≡ true → others sets kept test row ≡ true
          is_there true same h = sym same
          is_there false same h = absurd (true≢false
              (sym (any_found (λ r. has sets test r && not (others sets kept test r)) rows row lt (and_from (has sets test row) (not (others sets kept test row)) h (ap not (sym same)))) ∙ sym e))

  stays : (count : ℕ) (kept : List Bool) (row : ℕ) → row < rows → Covers kept row → Covers (reduced_from sets rows count kept) row
  stays zero kept row lt c = c
  stays (suc count) kept row lt c = stays count (set kept count (is_needed sets rows kept count)) row lt (step kept count row lt c)

  abbrev pub Needed : List Bool → ℕ → Type 0
  Needed kept test = (row : ℕ) × (row < rows) × (has sets test row ≡ true) × ((other : ℕ) → other ≢ test → at kept other ≡ true → has sets other row ≡ true → ⊥)

  needed : (kept : List Bool) (test : ℕ) → is_needed sets rows kept test ≡ true → Needed kept test
  needed kept test h =
      let found = any_true (λ row. has sets test row && not (others sets kept test row)) rows h in
      let row = found.0 in
      let parts = and_parts (has sets test row) (not (others sets kept test row)) found.2 in
      (row, found.1, parts.0, λ other ne k there. absurd (true≢false (sym (others_found kept test row other ne k there) ∙ not_true (others sets kept test row) parts.1)))

  fewer : (kept less : List Bool) (test : ℕ) → ((other : ℕ) → at less other ≡ true → at kept other ≡ true) → Needed kept test → Needed less test
  fewer kept less test sub n = (n.0, n.1, n.2, λ other ne k there. n.3 other ne (sub other k) there)

  abbrev looked : List Bool → ℕ → List Bool
  looked kept count = set kept count (is_needed sets rows kept count)

  each : (count : ℕ) (kept : List Bool) → ((i : ℕ) → i < count → at kept i ≡ true) → ((test : ℕ) → count ≤ test → at kept test ≡ true → Needed kept test)
      → (test : ℕ) → at (reduced_from sets rows count kept) test ≡ true → Needed (reduced_from sets rows count kept) test
  each zero kept early late test k = late test (omega arith) k
  each (suc count) kept early late test k =
      each count (looked kept count)
      (λ i lt. get_or-set_other kept count i (is_needed sets rows kept count) false (λ e. let z : i ≡ count = e in absurd (omega arith)) ∙ early i (omega arith))
      (λ t le there. ⊎_elim
      (λ e. subst (λ (t : ℕ). Needed (looked kept count) t) (sym e)
      (fewer kept (looked kept count) count sub (needed kept count (sym here ∙ subst (λ (t : ℕ). at (looked kept count) t ≡ true) e there))))
      (λ ne. fewer kept (looked kept count) t sub (late t (let z : t ≢ count = ne in omega arith) (sym (get_or-set_other kept count t (is_needed sets rows kept count) false ne) ∙ there)))
      (cases_eq t count))
      test k
    where
      here : at (looked kept count) count ≡ is_needed sets rows kept count
      here = get_or-set_same kept count (is_needed sets rows kept count) false (at_within kept count (early count (omega arith)))

      sub : (other : ℕ) → at (looked kept count) other ≡ true → at kept other ≡ true
      sub other h = ⊎_elim (λ e. ap (at kept) e ∙ early count (omega arith)) (λ ne. sym (get_or-set_other kept count other (is_needed sets rows kept count) false ne) ∙ h) (cases_eq other count)

pub kept_cover_all : KeptTestsCoverAll
kept_cover_all sets rows row test lt h =
    stays sets rows (length sets) (replicate (length sets) true) row lt (test, get_or-replicate (length sets) test true false (has_within sets test row h), h)

past_all : (n test : ℕ) → n ≤ test → at (replicate n true) test ≡ false
past_all zero test le = refl
past_all (suc n) zero le = absurd (omega arith)
past_all (suc n) (suc test) le = past_all n test (omega arith)

pub each_is_needed : EachKeptTestIsNeeded
each_is_needed sets rows test k =
    each sets rows (length sets) (replicate (length sets) true) (λ i lt. get_or-replicate (length sets) i true false lt)
    (λ t le there. absurd (true≢false (sym there ∙ past_all (length sets) t le))) test k
