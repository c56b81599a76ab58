-- The test that adds most, and the order so far.
use Rattle.std.proofs.Common.{◌≡◌, ℕ, ◌+◌, ◌<◌, inl, inr, ⊎_elim, List, [], ◌∷◌, ◌++◌, Option, Some, None, Bool, true, false, cond, length, replicate, set, take, refl, ap, sym, ◌∙◌, subst, arith, get_or-set_other, get_or-set_same, length-append, length-set}
use Rattle.std.specs.Prelude.{slice_get, nat_eq, nat_lt, not, ◌&&◌, ◌||◌}
use Rattle.std.proofs.lemmas.Bool.{true≢false, cases_eq, cases_lt, eq-eqb, ltb-false, ltb-true, ne_eqb}
use Rattle.std.proofs.lemmas.List.{get_or-replicate, length-replicate, take-append-le, take_all}
use Rattle.std.proofs.lemmas.Option.{slice_get_within}
use Rattle.cc_score.specs.Firsts.{exercises}
use Rattle.cc_tables.specs.TestTable.{rows_or}
use Rattle.cc_reduce.specs.declared.ordering.Gain.{Gain}
use Rattle.cc_reduce.specs.Ordered.{IsBest, IsOrder, added, better, is_among, uncovered}
use Rattle.cc_reduce.specs.Rows.{at, count_to, covers, has}
use Rattle.cc_reduce.proofs.Counts.{count_one, count_same}
use Rattle.cc_reduce.proofs.Places.{at_push, before_push}
use Rattle.cc_reduce.proofs.Tests.{rows_or_none}

module _ (adds : ℕ → ℕ) (taken : ℕ → Bool) where
  -- of the first tests that are not taken it is the best, if there is one
  abbrev pub BestTo : ℕ → Option Gain → Type 0
  BestTo count (Some gain) = (gain.added ≡ adds gain.test) × IsBest adds taken count gain.test
  BestTo count None = (test : ℕ) → test < count → taken test ≡ true

  pub best_init : BestTo 0 None
  best_init = λ test lt. absurd (omega arith)

  pub best_taken : (count : ℕ) (best : Option Gain) → taken count ≡ true → BestTo count best → BestTo (count + 1) best
  best_taken count (Some gain) on b =
      let best = b.1 in (
        b.0,
        record {
          within = (let lt = best.within in omega arith);
          is_free = best.is_free;
          most = λ other lt free. ⊎_elim (λ before. best.most other before free)
              (λ after. let same : other ≡ count = omega arith in absurd (true≢false (sym on ∙ (sym (ap taken same) ∙ free)))) (cases_lt other count);
        },
      )
  best_taken count None on b =
      λ test lt. ⊎_elim (λ before. b test before) (λ after. let same : test ≡ count = omega arith in ap taken same ∙ on) (cases_lt test count)

  -- the test beats all before it
  turns : (count gain : ℕ) → taken count ≡ false → gain ≡ adds count → ((other : ℕ) → other < count → taken other ≡ false → adds other < adds count)
      → BestTo (count + 1) (Some (record { test = count; added = gain }))
  turns count gain off is less = (
    is,
    record {
      within = omega arith;
      is_free = off;
      most = λ other lt free. ⊎_elim (λ before. inl (less other before free)) (λ after. let same : other ≡ count = omega arith in inr (ap adds same, omega arith)) (cases_lt other count);
    },
  )

  pub best_free : (count gain : ℕ) (best : Option Gain) → taken count ≡ false → gain ≡ adds count → BestTo count best
      → BestTo (count + 1) (Some (better best (record { test = count; added = gain })))
  best_free count gain None off is b = turns count gain off is (λ other lt free. absurd (true≢false (sym (b other lt) ∙ free)))
  best_free count gain (Some old) off is b = by (nat_lt old.added gain) refl
    where
      by : (c : Bool) → nat_lt old.added gain ≡ c → BestTo (count + 1) (Some (cond c (record { test = count; added = gain }) old))
      by true e =
          let less = ltb-true old.added gain e in
          let was = b.0 in
          let best = b.1 in
          turns count gain off is (λ other lt free. ⊎_elim (λ p. omega arith) (λ p. let q = p.0 in omega arith) (best.most other lt free))
      by false e =
          let least = ltb-false old.added gain e in
          let was = b.0 in
          let best = b.1 in
          let within = best.within in (
            b.0,
            record {
              within = omega arith;
              is_free = best.is_free;
              most = λ other lt free. ⊎_elim (λ before. best.most other before free)
                  (λ after.
                  let same : other ≡ count = omega arith in
                  let same_adds : adds other ≡ adds count = ap adds same in
                  ⊎_elim (λ less. inl less) (λ ge. inr (omega arith, omega arith)) (cases_lt (adds other) (adds old.test)))
                  (cases_lt other count);
            },
          )

best_same : (f g : ℕ → ℕ) (t u : ℕ → Bool) (count test : ℕ) → ((j : ℕ) → f j ≡ g j) → ((j : ℕ) → j < count → t j ≡ u j) → IsBest f t count test → IsBest g u count test
best_same f g t u count test same_adds same_taken b =
    let here : f test ≡ g test = same_adds test in
    record {
      within = b.within;
      is_free = sym (same_taken test b.within) ∙ b.is_free;
      most = λ other lt free.
          let there : f other ≡ g other = same_adds other in
          ⊎_elim (λ p. inl (omega arith)) (λ p. let q = p.0 in inr (omega arith, p.1)) (b.most other lt (same_taken other lt ∙ free));
    }

or_or : (a b c : Bool) → (a || b) || c ≡ a || (b || c)
or_or true b c = refl
or_or false b c = refl

or_false : (a : Bool) → a || false ≡ a
or_false true = refl
or_false false = refl

or_last : (a : Bool) → a || true ≡ true
or_last true = refl
or_last false = refl

pub covers_push : (sets : List (List ℕ)) (xs : List ℕ) (test row : ℕ) → covers sets (xs ++ test ∷ []) row ≡ covers sets xs row || has sets test row
covers_push sets [] test row = or_false (has sets test row)
covers_push sets (x ∷ xs) test row =
    ap (λ b. has sets x row || b) (covers_push sets xs test row) ∙ sym (or_or (has sets x row) (covers sets xs row) (has sets test row))

among_push : (xs : List ℕ) (one test : ℕ) → is_among (xs ++ one ∷ []) test ≡ is_among xs test || nat_eq one test
among_push [] one test = or_false (nat_eq one test)
among_push (x ∷ xs) one test =
    ap (λ b. nat_eq x test || b) (among_push xs one test) ∙ sym (or_or (nat_eq x test) (is_among xs test) (nat_eq one test))

module _ (sets : List (List ℕ)) (rows : ℕ) where
  -- the order so far, and what it covers and takes
  pub record IsTaken (covered taken : List Bool) (order : List ℕ) : Type 0 where
    pub wide : length covered ≡ rows
    pub size : length taken ≡ length sets
    pub marks : (row : ℕ) → row < rows → at covered row ≡ covers sets order row
    pub among : (test : ℕ) → test < length sets → at taken test ≡ is_among order test
    pub each : (place test : ℕ) → slice_get order place ≡ Some test → IsBest (added sets rows (take place order)) (is_among (take place order)) (length sets) test

  pub taken_init : IsTaken (replicate rows false) (replicate (length sets) false) []
  taken_init = record {
    wide = length-replicate rows false;
    size = length-replicate (length sets) false;
    marks = λ row lt. get_or-replicate rows row false false lt;
    among = λ test lt. get_or-replicate (length sets) test false false lt;
    each = λ place test h. absurd (let z = h in cc);
  }

  module _ (covered taken : List Bool) (order : List ℕ) (t : IsTaken covered taken order) where
    adds_same : (test : ℕ) → uncovered sets covered test ≡ added sets rows order test
    adds_same test =
        ap (λ n. count_to (λ row. has sets test row && not (at covered row)) n) t.wide
        ∙ count_same (λ row. has sets test row && not (at covered row)) (λ row. has sets test row && not (covers sets order row)) rows
        (λ row lt. ap (λ b. has sets test row && not b) (t.marks row lt))

    pub next : (test : ℕ) → IsBest (uncovered sets covered) (at taken) (length taken) test → IsBest (added sets rows order) (is_among order) (length sets) test
    next test b =
        best_same (uncovered sets covered) (added sets rows order) (at taken) (is_among order) (length sets) test adds_same t.among
        (subst (λ (n : ℕ). IsBest (uncovered sets covered) (at taken) n test) t.size b)

    pub taken_done : ((test : ℕ) → test < length taken → at taken test ≡ true) → IsOrder sets rows order
    taken_done all =
        let size = t.size in
        record { all = λ test lt. sym (t.among test lt) ∙ all test (omega arith); each = t.each }

    pub taken_more : (test : ℕ) (new : List Bool) → IsBest (uncovered sets covered) (at taken) (length taken) test → length new ≡ length covered
        → ((row : ℕ) → row < length covered → at new row ≡ at covered row || exercises (Some (rows_or (slice_get sets test))) row)
        → IsTaken new (set taken test true) (order ++ test ∷ [])
    taken_more test new b wide marks =
        let width = t.wide in
        let size = t.size in
        let long : length (set taken test true) ≡ length taken = length-set taken test true in
        record {
          wide = wide ∙ t.wide;
          size = long ∙ t.size;
          marks = λ row lt. marks row (omega arith) ∙ (ap (λ e. at covered row || e) (rows_or_none (slice_get sets test) row)
              ∙ (ap (λ c. c || has sets test row) (t.marks row lt) ∙ sym (covers_push sets order test row)));
          among = λ other lt. ⊎_elim
              (λ e. subst (λ (o : ℕ). at (set taken test true) o ≡ is_among (order ++ test ∷ []) o) (sym e)
              (get_or-set_same taken test true false b.within
              ∙ sym (among_push order test test ∙ (ap (λ c. is_among order test || c) (eq-eqb test test refl) ∙ or_last (is_among order test)))))
              (λ ne. get_or-set_other taken test other true false ne ∙ (t.among other lt
              ∙ sym (among_push order test other ∙ (ap (λ c. is_among order other || c) (ne_eqb test other (λ e. ne (sym e))) ∙ or_false (is_among order other)))))
              (cases_eq other test);
          each = λ place other h. ⊎_elim
              (λ before. subst (λ (l : List ℕ). IsBest (added sets rows l) (is_among l) (length sets) other) (sym (take-append-le place order (test ∷ []) (omega arith)))
              (t.each place other (sym (before_push order test place before) ∙ h)))
              (λ after.
              let in_all = slice_get_within (order ++ test ∷ []) place other h in
              let more : length (order ++ test ∷ []) ≡ length order + length (test ∷ []) = length-append order (test ∷ []) in
              let one : length (test ∷ []) ≡ 1 = refl in
              let last : place ≡ length order = omega arith in
              let same : test ≡ other = (let z : Some test ≡ Some other = sym (at_push order test place last) ∙ h in cc) in
              let all : order ≡ take place (order ++ test ∷ []) = sym (take-append-le place order (test ∷ []) (omega arith) ∙ take_all place order (omega arith)) in
              subst (λ (l : List ℕ). IsBest (added sets rows l) (is_among l) (length sets) other) all
              (subst (λ (o : ℕ). IsBest (added sets rows order) (is_among order) (length sets) o) same (next test b)))
              (cases_lt place (length order));
        }

-- fewer are left
pub fewer : (taken : List Bool) (test : ℕ) → test < length taken → at taken test ≡ false
    → count_to (λ t. not (at (set taken test true) t)) (length (set taken test true)) < count_to (λ t. not (at taken t)) (length taken)
fewer taken test lt off =
    let long : length (set taken test true) ≡ length taken = length-set taken test true in
    let less : count_to (λ t. not (at taken t)) (length taken) ≡ count_to (λ t. not (at (set taken test true) t)) (length taken) + 1 =
    count_one (λ t. not (at (set taken test true) t)) (λ t. not (at taken t)) (length taken) test lt (ap not (get_or-set_same taken test true false lt)) (ap not off)
    (λ t ne. ap not (get_or-set_other taken test t true false ne)) in
    let same : count_to (λ t. not (at (set taken test true) t)) (length (set taken test true)) ≡ count_to (λ t. not (at (set taken test true) t)) (length taken) =
    ap (count_to (λ t. not (at (set taken test true) t))) long in
    omega arith

-- what a set adds is what its test adds
pub gain_is : (sets : List (List ℕ)) (covered : List Bool) (test : ℕ) (set : List ℕ) (gain : ℕ) → set ≡ rows_or (slice_get sets test)
    → gain ≡ count_to (λ row. exercises (Some set) row && not (at covered row)) (length covered) → gain ≡ uncovered sets covered test
gain_is sets covered test set gain same is =
    is ∙ count_same (λ row. exercises (Some set) row && not (at covered row)) (λ row. has sets test row && not (at covered row)) (length covered)
    (λ row lt. ap (λ h. h && not (at covered row)) (ap (λ s. exercises (Some s) row) same ∙ rows_or_none (slice_get sets test) row))

pub best_at : (sets : List (List ℕ)) (c d t u : List Bool) (test : ℕ) → c ≡ d → t ≡ u → IsBest (uncovered sets c) (at t) (length t) test → IsBest (uncovered sets d) (at u) (length u) test
best_at sets c d t u test p q b =
    subst (λ (x : List Bool). IsBest (uncovered sets x) (at u) (length u) test) p (subst (λ (x : List Bool). IsBest (uncovered sets c) (at x) (length x) test) q b)
