-- Tests that are looked at, the last of them first.
use Rattle.std.proofs.Common.{◌≡◌, ◌≢◌, ℕ, zero, suc, ◌<◌, ◌≤◌, ⊎_elim, List, ◌++◌, Option, Some, None, Bool, true, false, length, drop, get_or, replicate, set, take, refl, ap, sym, ◌∙◌, subst, arith, get_or-set_other, get_or-set_same, length-set}
use Rattle.std.specs.Prelude.{slice_get, nat_lt, not, ◌&&◌, ◌||◌}
use Rattle.std.proofs.lemmas.Bool.{true≢false, and_from, and_parts, cases_eq, cases_lt, eq-eqb, le-ltb, ltb-false, ne_eqb, or_cases, or_left, or_right}
use Rattle.std.proofs.lemmas.List.{get_or-replicate, length-replicate, take-append-le, take_all}
use Rattle.std.proofs.lemmas.Option.{slice_get-get_or, slice_get_past}
use Rattle.cc_score.specs.Any.{any_to}
use Rattle.cc_score.specs.Firsts.{exercises, first_to, is_row, marks_to, or_test}
use Rattle.cc_tables.specs.TestTable.{rows_or}
use Rattle.cc_reduce.specs.Reduced.{is_needed, is_new, is_new_at, others, reduced, reduced_from}
use Rattle.cc_reduce.specs.Rows.{at, has}
use Rattle.cc_reduce.proofs.Judged.{others_found, others_true}
use Rattle.cc_reduce.proofs.Places.{mark_at}
use Rattle.cc_reduce.proofs.Tests.{any_found, any_true, both_ways, has_within, not_false, not_so, not_true, rows_or_none}

module _ (sets : List (List ℕ)) (row : ℕ) where
  first_none : (count : ℕ) → first_to sets row count ≡ None → (j : ℕ) → j < count → has sets j row ≡ false
  first_none zero h j lt = absurd (omega arith)
  first_none (suc count) h j lt = go (λ p before. first_none count p j before) (first_to sets row count) (has sets count row) refl refl h
    where
      go : (first_to sets row count ≡ None → j < count → has sets j row ≡ false) → (m : Option ℕ) (b : Bool) → first_to sets row count ≡ m → has sets count row ≡ b → or_test m b count ≡ None → has sets j row ≡ false
      go ih (Some g) b p q e = absurd (let z = e in cc)
      go ih None true p q e = absurd (let z = e in cc)
      go ih None false p q e = ⊎_elim (λ before. ih p before) (λ after. let same : j ≡ count = omega arith in ap (λ t. has sets t row) same ∙ q) (cases_lt j count)

  first_has : (count f : ℕ) → first_to sets row count ≡ Some f → (has sets f row ≡ true) × ((j : ℕ) → j < f → has sets j row ≡ false)
  first_has zero f h = absurd (let z = h in cc)
  first_has (suc count) f h = go (λ p. first_has count f p) (first_to sets row count) (has sets count row) refl refl h
    where
      go : (first_to sets row count ≡ Some f → (has sets f row ≡ true) × ((j : ℕ) → j < f → has sets j row ≡ false))
          → (m : Option ℕ) (b : Bool) → first_to sets row count ≡ m → has sets count row ≡ b → or_test m b count ≡ Some f → (has sets f row ≡ true) × ((j : ℕ) → j < f → has sets j row ≡ false)
      go ih (Some g) b p q e = ih (p ∙ e)
      go ih None true p q e =
          let same : count ≡ f = (let z = e in cc) in
          (subst (λ (t : ℕ). has sets t row ≡ true) same q, λ j lt. first_none count p j (omega arith))
      go ih None false p q e = absurd (let z = e in cc)

  first_some : (count j : ℕ) → j < count → has sets j row ≡ true → (f : ℕ) × (first_to sets row count ≡ Some f)
  first_some count j lt h = go (first_to sets row count) refl
    where
      go : (m : Option ℕ) → first_to sets row count ≡ m → (f : ℕ) × (first_to sets row count ≡ Some f)
      go (Some f) p = (f, p)
      go None p = absurd (true≢false (sym h ∙ first_none count p j lt))

module _ (sets : List (List ℕ)) (rows : ℕ) where
  -- a kept test from this number on exercises the row
  abbrev later_of : List Bool → (test row : ℕ) → Bool
  later_of kept test row = any_to (λ j. not (nat_lt j test) && (at kept j && has sets j row)) (length sets)

  later_found : (kept : List Bool) (test row j : ℕ) → test ≤ j → at kept j ≡ true → has sets j row ≡ true → later_of kept test row ≡ true
  later_found kept test row j le k h =
      any_found (λ j. not (nat_lt j test) && (at kept j && has sets j row)) (length sets) j (has_within sets j row h)
      (and_from (not (nat_lt j test)) (at kept j && has sets j row) (ap not (le-ltb j test le)) (and_from (at kept j) (has sets j row) k h))

  later_true : (kept : List Bool) (test row : ℕ) → later_of kept test row ≡ true → (j : ℕ) × (test ≤ j) × (at kept j ≡ true) × (has sets j row ≡ true)
  later_true kept test row h =
      let found = any_true (λ j. not (nat_lt j test) && (at kept j && has sets j row)) (length sets) h in
      let j = found.0 in
      let parts = and_parts (not (nat_lt j test)) (at kept j && has sets j row) found.2 in
      let both = and_parts (at kept j) (has sets j row) parts.1 in
      (j, ltb-false j test (not_true (nat_lt j test) parts.0), both.0, both.1)

  -- how it stands before the tests below this number are looked at
  pub record IsLooked (test : ℕ) (later kept : List Bool) : Type 0 where
    pub size : length kept ≡ length sets
    pub wide : length later ≡ rows
    pub early : (i : ℕ) → i < test → at kept i ≡ true
    pub marks : (row : ℕ) → row < rows → at later row ≡ later_of kept test row
    pub rest : reduced_from sets rows test kept ≡ reduced sets rows

  pub looked_init : IsLooked (length sets) (replicate rows false) (replicate (length sets) true)
  looked_init = record {
    size = length-replicate (length sets) true;
    wide = length-replicate rows false;
    early = λ i lt. get_or-replicate (length sets) i true false lt;
    marks = λ row lt. get_or-replicate rows row false false lt
        ∙ sym (not_so (later_of (replicate (length sets) true) (length sets) row)
        (λ h. let j = later_true (replicate (length sets) true) (length sets) row h in
        let within = has_within sets j.0 row j.3 in
        let from = j.1 in
        absurd (omega arith)));
    rest = refl;
  }

  new_past : (m : Option (Option ℕ)) (test : ℕ) → is_new m None test ≡ true → ⊥
  new_past (Some (Some f)) test h = true≢false (sym h)
  new_past (Some None) test h = true≢false (sym h)
  new_past None test h = true≢false (sym h)

  new_parts : (m : Option ℕ) (l : Bool) (test : ℕ) → is_new (Some m) (Some l) test ≡ true → (f : ℕ) × (m ≡ Some f) × (test ≤ f) × (l ≡ false)
  new_parts None l test h = absurd (true≢false (sym h))
  new_parts (Some f) l test h =
      let parts = and_parts (not (nat_lt f test)) (not l) h in
      (f, refl, ltb-false f test (not_true (nat_lt f test) parts.0), not_true l parts.1)

  module _ (test : ℕ) (later kept : List Bool) (looked : IsLooked (suc test) later kept) (within : test < length sets) where
    abbrev set_of : List ℕ
    set_of = rows_or (slice_get sets test)

    abbrev new_at : ℕ → Bool
    new_at i = is_new_at (marks_to sets rows) later test (slice_get set_of i)

    -- the marks tell of a row what the definition says
    told : (row : ℕ) → row < rows → is_new_at (marks_to sets rows) later test (Some row) ≡ is_new (Some (first_to sets row (length sets))) (Some (at later row)) test
    told row lt =
        let wide = looked.wide in
        ap (λ m. is_new m (slice_get later row) test) (mark_at sets rows row lt)
        ∙ ap (λ l. is_new (Some (first_to sets row (length sets))) l test) (slice_get-get_or later row false (omega arith))

    alone : (row : ℕ) → row < rows → has sets test row ≡ true → is_new_at (marks_to sets rows) later test (Some row) ≡ true → is_needed sets rows kept test ≡ true
    alone row lt h new =
        let parts = new_parts (first_to sets row (length sets)) (at later row) test (sym (told row lt) ∙ new) in
        let first = first_has sets row (length sets) parts.0 parts.1 in
        let none : others sets kept test row ≡ false = not_so (others sets kept test row) (λ o.
        let other = others_true sets rows kept test row o in
        ⊎_elim
        (λ before. let le = parts.2 in true≢false (sym other.3 ∙ first.1 other.0 (omega arith)))
        (λ after. let ne : other.0 ≢ test = other.1 in
        true≢false (sym (later_found kept (suc test) row other.0 (omega arith) other.2 other.3) ∙ (sym (looked.marks row lt) ∙ parts.3)))
        (cases_lt other.0 test)) in
        any_found (λ row. has sets test row && not (others sets kept test row)) rows row lt (and_from (has sets test row) (not (others sets kept test row)) h (not_false (others sets kept test row) none))

    to_needed : any_to new_at (length set_of) ≡ true → is_needed sets rows kept test ≡ true
    to_needed h =
        let found = any_true new_at (length set_of) h in
        let i = found.0 in
        let row = get_or set_of i 0 in
        let is_at : slice_get set_of i ≡ Some row = slice_get-get_or set_of i 0 found.1 in
        let new : is_new_at (marks_to sets rows) later test (Some row) ≡ true = sym (ap (is_new_at (marks_to sets rows) later test) is_at) ∙ found.2 in
        let here : has sets test row ≡ true =
        sym (rows_or_none (slice_get sets test) row)
        ∙ any_found (λ i. is_row (slice_get set_of i) row) (length set_of) i found.1 (ap (λ o. is_row o row) is_at ∙ eq-eqb row row refl) in
        ⊎_elim
        (λ lt. alone row lt here new)
        (λ ge. let wide = looked.wide in
        absurd (new_past (slice_get (marks_to sets rows) row) test (sym (ap (λ l. is_new (slice_get (marks_to sets rows) row) l test) (slice_get_past later row (omega arith))) ∙ new)))
        (cases_lt row rows)

    is_that : (o : Option ℕ) (row : ℕ) → is_row o row ≡ true → o ≡ Some row
    is_that (Some one) row h = ⊎_elim (λ e. ap Some e) (λ ne. absurd (true≢false (sym h ∙ ne_eqb one row ne))) (cases_eq one row)
    is_that None row h = absurd (true≢false (sym h))

    from_needed : is_needed sets rows kept test ≡ true → any_to new_at (length set_of) ≡ true
    from_needed h =
        let found = any_true (λ row. has sets test row && not (others sets kept test row)) rows h in
        let row = found.0 in
        let parts = and_parts (has sets test row) (not (others sets kept test row)) found.2 in
        let none = not_true (others sets kept test row) parts.1 in
        let place = any_true (λ i. is_row (slice_get set_of i) row) (length set_of) (rows_or_none (slice_get sets test) row ∙ parts.0) in
        let first = first_some sets row (length sets) test within parts.0 in
        let f = first.0 in
        let firsts = first_has sets row (length sets) f first.1 in
        let after : nat_lt f test ≡ false = not_so (nat_lt f test) (λ less.
        ⊎_elim
        (λ before. true≢false (sym (others_found sets rows kept test row f (λ e. let z : f ≡ test = e in absurd (omega arith)) (looked.early f (omega arith)) firsts.0) ∙ none))
        (λ ge. true≢false (sym less ∙ le-ltb f test ge))
        (cases_lt f test)) in
        let free : at later row ≡ false = looked.marks row found.1 ∙ not_so (later_of kept (suc test) row) (λ l.
        let other = later_true kept (suc test) row l in
        let from = other.1 in
        true≢false (sym (others_found sets rows kept test row other.0 (λ e. let z : other.0 ≡ test = e in absurd (omega arith)) other.2 other.3) ∙ none)) in
        any_found new_at (length set_of) place.0 place.1
        (ap (is_new_at (marks_to sets rows) later test) (is_that (slice_get set_of place.0) row place.2)
        ∙ (told row found.1 ∙ (ap (λ m. is_new (Some m) (Some (at later row)) test) first.1
        ∙ and_from (not (nat_lt f test)) (not (at later row)) (not_false (nat_lt f test) after) (not_false (at later row) free))))

    pub needed_is : any_to new_at (length set_of) ≡ is_needed sets rows kept test
    needed_is = both_ways (any_to new_at (length set_of)) (is_needed sets rows kept test) to_needed from_needed

    later_step : (b : Bool) (row : ℕ) → later_of (set kept test b) test row ≡ later_of kept (suc test) row || (b && has sets test row)
    later_step b row =
        both_ways (later_of (set kept test b) test row) (later_of kept (suc test) row || (b && has sets test row))
        (λ h.
        let j = later_true (set kept test b) test row h in
        let from = j.1 in
        ⊎_elim
        (λ e.
        let size = looked.size in
        let set_is : b ≡ true = sym (get_or-set_same kept test b false (omega arith)) ∙ subst (λ (t : ℕ). at (set kept test b) t ≡ true) e j.2 in
        or_right (later_of kept (suc test) row) (b && has sets test row) (and_from b (has sets test row) set_is (subst (λ (t : ℕ). has sets t row ≡ true) e j.3)))
        (λ ne. let z : j.0 ≢ test = ne in
        or_left (later_of kept (suc test) row) (b && has sets test row)
        (later_found kept (suc test) row j.0 (omega arith) (sym (get_or-set_other kept test j.0 b false ne) ∙ j.2) j.3))
        (cases_eq j.0 test))
        (λ h. ⊎_elim
        (λ old.
        let j = later_true kept (suc test) row old in
        let from = j.1 in
        later_found (set kept test b) test row j.0 (omega arith)
        (get_or-set_other kept test j.0 b false (λ e. let z : j.0 ≡ test = e in absurd (omega arith)) ∙ j.2) j.3)
        (λ new.
        let size = looked.size in
        let parts = and_parts b (has sets test row) new in
        later_found (set kept test b) test row test (omega arith) (get_or-set_same kept test b false (omega arith) ∙ parts.0) parts.1)
        (or_cases (later_of kept (suc test) row) (b && has sets test row) h))

    pub looked_step : (b : Bool) (more : List Bool) → b ≡ is_needed sets rows kept test → length more ≡ rows → ((row : ℕ) → row < rows → at more row ≡ at later row || (b && has sets test row))
        → IsLooked test more (set kept test b)
    looked_step b more is wide marks =
        let long : length (set kept test b) ≡ length kept = length-set kept test b in
        record {
          size = long ∙ looked.size;
          wide = wide;
          early = λ i lt. get_or-set_other kept test i b false (λ e. let z : i ≡ test = e in absurd (omega arith)) ∙ looked.early i (omega arith);
          marks = λ row lt. marks row lt ∙ (ap (λ l. l || (b && has sets test row)) (looked.marks row lt) ∙ sym (later_step b row));
          rest = ap (λ b. reduced_from sets rows test (set kept test b)) is ∙ looked.rest;
        }

-- a list that is written over whole
pub spliced : (n : ℕ) (xs ys : List Bool) → length xs ≡ n → take n (xs ++ drop (length xs) ys) ≡ xs
spliced n xs ys e = take-append-le n xs (drop (length xs) ys) (omega arith) ∙ take_all n xs (omega arith)

module _ (sets : List (List ℕ)) (rows test : ℕ) (later kept : List Bool) (looked : IsLooked sets rows (suc test) later kept) (within : test < length sets)
    (first : List (Option ℕ)) (seen : List Bool) (set_is : List ℕ) (b : Bool)
    (same_first : first ≡ marks_to sets rows) (same_later : seen ≡ later) (same_set : set_is ≡ rows_or (slice_get sets test))
    (told : b ≡ any_to (λ i. is_new_at first seen test (slice_get set_is i)) (length set_is)) where
  is_so : b ≡ is_needed sets rows kept test
  is_so =
      told ∙ (ap (λ f. any_to (λ i. is_new_at f seen test (slice_get set_is i)) (length set_is)) same_first
      ∙ (ap (λ l. any_to (λ i. is_new_at (marks_to sets rows) l test (slice_get set_is i)) (length set_is)) same_later
      ∙ (ap (λ s. any_to (λ i. is_new_at (marks_to sets rows) later test (slice_get s i)) (length s)) same_set
      ∙ needed_is sets rows test later kept looked within)))

  pub looked_out : b ≡ false → IsLooked sets rows test later (set kept test b)
  looked_out out = looked_step sets rows test later kept looked within b later is_so looked.wide
      (λ row lt. sym (ap (λ b. at later row || (b && has sets test row)) out ∙ or_false (at later row)))
    where
      or_false : (a : Bool) → a || false ≡ a
      or_false true = refl
      or_false false = refl

  pub looked_kept : (n : ℕ) (new : List Bool) → b ≡ true → length new ≡ n → length new ≡ length later
      → ((row : ℕ) → row < length later → at new row ≡ at later row || exercises (Some set_is) row)
      → IsLooked sets rows test (take n (new ++ drop (length new) later)) (set kept test b)
  looked_kept n new on size same marks =
      let wide = looked.wide in
      subst (λ (l : List Bool). IsLooked sets rows test l (set kept test b)) (sym (spliced n new later size))
      (looked_step sets rows test later kept looked within b new is_so (same ∙ wide)
      (λ row lt. marks row (omega arith)
      ∙ (ap (λ s. at later row || exercises (Some s) row) same_set
      ∙ (ap (λ e. at later row || e) (rows_or_none (slice_get sets test) row)
      ∙ sym (ap (λ b. at later row || (b && has sets test row)) on)))))
