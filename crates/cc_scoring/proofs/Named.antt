-- A mark names the first test.
use Rattle.std.proofs.Common.{◌≡◌, ℕ, zero, suc, ◌+◌, ◌<◌, ⊎_elim, List, [], ◌∷◌, Option, Some, None, Bool, true, false, length, refl, ap, sym, ◌∙◌, subst, arith}
use Rattle.std.specs.Prelude.{Contains, slice_get}
use Rattle.std.proofs.lemmas.Bool.{cases_eq, eqb-true, eq-eqb, or_cases, or_left, or_right, true≢false}
use Rattle.std.proofs.lemmas.List.{length_push}
use Rattle.std.proofs.lemmas.Option.{same_Some, slice_get-get_or, slice_get_within, get_or_from_slice_get}
use Rattle.cc_program.specs.declared.program.Program.{Program}
use Rattle.cc_meaning.specs.declared.coupling.Coupling.{Coupling}
use Rattle.cc_meaning.specs.declared.event.Event.{Event}
use Rattle.cc_meaning.specs.declared.score.Scores.{Scores}
use Rattle.cc_meaning.specs.declared.test.Test.{Test}
use Rattle.cc_acts.specs.declared.acts.Acts.{Acts}
use Rattle.cc_acts.specs.declared.state.State.{State}
use Rattle.cc_acts.specs.declared.stop.Stop.{Stop}
use Rattle.cc_acts.specs.Runs.{events_of}
use Rattle.cc_interp.specs.Ran.{prepend, ended}
use Rattle.cc_interp.specs.Tests.{fresh, run}
use Rattle.cc_record.specs.Roles.{roles_of}
use Rattle.cc_record_laws.specs.Exercised.{Exercised}
use Rattle.cc_score.specs.Any.{any_to}
use Rattle.cc_score.specs.Firsts.{exercises, first_to, has_to, is_row, marks_to, or_test}
use Rattle.cc_scoring.specs.Firsts.{Exercises, IsMark, MarksNameFirst}
use Rattle.cc_orderly_laws.specs.Runs.{IsRun, most_cells}
use Rattle.cc_scoring.specs.Scored.{IsScored}
use Rattle.cc_scoring.proofs.Places.{at_push, before_push}

-- ---- a test has one run

events_prepend : (es : List Event) (stop : Option Stop) (s : State) → events_of (prepend es (ended stop s)) ≡ es
events_prepend [] None s = refl
events_prepend [] (Some why) s = refl
events_prepend (e ∷ es) stop s = ap (λ l. e ∷ l) (events_prepend es stop s)

one_run : (G : Acts) (test : Test) (es fs : List Event) (x y : Option Stop) → IsRun G test es x → IsRun G test fs y → es ≡ fs
one_run G test es fs x y a b =
    let n : a.steps + b.steps ≡ b.steps + a.steps = omega arith in
    let same : prepend es (ended x a.last) ≡ prepend fs (ended y b.last) = sym (a.run_is b.steps) ∙ (ap (λ n. run G n test.calls (fresh test.turns most_cells test.answers)) n ∙ b.run_is a.steps) in
    sym (events_prepend es x a.last) ∙ (ap events_of same ∙ events_prepend fs y b.last)

-- ---- rows of a set

any_at : (test : ℕ → Bool) (count : ℕ) → any_to test count ≡ true → (i : ℕ) × (i < count) × (test i ≡ true)
any_at test zero e = absurd (true≢false (sym e))
any_at test (suc n) e = ⊎_elim (λ h. (n, omega arith, h)) (λ h. let w = any_at test n h in let lt = w.1 in (w.0, omega arith, w.2)) (or_cases (test n) (any_to test n) e)

any_has : (test : ℕ → Bool) (count i : ℕ) → i < count → test i ≡ true → any_to test count ≡ true
any_has test zero i lt t = absurd (omega arith)
any_has test (suc n) i lt t = ⊎_elim (λ same. or_left (test n) (any_to test n) (subst (λ k. test k ≡ true) same t)) (λ ne. or_right (test n) (any_to test n) (any_has test n i (omega arith) t)) (cases_eq i n)

contains_from_has : (set : List ℕ) (r : ℕ) → has_to set r (length set) ≡ true → Contains set r
contains_from_has set r e =
    let w = any_at (λ i. is_row (slice_get set i) r) (length set) e in
    by w.0 w.1 (slice_get set w.0) refl w.2
  where
    by : (i : ℕ) → i < length set → (o : Option ℕ) → slice_get set i ≡ o → is_row o r ≡ true → Contains set r
    by i lt None at is = absurd (true≢false (sym is))
    by i lt (Some one) at is = (i, lt, get_or_from_slice_get set i one r at ∙ eqb-true one r is)

has_from_contains : (set : List ℕ) (r : ℕ) → Contains set r → has_to set r (length set) ≡ true
has_from_contains set r c =
    let at : slice_get set c.0 ≡ Some r = slice_get-get_or set c.0 r c.1 ∙ ap Some c.2 in
    any_has (λ i. is_row (slice_get set i) r) (length set) c.0 c.1 (ap (λ o. is_row o r) at ∙ eq-eqb r r refl)

-- ---- the first test

module _ (sets : List (List ℕ)) (r : ℕ) where
  none_before : (count : ℕ) → first_to sets r count ≡ None → (s : ℕ) → s < count → exercises (slice_get sets s) r ≡ false
  none_before zero e s lt = absurd (omega arith)
  none_before (suc n) e s lt = by (λ em below. none_before n em s below) (first_to sets r n) (exercises (slice_get sets n) r) refl refl e
    where
      by : (first_to sets r n ≡ None → s < n → exercises (slice_get sets s) r ≡ false) → (m : Option ℕ) (b : Bool) → first_to sets r n ≡ m → exercises (slice_get sets n) r ≡ b → or_test m b n ≡ None
          → exercises (slice_get sets s) r ≡ false
      by before (Some x) b em eb z = absurd (let f = z in cc)
      by before None true em eb z = absurd (let f = z in cc)
      by before None false em eb z = ⊎_elim (λ same. ap (λ k. exercises (slice_get sets k) r) same ∙ eb) (λ ne. before em (omega arith)) (cases_eq s n)

  abbrev IsFirstTo : ℕ → ℕ → Type 0
  IsFirstTo count t = (t < count) × (exercises (slice_get sets t) r ≡ true) × ((s : ℕ) → s < t → exercises (slice_get sets s) r ≡ false)

  first_is : (count t : ℕ) → first_to sets r count ≡ Some t → IsFirstTo count t
  first_is zero t e = absurd (let f = e in cc)
  first_is (suc n) t e = by (λ em. first_is n t em) (first_to sets r n) (exercises (slice_get sets n) r) refl refl e
    where
      by : (first_to sets r n ≡ Some t → IsFirstTo n t) → (m : Option ℕ) (b : Bool) → first_to sets r n ≡ m → exercises (slice_get sets n) r ≡ b → or_test m b n ≡ Some t → IsFirstTo (suc n) t
      by before (Some x) b em eb z = let w = before (em ∙ z) in let lt = w.0 in (omega arith, w.1, w.2)
      by before None true em eb z =
          let same : n ≡ t = same_Some n t z in
          (omega arith, ap (λ k. exercises (slice_get sets k) r) (sym same) ∙ eb, λ s lt. none_before n em s (omega arith))
      by before None false em eb z = absurd (let f = z in cc)

-- ---- the marks

marks_length : (sets : List (List ℕ)) (count : ℕ) → length (marks_to sets count) ≡ count
marks_length sets zero = refl
marks_length sets (suc n) = let long = length_push (marks_to sets n) (first_to sets n (length sets)) in let before = marks_length sets n in omega arith

marks_at : (sets : List (List ℕ)) (count r : ℕ) → r < count → slice_get (marks_to sets count) r ≡ Some (first_to sets r (length sets))
marks_at sets zero r lt = absurd (omega arith)
marks_at sets (suc n) r lt =
    let long = marks_length sets n in
    ⊎_elim
    (λ same. at_push (marks_to sets n) (first_to sets n (length sets)) r (omega arith) ∙ ap (λ k. Some (first_to sets k (length sets))) (sym same))
    (λ ne. before_push (marks_to sets n) (first_to sets n (length sets)) r (omega arith) ∙ marks_at sets n r (omega arith))
    (cases_eq r n)

-- ---- what a mark says

module _ (P : Program) (G : Acts) (rows : List Coupling) (tests : List Test) (scores : Scores) (scored : IsScored P G rows tests scores)
    (r : ℕ) (q : Coupling) (at : slice_get rows r ≡ Some q) where
  -- a test that has the row exercises it
  exercises_now : (t : ℕ) → t < length tests → exercises (slice_get scores.exercised t) r ≡ true → Exercises P G tests q t
  exercises_now t lt e =
      let w = scored.runs.each t lt in
      let run = w.is_of_run in
      let has : has_to w.set r (length w.set) ≡ true = ap (λ o. exercises o r) (sym w.set_at) ∙ e in
      record {
        test = w.test;
        events = run.events;
        stop = run.stop;
        test_at = w.test_at;
        is_run = run.is_run;
        exercised = (run.is_set.exact r q at).0 (contains_from_has w.set r has);
      }

  -- a test that has not the row does not exercise it
  exercises_not : (t : ℕ) → exercises (slice_get scores.exercised t) r ≡ false → Exercises P G tests q t → ⊥
  exercises_not t e x =
      let w = scored.runs.each t (slice_get_within tests t x.test x.test_at) in
      let run = w.is_of_run in
      let test : x.test ≡ w.test = same_Some x.test w.test (sym x.test_at ∙ w.test_at) in
      let mine : IsRun G w.test x.events x.stop = subst (λ (t : Test). IsRun G t x.events x.stop) test x.is_run in
      let events : x.events ≡ run.events = one_run G w.test x.events run.events x.stop run.stop mine run.is_run in
      let exercised : Exercised (roles_of P) run.events q = subst (λ (es : List Event). Exercised (roles_of P) es q) events x.exercised in
      let has = has_from_contains w.set r ((run.is_set.exact r q at).1 exercised) in
      true≢false (sym has ∙ (ap (λ o. exercises o r) (sym w.set_at) ∙ e))

  mark_is : (m : Option ℕ) → first_to scores.exercised r (length scores.exercised) ≡ m → IsMark P G tests q m
  mark_is None e = λ t x.
      let lt = slice_get_within tests t x.test x.test_at in
      let long = scored.runs.sets_length in
      exercises_not t (none_before scores.exercised r (length scores.exercised) e t (omega arith)) x
  mark_is (Some t) e =
      let w = first_is scores.exercised r (length scores.exercised) t e in
      let lt = w.0 in
      let long = scored.runs.sets_length in
      (exercises_now t (omega arith) w.1, λ s before x. exercises_not s (w.2 s before) x)

  named : (mark : Option ℕ) × (slice_get scores.marks r ≡ Some mark) × IsMark P G tests q mark
  named =
      let first = first_to scores.exercised r (length scores.exercised) in
      (first, ap (λ l. slice_get l r) scored.marks ∙ marks_at scores.exercised (length rows) r (slice_get_within rows r q at), mark_is first refl)

pub marks_name_first : MarksNameFirst
marks_name_first P G rows tests scores scored r q at = named P G rows tests scores scored r q at
