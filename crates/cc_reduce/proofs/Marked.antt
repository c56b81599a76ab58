-- Rows that are covered, one by one.
use Rattle.std.proofs.Common.{◌≡◌, ◌≢◌, ℕ, zero, suc, ◌+◌, ◌<◌, ◌≤◌, ⊎_elim, List, Some, Bool, true, false, length, get_or, set, refl, ap, sym, ◌∙◌, subst, arith, get_or-set_other, get_or-set_same, length-set}
use Rattle.std.specs.Prelude.{slice_get, nat_eq, not, ◌&&◌, ◌||◌}
use Rattle.std.specs.List.Sorted.{IsStrictlyIncreasing}
use Rattle.std.proofs.lemmas.Bool.{true≢false, cases_eq, cases_lt, eq-eqb, ne_eqb}
use Rattle.std.proofs.lemmas.Option.{slice_get-get_or, slice_get_within, get_or_from_slice_get}
use Rattle.cc_score.specs.Firsts.{has_to, is_row}
use Rattle.cc_reduce.specs.Rows.{at, count_to}
use Rattle.cc_reduce.proofs.Counts.{count_none, count_one, count_same}
use Rattle.cc_reduce.proofs.Tests.{any_none, has_more}

or_more : (a b c : Bool) → a || c ≡ true → a || (b || c) ≡ true
or_more true b c h = refl
or_more false true c h = refl
or_more false false c h = h

or_last : (a : Bool) → a || true ≡ true
or_last true = refl
or_last false = refl

or_none : (a : Bool) → a || false ≡ a
or_none true = refl
or_none false = refl

and_none : (a : Bool) → a && false ≡ false
and_none true = refl
and_none false = refl

left_no : (a b : Bool) → a || b ≡ false → a ≡ false
left_no true b h = h
left_no false b h = refl

right_no : (a b : Bool) → a || b ≡ false → b ≡ false
right_no true b h = absurd (true≢false h)
right_no false b h = h

known : (a b c : Bool) → a || c ≡ true → (b || c) && not a ≡ c && not a
known true b c h = and_none (b || c) ∙ sym (and_none c)
known false true true h = refl
known false true false h = absurd (true≢false (sym h))
known false false c h = refl

-- how it stands when so many of the rows are marked
pub record IsCovered (old : List Bool) (rows : List ℕ) (index : ℕ) (now : List Bool) (added : ℕ) : Type 0 where
  pub same : length now ≡ length old
  pub marks : (row : ℕ) → row < length old → at now row ≡ at old row || has_to rows row index
  pub new : added ≡ count_to (λ row. has_to rows row index && not (at old row)) (length old)
  pub all : count_to (λ row. at now row) (length old) ≡ count_to (λ row. at old row) (length old) + added
  pub few : added ≤ index

pub covered_init : (old : List Bool) (rows : List ℕ) → IsCovered old rows 0 old 0
covered_init old rows = record {
  same = refl;
  marks = λ row lt. sym (or_none (at old row));
  new = sym (count_none (length old));
  all = omega arith;
  few = omega arith;
}

-- elsewhere nothing changes
has_else : (rows : List ℕ) (index x row : ℕ) → slice_get rows index ≡ Some x → row ≢ x → has_to rows row (index + 1) ≡ has_to rows row index
has_else rows index x row h ne = has_more rows row index x h ∙ ap (λ b. b || has_to rows row index) (ne_eqb x row (λ e. ne (sym e)))

has_now : (rows : List ℕ) (index x : ℕ) → slice_get rows index ≡ Some x → has_to rows x (index + 1) ≡ true
has_now rows index x h = has_more rows x index x h ∙ ap (λ b. b || has_to rows x index) (eq-eqb x x refl)

pub covered_new : (old : List Bool) (rows : List ℕ) (index : ℕ) (now : List Bool) (added x : ℕ) → IsCovered old rows index now added → slice_get rows index ≡ Some x
    → x < length now → at now x ≡ false → IsCovered old rows (index + 1) (set now x true) (added + 1)
covered_new old rows index now added x c h lt off =
    let size = c.same in
    let within : x < length old = omega arith in
    let neither : at old x || has_to rows x index ≡ false = sym (c.marks x within) ∙ off in
    let long : length (set now x true) ≡ length now = length-set now x true in
    let was = left_no (at old x) (has_to rows x index) neither in
    let new : count_to (λ row. has_to rows row (index + 1) && not (at old row)) (length old) ≡ count_to (λ row. has_to rows row index && not (at old row)) (length old) + 1 =
    count_one (λ row. has_to rows row index && not (at old row)) (λ row. has_to rows row (index + 1) && not (at old row)) (length old) x within
    (ap (λ b. b && not (at old x)) (right_no (at old x) (has_to rows x index) neither))
    (ap (λ b. b && not (at old x)) (has_now rows index x h) ∙ ap not was)
    (λ row ne. ap (λ b. b && not (at old row)) (sym (has_else rows index x row h ne))) in
    let all : count_to (λ row. at (set now x true) row) (length old) ≡ count_to (λ row. at now row) (length old) + 1 =
    count_one (λ row. at now row) (λ row. at (set now x true) row) (length old) x within off (get_or-set_same now x true false lt) (λ row ne. sym (get_or-set_other now x row true false ne)) in
    let before = c.new in
    let sum = c.all in
    let few = c.few in
    record {
      same = long ∙ c.same;
      marks = λ row in_old. ⊎_elim
          (λ e. subst (λ (r : ℕ). at (set now x true) r ≡ at old r || has_to rows r (index + 1)) (sym e)
          (get_or-set_same now x true false lt ∙ sym (ap (λ b. at old x || b) (has_now rows index x h) ∙ or_last (at old x))))
          (λ ne. get_or-set_other now x row true false ne ∙ (c.marks row in_old ∙ ap (λ b. at old row || b) (sym (has_else rows index x row h ne))))
          (cases_eq row x);
      new = omega arith;
      all = omega arith;
      few = omega arith;
    }

pub covered_old : (old : List Bool) (rows : List ℕ) (index : ℕ) (now : List Bool) (added x : ℕ) → IsCovered old rows index now added → slice_get rows index ≡ Some x
    → (x < length now → at now x ≡ true) → IsCovered old rows (index + 1) now added
covered_old old rows index now added x c h marked =
    let size = c.same in
    let few = c.few in
    let either : (row : ℕ) → row < length old → row ≡ x → at old row || has_to rows row index ≡ true =
    (λ row lt e. let z : row ≡ x = e in sym (c.marks row lt) ∙ (ap (at now) e ∙ marked (omega arith))) in
    record {
      same = c.same;
      marks = λ row lt. ⊎_elim
          (λ e. c.marks row lt ∙ (either row lt e ∙ sym (ap (λ b. at old row || b) (has_more rows row index x h) ∙ or_more (at old row) (nat_eq x row) (has_to rows row index) (either row lt e))))
          (λ ne. c.marks row lt ∙ ap (λ b. at old row || b) (sym (has_else rows index x row h ne)))
          (cases_eq row x);
      new = c.new ∙ sym (count_same (λ row. has_to rows row (index + 1) && not (at old row)) (λ row. has_to rows row index && not (at old row)) (length old)
          (λ row lt. ⊎_elim
          (λ e. ap (λ b. b && not (at old row)) (has_more rows row index x h) ∙ known (at old row) (nat_eq x row) (has_to rows row index) (either row lt e))
          (λ ne. ap (λ b. b && not (at old row)) (has_else rows index x row h ne))
          (cases_eq row x)));
      all = c.all;
      few = omega arith;
    }

-- numbers that ascend differ
rises : (xs : List ℕ) → IsStrictlyIncreasing xs → (i j : ℕ) → i < j → j < length xs → get_or xs i 0 < get_or xs j 0
rises xs up i zero lt within = absurd (omega arith)
rises xs up i (suc j) lt within =
    let e : j + 1 ≡ suc j = omega arith in
    let step : get_or xs j 0 < get_or xs (suc j) 0 = subst (λ (k : ℕ). get_or xs j 0 < get_or xs k 0) e (up j (omega arith)) in
    ⊎_elim
    (λ before. let less : get_or xs i 0 < get_or xs j 0 = rises xs up i j before (omega arith) in omega arith)
    (λ after. let same : j ≡ i = omega arith in subst (λ (k : ℕ). get_or xs k 0 < get_or xs (suc j) 0) same step)
    (cases_lt i j)

has_not : (rows : List ℕ) (index x : ℕ) → IsStrictlyIncreasing rows → slice_get rows index ≡ Some x → has_to rows x index ≡ false
has_not rows index x up h =
    let within = slice_get_within rows index x h in
    let at_x : get_or rows index 0 ≡ x = get_or_from_slice_get rows index x 0 h in
    any_none (λ i. is_row (slice_get rows i) x) index
    (λ i lt.
    let less : get_or rows i 0 < get_or rows index 0 = rises rows up i index lt within in
    ap (λ o. is_row o x) (slice_get-get_or rows i 0 (omega arith)) ∙ ne_eqb (get_or rows i 0) x (λ e. let z : get_or rows i 0 ≡ x = e in absurd (omega arith)))

-- so many of the rows are looked at
pub record IsCounted (covered : List Bool) (rows : List ℕ) (index count : ℕ) : Type 0 where
  pub exact : count ≡ count_to (λ row. has_to rows row index && not (at covered row)) (length covered)
  pub few : count ≤ index

pub counted_init : (covered : List Bool) (rows : List ℕ) → IsCounted covered rows 0 0
counted_init covered rows = record { exact = sym (count_none (length covered)); few = omega arith }

pub counted_new : (covered : List Bool) (rows : List ℕ) (index count x : ℕ) → IsCounted covered rows index count → IsStrictlyIncreasing rows → slice_get rows index ≡ Some x
    → x < length covered → at covered x ≡ false → IsCounted covered rows (index + 1) (count + 1)
counted_new covered rows index count x c up h lt off =
    let exact = c.exact in
    let few = c.few in
    let new : count_to (λ row. has_to rows row (index + 1) && not (at covered row)) (length covered) ≡ count_to (λ row. has_to rows row index && not (at covered row)) (length covered) + 1 =
    count_one (λ row. has_to rows row index && not (at covered row)) (λ row. has_to rows row (index + 1) && not (at covered row)) (length covered) x lt
    (ap (λ b. b && not (at covered x)) (has_not rows index x up h))
    (ap (λ b. b && not (at covered x)) (has_now rows index x h) ∙ ap not off)
    (λ row ne. ap (λ b. b && not (at covered row)) (sym (has_else rows index x row h ne))) in
    record { exact = omega arith; few = omega arith }

pub counted_old : (covered : List Bool) (rows : List ℕ) (index count x : ℕ) → IsCounted covered rows index count → slice_get rows index ≡ Some x
    → (x < length covered → at covered x ≡ true) → IsCounted covered rows (index + 1) count
counted_old covered rows index count x c h marked =
    let few = c.few in
    record {
      exact = c.exact ∙ sym (count_same (λ row. has_to rows row (index + 1) && not (at covered row)) (λ row. has_to rows row index && not (at covered row)) (length covered)
          (λ row lt. ⊎_elim
          (λ e. let z : row ≡ x = e in
          let on : at covered row ≡ true = ap (at covered) e ∙ marked (omega arith) in
          ap (λ b. has_to rows row (index + 1) && not b) on ∙ (and_none (has_to rows row (index + 1)) ∙ sym (ap (λ b. has_to rows row index && not b) on ∙ and_none (has_to rows row index))))
          (λ ne. ap (λ b. b && not (at covered row)) (has_else rows index x row h ne))
          (cases_eq row x)));
      few = omega arith;
    }
