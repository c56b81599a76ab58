-- Where the rows of a kind and definition begin and end.
use Rattle.std.proofs.Common.{◌≡◌, ℕ, ◌+◌, ◌<◌, ◌≤◌, ⊎_elim, List, Option, Some, None, true, false, length, get_or, refl, ap, sym, ◌∙◌, arith}
use Rattle.std.specs.Prelude.{slice_get, nat_lt, nat_eq, not, ◌&&◌, ◌||◌}
use Rattle.std.proofs.lemmas.Bool.{ltb-true, lt-ltb, le-ltb, eqb-true, eq-eqb, ne_eqb, or_cases, and_parts, and_from, or_left, or_right, false_from_ne_true, cases_lt, cases_order, true≢false}
use Rattle.std.proofs.lemmas.Option.{slice_get-get_or, slice_get_within, slice_get_past}
use Rattle.std.proofs.Math.Bool.{or-false}
use Rattle.cc_meaning.specs.declared.coupling.Coupling.{Coupling}
use Rattle.cc_meaning.specs.declared.coupling.Coupling.TheVariants.{Call, Shared, Parameter, Return}
use Rattle.cc_score.specs.Counts.{defines}
use Rattle.cc_score.specs.Groups.{kind_of, definition_or, is_before, stands_before, is_of, inside, has}
use Rattle.cc_score.specs.declared.groups.Groups.{Groups}
use Rattle.cc_score.specs.Order.{Leads, IsOrdered}

leads_before : (a b : Coupling) (kind wanted : ℕ) → Leads a b → is_before b kind wanted ≡ true → is_before a kind wanted ≡ true
leads_before a b kind wanted leads before =
    ⊎_elim
    (λ less. let lt = ltb-true (kind_of b) kind less in
    let le : kind_of a < kind = ⊎_elim (λ p. omega arith) (λ p. let q = p.0 in omega arith) leads in
    or_left _ _ (lt-ltb (kind_of a) kind le))
    (λ same. let parts = and_parts (nat_eq (kind_of b) kind) (nat_lt (definition_or b) wanted) same in
    let k = eqb-true (kind_of b) kind parts.0 in
    let d = ltb-true (definition_or b) wanted parts.1 in
    ⊎_elim
    (λ p. let lt : kind_of a < kind = omega arith in or_left _ _ (lt-ltb (kind_of a) kind lt))
    (λ p. let e = p.0 in let f = p.1 in
    let k' : kind_of a ≡ kind = omega arith in
    let d' : definition_or a < wanted = omega arith in
    or_right (nat_lt (kind_of a) kind) _ (and_from _ _ (eq-eqb (kind_of a) kind k') (lt-ltb (definition_or a) wanted d')))
    leads)
    (or_cases (nat_lt (kind_of b) kind) (nat_eq (kind_of b) kind && nat_lt (definition_or b) wanted) before)

module _ (rows : List Coupling) (kind wanted : ℕ) (ordered : IsOrdered rows) where
  -- what stands before a row that does stands before too
  pub down : (i j : ℕ) (b : Coupling) → i ≤ j → slice_get rows j ≡ Some b → is_before b kind wanted ≡ true → stands_before (slice_get rows i) kind wanted ≡ true
  down i j b le at before =
      ⊎_elim
      (λ lt. let within = slice_get_within rows j b at in
      let here = slice_get-get_or rows i b (omega arith) in
      ap (λ o. stands_before o kind wanted) here ∙ leads_before (get_or rows i b) b kind wanted (ordered i j (get_or rows i b) b lt here at) before)
      (λ ge. let same : i ≡ j = omega arith in
      ap (λ n. stands_before (slice_get rows n) kind wanted) same ∙ (ap (λ o. stands_before o kind wanted) at ∙ before))
      (cases_lt i j)

  -- what stands behind a row that does not stand before does not either
  pub up : (i j : ℕ) (a : Coupling) → i ≤ j → slice_get rows i ≡ Some a → is_before a kind wanted ≡ false → stands_before (slice_get rows j) kind wanted ≡ false
  up i j a le at after = false_from_ne_true _ (λ before. by (slice_get rows j) refl before)
    where
      by : (o : Option Coupling) → slice_get rows j ≡ o → stands_before (slice_get rows j) kind wanted ≡ true → ⊥
      by None e before = true≢false (sym before ∙ ap (λ o. stands_before o kind wanted) e)
      by (Some b) e before =
          let is = down i j b le e (sym (ap (λ o. stands_before o kind wanted) e) ∙ before) in
          true≢false (sym is ∙ (ap (λ o. stands_before o kind wanted) at ∙ after))

  -- a count tells which rows stand before
  pub tells : (count row : ℕ) → (row < count → stands_before (slice_get rows row) kind wanted ≡ true) → (count ≤ row → stands_before (slice_get rows row) kind wanted ≡ false)
      → nat_lt row count ≡ stands_before (slice_get rows row) kind wanted
  tells count row below above =
      ⊎_elim (λ lt. lt-ltb row count lt ∙ sym (below lt)) (λ ge. le-ltb row count ge ∙ sym (above ge)) (cases_lt row count)

pub past_end : (rows : List Coupling) (kind wanted row : ℕ) → length rows ≤ row → stands_before (slice_get rows row) kind wanted ≡ false
past_end rows kind wanted row h = ap (λ o. stands_before o kind wanted) (slice_get_past rows row h)

between : (k kind d wanted : ℕ)
    → not (nat_lt k kind || (nat_eq k kind && nat_lt d wanted)) && (nat_lt k kind || (nat_eq k kind && nat_lt d (wanted + 1))) ≡ nat_eq k kind && nat_eq d wanted
between k kind d wanted =
    ⊎_elim
    (λ same. rw (le-ltb k kind (omega arith), eq-eqb k kind same) (inner d wanted))
    (⊎_elim
    (λ less. rw (lt-ltb k kind less, ne_eqb k kind (λ e. absurd (omega arith))) refl)
    (λ more. rw (le-ltb k kind (omega arith), ne_eqb k kind (λ e. absurd (omega arith))) refl))
    (cases_order k kind)
  where
    inner : (d wanted : ℕ) → not (nat_lt d wanted) && nat_lt d (wanted + 1) ≡ nat_eq d wanted
    inner d wanted =
        ⊎_elim
        (λ same. rw (le-ltb d wanted (omega arith), lt-ltb d (wanted + 1) (omega arith), eq-eqb d wanted same) refl)
        (⊎_elim
        (λ less. rw (lt-ltb d wanted less, ne_eqb d wanted (λ e. absurd (omega arith))) refl)
        (λ more. rw (le-ltb d wanted (omega arith), le-ltb d (wanted + 1) (omega arith), ne_eqb d wanted (λ e. absurd (omega arith))) refl))
        (cases_order d wanted)

-- the rows from the first of a kind and definition to the last
pub together : (o : Option Coupling) (kind wanted start «end» row : ℕ) → nat_lt row start ≡ stands_before o kind wanted → nat_lt row «end» ≡ stands_before o kind (wanted + 1)
    → not (nat_lt row start) && nat_lt row «end» ≡ is_of o kind wanted
together o kind wanted start «end» row p q = ap (λ b. not b && nat_lt row «end») p ∙ (ap (λ b. not (stands_before o kind wanted) && b) q ∙ by o)
  where
    by : (o : Option Coupling) → not (stands_before o kind wanted) && stands_before o kind (wanted + 1) ≡ is_of o kind wanted
    by None = refl
    by (Some row) = between (kind_of row) kind (definition_or row) wanted

-- the rows of the three kinds
pub all_kinds : (o : Option Coupling) (wanted : ℕ) → is_of o 1 wanted || (is_of o 2 wanted || is_of o 3 wanted) ≡ defines o wanted
all_kinds None wanted = refl
all_kinds (Some (Call site callee)) wanted = refl
all_kinds (Some (Shared d reader object)) wanted = or-false (nat_eq d wanted)
all_kinds (Some (Parameter d site k callee reader)) wanted = or-false (nat_eq d wanted)
all_kinds (Some (Return d site callee)) wanted = refl

pub in_groups : (groups : Groups) (o : Option Coupling) (wanted row : ℕ) → inside groups.shared row ≡ is_of o 1 wanted → inside groups.parameter row ≡ is_of o 2 wanted → inside groups.returned row ≡ is_of o 3 wanted
    → has groups row ≡ defines o wanted
in_groups groups o wanted row p q r =
    ap (λ b. b || (inside groups.parameter row || inside groups.returned row)) p
    ∙ (ap (λ b. is_of o 1 wanted || (b || inside groups.returned row)) q ∙ (ap (λ b. is_of o 1 wanted || (is_of o 2 wanted || b)) r ∙ all_kinds o wanted))
