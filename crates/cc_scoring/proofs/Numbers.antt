-- One row more.
use Rattle.std.proofs.Common.{◌≡◌, ℕ, ◌+◌, ◌<◌, ⊎_elim, List, [], ◌∷◌, ◌++◌, Some, length, get_or, ap, sym, ◌∙◌, subst, arith}
use Rattle.std.specs.Prelude.{◌↔◌, Contains, slice_get}
use Rattle.std.specs.List.Sorted.{IsStrictlyIncreasing}
use Rattle.std.proofs.lemmas.Bool.{cases_eq}
use Rattle.std.proofs.lemmas.List.{length_push, get_or_append_left, get_or_push}
use Rattle.std.proofs.lemmas.List.Elements.{Contains-append_left, Contains-get_or, Contains-push, Contains-push_cases}
use Rattle.std.proofs.lemmas.Option.{same_Some, slice_get_within}
use Rattle.cc_meaning.specs.declared.coupling.Coupling.{Coupling}
use Rattle.cc_scoring.specs.Scored.{AreRows}

increasing_push : (xs : List ℕ) (y : ℕ) → IsStrictlyIncreasing xs → ((x : ℕ) → Contains xs x → x < y) → IsStrictlyIncreasing (xs ++ y ∷ [])
increasing_push xs y inc below k lt =
    let long = length_push xs y in
    ⊎_elim
    (λ last. let a = get_or_append_left xs (y ∷ []) 0 k (omega arith) in
    let b = get_or_push xs y 0 (k + 1) (sym last) in
    let c = below (get_or xs k 0) (Contains-get_or xs k 0 (omega arith)) in
    rw (a, b) c)
    (λ ne. let inside : k + 1 < length xs = omega arith in
    let a = get_or_append_left xs (y ∷ []) 0 k (omega arith) in
    let b = get_or_append_left xs (y ∷ []) 0 (k + 1) inside in
    rw (a, b) (inc k inside))
    (cases_eq (k + 1) (length xs))

-- The set has, ascending, the numbers of those rows before this one of which this holds.
pub record AreRowsTo (rows : List Coupling) (holds : Coupling → Type 0) (set : List ℕ) (count : ℕ) : Type 0 where
  pub ascending : IsStrictlyIncreasing set
  pub below : (r : ℕ) → Contains set r → r < count
  pub exact : (r : ℕ) (row : Coupling) → slice_get rows r ≡ Some row → r < count → Contains set r ↔ holds row

module _ (rows : List Coupling) (holds : Coupling → Type 0) where
  none_yet : AreRowsTo rows holds [] 0
  none_yet = record {
    ascending = λ k lt. absurd (omega arith);
    below = λ r h. absurd (let lt = h.1 in omega arith);
    exact = λ r row at lt. absurd (omega arith);
  }

  with_row : (set : List ℕ) (count : ℕ) (row : Coupling) → slice_get rows count ≡ Some row → holds row → AreRowsTo rows holds set count → AreRowsTo rows holds (set ++ count ∷ []) (count + 1)
  with_row set count row at h before = record {
    ascending = increasing_push set count before.ascending before.below;
    below = λ r c. ⊎_elim (λ old. let lt = before.below r old in omega arith) (λ new. omega arith) (Contains-push_cases set count r c);
    exact = λ r q here lt. ⊎_elim (λ same. this r q here same) (λ ne. earlier r q here (omega arith)) (cases_eq r count);
  }
    where
      this : (r : ℕ) (q : Coupling) → slice_get rows r ≡ Some q → r ≡ count → Contains (set ++ count ∷ []) r ↔ holds q
      this r q here same =
          let is : row ≡ q = same_Some row q (sym at ∙ (ap (slice_get rows) (sym same) ∙ here)) in
          (λ _. subst holds is h, λ _. subst (Contains (set ++ count ∷ [])) (sym same) (Contains-push set count))

      earlier : (r : ℕ) (q : Coupling) → slice_get rows r ≡ Some q → r < count → Contains (set ++ count ∷ []) r ↔ holds q
      earlier r q here lt = (
        λ c. ⊎_elim (λ old. (before.exact r q here lt).0 old) (λ new. absurd (omega arith)) (Contains-push_cases set count r c),
        λ x. Contains-append_left set (count ∷ []) r ((before.exact r q here lt).1 x),
      )

  without_row : (set : List ℕ) (count : ℕ) (row : Coupling) → slice_get rows count ≡ Some row → (holds row → ⊥) → AreRowsTo rows holds set count → AreRowsTo rows holds set (count + 1)
  without_row set count row at lacks before = record {
    ascending = before.ascending;
    below = λ r c. let lt = before.below r c in omega arith;
    exact = λ r q here lt. ⊎_elim (λ same. this r q here same) (λ ne. before.exact r q here (omega arith)) (cases_eq r count);
  }
    where
      this : (r : ℕ) (q : Coupling) → slice_get rows r ≡ Some q → r ≡ count → Contains set r ↔ holds q
      this r q here same =
          let is : q ≡ row = same_Some q row (sym here ∙ (ap (slice_get rows) same ∙ at)) in
          (λ c. absurd (let lt = before.below r c in omega arith), λ x. absurd (lacks (subst holds is x)))

  all_of : (set : List ℕ) (count : ℕ) → length rows ≡ count → AreRowsTo rows holds set count → AreRows rows holds set
  all_of set count whole before = record {
    ascending = before.ascending;
    below = λ r c. let lt = before.below r c in omega arith;
    exact = λ r q here. let lt = slice_get_within rows r q here in before.exact r q here (omega arith);
  }

-- the same of the rows that a set has
module _ (rows seen : List Coupling) where
  abbrev pub AreSeenTo : List ℕ → ℕ → Type 0
  AreSeenTo set count = AreRowsTo rows (λ row. Contains seen row) set count

  pub no_rows : AreSeenTo [] 0
  no_rows = none_yet rows (λ row. Contains seen row)

  pub row_in : (set : List ℕ) (count : ℕ) (row : Coupling) → slice_get rows count ≡ Some row → Contains seen row → AreSeenTo set count → AreSeenTo (set ++ count ∷ []) (count + 1)
  row_in = with_row rows (λ row. Contains seen row)

  pub row_out : (set : List ℕ) (count : ℕ) (row : Coupling) → slice_get rows count ≡ Some row → (Contains seen row → ⊥) → AreSeenTo set count → AreSeenTo set (count + 1)
  row_out = without_row rows (λ row. Contains seen row)

  pub all_rows : (set : List ℕ) (count : ℕ) → length rows ≡ count → AreSeenTo set count → AreRows rows (λ row. Contains seen row) set
  all_rows = all_of rows (λ row. Contains seen row)
