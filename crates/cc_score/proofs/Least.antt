-- The least of the conflicts at the first rows.
use Rattle.std.proofs.Common.{◌≡◌, ℕ, zero, suc, ◌<◌, ◌≤◌, inl, inr, ⊎_elim, List, [], ◌∷◌, Option, Some, None, Bool, true, false, refl, sym, ap, ◌∙◌, subst, arith, cond}
use Rattle.std.specs.Prelude.{nat_lt, length, IfSome, IfNone}
use Rattle.std.proofs.lemmas.Bool.{cases_lt, ltb-true, lt-ltb}
use Rattle.cc_meaning.specs.declared.score.RowReason.{RowReason}
use Rattle.cc_score.specs.declared.clash.Conflict.{Conflict}
use Rattle.cc_score.specs.Marks.{mark, reason}
use Rattle.cc_score.specs.Conflicts.{Clashes, IsLeast, both, at, less, least_to}

module _ (marks : List (Option ℕ)) (reasons : List (Option RowReason)) where
  at_clash : (row index test : ℕ) → Clashes marks reasons row index test → at marks reasons row ≡ Some (record { index = index; row = row; test = test })
  at_clash row index test c = ap (λ r. both row r (mark marks row)) c.reason ∙ ap (both row (Some index)) c.mark

  clash_at : (row : ℕ) (c : Conflict) → at marks reasons row ≡ Some c → Clashes marks reasons row c.index c.test × (c.row ≡ row)
  clash_at row c h = by (reason reasons row) (mark marks row) refl refl h
    where
      by : (r m : Option ℕ) → reason reasons row ≡ r → mark marks row ≡ m → both row r m ≡ Some c → Clashes marks reasons row c.index c.test × (c.row ≡ row)
      by (Some i) (Some t) p q e =
          let same : ◌≡◌ {A = Conflict} (record { index = i; row = row; test = t }) c = (let z = e in cc) in
          subst (λ (c : Conflict). Clashes marks reasons row c.index c.test × (c.row ≡ row)) same (record { reason = p; mark = q }, refl)
      by (Some i) None p q e = absurd (let z = e in cc)
      by None m p q e = absurd (let z = e in cc)

  -- a clash at a row is the conflict that is found there
  one_clash : (row index test : ℕ) (c : Conflict) → at marks reasons row ≡ Some c → Clashes marks reasons row index test → index ≡ c.index
  one_clash row index test c h k =
      let same : ◌≡◌ {A = Conflict} (record { index = index; row = row; test = test }) c = (let z = sym (at_clash row index test k) ∙ h in cc) in
      ap (λ (c : Conflict). c.index) same

  -- it is the least of the conflicts at the first rows, or there is none
  abbrev pub IsBest : ℕ → Option Conflict → Type 0
  IsBest count (Some c) = IsLeast marks reasons count c
  IsBest count None = (row index test : ℕ) → row < count → Clashes marks reasons row index test → ⊥

  stays : (count : ℕ) (x : Conflict) → IsLeast marks reasons count x → ((index test : ℕ) → Clashes marks reasons count index test → x.index ≤ index) → IsLeast marks reasons (suc count) x
  stays count x l h = record {
    clashes = l.clashes;
    within = (let w = l.within in omega arith);
    least = λ row index test lt c. ⊎_elim
        (λ before. l.least row index test before c)
        (λ after.
        let here : row ≡ count = omega arith in
        let le = h index test (subst (λ (r : ℕ). Clashes marks reasons r index test) here c) in
        let w = l.within in
        ⊎_elim (λ less. inl less) (λ ge. inr (omega arith, omega arith)) (cases_lt x.index index))
        (cases_lt row count);
  }

  turns : (count : ℕ) (y : Conflict) → at marks reasons count ≡ Some y → ((row index test : ℕ) → row < count → Clashes marks reasons row index test → y.index < index) → IsLeast marks reasons (suc count) y
  turns count y h before =
      let c = clash_at count y h in
      record {
        clashes = subst (λ (r : ℕ). Clashes marks reasons r y.index y.test) (sym c.1) c.0;
        within = (let w = c.1 in omega arith);
        least = λ row index test lt k. ⊎_elim
            (λ less. inl (before row index test less k))
            (λ after.
            let here : row ≡ count = omega arith in
            let same = one_clash count index test y h (subst (λ (r : ℕ). Clashes marks reasons r index test) here k) in
            let w = c.1 in
            inr (sym same, omega arith))
            (cases_lt row count);
      }

  none_here : (count : ℕ) → at marks reasons count ≡ None → (index test : ℕ) → Clashes marks reasons count index test → ⊥
  none_here count h index test c = let z = sym (at_clash count index test c) ∙ h in cc

  best_on : (count : ℕ) (b a : Option Conflict) → IsBest count b → at marks reasons count ≡ a → IsBest (suc count) (less b a)
  best_on count (Some x) (Some y) l h = by (nat_lt y.index x.index) refl
    where
      by : (c : Bool) → nat_lt y.index x.index ≡ c → IsBest (suc count) (cond c (Some y) (Some x))
      by true e = turns count y h (λ row index test lt k. let less = ltb-true y.index x.index e in ⊎_elim (λ p. omega arith) (λ p. let q = p.0 in omega arith) (l.least row index test lt k))
      by false e = stays count x l (λ index test k. let same = one_clash count index test y h k in ⊎_elim (λ lt. absurd (let z : true ≡ false = sym (lt-ltb y.index x.index lt) ∙ e in cc)) (λ le. omega arith) (cases_lt y.index x.index))
  best_on count (Some x) None l h = stays count x l (λ index test k. absurd (none_here count h index test k))
  best_on count None (Some y) l h = turns count y h (λ row index test lt k. absurd (l row index test lt k))
  best_on count None None l h = λ row index test lt k. ⊎_elim (λ before. l row index test before k) (λ after. let here : row ≡ count = omega arith in none_here count h index test (subst (λ (r : ℕ). Clashes marks reasons r index test) here k)) (cases_lt row count)

  pub best : (count : ℕ) → IsBest count (least_to marks reasons count)
  best zero = λ row index test lt c. absurd (omega arith)
  best (suc count) = best_on count (least_to marks reasons count) (at marks reasons count) (best count) refl

  past_marks : (xs : List (Option RowReason)) (row : ℕ) → length xs ≤ row → reason xs row ≡ None
  past_marks [] row h = refl
  past_marks (x ∷ xs) zero h = absurd (omega arith)
  past_marks (x ∷ xs) (suc row) h = past_marks xs row (omega arith)

  pub found : (c : Option Conflict) → c ≡ least_to marks reasons (length reasons) → IfSome c (λ c. IsLeast marks reasons (length reasons) c)
  found c e = by c (subst (IsBest (length reasons)) (sym e) (best (length reasons)))
    where
      by : (c : Option Conflict) → IsBest (length reasons) c → IfSome c (λ c. IsLeast marks reasons (length reasons) c)
      by (Some c) b = b
      by None b = tt

  pub missing : (c : Option Conflict) → c ≡ least_to marks reasons (length reasons) → IfNone c ((row index test : ℕ) → Clashes marks reasons row index test → ⊥)
  missing c e = by c (subst (IsBest (length reasons)) (sym e) (best (length reasons)))
    where
      by : (c : Option Conflict) → IsBest (length reasons) c → IfNone c ((row index test : ℕ) → Clashes marks reasons row index test → ⊥)
      by (Some c) b = tt
      by None b = λ row index test k. ⊎_elim (λ lt. b row index test lt k) (λ le. let z : None ≡ Some index = sym (past_marks reasons row le) ∙ k.reason in cc) (cases_lt (row) (length reasons))
