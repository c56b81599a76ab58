-- The last event that fits, by recursion and by positions.
use Rattle.std.proofs.Common.{◌≡◌, ℕ, zero, suc, ◌<◌, List, [], ◌∷◌, ⊎_elim, Option, Some, None, Bool, true, false, refl, sym, ap, ◌∙◌, subst, arith, take}
use Rattle.std.specs.Prelude.{slice_get, cond}
use Rattle.std.proofs.lemmas.Bool.{cases_lt}
use Rattle.cc_meaning.specs.declared.event.Event.{Event}
use Rattle.cc_record_laws.specs.Past.{or_else, later, last_of, IsLast}

module _ (fits : Event → Bool) where
  none_fits : (E : List Event) (m : ℕ) → last_of fits (take m E) ≡ None → (n : ℕ) (x : Event) → n < m → slice_get E n ≡ Some x → fits x ≡ true → ⊥
  none_fits [] m h n x lt at fit = absurd (let q = at in cc)
  none_fits (e ∷ es) zero h n x lt at fit = absurd (omega arith)
  none_fits (e ∷ es) (suc m) h n x lt at fit = by_rest (λ r n lt at. none_fits es m r n x lt at fit) (last_of fits (take m es)) refl
    where
      by_head : (last_of fits (take m es) ≡ None → (n : ℕ) → n < m → slice_get es n ≡ Some x → ⊥) → (b : Bool) → fits e ≡ b → last_of fits (take m es) ≡ None → or_else (later None) (cond b (Some (0, e)) None) ≡ None → (n : ℕ) → n < suc m → slice_get (e ∷ es) n ≡ Some x → ⊥
      by_head ih true f r q n lt at = absurd (let p = q in cc)
      by_head ih false f r q zero lt at = absurd (let p : e ≡ x = (let z = at in cc) in let w : false ≡ true = sym f ∙ ap fits p ∙ fit in cc)
      by_head ih false f r q (suc n) lt at = ih r n (omega arith) at

      by_rest : (last_of fits (take m es) ≡ None → (n : ℕ) → n < m → slice_get es n ≡ Some x → ⊥) → (r : Option (ℕ × Event)) → last_of fits (take m es) ≡ r → ⊥
      by_rest ih None r = by_head ih (fits e) refl r (ap (λ z. or_else (later z) (cond (fits e) (Some (0, e)) None)) (sym r) ∙ h) n lt at
      by_rest ih (Some p) r = absurd (let z : Some (suc p.0, p.1) ≡ None = ap (λ z. or_else (later z) (cond (fits e) (Some (0, e)) None)) (sym r) ∙ h in cc)

  pub is_last : (E : List Event) (m i : ℕ) (y : Event) → last_of fits (take m E) ≡ Some (i, y) → IsLast E fits m i y
  is_last [] zero i y h = absurd (let q = h in cc)
  is_last [] (suc m) i y h = absurd (let q = h in cc)
  is_last (e ∷ es) zero i y h = absurd (let q = h in cc)
  is_last (e ∷ es) (suc m) i y h = by_rest (λ p r. is_last es m p.0 p.1 r) (last_of fits (take m es)) refl
    where
      here : (b : Bool) → fits e ≡ b → last_of fits (take m es) ≡ None → cond {A = Option (ℕ × Event)} b (Some (0, e)) None ≡ Some (i, y) → IsLast (e ∷ es) fits (suc m) i y
      here false f r q = absurd (let p = q in cc)
      here true f r q =
          let p : ◌≡◌ {A = ℕ × Event} (0, e) (i, y) = (let z = q in cc) in
          subst (λ (w : ℕ × Event). IsLast (e ∷ es) fits (suc m) w.0 w.1) p
          (record {
            before = omega arith;
            at = refl;
            fit = f;
            none = none_after r;
          })
        where
          none_after : last_of fits (take m es) ≡ None → (n : ℕ) (x : Event) → 0 < n → n < suc m → slice_get (e ∷ es) n ≡ Some x → fits x ≡ true → ⊥
          none_after r zero x lo hi at fit = omega arith
          none_after r (suc n) x lo hi at fit = none_fits es m r n x (omega arith) at fit

      there : (p : ℕ × Event) → IsLast es fits m p.0 p.1 → IsLast (e ∷ es) fits (suc m) (suc p.0) p.1
      there p l = record {
        before = omega (arith, l.before);
        at = l.at;
        fit = l.fit;
        none = none_there;
      }
        where
          none_there : (n : ℕ) (x : Event) → suc p.0 < n → n < suc m → slice_get (e ∷ es) n ≡ Some x → fits x ≡ true → ⊥
          none_there zero x lo hi at fit = omega arith
          none_there (suc n) x lo hi at fit = l.none n x (omega arith) (omega arith) at fit

      by_rest : ((p : ℕ × Event) → last_of fits (take m es) ≡ Some p → IsLast es fits m p.0 p.1) → (r : Option (ℕ × Event)) → last_of fits (take m es) ≡ r → IsLast (e ∷ es) fits (suc m) i y
      by_rest ih None r = here (fits e) refl r (ap (λ z. or_else (later z) (cond (fits e) (Some (0, e)) None)) (sym r) ∙ h)
      by_rest ih (Some p) r =
          let q : Some (suc p.0, p.1) ≡ Some (i, y) = ap (λ z. or_else (later z) (cond (fits e) (Some (0, e)) None)) (sym r) ∙ h in
          let w : ◌≡◌ {A = ℕ × Event} (suc p.0, p.1) (i, y) = (let z = q in cc) in
          subst (λ (w : ℕ × Event). IsLast (e ∷ es) fits (suc m) w.0 w.1) w (there p (ih p r))

  one_last : (E : List Event) (m i k : ℕ) (x y : Event) → IsLast E fits m i x → IsLast E fits m k y → ◌≡◌ {A = ℕ × Event} (i, x) (k, y)
  one_last E m i k x y a b = ⊎_elim
      (λ lt. absurd (a.none k y lt b.before b.at b.fit))
      (λ le. ⊎_elim
      (λ lt. absurd (b.none i x lt a.before a.at a.fit))
      (λ ge. let same : i ≡ k = omega arith in let at : slice_get E i ≡ Some y = ap (slice_get E) same ∙ b.at in let both : x ≡ y = (let z = sym a.at ∙ at in cc) in cc)
      (cases_lt k i))
      (cases_lt i k)

  pub last_is : (E : List Event) (m i : ℕ) (y : Event) → IsLast E fits m i y → last_of fits (take m E) ≡ Some (i, y)
  last_is E m i y l = by (last_of fits (take m E)) refl
    where
      by : (r : Option (ℕ × Event)) → last_of fits (take m E) ≡ r → last_of fits (take m E) ≡ Some (i, y)
      by None r = absurd (none_fits E m r i y l.before l.at l.fit)
      by (Some p) r = r ∙ ap Some (one_last E m p.0 i p.1 y (is_last E m p.0 p.1 r) l)

pub take_take : (i j : ℕ) (E : List Event) → i < j → take i (take j E) ≡ take i E
take_take zero j E lt = refl
take_take (suc i) zero E lt = absurd (omega arith)
take_take (suc i) (suc j) [] lt = refl
take_take (suc i) (suc j) (e ∷ E) lt = ap (λ es. e ∷ es) (take_take i j E (omega arith))
