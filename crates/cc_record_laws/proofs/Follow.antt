-- What is kept after a list is what the list's last events say.
use Rattle.std.proofs.Common.{◌≡◌, ℕ, zero, suc, ◌<◌, ◌≤◌, List, [], ◌∷◌, ◌++◌, length, Option, Some, None, Bool, true, false, refl, ap, ◌∙◌, subst, arith, take}
use Rattle.std.specs.Prelude.{cond}
use Rattle.cc_meaning.specs.declared.event.Event.{Event}
use Rattle.cc_record_laws.specs.Past.{later, or_else, last_of}

-- what the last fitting event says, after the events before it
abbrev pub see : {X : Type 0} → (List Event → Event → X) → X → List Event → Option (ℕ × Event) → X
see f z E None = z
see f z E (Some p) = f (take p.0 E) p.1

module _ {X : Type 0} (fits : Event → Bool) (f : List Event → Event → X) (z : X) where
  last_within : (E : List Event) (p : ℕ × Event) → last_of fits E ≡ Some p → p.0 < length E
  last_within [] p h = absurd (let q = h in cc)
  last_within (e ∷ E) p h = by (λ q r. last_within E q r) (last_of fits E) refl h
    where
      here : (b : Bool) → cond {A = Option (ℕ × Event)} b (Some (0, e)) None ≡ Some p → p.0 < suc (length E)
      here true h = let q : ◌≡◌ {A = ℕ × Event} (0, e) p = (let w = h in cc) in subst (λ (w : ℕ × Event). w.0 < suc (length E)) q (omega arith)
      here false h = absurd (let q = h in cc)

      by : ((q : ℕ × Event) → last_of fits E ≡ Some q → q.0 < length E) → (r : Option (ℕ × Event)) → last_of fits E ≡ r → or_else (later r) (cond (fits e) (Some (0, e)) None) ≡ Some p → p.0 < suc (length E)
      by ih None r h = here (fits e) h
      by ih (Some q) r h = let w : ◌≡◌ {A = ℕ × Event} (suc q.0, q.1) p = (let y = h in cc) in subst (λ (w : ℕ × Event). w.0 < suc (length E)) w (let lt = ih q r in omega arith)

  last_on : (E : List Event) (x : Event) → last_of fits (E ++ x ∷ []) ≡ cond (fits x) (Some (length E, x)) (last_of fits E)
  last_on [] x = at_end (fits x)
    where
      at_end : (b : Bool) → or_else (later None) (cond {A = Option (ℕ × Event)} b (Some (0, x)) None) ≡ cond b (Some (0, x)) None
      at_end true = refl
      at_end false = refl
  last_on (e ∷ E) x = ap (λ r. or_else (later r) (cond (fits e) (Some (0, e)) None)) (last_on E x) ∙ by (fits x)
    where
      by : (b : Bool) → or_else (later (cond {A = Option (ℕ × Event)} b (Some (length E, x)) (last_of fits E))) (cond (fits e) (Some (0, e)) None) ≡ cond b (Some (suc (length E), x)) (or_else (later (last_of fits E)) (cond (fits e) (Some (0, e)) None))
      by true = refl
      by false = refl

take_front : (i : ℕ) (E : List Event) (x : Event) → i ≤ length E → take i (E ++ x ∷ []) ≡ take i E
take_front zero E x h = refl
take_front (suc i) [] x h = absurd (omega arith)
take_front (suc i) (e ∷ E) x h = ap (λ es. e ∷ es) (take_front i E x (omega arith))

take_whole : (E : List Event) (x : Event) → take (length E) (E ++ x ∷ []) ≡ E
take_whole [] x = refl
take_whole (e ∷ E) x = ap (λ es. e ∷ es) (take_whole E x)

module _ {X : Type 0} (fits : Event → Bool) (f : List Event → Event → X) (z : X) (E : List Event) (x : Event) where
  -- one event more
  pub see_on : see f z (E ++ x ∷ []) (last_of fits (E ++ x ∷ [])) ≡ cond (fits x) (f E x) (see f z E (last_of fits E))
  see_on = ap (see f z (E ++ x ∷ [])) (last_on fits f z E x) ∙ by (fits x)
    where
      old : (r : Option (ℕ × Event)) → last_of fits E ≡ r → see f z (E ++ x ∷ []) r ≡ see f z E r
      old None e = refl
      old (Some p) e = ap (λ past. f past p.1) (take_front p.0 E x (let lt = last_within fits f z E p e in omega arith))

      by : (b : Bool) → see f z (E ++ x ∷ []) (cond {A = Option (ℕ × Event)} b (Some (length E, x)) (last_of fits E)) ≡ cond b (f E x) (see f z E (last_of fits E))
      by true = ap (λ past. f past x) (take_whole E x)
      by false = old (last_of fits E) refl
