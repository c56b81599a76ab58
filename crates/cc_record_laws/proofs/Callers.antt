-- The activation entered last and not left, by recursion and by positions.
use Rattle.std.proofs.Common.{◌≡◌, ℕ, zero, suc, ◌<◌, List, [], ◌∷◌, ⊎_elim, Option, Some, None, Bool, true, false, refl, sym, ap, ◌∙◌, subst, arith, take, eq-eqb}
use Rattle.std.specs.Prelude.{slice_get, cond, nat_eq}
use Rattle.std.proofs.lemmas.Bool.{cases_lt, cases_eq, ne_eqb}
use Rattle.cc_meaning.specs.declared.event.Event.{Event}
use Rattle.cc_meaning.specs.declared.event.Event.TheVariants.{Enter, Pass, Def, Use, Leave, Gone, Ask}
use Rattle.cc_program.specs.declared.function.FuncId.{FuncId}
use Rattle.cc_record_laws.specs.Past.{or_else, leaves, is_left, enters_open, caller}
use Rattle.cc_record_laws.specs.Exercised.{IsCaller}

same_number : (a b : ℕ) → nat_eq a b ≡ true → a ≡ b
same_number a b h = ⊎_elim (λ same. same) (λ ne. absurd (let z = sym (ne_eqb a b ne) ∙ h in cc)) (cases_eq a b)

leave_is : (a : ℕ) (e : Event) → leaves a e ≡ true → (r : Option ℕ) × (e ≡ Leave r a)
leave_is a (Leave r b) h = (r, ap (Leave r) (same_number b a h))
leave_is a (Enter s g b) h = absurd (let z = h in cc)
leave_is a (Def o c b) h = absurd (let z = h in cc)
leave_is a (Use o c b) h = absurd (let z = h in cc)
leave_is a (Pass s n c b) h = absurd (let z = h in cc)
leave_is a (Gone n) h = absurd (let z = h in cc)
leave_is a (Ask t' g' a') h = absurd (let z = h in cc)

left_at : (a : ℕ) (E : List Event) (m : ℕ) → is_left a (take m E) ≡ true → (l : ℕ) × (r : Option ℕ) × (l < m) × (slice_get E l ≡ Some (Leave r a))
left_at a [] zero h = absurd (let z = h in cc)
left_at a [] (suc m) h = absurd (let z = h in cc)
left_at a (e ∷ E) zero h = absurd (let z = h in cc)
left_at a (e ∷ E) (suc m) h = by (λ g. left_at a E m g) (leaves a e) refl h
  where
    by : (is_left a (take m E) ≡ true → (l : ℕ) × (r : Option ℕ) × (l < m) × (slice_get E l ≡ Some (Leave r a))) → (b : Bool) → leaves a e ≡ b → cond b true (is_left a (take m E)) ≡ true → (l : ℕ) × (r : Option ℕ) × (l < suc m) × (slice_get (e ∷ E) l ≡ Some (Leave r a))
    by ih true f h = let p = leave_is a e f in (0, p.0, omega arith, ap Some p.1)
    by ih false f h = let p = ih h in (suc p.0, p.1, (let lt = p.2 in omega arith), p.3)

not_left : (a : ℕ) (E : List Event) (m : ℕ) → is_left a (take m E) ≡ false → (n : ℕ) (r : Option ℕ) → n < m → slice_get E n ≡ Some (Leave r a) → ⊥
not_left a [] m h n r lt at = absurd (let z = at in cc)
not_left a (e ∷ E) zero h n r lt at = absurd (omega arith)
not_left a (e ∷ E) (suc m) h n r lt at = by (λ g i lt at. not_left a E m g i r lt at) (leaves a e) refl h n lt at
  where
    by : (is_left a (take m E) ≡ false → (i : ℕ) → i < m → slice_get E i ≡ Some (Leave r a) → ⊥) → (b : Bool) → leaves a e ≡ b → cond b true (is_left a (take m E)) ≡ false → (n : ℕ) → n < suc m → slice_get (e ∷ E) n ≡ Some (Leave r a) → ⊥
    by ih true f h n lt at = absurd (let z = h in cc)
    by ih false f h zero lt at = absurd (let p : e ≡ Leave r a = (let z = at in cc) in let w : true ≡ false = sym (eq-eqb a a refl) ∙ sym (ap (leaves a) p) ∙ f in cc)
    by ih false f h (suc n) lt at = ih h n (omega arith) at

-- both parts of a missing answer are missing
none_first : (o p : Option ℕ) → or_else o p ≡ None → (o ≡ None) × (p ≡ None)
none_first None p h = (refl, h)
none_first (Some a) p h = absurd (let z = h in cc)

open_none : (s : Option ℕ) (g : FuncId) (a : ℕ) (E : List Event) → enters_open (Enter s g a) E ≡ None → is_left a E ≡ true
open_none s g a E h = by (is_left a E) h
  where
    by : (b : Bool) → cond b None (Some a) ≡ None → b ≡ true
    by true h = refl
    by false h = absurd (let z = h in cc)

none_open : (E : List Event) (m : ℕ) → caller (take m E) ≡ None → (n : ℕ) (s : Option ℕ) (g : FuncId) (a : ℕ) → n < m → slice_get E n ≡ Some (Enter s g a) → (l : ℕ) × (r : Option ℕ) × (n < l) × (l < m) × (slice_get E l ≡ Some (Leave r a))
none_open [] m h n s g a lt at = absurd (let z = at in cc)
none_open (e ∷ E) zero h n s g a lt at = absurd (omega arith)
none_open (e ∷ E) (suc m) h zero s g a lt at =
    let p = none_first (caller (take m E)) (enters_open e (take m E)) h in
    let is : e ≡ Enter s g a = (let z = at in cc) in
    let q = left_at a E m (open_none s g a (take m E) (ap (λ e. enters_open e (take m E)) (sym is) ∙ p.1)) in
    (suc q.0, q.1, omega arith, (let lt = q.2 in omega arith), q.3)
none_open (e ∷ E) (suc m) h (suc n) s g a lt at =
    let p = none_first (caller (take m E)) (enters_open e (take m E)) h in
    let q = none_open E m p.0 n s g a (omega arith) at in
    (suc q.0, q.1, (let lo = q.2 in omega arith), (let hi = q.3 in omega arith), q.4)

open_some : (a act : ℕ) (b : Bool) → cond b None (Some a) ≡ Some act → (b ≡ false) × (a ≡ act)
open_some a act true h = absurd (let z = h in cc)
open_some a act false h = (refl, (let z = h in cc))

enters_is : (e : Event) (E : List Event) (act : ℕ) → enters_open e E ≡ Some act → (s : Option ℕ) × (g : FuncId) × (e ≡ Enter s g act) × (is_left act E ≡ false)
enters_is (Enter s g a) E act h =
    let p = open_some a act (is_left a E) h in
    (s, g, ap (Enter s g) p.1, ap (λ a. is_left a E) (sym p.1) ∙ p.0)
enters_is (Leave r b) E act h = absurd (let z = h in cc)
enters_is (Def o c b) E act h = absurd (let z = h in cc)
enters_is (Use o c b) E act h = absurd (let z = h in cc)
enters_is (Pass s n c b) E act h = absurd (let z = h in cc)
enters_is (Gone n) E act h = absurd (let z = h in cc)
enters_is (Ask t' g' a') E act h = absurd (let z = h in cc)

pub caller_is : (E : List Event) (h act : ℕ) → caller (take h E) ≡ Some act → IsCaller E h act
caller_is [] zero act q = absurd (let z = q in cc)
caller_is [] (suc h) act q = absurd (let z = q in cc)
caller_is (e ∷ E) zero act q = absurd (let z = q in cc)
caller_is (e ∷ E) (suc h) act q = by (λ b g. caller_is E h b g) (caller (take h E)) refl q
  where
    here : caller (take h E) ≡ None → enters_open e (take h E) ≡ Some act → IsCaller (e ∷ E) (suc h) act
    here r q =
        let p = enters_is e (take h E) act q in
        record { i = 0; site = p.0; callee = p.1; before = omega arith; enter = ap Some p.2; stays = stays p.3; others = others }
      where
        stays : is_left act (take h E) ≡ false → (n : ℕ) (r : Option ℕ) → 0 < n → n < suc h → slice_get (e ∷ E) n ≡ Some (Leave r act) → ⊥
        stays f zero r lo hi at = omega arith
        stays f (suc n) r lo hi at = not_left act E h f n r (omega arith) at

        others : (n : ℕ) (s : Option ℕ) (g : FuncId) (a : ℕ) → 0 < n → n < suc h → slice_get (e ∷ E) n ≡ Some (Enter s g a) → (l : ℕ) × (r : Option ℕ) × (n < l) × (l < suc h) × (slice_get (e ∷ E) l ≡ Some (Leave r a))
        others zero s g a lo hi at = absurd (omega arith)
        others (suc n) s g a lo hi at =
            let w = none_open E h r n s g a (omega arith) at in
            (suc w.0, w.1, (let lo = w.2 in omega arith), (let hi = w.3 in omega arith), w.4)

    there : IsCaller E h act → IsCaller (e ∷ E) (suc h) act
    there c = record { i = suc c.i; site = c.site; callee = c.callee; before = omega (arith, c.before); enter = c.enter; stays = stays; others = others }
      where
        stays : (n : ℕ) (r : Option ℕ) → suc c.i < n → n < suc h → slice_get (e ∷ E) n ≡ Some (Leave r act) → ⊥
        stays zero r lo hi at = omega arith
        stays (suc n) r lo hi at = c.stays n r (omega arith) (omega arith) at

        others : (n : ℕ) (s : Option ℕ) (g : FuncId) (a : ℕ) → suc c.i < n → n < suc h → slice_get (e ∷ E) n ≡ Some (Enter s g a) → (l : ℕ) × (r : Option ℕ) × (n < l) × (l < suc h) × (slice_get (e ∷ E) l ≡ Some (Leave r a))
        others zero s g a lo hi at = absurd (omega arith)
        others (suc n) s g a lo hi at =
            let w = c.others n s g a (omega arith) (omega arith) at in
            (suc w.0, w.1, (let lo = w.2 in omega arith), (let hi = w.3 in omega arith), w.4)

    by : ((b : ℕ) → caller (take h E) ≡ Some b → IsCaller E h b) → (r : Option ℕ) → caller (take h E) ≡ r → or_else r (enters_open e (take h E)) ≡ Some act → IsCaller (e ∷ E) (suc h) act
    by ih None r q = here r q
    by ih (Some b) r q = let same : b ≡ act = (let z = q in cc) in there (subst (IsCaller E h) same (ih b r))

one_caller : (E : List Event) (h a b : ℕ) → IsCaller E h a → IsCaller E h b → a ≡ b
one_caller E h a b c d = ⊎_elim
    (λ lt. absurd (let w = c.others d.i d.site d.callee b lt d.before d.enter in d.stays w.0 w.1 w.2 w.3 w.4))
    (λ le. ⊎_elim
    (λ lt. absurd (let w = d.others c.i c.site c.callee a lt c.before c.enter in c.stays w.0 w.1 w.2 w.3 w.4))
    (λ ge. let same : c.i ≡ d.i = omega arith in let both : Enter c.site c.callee a ≡ Enter d.site d.callee b = (let z = sym c.enter ∙ ap (slice_get E) same ∙ d.enter in cc) in (let z = both in cc))
    (cases_lt d.i c.i))
    (cases_lt c.i d.i)

pub is_caller : (E : List Event) (h act : ℕ) → IsCaller E h act → caller (take h E) ≡ Some act
is_caller E h act c = by (caller (take h E)) refl
  where
    by : (r : Option ℕ) → caller (take h E) ≡ r → caller (take h E) ≡ Some act
    by None r = absurd (let w = none_open E h r c.i c.site c.callee act c.before c.enter in c.stays w.0 w.1 w.2 w.3 w.4)
    by (Some b) r = r ∙ ap Some (one_caller E h b act (caller_is E h b r) c)
