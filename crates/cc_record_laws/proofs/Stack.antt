-- The activations entered and not left, the last one first.
use Rattle.std.proofs.Common.{◌≡◌, ℕ, List, [], ◌∷◌, ◌++◌, Option, Some, None, Bool, true, false, refl, sym, ap, ◌∙◌}
use Rattle.std.specs.Prelude.{cond, nat_eq}
use Rattle.cc_meaning.specs.declared.event.Event.{Event}
use Rattle.cc_meaning.specs.declared.event.Event.TheVariants.{Enter, Pass, Def, Use, Leave, Gone, Ask}
use Rattle.cc_record_laws.specs.Past.{or_else, leaves, is_left, enters_open, caller}
use Rattle.cc_record_laws.specs.Kept.{top, without, stack_on}

abbrev pub list_of : Option ℕ → List ℕ
list_of None = []
list_of (Some a) = a ∷ []

abbrev pub opens : List Event → List ℕ
opens [] = []
opens (e ∷ es) = opens es ++ list_of (enters_open e es)

top_on : (ids : List ℕ) (o : Option ℕ) → top (ids ++ list_of o) ≡ or_else (top ids) o
top_on [] None = refl
top_on [] (Some a) = refl
top_on (a ∷ ids) o = refl

pub caller_is : (E : List Event) → top (opens E) ≡ caller E
caller_is [] = refl
caller_is (e ∷ E) = top_on (opens E) (enters_open e E) ∙ ap (λ r. or_else r (enters_open e E)) (caller_is E)

without_on : (act : ℕ) (ids bs : List ℕ) → without act (ids ++ bs) ≡ without act ids ++ without act bs
without_on act [] bs = refl
without_on act (a ∷ ids) bs = ap (λ r. cond (nat_eq act a) r (a ∷ r)) (without_on act ids bs) ∙ by (nat_eq act a)
  where
    by : (b : Bool) → cond b (without act ids ++ without act bs) (a ∷ (without act ids ++ without act bs)) ≡ cond b (without act ids) (a ∷ without act ids) ++ without act bs
    by true = refl
    by false = refl

left_on : (act : ℕ) (E : List Event) (x : Event) → is_left act (E ++ x ∷ []) ≡ cond (is_left act E) true (leaves act x)
left_on act [] x = by (leaves act x)
  where
    by : (b : Bool) → cond b true false ≡ b
    by true = refl
    by false = refl
left_on act (e ∷ E) x = ap (λ r. cond (leaves act e) true r) (left_on act E x) ∙ by (leaves act e)
  where
    by : (b : Bool) → cond b true (cond (is_left act E) true (leaves act x)) ≡ cond (cond b true (is_left act E)) true (leaves act x)
    by true = refl
    by false = refl

still : (e x : Event) (E : List Event) → ((a : ℕ) → leaves a x ≡ false) → enters_open e (E ++ x ∷ []) ≡ enters_open e E
still (Enter s g a) x E h = ap (λ b. cond b None (Some a)) (left_on a E x ∙ ap (λ l. cond (is_left a E) true l) (h a) ∙ by (is_left a E))
  where
    by : (b : Bool) → cond b true false ≡ b
    by true = refl
    by false = refl
still (Def o c a) x E h = refl
still (Pass s n c a) x E h = refl
still (Use o c a) x E h = refl
still (Leave r a) x E h = refl
still (Gone n) x E h = refl
still (Ask t' g' a') x E h = refl

ends : (e : Event) (E : List Event) (r : Option ℕ) (act : ℕ) → list_of (enters_open e (E ++ Leave r act ∷ [])) ≡ without act (list_of (enters_open e E))
ends (Enter s g a) E r act = ap (λ b. list_of (cond b None (Some a))) (left_on a E (Leave r act)) ∙ by (is_left a E)
  where
    flat : (l : Bool) → list_of (cond l None (Some a)) ≡ cond l [] (a ∷ [])
    flat true = refl
    flat false = refl

    by : (b : Bool) → list_of (cond (cond b true (nat_eq act a)) None (Some a)) ≡ without act (list_of (cond b None (Some a)))
    by true = refl
    by false = flat (nat_eq act a)
ends (Def o c a) E r act = refl
ends (Pass s n c a) E r act = refl
ends (Use o c a) E r act = refl
ends (Leave q a) E r act = refl
ends (Gone n) E r act = refl
ends (Ask t' g' a') E r act = refl

pub opens_on : (E : List Event) (x : Event) → opens (E ++ x ∷ []) ≡ stack_on (opens E) x
opens_on [] (Enter s g a) = refl
opens_on [] (Def o c a) = refl
opens_on [] (Pass s n c a) = refl
opens_on [] (Use o c a) = refl
opens_on [] (Leave r a) = refl
opens_on [] (Gone n) = refl
opens_on [] (Ask t' g' a') = refl
opens_on (e ∷ E) (Enter s g a) = ap (λ ids. ids ++ list_of (enters_open e (E ++ Enter s g a ∷ []))) (opens_on E (Enter s g a)) ∙ ap (λ o. (a ∷ opens E) ++ list_of o) (still e (Enter s g a) E (λ b. refl))
opens_on (e ∷ E) (Def o c a) = ap (λ ids. ids ++ list_of (enters_open e (E ++ Def o c a ∷ []))) (opens_on E (Def o c a)) ∙ ap (λ o. opens E ++ list_of o) (still e (Def o c a) E (λ b. refl))
opens_on (e ∷ E) (Pass s n c a) = ap (λ ids. ids ++ list_of (enters_open e (E ++ Pass s n c a ∷ []))) (opens_on E (Pass s n c a)) ∙ ap (λ o. opens E ++ list_of o) (still e (Pass s n c a) E (λ b. refl))
opens_on (e ∷ E) (Use o c a) = ap (λ ids. ids ++ list_of (enters_open e (E ++ Use o c a ∷ []))) (opens_on E (Use o c a)) ∙ ap (λ o. opens E ++ list_of o) (still e (Use o c a) E (λ b. refl))
opens_on (e ∷ E) (Gone n) = ap (λ ids. ids ++ list_of (enters_open e (E ++ Gone n ∷ []))) (opens_on E (Gone n)) ∙ ap (λ o. opens E ++ list_of o) (still e (Gone n) E (λ b. refl))
opens_on (e ∷ E) (Ask t' g' a') = ap (λ ids. ids ++ list_of (enters_open e (E ++ Ask t' g' a' ∷ []))) (opens_on E (Ask t' g' a')) ∙ ap (λ o. opens E ++ list_of o) (still e (Ask t' g' a') E (λ b. refl))
opens_on (e ∷ E) (Leave r act) =
    ap (λ ids. ids ++ list_of (enters_open e (E ++ Leave r act ∷ []))) (opens_on E (Leave r act))
    ∙ ap (λ l. without act (opens E) ++ l) (ends e E r act)
    ∙ sym (without_on act (opens E) (list_of (enters_open e E)))
