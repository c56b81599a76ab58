-- What the states give along a list is what the list exercises.
use Rattle.std.proofs.Common.{◌≡◌, ℕ, zero, suc, List, [], ◌∷◌, ◌++◌, inl, inr, Some, refl, sym, ap, ◌∙◌, subst, take}
use Rattle.std.specs.Prelude.{◌↔◌, slice_get}
use Rattle.cc_meaning.specs.declared.event.Event.{Event}
use Rattle.cc_meaning.specs.declared.coupling.Coupling.{Coupling}
use Rattle.cc_meaning.specs.declared.coupling.Coupling.TheVariants.{Call, Shared, Parameter, Return}
use Rattle.cc_record_laws.specs.Roles.{Roles}
use Rattle.cc_record_laws.specs.Laws.{Gives}
use Rattle.cc_record_laws.specs.Kept.{Kept, start, after, GivesNow, GivenFrom, RecordsExactly}
use Rattle.cc_record_laws.proofs.Exact.{exactly}
use Rattle.cc_record_laws.proofs.Means.{Means, start_means, means_on, use_is, formal_is, leave_is}

pub gives_now : (R : Roles) (E : List Event) (k : Kept) → Means R E k → (e : Event) (q : Coupling) → GivesNow R k e q ↔ Gives R E e q
gives_now R E k m e (Call s g) = (λ h. h, λ h. h)
gives_now R E k m e (Shared d u x) = (λ h. sym (use_is R E k m e) ∙ h, λ h. use_is R E k m e ∙ h)
gives_now R E k m e (Parameter d s n g u) = (λ h. sym (formal_is R E k m e) ∙ h, λ h. formal_is R E k m e ∙ h)
gives_now R E k m e (Return d s g) = (λ h. sym (leave_is R E k m e) ∙ h, λ h. leave_is R E k m e ∙ h)

-- an event of the list gives the coupling, after those already told
abbrev GivenOn : Roles → List Event → List Event → Coupling → Type 0
GivenOn R past E q = (j : ℕ) × (e : Event) × (slice_get E j ≡ Some e) × Gives R (past ++ take j E) e q

append_nil : (E : List Event) → E ++ [] ≡ E
append_nil [] = refl
append_nil (e ∷ E) = ap (λ es. e ∷ es) (append_nil E)

append_on : (E : List Event) (e : Event) (es : List Event) → (E ++ e ∷ []) ++ es ≡ E ++ e ∷ es
append_on [] e es = refl
append_on (x ∷ E) e es = ap (λ r. x ∷ r) (append_on E e es)

from_on : (R : Roles) (past E : List Event) (k : Kept) → Means R past k → (q : Coupling) → GivenFrom R k E q → GivenOn R past E q
from_on R past [] k m q h = absurd h
from_on R past (e ∷ E) k m q (inl h) = (0, e, refl, subst (λ p. Gives R p e q) (sym (append_nil past)) ((gives_now R past k m e q).0 h))
from_on R past (e ∷ E) k m q (inr h) =
    let g = from_on R (past ++ e ∷ []) E (after R k e) (means_on R past k m e) q h in
    (suc g.0, g.1, g.2, subst (λ p. Gives R p g.1 q) (append_on past e (take g.0 E)) g.3)

on_from : (R : Roles) (past E : List Event) (k : Kept) → Means R past k → (q : Coupling) (j : ℕ) (e : Event) → slice_get E j ≡ Some e → Gives R (past ++ take j E) e q → GivenFrom R k E q
on_from R past [] k m q j e at h = absurd (let z = at in cc)
on_from R past (x ∷ E) k m q zero e at h =
    let same : e ≡ x = (let z = at in cc) in
    inl (subst (λ e. GivesNow R k e q) same ((gives_now R past k m e q).1 (subst (λ p. Gives R p e q) (append_nil past) h)))
on_from R past (x ∷ E) k m q (suc j) e at h =
    inr (on_from R (past ++ x ∷ []) E (after R k x) (means_on R past k m x) q j e at (subst (λ p. Gives R p e q) (sym (append_on past x (take j E))) h))

pub records : RecordsExactly
records R E q =
    let p = exactly R E q in
    let m = start_means R in
    (λ x. let g = p.0 x in on_from R [] E start m q g.0 g.1 g.2 g.3, λ h. p.1 (from_on R [] E start m q h))
