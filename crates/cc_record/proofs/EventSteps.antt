-- What each event does to the tables is what the law says.
use Rattle.std.proofs.Common.{◌≡◌, ◌≢◌, ℕ, ◌<◌, List, ◌⊎◌, inl, inr, ⊎_elim, Option, Some, None, Bool, true, false, refl, sym, ap, ◌∙◌, cond, Result, Ok, Err, OnOk}
use Rattle.std.specs.Prelude.{nat_eq, ◌↔◌, Contains}
use Rattle.cc_program.specs.declared.function.FuncId.{FuncId}
use Rattle.cc_meaning.specs.declared.event.Cell.{Cell}
use Rattle.cc_meaning.specs.declared.event.Event.{Event}
use Rattle.cc_meaning.specs.declared.event.Event.TheVariants.{Enter, Use, Leave, Ask}
use Rattle.cc_meaning.specs.declared.coupling.Coupling.{Coupling}
use Rattle.cc_meaning.specs.declared.coupling.Coupling.TheVariants.{Call, Shared, Parameter, Return}
use Rattle.cc_record_laws.specs.declared.kept.Entry.{Entry}
use Rattle.cc_record_laws.specs.declared.kept.Passed.{Passed}
use Rattle.cc_record_laws.specs.Roles.{Roles}
use Rattle.cc_record_laws.specs.Past.{same_cell}
use Rattle.cc_record_laws.specs.Gives.{apart, param, returns}
use Rattle.cc_record_laws.specs.Kept.{Kept, GivesNow, shared_now, param_at, param_now, return_now, named_by}
use Rattle.cc_record_laws.proofs.Exact.{same_is}
use Rattle.cc_record_tables.specs.declared.slot.Slot.{Slot}
use Rattle.cc_record_tables.specs.declared.slot.Since.{Since}
use Rattle.cc_record_tables.specs.declared.slot.Since.TheVariants as since
use Rattle.cc_record_tables.specs.Slots.{due_in, fresh_in, fresh_since, due_since}
use Rattle.cc_record.specs.Recording.{due, wrote, fresh}
use Rattle.cc_record.specs.Steps.{Adds, after_read, call, read, read_fresh}
use Rattle.cc_record.proofs.SlotLaws.{due_cond, wrote_cond, fresh_cond, due_read, fresh_read}

-- the cells of a state
abbrev pub Slots : Type 0
Slots = Cell → Option Slot

-- ---- a cell is read

cond_same : {X : Type 0} (b : Bool) (x : X) → x ≡ cond b x x
cond_same true x = refl
cond_same false x = refl

due_after : (s : Option Slot) (component n : ℕ) → component < 64 → due (after_read component s) n ≡ cond (nat_eq component n) None (due s n)
due_after (Some s) component n few = due_read s component n few
due_after None component n few = cond_same (nat_eq component n) None

wrote_after : (s : Option Slot) (component : ℕ) → wrote (after_read component s) ≡ wrote s
wrote_after (Some s) component = refl
wrote_after None component = refl

fresh_after : (s : Option Slot) (component : ℕ) → fresh (after_read component s) ≡ None
fresh_after (Some s) component = fresh_read s component
fresh_after None component = refl

module _ (old new : Slots) (x : Cell) (component : ℕ) (few : component < 64) (h : (c : Cell) → new c ≡ cond (same_cell x c) (after_read component (old x)) (old c)) where
  pub read_due : (c : Cell) (n : ℕ) → due (new c) n ≡ cond (cond (nat_eq component n) (same_cell x c) false) None (due (old c) n)
  read_due c n = ap (λ s. due s n) (h c) ∙ (due_cond (same_cell x c) (after_read component (old x)) (old c) n ∙ by (same_cell x c) refl)
    where
      flat : (b : Bool) → due (old c) n ≡ cond (cond b false false) None (due (old c) n)
      flat true = refl
      flat false = refl

      by : (b : Bool) → same_cell x c ≡ b → cond b (due (after_read component (old x)) n) (due (old c) n) ≡ cond (cond (nat_eq component n) b false) None (due (old c) n)
      by true e = ap (λ c. due (after_read component (old c)) n) (same_is x c e) ∙ (due_after (old c) component n few ∙ side (nat_eq component n))
        where
          side : (b : Bool) → cond b None (due (old c) n) ≡ cond (cond b true false) None (due (old c) n)
          side true = refl
          side false = refl
      by false e = flat (nat_eq component n)

  pub read_wrote : (c : Cell) → wrote (new c) ≡ wrote (old c)
  read_wrote c = ap wrote (h c) ∙ (wrote_cond (same_cell x c) (after_read component (old x)) (old c) ∙ by (same_cell x c) refl)
    where
      by : (b : Bool) → same_cell x c ≡ b → cond b (wrote (after_read component (old x))) (wrote (old c)) ≡ wrote (old c)
      by true e = wrote_after (old x) component ∙ ap (λ c. wrote (old c)) (same_is x c e)
      by false e = refl

  pub read_fresh_cell : (c : Cell) → fresh (new c) ≡ cond (same_cell x c) None (fresh (old c))
  read_fresh_cell c = ap fresh (h c) ∙ (fresh_cond (same_cell x c) (after_read component (old x)) (old c) ∙ ap (λ s. cond (same_cell x c) s (fresh (old c))) (fresh_after (old x) component))

-- ---- what an event gives

-- a set to which a coupling was added, if there was memory
pub added_some : {A E : Type 0} (r : Result A E) (given : Option Coupling) (c : Coupling) (old new : List Coupling) → given ≡ Some c
    → OnOk r ((q : Coupling) → Contains new q ↔ Contains old q ⊎ (q ≡ c)) → OnOk r (Adds given old new)
added_some (Ok x) given c old new is h = λ q. (
  λ w. ⊎_elim (λ o. inl o) (λ e. inr (is ∙ ap Some (sym e))) ((h q).0 w),
  λ w. (h q).1 (⊎_elim (λ o. inl o) (λ e. inr (let z : Some c ≡ Some q = sym is ∙ e in cc)) w),
)
added_some (Err x) given c old new is h = tt

-- a coupling is given by one of the four ways exactly where it is the one that the event gives
abbrev pub GivesOne : Roles → Kept → Event → Option Coupling → Type 0
GivesOne R k e given = (q : Coupling) → GivesNow R k e q ↔ (given ≡ Some q)

pub adds_now : (R : Roles) (k : Kept) (e : Event) (given : Option Coupling) (old new : List Coupling) → GivesOne R k e given → Adds given old new
    → (q : Coupling) → Contains new q ↔ Contains old q ⊎ GivesNow R k e q
adds_now R k e given old new one adds q = (
  λ h. ⊎_elim (λ x. inl x) (λ x. inr ((one q).1 x)) ((adds q).0 h),
  λ h. (adds q).1 (⊎_elim (λ x. inl x) (λ x. inr ((one q).0 x)) h),
)

never : {P : Type 0} {q : Coupling} → None ≡ Some q → P
never h = absurd (let z = h in cc)

pub gives_none : (R : Roles) (k : Kept) (e : Event) → ((q : Coupling) → GivesNow R k e q → ⊥) → GivesOne R k e None
gives_none R k e none q = (λ h. absurd (none q h), λ h. never h)

pub none_ask : (R : Roles) (k : Kept) (s : ℕ) (g : FuncId) (a : ℕ) → (q : Coupling) → GivesNow R k (Ask s g a) q → ⊥
none_ask R k s g a (Call t f) h = never h
none_ask R k s g a (Shared d u x) h = never h
none_ask R k s g a (Parameter d t i f u) h = never h
none_ask R k s g a (Return d t f) h = never h

-- an answer of one kind is none of another
apart_call : (R : Roles) (b : Bool) (s : ℕ) (g : FuncId) (q : Coupling) → ((t : ℕ) (f : FuncId) → q ≢ Call t f) → cond b None (Some (Call s g)) ≡ Some q → ⊥
apart_call R true s g q ne h = never h
apart_call R false s g q ne h = ne s g (let z = h in cc)

pub gives_enter : (R : Roles) (k : Kept) (site : Option ℕ) (g : FuncId) (a : ℕ) → GivesOne R k (Enter site g a) (call R site g)
gives_enter R k (Some s) g a (Call t f) = (λ h. h, λ h. h)
gives_enter R k (Some s) g a (Shared d u x) = (λ h. never h, λ h. absurd (apart_call R (nat_eq (R.component s) (R.home g)) s g (Shared d u x) (λ t f e. absurd (let z = e in cc)) h))
gives_enter R k (Some s) g a (Parameter d t i f u) = (λ h. never h, λ h. absurd (apart_call R (nat_eq (R.component s) (R.home g)) s g (Parameter d t i f u) (λ t f e. absurd (let z = e in cc)) h))
gives_enter R k (Some s) g a (Return d t f) = (λ h. never h, λ h. absurd (apart_call R (nat_eq (R.component s) (R.home g)) s g (Return d t f) (λ t f e. absurd (let z = e in cc)) h))
gives_enter R k None g a (Call t f) = (λ h. h, λ h. h)
gives_enter R k None g a (Shared d u x) = (λ h. never h, λ h. never h)
gives_enter R k None g a (Parameter d t i f u) = (λ h. never h, λ h. never h)
gives_enter R k None g a (Return d t f) = (λ h. never h, λ h. never h)

-- what a read of a cell gives is a shared or a parameter coupling
is_shared : (R : Roles) (u x : ℕ) (d : Option ℕ) (q : Coupling) → ((d u x : ℕ) → q ≢ Shared d u x) → shared_now R u x d ≡ Some q → ⊥
is_shared R u x None q ne h = never h
is_shared R u x (Some d) q ne h = by (nat_eq (R.component d) (R.component u)) h
  where
    by : (b : Bool) → cond b None (Some (Shared d u x)) ≡ Some q → ⊥
    by true h = never h
    by false h = ne d u x (let z = h in cc)

is_parameter : (R : Roles) (u : ℕ) (p : Passed) (o : Option Entry) (q : Coupling) → ((d s k : ℕ) (g : FuncId) (u : ℕ) → q ≢ Parameter d s k g u) → param_at R u p o ≡ Some q → ⊥
is_parameter R u p None q ne h = never h
is_parameter R u p (Some e) q ne h = by (nat_eq e.site p.site) h
  where
    made : (d : Option ℕ) → param p.site p.k e.callee u d ≡ Some q → ⊥
    made None h = never h
    made (Some d) h = ne d p.site p.k e.callee u (let z = h in cc)

    far : (b : Bool) → cond b None (param p.site p.k e.callee u p.definition) ≡ Some q → ⊥
    far true h = never h
    far false h = made p.definition h

    by : (b : Bool) → cond b (apart R (R.component p.site) (R.home e.callee) (param p.site p.k e.callee u p.definition)) None ≡ Some q → ⊥
    by true h = far (nat_eq (R.component p.site) (R.home e.callee)) h
    by false h = never h

-- what a slot answers is due or fresh
module _ (R : Roles) (u : ℕ) (c : Cell) where
  reads_slot : (s : Slot) (q : Coupling) → ((shared_now R u c.object (due_in s (R.component u)) ≡ Some q) ⊎ (param_now R u (fresh_in s) ≡ Some q)) ↔ (read_fresh R u c s (fresh_in s) ≡ Some q)
  reads_slot s q = by s.since
    where
      by : (x : Since) → ((shared_now R u c.object (due_since x s.wrote (R.component u)) ≡ Some q) ⊎ (param_now R u (fresh_since x) ≡ Some q))
          ↔ (read_fresh R u c (record s { since = x }) (fresh_since x) ≡ Some q)
      by (since.Read readers) = (λ h. ⊎_elim (λ x. x) (λ x. never x) h, λ h. inl h)
      by (since.Passed p) = (λ h. ⊎_elim (λ x. never x) (λ x. x) h, λ h. inr h)
      by since.Touched = (λ h. ⊎_elim (λ x. x) (λ x. never x) h, λ h. inl h)

  -- the two ways of a read
  abbrev pub ByRead : Option Slot → Coupling → Type 0
  ByRead s q = (shared_now R u c.object (due s (R.component u)) ≡ Some q) ⊎ (param_now R u (fresh s) ≡ Some q)

  pub reads_one : (s : Option Slot) (q : Coupling) → ByRead s q ↔ (read R u c s ≡ Some q)
  reads_one (Some s) q = reads_slot s q
  reads_one None q = (λ h. ⊎_elim (λ x. never x) (λ x. never x) h, λ h. never h)

is_fresh : (R : Roles) (u : ℕ) (p : Option Passed) (q : Coupling) → ((d s k : ℕ) (g : FuncId) (u : ℕ) → q ≢ Parameter d s k g u) → param_now R u p ≡ Some q → ⊥
is_fresh R u None q ne h = never h
is_fresh R u (Some p) q ne h = is_parameter R u p p.entry q ne h

pub gives_use : (R : Roles) (k : Kept) (u : ℕ) (c : Cell) (a : ℕ) (s : Option Slot) → k.due c (R.component u) ≡ due s (R.component u) → k.fresh c ≡ fresh s
    → GivesOne R k (Use u c a) (read R u c s)
gives_use R k u c a s d f (Shared e v x) =
    let w = reads_one R u c s (Shared e v x) in (
      λ h. w.0 (inl (ap (shared_now R u c.object) (sym d) ∙ h)),
      λ h. ⊎_elim (λ y. ap (shared_now R u c.object) d ∙ y) (λ y. absurd (is_fresh R u (fresh s) (Shared e v x) (λ e t i g u w. absurd (let z = w in cc)) y)) (w.1 h),
    )
gives_use R k u c a s d f (Parameter e t i g v) =
    let w = reads_one R u c s (Parameter e t i g v) in (
      λ h. w.0 (inr (ap (param_now R u) (sym f) ∙ h)),
      λ h. ⊎_elim (λ y. absurd (is_shared R u c.object (due s (R.component u)) (Parameter e t i g v) (λ e u x w. absurd (let z = w in cc)) y)) (λ y. ap (param_now R u) f ∙ y) (w.1 h),
    )
gives_use R k u c a s d f (Call t g) =
    let w = reads_one R u c s (Call t g) in (
      λ h. never h,
      λ h. absurd (⊎_elim (λ y. is_shared R u c.object (due s (R.component u)) (Call t g) (λ e u x w. absurd (let z = w in cc)) y) (λ y. is_fresh R u (fresh s) (Call t g) (λ e t i g u w. absurd (let z = w in cc)) y) (w.1 h)),
    )
gives_use R k u c a s d f (Return e t g) =
    let w = reads_one R u c s (Return e t g) in (
      λ h. never h,
      λ h. absurd (⊎_elim (λ y. is_shared R u c.object (due s (R.component u)) (Return e t g) (λ e u x w. absurd (let z = w in cc)) y) (λ y. is_fresh R u (fresh s) (Return e t g) (λ e t i g u w. absurd (let z = w in cc)) y) (w.1 h)),
    )

is_return : (R : Roles) (d : Option ℕ) (o : Option Entry) (q : Coupling) → ((d s : ℕ) (g : FuncId) → q ≢ Return d s g) → return_now R d o ≡ Some q → ⊥
is_return R d None q ne h = never h
is_return R d (Some e) q ne h = by (nat_eq (R.component e.site) (R.home e.callee)) h
  where
    made : (d : Option ℕ) → returns e.site e.callee d ≡ Some q → ⊥
    made None h = never h
    made (Some d) h = ne d e.site e.callee (let z = h in cc)

    used : (b : Bool) → cond b (returns e.site e.callee d) None ≡ Some q → ⊥
    used true h = made d h
    used false h = never h

    by : (b : Bool) → cond b None (cond (R.is_used e.site) (returns e.site e.callee d) None) ≡ Some q → ⊥
    by true h = never h
    by false h = used (R.is_used e.site) h

pub gives_leave : (R : Roles) (k : Kept) (r a : ℕ) → GivesOne R k (Leave (Some r) a) (return_now R (named_by r (k.read a) (R.returned r)) (k.entry a))
gives_leave R k r a (Return d t g) = (λ h. h, λ h. h)
gives_leave R k r a (Call t g) = (λ h. never h, λ h. absurd (is_return R (named_by r (k.read a) (R.returned r)) (k.entry a) (Call t g) (λ d s g e. absurd (let z = e in cc)) h))
gives_leave R k r a (Shared d u x) = (λ h. never h, λ h. absurd (is_return R (named_by r (k.read a) (R.returned r)) (k.entry a) (Shared d u x) (λ d s g e. absurd (let z = e in cc)) h))
gives_leave R k r a (Parameter d t i g u) = (λ h. never h, λ h. absurd (is_return R (named_by r (k.read a) (R.returned r)) (k.entry a) (Parameter d t i g u) (λ d s g e. absurd (let z = e in cc)) h))

pub none_leave : (R : Roles) (k : Kept) (a : ℕ) → (q : Coupling) → GivesNow R k (Leave None a) q → ⊥
none_leave R k a (Call t g) h = never h
none_leave R k a (Shared d u x) h = never h
none_leave R k a (Parameter d t i g u) h = never h
none_leave R k a (Return d t g) h = never h
