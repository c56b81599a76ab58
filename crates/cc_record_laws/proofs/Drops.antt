-- What is dropped is never asked for.
use Rattle.std.proofs.Common.{◌≡◌, ℕ, List, [], ◌∷◌, ◌++◌, inl, inr, ⊎_elim, Option, Some, None, Bool, true, false, refl, sym, ap, ◌∙◌}
use Rattle.std.specs.Prelude.{◌↔◌, cond, nat_eq}
use Rattle.cc_meaning.specs.declared.event.Cell.{Cell}
use Rattle.cc_meaning.specs.declared.event.Event.{Event}
use Rattle.cc_meaning.specs.declared.event.Event.TheVariants.{Enter, Pass, Def, Use, Leave, Gone, Ask}
use Rattle.cc_meaning.specs.declared.coupling.Coupling.{Coupling}
use Rattle.cc_meaning.specs.declared.coupling.Coupling.TheVariants.{Call, Shared, Parameter, Return}
use Rattle.cc_record_laws.specs.Roles.{Roles}
use Rattle.cc_record_laws.specs.Past.{leaves, blocks, writes, touches, reads, enters}
use Rattle.cc_record_laws.specs.Kept.{Kept, start, after, passed_of, now_read, top, top_read, named_by, argument_now, passing_by, without, stack_on, GivesNow, GivenFrom, use_now, formal_now, leave_now, shared_now, param_now, return_now}
use Rattle.cc_record_laws.specs.Orderly.{ends_cell, some_of, Lives, IsOrderlyAfter}
use Rattle.cc_record_laws.specs.Dropping.{live_after, RecordedFrom, LiveRecordsExactly}
use Rattle.cc_record_laws.proofs.Along.{records}

-- none of a longer list fits
pub none_on : (fits : Event → Bool) (E : List Event) (e : Event) → some_of fits (E ++ e ∷ []) ≡ false → (some_of fits E ≡ false) × (fits e ≡ false)
none_on fits [] e h = (refl, by (fits e) h)
  where
    by : (b : Bool) → cond b true false ≡ false → b ≡ false
    by true h = h
    by false h = refl
none_on fits (x ∷ E) e h = by (λ g. none_on fits E e g) (fits x) h
  where
    by : (some_of fits (E ++ e ∷ []) ≡ false → (some_of fits E ≡ false) × (fits e ≡ false)) → (b : Bool) → cond b true (some_of fits (E ++ e ∷ [])) ≡ false → (cond b true (some_of fits E) ≡ false) × (fits e ≡ false)
    by ih true h = absurd (let z = h in cc)
    by ih false h = ih h

pub none_more : (fits : Event → Bool) (E : List Event) (e : Event) → some_of fits E ≡ false → fits e ≡ false → some_of fits (E ++ e ∷ []) ≡ false
none_more fits [] e h f = ap (λ b. cond b true false) f
none_more fits (x ∷ E) e h f = by (fits x) h (λ g. none_more fits E e g f)
  where
    by : (b : Bool) → cond b true (some_of fits E) ≡ false → (some_of fits E ≡ false → some_of fits (E ++ e ∷ []) ≡ false) → cond b true (some_of fits (E ++ e ∷ [])) ≡ false
    by true h g = absurd (let z = h in cc)
    by false h g = g h

-- each of these activations has not been left
abbrev AllOpen : List Event → List ℕ → Type 0
AllOpen E [] = Unit {0}
AllOpen E (a ∷ ids) = (some_of (leaves a) E ≡ false) × AllOpen E ids

open_on : (E : List Event) (e : Event) (ids : List ℕ) → ((a : ℕ) → leaves a e ≡ false) → AllOpen E ids → AllOpen (E ++ e ∷ []) ids
open_on E e [] h o = tt
open_on E e (a ∷ ids) h o = (none_more (leaves a) E e o.0 (h a), open_on E e ids h o.1)

open_without : (E : List Event) (r : Option ℕ) (act : ℕ) (ids : List ℕ) → AllOpen E ids → AllOpen (E ++ Leave r act ∷ []) (without act ids)
open_without E r act [] o = tt
open_without E r act (a ∷ ids) o = by (nat_eq act a) refl (open_without E r act ids o.1)
  where
    by : (b : Bool) → nat_eq act a ≡ b → AllOpen (E ++ Leave r act ∷ []) (without act ids) → AllOpen (E ++ Leave r act ∷ []) (cond b (without act ids) (a ∷ without act ids))
    by true e ih = ih
    by false e ih = (none_more (leaves a) E (Leave r act) o.0 e, ih)

-- what is kept of what lives is the same
record Agrees (E : List Event) (k l : Kept) : Type 0 where
  due : (c : Cell) (n : ℕ) → some_of (ends_cell c) E ≡ false → l.due c n ≡ k.due c n
  wrote : (c : Cell) → some_of (ends_cell c) E ≡ false → l.wrote c ≡ k.wrote c
  fresh : (c : Cell) → some_of (ends_cell c) E ≡ false → l.fresh c ≡ k.fresh c
  read : (a u : ℕ) → some_of (leaves a) E ≡ false → l.read a u ≡ k.read a u
  entry : (a : ℕ) → some_of (leaves a) E ≡ false → l.entry a ≡ k.entry a
  passing : (a n : ℕ) → some_of (leaves a) E ≡ false → l.passing a n ≡ k.passing a n
  stack : l.stack ≡ k.stack
  opened : AllOpen E k.stack

kept_if : {X : Type 0} (b b' : Bool) (x y y' z : X) → b' ≡ false → y ≡ y' → cond b' z (cond b x y) ≡ cond b x y'
kept_if b b' x y y' z f e = ap (λ t. cond t z (cond b x y)) f ∙ ap (λ t. cond b x t) e

new_if : {X : Type 0} (b b' : Bool) (x x' y y' z : X) → b' ≡ false → x ≡ x' → y ≡ y' → cond b' z (cond b x y) ≡ cond b x' y'
new_if b b' x x' y y' z f d e = kept_if b b' x y y' z f e ∙ ap (λ t. cond b t y') d

module _ (R : Roles) (E : List Event) (k l : Kept) (g : Agrees E k l) where
  passed_same : (e : Event) → Lives E e → passed_of R l e ≡ passed_of R k e
  passed_same (Pass s n x a) h = ap (λ t. Some (record { site = s; k = n; entry = t; definition = l.passing a n })) (g.entry a h) ∙ ap (λ t. Some (record { site = s; k = n; entry = k.entry a; definition = t })) (g.passing a n h)
  passed_same (Enter s n a) h = refl
  passed_same (Def o x a) h = refl
  passed_same (Use o x a) h = refl
  passed_same (Leave r a) h = refl
  passed_same (Gone n) h = refl
  passed_same (Ask t' g' a') h = refl

  now_same : (e : Event) → Lives E e → now_read l e ≡ now_read k e
  now_same (Use o c a) h = g.wrote c h.0
  now_same (Pass s n x a) h = refl
  now_same (Enter s n a) h = refl
  now_same (Def o x a) h = refl
  now_same (Leave r a) h = refl
  now_same (Gone n) h = refl
  now_same (Ask t' g' a') h = refl

  top_same : (u : ℕ) (ids : List ℕ) → AllOpen E ids → top_read l u (top ids) ≡ top_read k u (top ids)
  top_same u [] o = refl
  top_same u (a ∷ ids) o = g.read a u o.0

  named_same : (arg : ℕ) (o : Option ℕ) → named_by arg (λ u. top_read l u (top l.stack)) o ≡ named_by arg (λ u. top_read k u (top k.stack)) o
  named_same arg None = refl
  named_same arg (Some u) = ap (λ ids. top_read l u (top ids)) g.stack ∙ top_same u k.stack g.opened

  argument_same : (o : Option ℕ) → argument_now R l o ≡ argument_now R k o
  argument_same None = refl
  argument_same (Some arg) = named_same arg (R.named arg)

  passing_same : (n : ℕ) (e : Event) → passing_by R l n e ≡ passing_by R k n e
  passing_same n (Enter (Some s) c a) = argument_same (R.argument s n)
  passing_same n (Enter None c a) = refl
  passing_same n (Pass s i x a) = refl
  passing_same n (Def o x a) = refl
  passing_same n (Use o x a) = refl
  passing_same n (Leave r a) = refl
  passing_same n (Gone i) = refl
  passing_same n (Ask t' g' a') = refl

  agrees_on : (e : Event) → Lives E e → AllOpen (E ++ e ∷ []) (stack_on k.stack e) → Agrees (E ++ e ∷ []) (after R k e) (live_after R l e)
  agrees_on e h o = record {
    due = λ c n f. let p = none_on (ends_cell c) E e f in kept_if (blocks R c n e) (ends_cell c e) _ _ _ _ p.1 (g.due c n p.0);
    wrote = λ c f. let p = none_on (ends_cell c) E e f in kept_if (writes c e) (ends_cell c e) _ _ _ _ p.1 (g.wrote c p.0);
    fresh = λ c f. let p = none_on (ends_cell c) E e f in new_if (touches c e) (ends_cell c e) _ _ _ _ _ p.1 (passed_same e h) (g.fresh c p.0);
    read = λ a u f. let p = none_on (leaves a) E e f in new_if (reads u a e) (leaves a e) _ _ _ _ _ p.1 (now_same e h) (g.read a u p.0);
    entry = λ a f. let p = none_on (leaves a) E e f in kept_if (enters a e) (leaves a e) _ _ _ _ p.1 (g.entry a p.0);
    passing = λ a n f. let p = none_on (leaves a) E e f in new_if (enters a e) (leaves a e) _ _ _ _ _ p.1 (passing_same n e) (g.passing a n p.0);
    stack = ap (λ ids. stack_on ids e) g.stack;
    opened = o;
  }

  opened_on : (e : Event) → Lives E e → AllOpen (E ++ e ∷ []) (stack_on k.stack e)
  opened_on (Enter s n a) h = (none_more (leaves a) E (Enter s n a) h.0 refl, open_on E (Enter s n a) k.stack (λ b. refl) g.opened)
  opened_on (Leave r a) h = open_without E r a k.stack g.opened
  opened_on (Pass s n x a) h = open_on E (Pass s n x a) k.stack (λ b. refl) g.opened
  opened_on (Def o x a) h = open_on E (Def o x a) k.stack (λ b. refl) g.opened
  opened_on (Use o x a) h = open_on E (Use o x a) k.stack (λ b. refl) g.opened
  opened_on (Gone n) h = open_on E (Gone n) k.stack (λ b. refl) g.opened
  opened_on (Ask t' g' a') h = open_on E (Ask t' g' a') k.stack (λ b. refl) g.opened

  use_same : (e : Event) → Lives E e → use_now R l e ≡ use_now R k e
  use_same (Use u c a) h = ap (shared_now R u c.object) (g.due c (R.component u) h.0)
  use_same (Pass s n x a) h = refl
  use_same (Enter s n a) h = refl
  use_same (Def o x a) h = refl
  use_same (Leave r a) h = refl
  use_same (Gone n) h = refl
  use_same (Ask t' g' a') h = refl

  formal_same : (e : Event) → Lives E e → formal_now R l e ≡ formal_now R k e
  formal_same (Use u c a) h = ap (param_now R u) (g.fresh c h.0)
  formal_same (Pass s n x a) h = refl
  formal_same (Enter s n a) h = refl
  formal_same (Def o x a) h = refl
  formal_same (Leave r a) h = refl
  formal_same (Gone n) h = refl
  formal_same (Ask t' g' a') h = refl

  returned_same : (a ret : ℕ) (o : Option ℕ) → some_of (leaves a) E ≡ false → named_by ret (l.read a) o ≡ named_by ret (k.read a) o
  returned_same a ret None h = refl
  returned_same a ret (Some u) h = g.read a u h

  leave_same : (e : Event) → Lives E e → leave_now R l e ≡ leave_now R k e
  leave_same (Leave (Some ret) a) h = ap (λ t. return_now R (named_by ret (l.read a) (R.returned ret)) t) (g.entry a h) ∙ ap (λ t. return_now R t (k.entry a)) (returned_same a ret (R.returned ret) h)
  leave_same (Leave None a) h = refl
  leave_same (Use u c a) h = refl
  leave_same (Pass s n x a) h = refl
  leave_same (Enter s n a) h = refl
  leave_same (Def o x a) h = refl
  leave_same (Gone n) h = refl
  leave_same (Ask t' g' a') h = refl

  gives_same : (e : Event) (q : Coupling) → Lives E e → GivesNow R k e q ↔ GivesNow R l e q
  gives_same e (Call s n) h = (λ x. x, λ x. x)
  gives_same e (Shared d u x) h = (λ w. use_same e h ∙ w, λ w. sym (use_same e h) ∙ w)
  gives_same e (Parameter d s n c u) h = (λ w. formal_same e h ∙ w, λ w. sym (formal_same e h) ∙ w)
  gives_same e (Return d s n) h = (λ w. leave_same e h ∙ w, λ w. sym (leave_same e h) ∙ w)

along : (R : Roles) (past E : List Event) (k l : Kept) → Agrees past k l → IsOrderlyAfter past E → (q : Coupling) → GivenFrom R k E q ↔ RecordedFrom R l E q
along R past [] k l g w q = (λ h. h, λ h. h)
along R past (e ∷ E) k l g w q =
    let now = gives_same R past k l g e q w.0 in
    let later = along R (past ++ e ∷ []) E (after R k e) (live_after R l e) (agrees_on R past k l g e w.0 (opened_on R past k l g e w.0)) w.1 q in
    (λ h. ⊎_elim (λ x. inl (now.0 x)) (λ x. inr (later.0 x)) h, λ h. ⊎_elim (λ x. inl (now.1 x)) (λ x. inr (later.1 x)) h)

start_agrees : Agrees [] start start
start_agrees = record {
  due = λ c n h. refl;
  wrote = λ c h. refl;
  fresh = λ c h. refl;
  read = λ a u h. refl;
  entry = λ a h. refl;
  passing = λ a n h. refl;
  stack = refl;
  opened = tt;
}

pub live_records : LiveRecordsExactly
live_records R E w q =
    let p = records R E q in
    let r = along R [] E start start start_agrees w q in
    (λ x. r.0 (p.0 x), λ x. p.1 (r.1 x))
