-- One event more, for a recorder.
use Rattle.std.proofs.Common.{◌≡◌, ℕ, List, [], ◌∷◌, ◌++◌, ◌⊎◌, inl, inr, ⊎_elim, Option, Some, None, Bool, true, refl, sym, ap, ◌∙◌, subst}
use Rattle.std.specs.Prelude.{◌↔◌, cond}
use Rattle.cc_meaning.specs.declared.event.Event.{Event}
use Rattle.cc_meaning.specs.declared.event.Event.TheVariants.{Enter, Pass, Def, Use, Leave, Gone, Ask}
use Rattle.cc_meaning.specs.declared.coupling.Coupling.{Coupling}
use Rattle.cc_meaning.specs.declared.coupling.Coupling.TheVariants.{Call, Shared, Parameter, Return}
use Rattle.cc_record_laws.specs.Roles.{Roles}
use Rattle.cc_record_laws.specs.Past.{leaves, blocks, writes, touches, reads, enters}
use Rattle.cc_record_laws.specs.Kept.{Kept, start, passed_of, now_read, top, top_read, named_by, argument_now, passing_by, stack_on, GivesNow, use_now, formal_now, leave_now, shared_now, param_now, return_now}
use Rattle.cc_record_laws.specs.Orderly.{ends_cell}
use Rattle.cc_record_laws.specs.Dropping.{live_after, RecordedFrom}
use Rattle.cc_record_laws.specs.Watching.{Asks, IsSame, live_all, StandsFor, Steps, Watching}
use Rattle.cc_record_laws.proofs.Drops.{live_records}
use Rattle.cc_record_laws.proofs.Once.{front_orderly, stack_once}

all_on : (R : Roles) (k : Kept) (told : List Event) (e : Event) → live_all R k (told ++ e ∷ []) ≡ live_after R (live_all R k told) e
all_on R k [] e = refl
all_on R k (x ∷ told) e = all_on R (live_after R k x) told e

recorded_on : (R : Roles) (k : Kept) (told : List Event) (e : Event) (q : Coupling) → RecordedFrom R k (told ++ e ∷ []) q ↔ RecordedFrom R k told q ⊎ GivesNow R (live_all R k told) e q
recorded_on R k [] e q = (λ h. ⊎_elim (λ x. inr x) (λ x. absurd x) h, λ h. ⊎_elim (λ x. absurd x) (λ x. inl x) h)
recorded_on R k (x ∷ told) e q =
    let ih = recorded_on R (live_after R k x) told e q in (
      λ h. ⊎_elim (λ y. inl (inl y)) (λ y. ⊎_elim (λ z. inl (inr z)) (λ z. inr z) (ih.0 y)) h,
      λ h. ⊎_elim (λ y. ⊎_elim (λ z. inl z) (λ z. inr (ih.1 (inl z))) y) (λ y. inr (ih.1 (inr y))) h,
    )

if_same : {X : Type 0} (b b' : Bool) (x x' y y' z : X) → x ≡ x' → y ≡ y' → cond b' z (cond b x y) ≡ cond b' z (cond b x' y')
if_same b b' x x' y y' z d e = ap (λ t. cond b' z (cond b t y)) d ∙ ap (λ t. cond b' z (cond b x' t)) e

module _ (R : Roles) (asked : ℕ → Bool) (A : Asks R asked) (k l : Kept) (g : IsSame asked k l) where
  passed_same : (e : Event) → passed_of R k e ≡ passed_of R l e
  passed_same (Pass s n x a) = ap (λ t. Some (record { site = s; k = n; entry = t; definition = k.passing a n })) (g.entry a) ∙ ap (λ t. Some (record { site = s; k = n; entry = l.entry a; definition = t })) (g.passing a n)
  passed_same (Enter s n a) = refl
  passed_same (Def o x a) = refl
  passed_same (Use o x a) = refl
  passed_same (Leave r a) = refl
  passed_same (Gone n) = refl
  passed_same (Ask t' g' a') = refl

  now_same : (e : Event) → now_read k e ≡ now_read l e
  now_same (Use o c a) = g.wrote c
  now_same (Pass s n x a) = refl
  now_same (Enter s n a) = refl
  now_same (Def o x a) = refl
  now_same (Leave r a) = refl
  now_same (Gone n) = refl
  now_same (Ask t' g' a') = refl

  top_same : (u : ℕ) → asked u ≡ true → (o : Option ℕ) → top_read k u o ≡ top_read l u o
  top_same u h None = refl
  top_same u h (Some a) = g.read a u h

  named_same : (arg : ℕ) (o : Option ℕ) → ((u : ℕ) → o ≡ Some u → asked u ≡ true) → named_by arg (λ u. top_read k u (top k.stack)) o ≡ named_by arg (λ u. top_read l u (top l.stack)) o
  named_same arg None h = refl
  named_same arg (Some u) h = ap (λ ids. top_read k u (top ids)) g.stack ∙ top_same u (h u refl) (top l.stack)

  argument_same : (o : Option ℕ) → ((arg u : ℕ) → o ≡ Some arg → R.named arg ≡ Some u → asked u ≡ true) → argument_now R k o ≡ argument_now R l o
  argument_same None h = refl
  argument_same (Some arg) h = named_same arg (R.named arg) (λ u. h arg u refl)

  passing_same : (n : ℕ) (e : Event) → passing_by R k n e ≡ passing_by R l n e
  passing_same n (Enter (Some s) c a) = argument_same (R.argument s n) (A.argument s n)
  passing_same n (Enter None c a) = refl
  passing_same n (Pass s i x a) = refl
  passing_same n (Def o x a) = refl
  passing_same n (Use o x a) = refl
  passing_same n (Leave r a) = refl
  passing_same n (Gone i) = refl
  passing_same n (Ask t' g' a') = refl

  same_on : (e : Event) → IsSame asked (live_after R k e) (live_after R l e)
  same_on e = record {
    due = λ c n. if_same (blocks R c n e) (ends_cell c e) _ _ _ _ _ refl (g.due c n);
    wrote = λ c. if_same (writes c e) (ends_cell c e) _ _ _ _ _ refl (g.wrote c);
    fresh = λ c. if_same (touches c e) (ends_cell c e) _ _ _ _ _ (passed_same e) (g.fresh c);
    read = λ a u h. if_same (reads u a e) (leaves a e) _ _ _ _ _ (now_same e) (g.read a u h);
    entry = λ a. if_same (enters a e) (leaves a e) _ _ _ _ _ refl (g.entry a);
    passing = λ a n. if_same (enters a e) (leaves a e) _ _ _ _ _ (passing_same n e) (g.passing a n);
    stack = ap (λ ids. stack_on ids e) g.stack;
  }

  use_same : (e : Event) → use_now R k e ≡ use_now R l e
  use_same (Use u c a) = ap (shared_now R u c.object) (g.due c (R.component u))
  use_same (Pass s n x a) = refl
  use_same (Enter s n a) = refl
  use_same (Def o x a) = refl
  use_same (Leave r a) = refl
  use_same (Gone n) = refl
  use_same (Ask t' g' a') = refl

  formal_same : (e : Event) → formal_now R k e ≡ formal_now R l e
  formal_same (Use u c a) = ap (param_now R u) (g.fresh c)
  formal_same (Pass s n x a) = refl
  formal_same (Enter s n a) = refl
  formal_same (Def o x a) = refl
  formal_same (Leave r a) = refl
  formal_same (Gone n) = refl
  formal_same (Ask t' g' a') = refl

  returned_same : (a ret : ℕ) (o : Option ℕ) → ((u : ℕ) → o ≡ Some u → asked u ≡ true) → named_by ret (k.read a) o ≡ named_by ret (l.read a) o
  returned_same a ret None h = refl
  returned_same a ret (Some u) h = g.read a u (h u refl)

  leave_same : (e : Event) → leave_now R k e ≡ leave_now R l e
  leave_same (Leave (Some ret) a) = ap (λ t. return_now R (named_by ret (k.read a) (R.returned ret)) t) (g.entry a) ∙ ap (λ t. return_now R t (l.entry a)) (returned_same a ret (R.returned ret) (A.returned ret))
  leave_same (Leave None a) = refl
  leave_same (Use u c a) = refl
  leave_same (Pass s n x a) = refl
  leave_same (Enter s n a) = refl
  leave_same (Def o x a) = refl
  leave_same (Gone n) = refl
  leave_same (Ask t' g' a') = refl

  gives_same : (e : Event) (q : Coupling) → GivesNow R k e q ↔ GivesNow R l e q
  gives_same e (Call s n) = (λ x. x, λ x. x)
  gives_same e (Shared d u x) = (λ w. sym (use_same e) ∙ w, λ w. use_same e ∙ w)
  gives_same e (Parameter d s n c u) = (λ w. sym (formal_same e) ∙ w, λ w. formal_same e ∙ w)
  gives_same e (Return d s n) = (λ w. sym (leave_same e) ∙ w, λ w. leave_same e ∙ w)

pub both_same : (asked : ℕ → Bool) (k l m : Kept) → IsSame asked k l → IsSame asked l m → IsSame asked k m
both_same asked k l m g h = record {
  due = λ c n. g.due c n ∙ h.due c n;
  wrote = λ c. g.wrote c ∙ h.wrote c;
  fresh = λ c. g.fresh c ∙ h.fresh c;
  read = λ a u i. g.read a u i ∙ h.read a u i;
  entry = λ a. g.entry a ∙ h.entry a;
  passing = λ a n. g.passing a n ∙ h.passing a n;
  stack = g.stack ∙ h.stack;
}

pub more_stands : (R : Roles) (asked : ℕ → Bool) → Asks R asked → (k k' : Kept) (seen seen' : List Coupling) (e : Event) → Steps R asked k seen k' seen' e → (told : List Event) → StandsFor R asked k seen told → StandsFor R asked k' seen' (told ++ e ∷ [])
more_stands R asked A k k' seen seen' e t told s = record {
  same = subst (IsSame asked k') (sym (all_on R start told e)) (both_same asked k' (live_after R k e) _ t.next (same_on R asked A k (live_all R start told) s.same e));
  exact = λ q.
      let r = recorded_on R start told e q in
      let g = gives_same R asked A k (live_all R start told) s.same e q in (
        λ h. r.1 (⊎_elim (λ x. inl ((s.exact q).0 x)) (λ x. inr (g.0 x)) ((t.adds q).0 h)),
        λ h. (t.adds q).1 (⊎_elim (λ x. inl ((s.exact q).1 x)) (λ x. inr (g.1 x)) (r.0 h)),
      );
}

pub watches : Watching
watches = record {
  more = more_stands;
  has = λ R asked k seen told s w q.
      let p = live_records R told w q in
      (λ h. p.1 ((s.exact q).0 h), λ h. (s.exact q).1 (p.0 h));
  front = front_orderly;
  once = stack_once;
}
