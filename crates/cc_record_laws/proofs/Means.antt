-- What is kept after a list is what the list's last events say.
use Rattle.std.proofs.Common.{◌≡◌, ℕ, List, [], ◌∷◌, ◌++◌, Option, Some, None, Bool, true, false, refl, sym, ap, ◌∙◌, take}
use Rattle.std.specs.Prelude.{cond, nat_eq}
use Rattle.cc_meaning.specs.declared.event.Cell.{Cell}
use Rattle.cc_meaning.specs.declared.event.Event.{Event}
use Rattle.cc_meaning.specs.declared.event.Event.TheVariants.{Enter, Pass, Def, Use, Leave, Gone, Ask}
use Rattle.cc_program.specs.declared.function.FuncId.{FuncId}
use Rattle.cc_record_laws.specs.Roles.{Roles}
use Rattle.cc_record_laws.specs.Past.{last_of, blocks, touches, writes, reads, enters, caller, written}
use Rattle.cc_record_laws.specs.Gives.{of_use, shared_by, shared_of, written_by, read_at, read_by, read_of, caller_read, passed_by, argument_by, apart, param, returned_by, entered, entered_by, formal_of, formal_by, of_formal, left_to, left_by, of_leave}
use Rattle.cc_record_laws.specs.Kept.{Kept, Entry, Passed, start, after, defines, entry_of, passed_of, now_read, top, top_read, named_by, argument_now, passing_by, stack_on, shared_now, param_at, param_now, return_now, use_now, formal_now, leave_now}
use Rattle.cc_record_laws.proofs.Exact.{eqb_is}
use Rattle.cc_record_laws.proofs.Follow.{see, see_on}
use Rattle.cc_record_laws.proofs.Stack.{opens, opens_on, caller_is}

module _ (R : Roles) where
  abbrev pub entry_in : List Event → ℕ → Option Entry
  entry_in E a = see (λ past. entry_of) None E (last_of (enters a) E)

  -- the definition of an argument, before the call
  abbrev pub passing_at : List Event → ℕ → Event → Option ℕ
  passing_at past n (Enter (Some s) g a) = argument_by R past (R.argument s n)
  passing_at past n (Enter None g a) = None
  passing_at past n (Pass s i x a) = None
  passing_at past n (Def o x a) = None
  passing_at past n (Use o x a) = None
  passing_at past n (Leave r a) = None
  passing_at past n (Gone i) = None
  passing_at past n (Ask t' g' a') = None

  abbrev pub passing_in : List Event → ℕ → ℕ → Option ℕ
  passing_in E a n = see (λ past y. passing_at past n y) None E (last_of (enters a) E)

  -- how a `Pass` passes its cell
  abbrev pub passed_at : List Event → Event → Option Passed
  passed_at past (Pass s n x a) = Some (record { site = s; k = n; entry = entry_in past a; definition = passing_in past a n })
  passed_at past (Enter s g a) = None
  passed_at past (Def o x a) = None
  passed_at past (Use o x a) = None
  passed_at past (Leave r a) = None
  passed_at past (Gone n) = None
  passed_at past (Ask t' g' a') = None

  pub record Means (E : List Event) (k : Kept) : Type 0 where
    pub due : (c : Cell) (n : ℕ) → k.due c n ≡ see (λ past. defines) None E (last_of (blocks R c n) E)
    pub wrote : (c : Cell) → k.wrote c ≡ see (λ past. written R) None E (last_of (writes c) E)
    pub fresh : (c : Cell) → k.fresh c ≡ see passed_at None E (last_of (touches c) E)
    pub read : (a u : ℕ) → k.read a u ≡ see (read_at R) None E (last_of (reads u a) E)
    pub entry : (a : ℕ) → k.entry a ≡ entry_in E a
    pub passing : (a n : ℕ) → k.passing a n ≡ passing_in E a n
    pub stack : k.stack ≡ opens E

  pub start_means : Means [] start
  start_means = record {
    due = λ c n. refl;
    wrote = λ c. refl;
    fresh = λ c. refl;
    read = λ a u. refl;
    entry = λ a. refl;
    passing = λ a n. refl;
    stack = refl;
  }

  cond_is : {X : Type 0} (b : Bool) (x x' y y' : X) → x ≡ x' → y ≡ y' → cond b x y ≡ cond b x' y'
  cond_is b x x' y y' p q = ap (λ z. cond b z y) p ∙ ap (λ z. cond b x' z) q

  written_is : (E : List Event) (r : Option (ℕ × Event)) → see (λ past. written R) None E r ≡ written_by R r
  written_is E None = refl
  written_is E (Some p) = refl

  read_is : (E : List Event) (r : Option (ℕ × Event)) → see (read_at R) None E r ≡ read_by R E r
  read_is E None = refl
  read_is E (Some p) = refl

  module _ (E : List Event) (k : Kept) (m : Means E k) where
    reads_of : (a u : ℕ) → k.read a u ≡ read_of R E a u
    reads_of a u = m.read a u ∙ read_is E (last_of (reads u a) E)

    now_is : (e : Event) → now_read k e ≡ read_at R E e
    now_is (Use o c a) = m.wrote c ∙ written_is E (last_of (writes c) E)
    now_is (Enter s g a) = refl
    now_is (Def o c a) = refl
    now_is (Pass s n c a) = refl
    now_is (Leave r a) = refl
    now_is (Gone n) = refl
    now_is (Ask t' g' a') = refl

    top_is : (u : ℕ) (o : Option ℕ) → top_read k u o ≡ caller_read R E u o
    top_is u None = refl
    top_is u (Some a) = reads_of a u

    passes : (arg : ℕ) (o : Option ℕ) → named_by arg (λ u. top_read k u (top k.stack)) o ≡ passed_by R E arg o
    passes arg None = refl
    passes arg (Some u) = ap (λ ids. top_read k u (top ids)) m.stack ∙ ap (top_read k u) (caller_is E) ∙ top_is u (caller E)

    argument_is : (o : Option ℕ) → argument_now R k o ≡ argument_by R E o
    argument_is None = refl
    argument_is (Some arg) = passes arg (R.named arg)

    passing_is : (n : ℕ) (e : Event) → passing_by R k n e ≡ passing_at E n e
    passing_is n (Enter (Some s) g a) = argument_is (R.argument s n)
    passing_is n (Enter None g a) = refl
    passing_is n (Def o c a) = refl
    passing_is n (Pass s i c a) = refl
    passing_is n (Use o c a) = refl
    passing_is n (Leave r a) = refl
    passing_is n (Gone i) = refl
    passing_is n (Ask t' g' a') = refl

    returned : (a ret : ℕ) (o : Option ℕ) → named_by ret (k.read a) o ≡ returned_by R E a ret o
    returned a ret None = refl
    returned a ret (Some u) = reads_of a u

    passed_is : (e : Event) → passed_of R k e ≡ passed_at E e
    passed_is (Pass s n c a) = ap (λ x. Some (record { site = s; k = n; entry = x; definition = k.passing a n })) (m.entry a) ∙ ap (λ x. Some (record { site = s; k = n; entry = entry_in E a; definition = x })) (m.passing a n)
    passed_is (Enter s g a) = refl
    passed_is (Def o c a) = refl
    passed_is (Use o c a) = refl
    passed_is (Leave r a) = refl
    passed_is (Gone n) = refl
    passed_is (Ask t' g' a') = refl

    -- one event more
    pub means_on : (e : Event) → Means (E ++ e ∷ []) (after R k e)
    means_on e = record {
      due = λ c n. cond_is (blocks R c n e) _ _ _ _ refl (m.due c n) ∙ sym (see_on (blocks R c n) (λ past. defines) None E e);
      wrote = λ c. cond_is (writes c e) _ _ _ _ refl (m.wrote c) ∙ sym (see_on (writes c) (λ past. written R) None E e);
      fresh = λ c. cond_is (touches c e) _ _ _ _ (passed_is e) (m.fresh c) ∙ sym (see_on (touches c) passed_at None E e);
      read = λ a u. cond_is (reads u a e) _ _ _ _ (now_is e) (m.read a u) ∙ sym (see_on (reads u a) (read_at R) None E e);
      entry = λ a. cond_is (enters a e) _ _ _ _ refl (m.entry a) ∙ sym (see_on (enters a) (λ past. entry_of) None E e);
      passing = λ a n. cond_is (enters a e) _ _ _ _ (passing_is n e) (m.passing a n) ∙ sym (see_on (enters a) (λ past y. passing_at past n y) None E e);
      stack = ap (λ ids. stack_on ids e) m.stack ∙ sym (opens_on E e);
    }

    shared_event : (u x : ℕ) (y : Event) → shared_now R u x (defines y) ≡ shared_of R u x y
    shared_event u x (Def o c a) = refl
    shared_event u x (Enter s g a) = refl
    shared_event u x (Use o c a) = refl
    shared_event u x (Pass s n c a) = refl
    shared_event u x (Leave r a) = refl
    shared_event u x (Gone n) = refl
    shared_event u x (Ask t' g' a') = refl

    shared_seen : (u x : ℕ) (r : Option (ℕ × Event)) → shared_now R u x (see (λ past. defines) None E r) ≡ shared_by R u x r
    shared_seen u x None = refl
    shared_seen u x (Some p) = shared_event u x p.1

    pub use_is : (e : Event) → use_now R k e ≡ of_use R E e
    use_is (Use u c a) = ap (shared_now R u c.object) (m.due c (R.component u)) ∙ shared_seen u c.object (last_of (blocks R c (R.component u)) E)
    use_is (Enter s g a) = refl
    use_is (Def o c a) = refl
    use_is (Pass s n c a) = refl
    use_is (Leave r a) = refl
    use_is (Gone n) = refl
    use_is (Ask t' g' a') = refl

    left_event : (a ret : ℕ) (y : Event) → return_now R (returned_by R E a ret (R.returned ret)) (entry_of y) ≡ left_to R E a ret y
    left_event a ret (Enter (Some s) g b) = refl
    left_event a ret (Enter None g b) = refl
    left_event a ret (Def o c b) = refl
    left_event a ret (Use o c b) = refl
    left_event a ret (Pass s n c b) = refl
    left_event a ret (Leave r b) = refl
    left_event a ret (Gone n) = refl
    left_event a ret (Ask t' g' a') = refl

    left_seen : (a ret : ℕ) (r : Option (ℕ × Event)) → return_now R (returned_by R E a ret (R.returned ret)) (see (λ past. entry_of) None E r) ≡ left_by R E a ret r
    left_seen a ret None = refl
    left_seen a ret (Some p) = left_event a ret p.1

    pub leave_is : (e : Event) → leave_now R k e ≡ of_leave R E e
    leave_is (Leave (Some ret) a) =
        ap (λ d. return_now R d (k.entry a)) (returned a ret (R.returned ret))
        ∙ ap (return_now R (returned_by R E a ret (R.returned ret))) (m.entry a)
        ∙ left_seen a ret (last_of (enters a) E)
    leave_is (Leave None a) = refl
    leave_is (Enter s g a) = refl
    leave_is (Def o c a) = refl
    leave_is (Use o c a) = refl
    leave_is (Pass s n c a) = refl
    leave_is (Gone n) = refl
    leave_is (Ask t' g' a') = refl

  module _ (u s n : ℕ) where
    entry_event : (past : List Event) (y : Event) → param_at R u (record { site = s; k = n; entry = entry_of y; definition = passing_at past n y }) (entry_of y) ≡ entered R past s n u y
    entry_event past (Enter (Some t) g a) = by (nat_eq t s) refl
      where
        by : (b : Bool) → nat_eq t s ≡ b → cond b (apart R (R.component s) (R.home g) (param s n g u (argument_by R past (R.argument t n)))) None ≡ cond b (apart R (R.component s) (R.home g) (param s n g u (argument_by R past (R.argument s n)))) None
        by true e = ap (λ t. apart R (R.component s) (R.home g) (param s n g u (argument_by R past (R.argument t n)))) (eqb_is t s e)
        by false e = refl
    entry_event past (Enter None g a) = refl
    entry_event past (Def o c b) = refl
    entry_event past (Use o c b) = refl
    entry_event past (Pass t i c b) = refl
    entry_event past (Leave r b) = refl
    entry_event past (Gone i) = refl
    entry_event past (Ask t' g' a') = refl

    entry_seen : (E : List Event) (r : Option (ℕ × Event)) → param_at R u (record { site = s; k = n; entry = see (λ past. entry_of) None E r; definition = see (λ past y. passing_at past n y) None E r }) (see (λ past. entry_of) None E r) ≡ entered_by R E s n u r
    entry_seen E None = refl
    entry_seen E (Some p) = entry_event (take p.0 E) p.1

  formal_event : (u : ℕ) (past : List Event) (y : Event) → param_now R u (passed_at past y) ≡ formal_of R past u y
  formal_event u past (Pass s n c a) = entry_seen u s n past (last_of (enters a) past)
  formal_event u past (Enter s g a) = refl
  formal_event u past (Def o c b) = refl
  formal_event u past (Use o c b) = refl
  formal_event u past (Leave r b) = refl
  formal_event u past (Gone i) = refl
  formal_event u past (Ask t' g' a') = refl

  formal_seen : (u : ℕ) (E : List Event) (r : Option (ℕ × Event)) → param_now R u (see passed_at None E r) ≡ formal_by R E u r
  formal_seen u E None = refl
  formal_seen u E (Some p) = formal_event u (take p.0 E) p.1

  pub formal_is : (E : List Event) (k : Kept) → Means E k → (e : Event) → formal_now R k e ≡ of_formal R E e
  formal_is E k m (Use u c a) = ap (param_now R u) (m.fresh c) ∙ formal_seen u E (last_of (touches c) E)
  formal_is E k m (Enter s g a) = refl
  formal_is E k m (Def o c a) = refl
  formal_is E k m (Pass s n c a) = refl
  formal_is E k m (Leave r a) = refl
  formal_is E k m (Gone n) = refl
  formal_is E k m (Ask t' g' a') = refl
