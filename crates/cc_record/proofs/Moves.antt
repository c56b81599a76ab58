-- What a recorder's methods do is what the law says.
use Rattle.std.proofs.Common.{◌≡◌, ℕ, List, [], ◌∷◌, ◌++◌, inl, ⊎_elim, Option, Some, None, Bool, true, false, refl, sym, ap, ◌∙◌, subst, cond, reverse, Result, Ok, Err, OnOk}
use Rattle.std.specs.Prelude.{nat_eq, ◌&&◌, ◌↔◌, Contains, OnErr}
use Rattle.cc_program.specs.declared.function.FuncId.{FuncId}
use Rattle.cc_program.specs.declared.program.Program.{Program}
use Rattle.cc_meaning.specs.declared.event.Cell.{Cell}
use Rattle.cc_meaning.specs.declared.event.Event.{Event}
use Rattle.cc_meaning.specs.declared.event.Event.TheVariants.{Enter, Use, Leave, Ask}
use Rattle.cc_meaning.specs.declared.coupling.Coupling.{Coupling}
use Rattle.cc_record_laws.specs.declared.kept.Entry.{Entry}
use Rattle.cc_record_laws.specs.Past.{same_cell}
use Rattle.cc_record_laws.specs.Kept.{without, entry_of, passing_by}
use Rattle.cc_record_laws.specs.Exercised.{Exercised}
use Rattle.cc_record_laws.specs.Orderly.{IsOrderly}
use Rattle.cc_record_laws.specs.Watching.{Asks, StandsFor, Distinct}
use Rattle.cc_record_laws.proofs.Steps.{watches}
use Rattle.cc_record_tables.specs.declared.slot.Slot.{Slot}
use Rattle.cc_record_tables.specs.Slots.{read_by}
use Rattle.cc_record_tables.specs.CellTable.{slot_of, has_place}
use Rattle.cc_record_tables.specs.declared.cells.Cells.{Cells}
use Rattle.cc_record_tables.specs.declared.activations.Activations.{Activations}
use Rattle.cc_record_tables.proofs.CellMap.{placed}
use Rattle.cc_record_tables.specs.Sets.{seen_in}
use Rattle.cc_record_tables.specs.ActivationTable as table
use Rattle.cc_record_tables.specs.ActivationTable.{answers_of, SameAnswers}
use Rattle.cc_record.specs.declared.recorder.Recorder.{Recorder}
use Rattle.cc_record.specs.Asked.{is_asked, Reads}
use Rattle.cc_record.specs.Roles.{roles_of}
use Rattle.cc_record.specs.Recording.{kept_of, program_of, roles, AreFew, Stands, Keeps, Does, due, wrote, fresh, entry_by, left, passing}
use Rattle.cc_record.specs.Steps as gives
use Rattle.cc_record.specs.Steps.{Adds, after_read}
use Rattle.cc_record.proofs.Enters.{passed_by, with_place, entry_at, passing_at, read_at}
use Rattle.cc_record.proofs.EventSteps.{GivesOne, adds_now, gives_none, none_ask, none_leave, gives_enter, gives_use, gives_leave, read_due, read_wrote, read_fresh_cell}

module _ (old new : Recorder) (keeps : Keeps old new) where
  -- a cell is read
  module _ (opens : new.opened.items ≡ old.opened.items) (o : ℕ) (x : Cell) (a : ℕ)
      (cells : (c : Cell) → slot_of new.cells c ≡ cond (same_cell x c) (after_read ((roles old).component o) (slot_of old.cells x)) (slot_of old.cells c))
      (reads : Reads old.asked.items a o (wrote (slot_of old.cells x)) (answers_of old.activations) (answers_of new.activations))
      (adds : Adds (gives.read (roles old) o x (slot_of old.cells x)) (seen_in old.seen) (seen_in new.seen)) where
    pub read_does : Does old new (Use o x a)
    read_does = record {
      keeps = keeps;
      steps = λ few once. record {
        next = record {
          due = λ c n. read_due (slot_of old.cells) (slot_of new.cells) x ((roles old).component o) (few o) cells c n;
          wrote = λ c. read_wrote (slot_of old.cells) (slot_of new.cells) x ((roles old).component o) (few o) cells c;
          fresh = λ c. read_fresh_cell (slot_of old.cells) (slot_of new.cells) x ((roles old).component o) (few o) cells c;
          read = reads.read;
          entry = reads.entry;
          passing = reads.passing;
          stack = ap reverse opens;
        };
        adds = adds_now (roles old) (kept_of old) (Use o x a) (gives.read (roles old) o x (slot_of old.cells x)) (seen_in old.seen) (seen_in new.seen)
            (gives_use (roles old) (kept_of old) o x a (slot_of old.cells x) refl refl) adds;
      };
    }

  -- an activation is entered or left
  module _ (cells : (c : Cell) → slot_of new.cells c ≡ slot_of old.cells c) where
    pub enter_does : (s : Option ℕ) (g : FuncId) (a : ℕ) → reverse new.opened.items ≡ a ∷ reverse old.opened.items
        → ((b : ℕ) → (answers_of new.activations).entry b ≡ cond (nat_eq a b) (entry_by s g) ((answers_of old.activations).entry b))
        → ((b n : ℕ) → (answers_of new.activations).passing b n ≡ cond (nat_eq a b) (passing_by (roles old) (kept_of old) n (Enter s g a)) ((answers_of old.activations).passing b n))
        → ((b u : ℕ) → (answers_of new.activations).read b u ≡ (answers_of old.activations).read b u)
        → Adds (gives.call (roles old) s g) (seen_in old.seen) (seen_in new.seen) → Does old new (Enter s g a)
    enter_does s g a opens entry passing read adds = record {
      keeps = keeps;
      steps = λ few once. record {
        next = record {
          due = λ c m. ap (λ s. due s m) (cells c);
          wrote = λ c. ap wrote (cells c);
          fresh = λ c. ap fresh (cells c);
          read = λ b u i. read b u;
          entry = λ b. entry b ∙ by s b;
          passing = passing;
          stack = opens;
        };
        adds = adds_now (roles old) (kept_of old) (Enter s g a) (gives.call (roles old) s g) (seen_in old.seen) (seen_in new.seen) (gives_enter (roles old) (kept_of old) s g a) adds;
      };
    }
      where
        by : (s : Option ℕ) (b : ℕ) → cond (nat_eq a b) (entry_by s g) ((answers_of old.activations).entry b) ≡ cond (nat_eq a b) (entry_of (Enter s g a)) ((answers_of old.activations).entry b)
        by (Some s) b = refl
        by None b = refl

    leave_one : (r : Option ℕ) (a : ℕ) → GivesOne (roles old) (kept_of old) (Leave r a) (left old r a)
    leave_one (Some r) a = gives_leave (roles old) (kept_of old) r a
    leave_one None a = gives_none (roles old) (kept_of old) (Leave None a) (none_leave (roles old) (kept_of old) a)

    pub leave_does : (r : Option ℕ) (a : ℕ) → (Distinct (reverse old.opened.items) → reverse new.opened.items ≡ without a (reverse old.opened.items))
        → SameAnswers (table.without a (answers_of old.activations)) (answers_of new.activations)
        → Adds (left old r a) (seen_in old.seen) (seen_in new.seen) → Does old new (Leave r a)
    leave_does r a opens acts adds = record {
      keeps = keeps;
      steps = λ few once. record {
        next = record {
          due = λ c m. ap (λ s. due s m) (cells c);
          wrote = λ c. ap wrote (cells c);
          fresh = λ c. ap fresh (cells c);
          read = λ b u i. acts.read b u;
          entry = λ b. acts.entry b;
          passing = λ b m. acts.passing b m;
          stack = opens once;
        };
        adds = adds_now (roles old) (kept_of old) (Leave r a) (left old r a) (seen_in old.seen) (seen_in new.seen) (leave_one r a) adds;
      };
    }

-- ---- what a recorder stands for

-- after the event it stands for the list with the event
pub stands_more : (P : Program) (old new : Recorder) (e : Event) (told : List Event) → Does old new e → Stands P old told → Stands P new (told ++ e ∷ [])
stands_more P old new e told d s = record {
  program = d.keeps.program ∙ s.program;
  asks = asks';
  stands = λ few orderly.
      let few' : AreFew (roles old) = subst (λ (p : Program). AreFew (roles_of p)) d.keeps.program few in
      let before = watches.front told e orderly in
      let for = s.stands few' before in
      let once : Distinct (reverse old.opened.items) = subst Distinct (sym for.same.stack) (watches.once (roles old) told before) in
      let more = watches.more (roles old) (is_asked old.asked.items) s.asks (kept_of old) (kept_of new) (seen_in old.seen) (seen_in new.seen) e (d.steps few' once) told for in
      subst (λ (p : Program). StandsFor (roles_of p) (is_asked new.asked.items) (kept_of new) (seen_in new.seen) (told ++ e ∷ [])) (sym d.keeps.program)
      (subst (λ (l : List Bool). StandsFor (roles old) (is_asked l) (kept_of new) (seen_in new.seen) (told ++ e ∷ [])) (sym d.keeps.asked) more);
}
  where
    asks' : Asks (roles new) (is_asked new.asked.items)
    asks' = subst (λ (p : Program). Asks (roles_of p) (is_asked new.asked.items)) (sym d.keeps.program) (subst (λ (l : List Bool). Asks (roles old) (is_asked l)) (sym d.keeps.asked) s.asks)

-- its set is what the list exercises
pub seen_is : (P : Program) (r : Recorder) (told : List Event) → Stands P r told → AreFew (roles_of P) → IsOrderly told → (q : Coupling) → Contains (seen_in r.seen) q ↔ Exercised (roles_of P) told q
seen_is P r told s few orderly q =
    let few' : AreFew (roles r) = subst (λ (p : Program). AreFew (roles_of p)) (sym s.program) few in
    subst (λ (p : Program). Contains (seen_in r.seen) q ↔ Exercised (roles_of p) told q) s.program
    (watches.has (roles r) (is_asked r.asked.items) (kept_of r) (seen_in r.seen) told (s.stands few' orderly) orderly q)

-- the event as the code has it
pub told_now : (old new : Recorder) (e e' : Event) → e' ≡ e → Does old new e → (P : Program) (told : List Event) → Stands P old told → Stands P new (told ++ e' ∷ [])
told_now old new e e' is d P told s = subst (λ (e : Event). Stands P new (told ++ e ∷ [])) (sym is) (stands_more P old new e told d s)

-- the same where there was memory
pub told_by : {A E : Type 0} (r : Result A E) (old new : Recorder) (e e' : Event) → e' ≡ e → OnOk r (Does old new e)
    → OnOk r ((P : Program) (told : List Event) → Stands P old told → Stands P new (told ++ e' ∷ []))
told_by (Ok x) old new e e' is d = told_now old new e e' is d
told_by (Err x) old new e e' is d = tt

-- of its own program
own : (P : Program) (r : Recorder) (told : List Event) → Stands P r told → Stands (program_of r) r told
own P r told s = subst (λ (p : Program). Stands p r told) (sym s.program) s

pub own_told : {A E : Type 0} (r : Result A E) (old new : Recorder) (e : Event) → OnOk r ((P : Program) (told : List Event) → Stands P old told → Stands P new (told ++ e ∷ []))
    → OnOk r ((told : List Event) → Stands (program_of old) old told → Stands (program_of new) new (told ++ e ∷ []))
own_told (Ok x) old new e h = λ told s. own (program_of old) new (told ++ e ∷ []) (h (program_of old) told s)
own_told (Err x) old new e h = tt

pub own_still : {A E : Type 0} (r : Result A E) (old new : Recorder) → OnErr r ((P : Program) (told : List Event) → Stands P old told → Stands P new told)
    → OnErr r ((told : List Event) → Stands (program_of old) old told → Stands (program_of new) new told)
own_still (Ok x) old new h = tt
own_still (Err x) old new h = λ told s. own (program_of old) new told (h (program_of old) told s)

-- nothing changes where the environment is asked
pub asked_does : (r : Recorder) (s : ℕ) (g : FuncId) (a : ℕ) → Does r r (Ask s g a)
asked_does r s g a = record {
  keeps = record { program = refl; asked = refl };
  steps = λ few once. record {
    next = record {
      due = λ c n. refl;
      wrote = λ c. refl;
      fresh = λ c. refl;
      read = λ b u i. refl;
      entry = λ b. refl;
      passing = λ b n. refl;
      stack = refl;
    };
    adds = λ q. (λ h. inl h, λ h. ⊎_elim (λ x. x) (λ x. absurd (none_ask (roles r) (kept_of r) s g a q x)) h);
  };
}

-- ---- from what the code computes

-- an activation is entered
pub entered_does : (old new : Recorder) (mid : Activations) (s : Option ℕ) (g : FuncId) (a : ℕ) (entry : Option Entry) (list : List (Option ℕ)) (given : Option Coupling) → Keeps old new
    → ((c : Cell) → slot_of new.cells c ≡ slot_of old.cells c) → given ≡ gives.call (roles old) s g → entry ≡ entry_by s g → list ≡ passing old s → table.has_place mid a ≡ true
    → SameAnswers (answers_of old.activations) (answers_of mid) → SameAnswers (table.entered a entry list (table.has_place mid a) (answers_of mid)) (answers_of new.activations)
    → reverse new.opened.items ≡ a ∷ reverse old.opened.items → Adds given (seen_in old.seen) (seen_in new.seen) → Does old new (Enter s g a)
entered_does old new mid s g a entry list given keeps cells gave made listed room same turned opens adds =
    enter_does old new keeps cells s g a opens
    (λ b. entry_at old.activations mid new.activations a entry list room same turned b ∙ ap (λ e. cond (nat_eq a b) e ((answers_of old.activations).entry b)) made)
    (λ b n. passing_at old.activations mid new.activations a entry list room same turned b n
    ∙ ap (λ d. cond (nat_eq a b) d ((answers_of old.activations).passing b n)) (ap (λ l. table.passed l n) listed ∙ passed_by old s g a n))
    (read_at old.activations mid new.activations a entry list room same turned)
    (subst (λ (o : Option Coupling). Adds o (seen_in old.seen) (seen_in new.seen)) gave adds)

-- a cell is read
pub seen_does : (old new : Recorder) (mid : Activations) (o : ℕ) (x : Cell) (a : ℕ) (asked : List Bool) (slot : Option Slot) (component : ℕ) (definition : Option ℕ) (given : Option Coupling) → Keeps old new
    → new.opened.items ≡ old.opened.items → asked ≡ old.asked.items → slot ≡ slot_of old.cells x → component ≡ (roles old).component o → definition ≡ wrote slot → given ≡ gives.read (roles old) o x slot
    → ((c : Cell) → slot_of new.cells c ≡ cond (same_cell x c) (after_read component slot) (slot_of old.cells c)) → SameAnswers (answers_of old.activations) (answers_of mid)
    → Reads asked a o definition (answers_of mid) (answers_of new.activations) → Adds given (seen_in old.seen) (seen_in new.seen) → Does old new (Use o x a)
seen_does old new mid o x a asked slot component definition given keeps opens listed is home def gave cells same reads adds =
    read_does old new keeps opens o x a
    (λ c. cells c ∙ ap (λ s. cond (same_cell x c) s (slot_of old.cells c)) (ap (λ n. after_read n slot) home ∙ ap (after_read ((roles old).component o)) is))
    (record {
      entry = λ b. reads.entry b ∙ same.entry b;
      passing = λ b n. reads.passing b n ∙ same.passing b n;
      read = λ b u i.
          reads.read b u (ap (λ (l : List Bool). is_asked l u) listed ∙ i)
          ∙ (ap (λ r. cond (cond (nat_eq o u) (nat_eq a b) false) definition r) (same.read b u)
          ∙ ap (λ d. cond (cond (nat_eq o u) (nat_eq a b) false) d ((answers_of old.activations).read b u)) (def ∙ ap wrote is));
    })
    (subst (λ (o : Option Coupling). Adds o (seen_in old.seen) (seen_in new.seen)) (gave ∙ ap (gives.read (roles old) o x) is) adds)

-- an activation is left
pub left_does : (old new : Recorder) (r : Option ℕ) (a : ℕ) (given : Option Coupling) → Keeps old new → ((c : Cell) → slot_of new.cells c ≡ slot_of old.cells c) → given ≡ left old r a
    → (Distinct (reverse old.opened.items) → reverse new.opened.items ≡ without a (reverse old.opened.items))
    → SameAnswers (table.without a (answers_of old.activations)) (answers_of new.activations) → Adds given (seen_in old.seen) (seen_in new.seen) → Does old new (Leave r a)
left_does old new r a given keeps cells gave opens acts adds =
    leave_does old new keeps cells r a opens acts (subst (λ (o : Option Coupling). Adds o (seen_in old.seen) (seen_in new.seen)) gave adds)

-- the slot of a cell that was read
pub replaced : (old new : Cells) (x : Cell) (s t : Slot) (o : Option Slot) (component : ℕ) → o ≡ slot_of old x → o ≡ Some s → t ≡ read_by component s
    → ((c : Cell) → slot_of new c ≡ cond (same_cell x c && has_place old x) (Some t) (slot_of old c))
    → (c : Cell) → slot_of new c ≡ cond (same_cell x c) (after_read component o) (slot_of old c)
replaced old new x s t o component found is made h c =
    h c
    ∙ (with_place (same_cell x c) (has_place old x) (Some t) (slot_of old c) (slot_of old c) (placed old x s (sym found ∙ is)) refl
    ∙ ap (λ s. cond (same_cell x c) s (slot_of old c)) (ap Some made ∙ sym (ap (after_read component) is)))
