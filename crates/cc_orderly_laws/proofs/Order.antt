-- What holds of the events so far and of the state, and keeps their order.
use Rattle.std.proofs.Common.{◌≡◌, ℕ, ◌+◌, ◌<◌, ◌≤◌, List, [], ◌∷◌, ◌++◌, Option, Some, None, Bool, true, false, refl, sym, ap, ◌∙◌, subst, arith}
use Rattle.std.specs.Prelude.{cond, nat_eq, ◌==◌, slice_set}
use Rattle.std.proofs.lemmas.Bool.{ne_eqb}
use Rattle.cc_program.specs.declared.function.FuncId.{FuncId}
use Rattle.cc_meaning.specs.declared.end.Undef.{Undef}
use Rattle.cc_meaning.specs.declared.event.Cell.{Cell}
use Rattle.cc_meaning.specs.declared.event.Event.{Event}
use Rattle.cc_meaning.specs.declared.event.Event.TheVariants.{Enter, Pass, Def, Use, Leave, Gone, Ask}
use Rattle.cc_store.specs.declared.value.Pointer.{Pointer}
use Rattle.cc_store.specs.declared.value.Value.{Value}
use Rattle.cc_store.specs.Objects.{Object, Live, set_cell, put_unless, made, ended, last_object}
use Rattle.cc_store.specs.Stacks.{rest}
use Rattle.cc_acts.specs.declared.state.State.{State}
use Rattle.cc_acts.specs.Runs.{Run, Then, Goes, Stops, Cut, Part, go_on, events_of}
use Rattle.cc_acts.specs.Parts.{is_last}
use Rattle.cc_record_laws.specs.Past.{leaves, enters}
use Rattle.cc_record_laws.specs.Orderly.{ends_cell, some_of, Lives, IsOrderlyAfter}
use Rattle.cc_record_laws.proofs.Drops.{none_more}
use Rattle.cc_record_laws.proofs.Exact.{eqb_is}
use Rattle.cc_orderly_laws.proofs.Numbers.{Numbered, falls_more, numbered_on, one_more, one_less}

-- the object with the instance ends
abbrev pub ends : ℕ → Event → Bool
ends n e = ends_cell (record { object = 0; instance = n; index = 0 }) e

cell_ends : (c : Cell) (e : Event) → ends_cell c e ≡ ends c.instance e
cell_ends c (Enter s g a) = refl
cell_ends c (Pass s k x a) = refl
cell_ends c (Def o x a) = refl
cell_ends c (Use o x a) = refl
cell_ends c (Leave r a) = refl
cell_ends c (Gone n) = refl
cell_ends c (Ask s g a) = refl

-- a cell has ended where its object has
pub cell_ended : (c : Cell) (past : List Event) → some_of (ends_cell c) past ≡ some_of (ends c.instance) past
cell_ended c [] = refl
cell_ended c (e ∷ es) = ap (λ b. cond b true (some_of (ends_cell c) es)) (cell_ends c e) ∙ ap (cond (ends c.instance e) true) (cell_ended c es)

abbrev pub instances : List Object → List ℕ
instances [] = []
instances (o ∷ os) = o.instance ∷ instances os

-- After the events these activations are running, the last one first, and the objects of the store live. Activations are
-- entered and objects are made with numbers that were never seen before.
pub record Ordered (past : List Event) (acts : List ℕ) (next : ℕ) (store : Live) : Type 0 where
  pub entered : (a : ℕ) → next ≤ a → some_of (enters a) past ≡ false
  pub running : Numbered leaves past acts next
  pub living : Numbered ends past (instances store.objects) store.next

-- the same of a state
abbrev pub InOrder : List Event → List ℕ → State → Type 0
InOrder past acts s = Ordered past acts s.next_act s.store

-- before the first event, where only the static objects are initialised
pub nothing_yet : Ordered [] (0 ∷ []) 1 (record { objects = []; next = 0 })
nothing_yet = record {
  entered = λ a le. refl;
  running = record { falls = (omega arith, tt); held = (refl, tt); later = λ n le. refl };
  living = record { falls = tt; held = tt; later = λ n le. refl };
}

-- an activation that goes on without being told of
pub forgotten : (past : List Event) (a : ℕ) (acts : List ℕ) (next : ℕ) (store : Live) → Ordered past (a ∷ acts) next store → Ordered past acts next store
forgotten past a acts next store o =
    let lt : a < next = o.running.falls.0 in
    record {
      entered = o.entered;
      running = record { falls = falls_more acts a next (omega (arith, lt)) o.running.falls.1; held = o.running.held.1; later = o.running.later };
      living = o.living;
    }

module _ (past : List Event) (acts : List ℕ) (next : ℕ) where
  entered_on : (store : Live) (e : Event) → ((a : ℕ) → enters a e ≡ false) → Ordered past acts next store → (a : ℕ) → next ≤ a → some_of (enters a) (past ++ e ∷ []) ≡ false
  entered_on store e none o a le = none_more (enters a) past e (o.entered a le) (none a)

  -- an event that neither enters nor ends anything
  quiet_on : (store : Live) (e : Event) → ((a : ℕ) → enters a e ≡ false) → ((a : ℕ) → leaves a e ≡ false) → ((n : ℕ) → ends n e ≡ false) → Ordered past acts next store → Ordered (past ++ e ∷ []) acts next store
  quiet_on store e enter leave gone o = record {
    entered = entered_on store e enter o;
    running = numbered_on leaves past e acts next leave o.running;
    living = numbered_on ends past e (instances store.objects) store.next gone o.living;
  }

  pub def_on : (store : Live) (occ : ℕ) (c : Cell) (a : ℕ) → Ordered past acts next store → Ordered (past ++ Def occ c a ∷ []) acts next store
  def_on store occ c a o = quiet_on store (Def occ c a) (λ n. refl) (λ n. refl) (λ n. refl) o

  pub use_on : (store : Live) (occ : ℕ) (c : Cell) (a : ℕ) → Ordered past acts next store → Ordered (past ++ Use occ c a ∷ []) acts next store
  use_on store occ c a o = quiet_on store (Use occ c a) (λ n. refl) (λ n. refl) (λ n. refl) o

  pub pass_on : (store : Live) (s k : ℕ) (c : Cell) (a : ℕ) → Ordered past acts next store → Ordered (past ++ Pass s k c a ∷ []) acts next store
  pass_on store s k c a o = quiet_on store (Pass s k c a) (λ n. refl) (λ n. refl) (λ n. refl) o

  pub ask_on : (store : Live) (s : ℕ) (g : FuncId) (a : ℕ) → Ordered past acts next store → Ordered (past ++ Ask s g a ∷ []) acts next store
  ask_on store s g a o = quiet_on store (Ask s g a) (λ n. refl) (λ n. refl) (λ n. refl) o

  -- the next activation is entered
  pub enter_on : (store : Live) (s : Option ℕ) (g : FuncId) → Ordered past acts next store → Ordered (past ++ Enter s g next ∷ []) (next ∷ acts) (next + 1) store
  enter_on store s g o = record {
    entered = λ a le. none_more (enters a) past (Enter s g next) (o.entered a (omega (arith, le))) (ne_eqb next a (λ same. omega (arith, le, same)));
    running = one_more leaves (past ++ Enter s g next ∷ []) acts next (numbered_on leaves past (Enter s g next) acts next (λ n. refl) o.running);
    living = numbered_on ends past (Enter s g next) (instances store.objects) store.next (λ n. refl) o.living;
  }

  -- the last activation is left
  pub leave_on : (store : Live) (r : Option ℕ) (a : ℕ) → Ordered past (a ∷ acts) next store → Ordered (past ++ Leave r a ∷ []) acts next store
  leave_on store r a o = record {
    entered = λ b le. none_more (enters b) past (Leave r a) (o.entered b le) refl;
    running = one_less leaves past a (Leave r a) (λ n. refl) acts next o.running;
    living = numbered_on ends past (Leave r a) (instances store.objects) store.next (λ n. refl) o.living;
  }

  -- an object is made
  pub made_in : (store : Live) (declarator count : ℕ) (is_fixed : Bool) → Ordered past acts next store → Ordered past acts next (made declarator count is_fixed store)
  made_in store declarator count is_fixed o = record {
    entered = o.entered;
    running = o.running;
    living = one_more ends past (instances store.objects) store.next o.living;
  }

  ending : (i n : ℕ) (objects : List Object) → is_last i (last_object objects) ≡ true → Numbered ends past (instances objects) n → Numbered ends (past ++ Gone i ∷ []) (instances (rest objects)) n
  ending i n [] h o = absurd (let z = h in cc)
  ending i n (x ∷ xs) h o =
      let same : x.instance ≡ i = eqb_is x.instance i h in
      one_less ends past x.instance (Gone i) (λ m. ap (λ j. nat_eq j m) (sym same)) (instances xs) n o

  -- the object that was made last ends
  pub gone_on : (store : Live) (i : ℕ) → is_last i (last_object store.objects) ≡ true → Ordered past acts next store → Ordered (past ++ Gone i ∷ []) acts next (ended store)
  gone_on store i h o = record {
    entered = λ a le. none_more (enters a) past (Gone i) (o.entered a le) refl;
    running = numbered_on leaves past (Gone i) acts next (λ n. refl) o.running;
    living = ending i store.next store.objects h o.living;
  }

instances_set : (i n : ℕ) (v : Value) (os : List Object) → instances (set_cell i n v os) ≡ instances os
instances_set i n v [] = refl
instances_set i n v (o ∷ os) = by (o.instance == i) (instances_set i n v os)
  where
    by : (b : Bool) → instances (set_cell i n v os) ≡ instances os → instances (cond b (record o { cells = slice_set o.cells n v } ∷ os) (o ∷ set_cell i n v os)) ≡ o.instance ∷ instances os
    by true ih = refl
    by false ih = ap (λ ns. o.instance ∷ ns) ih

-- a value is written
pub put_in : (past : List Event) (acts : List ℕ) (next : ℕ) (store : Live) (why : Option Undef) (p : Pointer) (v : Value) → Ordered past acts next store → Ordered past acts next (put_unless why p v store)
put_in past acts next store None p v o = record {
  entered = o.entered;
  running = o.running;
  living = subst (λ ns. Numbered ends past ns store.next) (sym (instances_set p.instance (p.base + p.index) v store.objects)) o.living;
}
put_in past acts next store (Some why) p v o = o

-- What a run tells after these events is in order, and where it goes on, this holds.
abbrev pub Keeps : {A : Type 0} → (List Event → A → State → Type 0) → List Event → Run A → Type 0
Keeps Q past (Then e r) = Lives past e × Keeps Q (past ++ e ∷ []) r
Keeps Q past (Goes x s) = Q past x s
Keeps Q past (Stops why) = Unit {0}
Keeps Q past Cut = Unit {0}

-- and what follows goes on from there
pub keeps_on : {A B : Type 0} (Q : List Event → A → State → Type 0) (R : List Event → B → State → Type 0) (f : A → Part B) → ((past : List Event) (x : A) (s : State) → Q past x s → Keeps R past (f x s)) → (past : List Event) (r : Run A) → Keeps Q past r → Keeps R past (go_on r f)
keeps_on Q R f goes past (Then e r) k = (k.0, keeps_on Q R f goes (past ++ e ∷ []) r k.1)
keeps_on Q R f goes past (Goes x s) k = goes past x s k
keeps_on Q R f goes past (Stops why) k = tt
keeps_on Q R f goes past Cut k = tt

pub orderly_after : {A : Type 0} (Q : List Event → A → State → Type 0) (past : List Event) (r : Run A) → Keeps Q past r → IsOrderlyAfter past (events_of r)
orderly_after Q past (Then e r) k = (k.0, orderly_after Q (past ++ e ∷ []) r k.1)
orderly_after Q past (Goes x s) k = tt
orderly_after Q past (Stops why) k = tt
orderly_after Q past Cut k = tt
