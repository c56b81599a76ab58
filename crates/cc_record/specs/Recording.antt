-- What a recorder stands for.
use Rattle.std.specs.Prelude.{◌≡◌, ◌<◌, ℕ, List, [], Option, Some, None, map, reverse}
use Rattle.cc_program.specs.declared.function.FuncId.{FuncId}
use Rattle.cc_program.specs.declared.program.Program.{Program}
use Rattle.cc_meaning.specs.declared.coupling.Coupling.{Coupling}
use Rattle.cc_meaning.specs.declared.event.Event.{Event}
use Rattle.cc_record_laws.specs.declared.kept.Entry.{Entry}
use Rattle.cc_record_laws.specs.declared.kept.Passed.{Passed}
use Rattle.cc_record_laws.specs.Roles.{Roles}
use Rattle.cc_record_laws.specs.Kept.{Kept, named_by, return_now, top_read, top}
use Rattle.cc_record_laws.specs.Orderly.{IsOrderly}
use Rattle.cc_record_laws.specs.Watching.{Asks, IsSame, StandsFor, Steps, Distinct}
use Rattle.cc_record_tables.specs.declared.slot.Slot.{Slot}
use Rattle.cc_record_tables.specs.Slots.{due_in, fresh_in}
use Rattle.cc_record_tables.specs.CellTable.{slot_of}
use Rattle.cc_record_tables.specs.ActivationTable.{answers_of}
use Rattle.cc_record_tables.specs.Sets.{seen_in}
use Rattle.cc_roles.specs.Calls.{arguments}
use Rattle.cc_roles.specs.Names.{named, returned}
use Rattle.cc_record.specs.declared.recorder.Recorder.{Recorder}
use Rattle.cc_record.specs.Asked.{is_asked}
use Rattle.cc_record.specs.Roles.{roles_of}

abbrev pub due : Option Slot → ℕ → Option ℕ
due (Some s) n = due_in s n
due None n = None

abbrev pub wrote : Option Slot → Option ℕ
wrote (Some s) = s.wrote
wrote None = None

abbrev pub fresh : Option Slot → Option Passed
fresh (Some s) = fresh_in s
fresh None = None

-- what the tables answer
abbrev pub kept_of : Recorder → Kept
kept_of r = record {
  due = λ c n. due (slot_of r.cells c) n;
  wrote = λ c. wrote (slot_of r.cells c);
  fresh = λ c. fresh (slot_of r.cells c);
  read = λ a u. (answers_of r.activations).read a u;
  entry = λ a. (answers_of r.activations).entry a;
  passing = λ a n. (answers_of r.activations).passing a n;
  stack = reverse r.opened.items;
}

-- the program whose runs the recorder watches
abbrev pub program_of : Recorder → Program
program_of r = r.program.now

abbrev pub roles : Recorder → Roles
roles r = roles_of (program_of r)

-- there are at most 64 components
abbrev pub AreFew : Roles → Type 0
AreFew R = (o : ℕ) → R.component o < 64

-- The recorder stands for the list, of runs of the program, if the list is orderly and components are few.
pub record Stands (P : Program) (r : Recorder) (told : List Event) : Type 0 where
  pub program : program_of r ≡ P
  pub asks : Asks (roles r) (is_asked r.asked.items)
  pub stands : AreFew (roles r) → IsOrderly told → StandsFor (roles r) (is_asked r.asked.items) (kept_of r) (seen_in r.seen) told

-- the program and what is asked for stay
pub record Keeps (old new : Recorder) : Type 0 where
  pub program : new.program.now ≡ old.program.now
  pub asked : new.asked.items ≡ old.asked.items

-- the event makes the new recorder of the old one, where no activation is open twice
pub record Does (old new : Recorder) (e : Event) : Type 0 where
  pub keeps : Keeps old new
  pub steps : AreFew (roles old) → Distinct (reverse old.opened.items)
      → Steps (roles old) (is_asked old.asked.items) (kept_of old) (seen_in old.seen) (kept_of new) (seen_in new.seen) e

-- both answer alike
pub record Stays (old new : Recorder) : Type 0 where
  pub keeps : Keeps old new
  pub same : IsSame (is_asked old.asked.items) (kept_of new) (kept_of old)
  pub seen : seen_in new.seen ≡ seen_in old.seen

-- the definition of an argument, by what the activation on top has read
abbrev pub argument_now : Recorder → ℕ → Option ℕ
argument_now r arg = named_by arg (λ u. top_read (kept_of r) u (top (kept_of r).stack)) (named r.program.now arg)

abbrev pub passing : Recorder → Option ℕ → List (Option ℕ)
passing r None = []
passing r (Some s) = map (argument_now r) (arguments r.program.now.arena s)

-- the definition of what a return gives
abbrev pub returned_now : Recorder → ℕ → ℕ → Option ℕ
returned_now r ret act = named_by ret ((kept_of r).read act) (returned r.program.now ret)

-- the coupling that the end of an activation gives
abbrev pub left : Recorder → Option ℕ → ℕ → Option Coupling
left r (Some ret) act = return_now (roles r) (returned_now r ret act) ((kept_of r).entry act)
left r None act = None

abbrev pub entry_by : Option ℕ → FuncId → Option Entry
entry_by (Some s) g = Some (record { site = s; callee = g })
entry_by None g = None
