-- A recorder that forgets cells and activations when they end.
use Rattle.std.specs.Prelude.{◌≡◌, List, [], ◌∷◌, ◌++◌, None, Bool, true, false, cond, nat_eq, ◌⊎◌, ◌↔◌}
use Rattle.cc_meaning.specs.declared.event.Event.{Event}
use Rattle.cc_meaning.specs.declared.event.Event.TheVariants.{Enter, Pass, Def, Use, Leave, Gone, Ask}
use Rattle.cc_meaning.specs.declared.event.Cell.{Cell}
use Rattle.cc_meaning.specs.declared.coupling.Coupling.{Coupling}
use Rattle.cc_record_laws.specs.Roles.{Roles}
use Rattle.cc_record_laws.specs.Past.{leaves}
use Rattle.cc_record_laws.specs.Orderly.{ends_cell, IsOrderly}
use Rattle.cc_record_laws.specs.Kept.{Kept, start, after, GivesNow}
use Rattle.cc_record_laws.specs.Exercised.{Exercised}

abbrev pub drop_ended : Event → Kept → Kept
drop_ended e k = record {
  due = λ c n. cond (ends_cell c e) None (k.due c n);
  wrote = λ c. cond (ends_cell c e) None (k.wrote c);
  fresh = λ c. cond (ends_cell c e) None (k.fresh c);
  read = λ a u. cond (leaves a e) None (k.read a u);
  entry = λ a. cond (leaves a e) None (k.entry a);
  passing = λ a arg. cond (leaves a e) None (k.passing a arg);
  stack = k.stack;
}

-- the state after one event more, with what has ended dropped
abbrev pub live_after : Roles → Kept → Event → Kept
live_after R k e = drop_ended e (after R k e)

abbrev pub RecordedFrom : Roles → Kept → List Event → Coupling → Type 0
RecordedFrom R k [] q = ⊥
RecordedFrom R k (e ∷ es) q = GivesNow R k e q ⊎ RecordedFrom R (live_after R k e) es q

-- What a recorder records that forgets what has ended is exactly what an orderly list exercises.
abbrev pub LiveRecordsExactly : Type 0
LiveRecordsExactly = (R : Roles) (E : List Event) → IsOrderly E → (q : Coupling) → Exercised R E q ↔ RecordedFrom R start E q
