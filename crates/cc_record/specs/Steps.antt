-- What an event gives by the tables.
use Rattle.std.specs.Prelude.{◌≡◌, ◌⊎◌, ◌↔◌, ℕ, List, Option, Some, None, Contains}
use Rattle.cc_program.specs.declared.function.FuncId.{FuncId}
use Rattle.cc_meaning.specs.declared.event.Cell.{Cell}
use Rattle.cc_meaning.specs.declared.coupling.Coupling.{Coupling}
use Rattle.cc_meaning.specs.declared.coupling.Coupling.TheVariants.{Call}
use Rattle.cc_record_laws.specs.declared.kept.Passed.{Passed}
use Rattle.cc_record_laws.specs.Roles.{Roles}
use Rattle.cc_record_laws.specs.Gives.{apart}
use Rattle.cc_record_laws.specs.Kept.{shared_now, param_at}
use Rattle.cc_record_tables.specs.declared.slot.Slot.{Slot}
use Rattle.cc_record_tables.specs.Slots.{due_in, fresh_in, read_by}

abbrev pub call : Roles → Option ℕ → FuncId → Option Coupling
call R (Some s) g = apart R (R.component s) (R.home g) (Some (Call s g))
call R None g = None

abbrev pub parameter : Roles → ℕ → Passed → Option Coupling
parameter R u p = param_at R u p p.entry

abbrev pub read_fresh : Roles → ℕ → Cell → Slot → Option Passed → Option Coupling
read_fresh R u c s (Some p) = parameter R u p
read_fresh R u c s None = shared_now R u c.object (due_in s (R.component u))

-- the coupling of a read of a cell of which this is kept
abbrev pub read : Roles → ℕ → Cell → Option Slot → Option Coupling
read R u c (Some s) = read_fresh R u c s (fresh_in s)
read R u c None = None

-- what a read by the component makes of a cell
abbrev pub after_read : ℕ → Option Slot → Option Slot
after_read component (Some s) = Some (read_by component s)
after_read component None = None

-- the set has what it had, and what an event gives
abbrev pub Adds : Option Coupling → List Coupling → List Coupling → Type 0
Adds given old new = (q : Coupling) → Contains new q ↔ Contains old q ⊎ (given ≡ Some q)
