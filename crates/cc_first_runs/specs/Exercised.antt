-- Which call couplings the events of a run exercise.
use Rattle.std.specs.Prelude.{◌≡◌, ◌≢◌, ℕ, List, Some, slice_get}
use Rattle.cc_first_runs.specs.Program.{Function, Program, IsFunction}
use Rattle.cc_first_runs.specs.Couplings.{Row}
use Rattle.cc_first_runs.specs.Events.{Event, Enter}

-- at some position call number i of function number f enters function number g
abbrev pub Exercises : List Event → (f i g : ℕ) → Type 0
Exercises events f i g = (position act : ℕ) × (slice_get events position ≡ Some (Enter (Some (record { f = f; i = i })) g act))

-- and the two functions are of different components
pub record IsExercised (program : Program) (events : List Event) (row : Row) : Type 0 where
  pub entered : Exercises events row.f row.i row.g
  pub caller : Function
  pub callee : Function
  pub is_caller : IsFunction program row.f caller
  pub is_callee : IsFunction program row.g callee
  pub apart : caller.file ≢ callee.file
