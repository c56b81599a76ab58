-- Which couplings through devices a list of events exercises.
use Rattle.std.specs.Prelude.{ℕ, ◌≡◌, ◌≢◌, ◌<◌, ◌⊎◌, List, Some, slice_get}
use Rattle.cc_meaning.specs.declared.event.Event.{Event}
use Rattle.cc_meaning.specs.declared.event.Event.TheVariants.{Ask}
use Rattle.cc_program.specs.declared.function.FuncId.{FuncId}
use Rattle.cc_program.specs.declared.program.Program.{Program}
use Rattle.cc_roles.specs.Components.{component}
use Rattle.cc_device_runs.specs.Roles.{role_or}
use Rattle.cc_device_runs.specs.declared.role.Role.{Role}
use Rattle.cc_device_runs.specs.declared.row.DeviceRow.{DeviceRow}

-- the event is a call, at this site, of a function that writes the device
pub record WritesAt (roles : List Role) (E : List Event) (n v s : ℕ) : Type 0 where
  pub callee : FuncId
  pub act : ℕ
  pub event : slice_get E n ≡ Some (Ask s callee act)
  pub writes : (role_or (slice_get roles callee.0)).writes ≡ Some v

-- of a function that reads it
pub record ReadsAt (roles : List Role) (E : List Event) (n v s : ℕ) : Type 0 where
  pub callee : FuncId
  pub act : ℕ
  pub event : slice_get E n ≡ Some (Ask s callee act)
  pub reads : (role_or (slice_get roles callee.0)).reads ≡ Some v

-- a call of a function that writes the device, or at a site of the component one of a function that reads it
abbrev pub Cuts : Program → List Role → List Event → ℕ → ℕ → ℕ → Type 0
Cuts P roles E v c n = ((s : ℕ) × WritesAt roles E n v s) ⊎ ((s : ℕ) × ReadsAt roles E n v s × (component P s ≡ c))

-- (d, u, v) is exercised: a call at d writes v, a later one at u of another component reads v, and nothing between them cuts
pub record Exercised (P : Program) (roles : List Role) (E : List Event) (row : DeviceRow) : Type 0 where
  pub i : ℕ
  pub j : ℕ
  pub before : i < j
  pub writes : WritesAt roles E i row.device row.definition
  pub reads : ReadsAt roles E j row.device row.reader
  pub apart : component P row.definition ≢ component P row.reader
  pub clear : (n : ℕ) → i < n → n < j → Cuts P roles E row.device (component P row.reader) n → ⊥
