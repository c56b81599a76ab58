-- What is kept of a cell.
use Rattle.std.specs.Prelude.{ℕ, ◌*◌, ◌^◌, ◌%◌, Bool, false, cond, nat_eq, nat_lt, Option, Some, None, bit_or}
use Rattle.std.specs.Int.{bit_at}
use Rattle.cc_record_laws.specs.declared.kept.Passed.{Passed}
use Rattle.cc_record_tables.specs.declared.slot.Since.{Since}
use Rattle.cc_record_tables.specs.declared.slot.Since.TheVariants as since
use Rattle.cc_record_tables.specs.declared.slot.Slot.{Slot}

-- a cell that this definition has written
abbrev pub defined : ℕ → Slot
defined d = record { wrote = Some d; since = since.Read 0 }

-- a cell that was passed so, by an argument
abbrev pub passed : Option ℕ → Passed → Slot
passed argument p = record { wrote = argument; since = since.Passed p }

-- the component's bit is set
abbrev pub has_reader : ℕ → ℕ → Bool
has_reader readers component = cond (nat_lt component 64) (nat_eq (bit_at readers component) 1) false

-- with the component's bit set
abbrev pub with_reader : ℕ → ℕ → ℕ
with_reader readers component = cond (nat_lt component 64) (bit_or readers (1 * 2 ^ component % 2 ^ 64)) readers

abbrev pub since_read : ℕ → Since → Since
since_read component (since.Read readers) = since.Read (with_reader readers component)
since_read component (since.Passed p) = since.Touched
since_read component since.Touched = since.Touched

-- the same cell once this component has read it
abbrev pub read_by : ℕ → Slot → Slot
read_by component s = record { wrote = s.wrote; since = since_read component s.since }

abbrev pub due_since : Since → Option ℕ → ℕ → Option ℕ
due_since (since.Read readers) wrote component = cond (has_reader readers component) None wrote
due_since (since.Passed p) wrote component = None
due_since since.Touched wrote component = None

-- the definition that a read by the component would be the first to read
abbrev pub due_in : Slot → ℕ → Option ℕ
due_in s component = due_since s.since s.wrote component

abbrev pub fresh_since : Since → Option Passed
fresh_since (since.Passed p) = Some p
fresh_since (since.Read readers) = None
fresh_since since.Touched = None

-- how the cell was passed, if nothing has touched it since
abbrev pub fresh_in : Slot → Option Passed
fresh_in s = fresh_since s.since
