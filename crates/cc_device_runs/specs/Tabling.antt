-- Devices as slots: each call of a function that writes a device is a write by name of its slot, each call of a function that
-- reads it a read by name.
use Rattle.std.specs.Prelude.{ℕ, zero, suc, true, List, [], ◌∷◌, ◌++◌, length}
use Rattle.cc_device.specs.declared.device.Device.{Device}
use Rattle.cc_listed.specs.declared.table.Kind.TheVariants as kind
use Rattle.cc_listed.specs.declared.table.Occurrence.{Occurrence}
use Rattle.cc_listed.specs.declared.table.Slot.{Slot}
use Rattle.cc_listed.specs.declared.table.Tables.{Tables}
use Rattle.cc_program.specs.declared.program.Program.{Program}
use Rattle.cc_roles.specs.Components.{component}

-- a slot for each of so many devices
abbrev pub slots_to : ℕ → List Slot
slots_to zero = []
slots_to (suc n) = slots_to n ++ record { object = n; kind = kind.Named } ∷ []

-- the component of each of so many nodes
abbrev pub occurrences_to : Program → ℕ → List Occurrence
occurrences_to P zero = []
occurrences_to P (suc n) = occurrences_to P n ++ record { component = component P n; by_name = true } ∷ []

abbrev pub tables_of : Program → List Device → Tables
tables_of P devices = record { slots = slots_to (length devices); occurrences = occurrences_to P (length P.arena.nodes) }
