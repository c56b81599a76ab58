-- One more row, slot or node.
use Rattle.std.proofs.Common.{◌≡◌, ℕ, suc, ◌+◌, List, [], ◌∷◌, ◌++◌, Option, true, ap, arith}
use Rattle.std.specs.Prelude.{slice_get}
use Rattle.cc_device.specs.declared.device.Device.{Device}
use Rattle.cc_meaning.specs.declared.test.Test.{Test}
use Rattle.cc_program.specs.declared.program.Program.{Program}
use Rattle.cc_listed.specs.declared.table.Kind.TheVariants as kind
use Rattle.cc_roles.specs.Components.{component}
use Rattle.cc_device_runs.specs.Tabling.{occurrences_to, slots_to}
use Rattle.cc_device_runs.specs.Texts.{rows_to, row_text}
use Rattle.cc_device_runs.specs.declared.row.DeviceRow.{DeviceRow}

pub rows_more : (P : Program) (devices : List Device) (rows : List DeviceRow) (marks : List (Option ℕ)) (tests : List Test) (count : ℕ)
    → rows_to P devices rows marks tests (count + 1)
    ≡ rows_to P devices rows marks tests count ++ row_text P devices tests (count + 1) (slice_get rows count) (slice_get marks count)
rows_more P devices rows marks tests count = let e : count + 1 ≡ suc count = omega arith in ap (rows_to P devices rows marks tests) e

pub slots_more : (n : ℕ) → slots_to (n + 1) ≡ slots_to n ++ record { object = n; kind = kind.Named } ∷ []
slots_more n = let e : n + 1 ≡ suc n = omega arith in ap slots_to e

pub occurrences_more : (P : Program) (n : ℕ) → occurrences_to P (n + 1) ≡ occurrences_to P n ++ record { component = component P n; by_name = true } ∷ []
occurrences_more P n = let e : n + 1 ≡ suc n = omega arith in ap (occurrences_to P) e
