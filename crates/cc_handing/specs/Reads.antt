-- Slots of variables, and the reads of variables that arguments and returns name.
use Rattle.std.specs.Prelude.{ℕ, Option, Some, None, slice_get}
use Rattle.cc_graph.specs.Points.{number}
use Rattle.cc_graph.specs.declared.graph.Graph.{Graph}
use Rattle.cc_graph.specs.declared.position.Position.TheVariants.{After}
use Rattle.cc_listed.specs.declared.table.Access.{Access}
use Rattle.cc_parts.specs.declared.parts.Object.{Object}
use Rattle.cc_parts.specs.declared.parts.Parts.{Parts}
use Rattle.cc_program.specs.Programs.{names}
use Rattle.cc_program.specs.declared.program.Program.{Program}
use Rattle.cc_program.specs.declared.program.Referent.{Referent}
use Rattle.cc_program.specs.declared.program.Referent.TheVariants as referent
use Rattle.cc_program.specs.declared.variable.VarId.{VarId}
use Rattle.cc_handing.specs.declared.read.Source.{Source}
use Rattle.cc_handing.specs.declared.read.Source.TheVariants as source

abbrev pub first_of : Option Object → Option ℕ
first_of (Some object) = Some object.first
first_of None = None

-- the slot of a scalar variable: the first part of its object
abbrev pub slot_of : Parts → VarId → Option ℕ
slot_of parts v = first_of (slice_get parts.objects v.0)

abbrev pub slot_by : Parts → Option Referent → Option ℕ
slot_by parts (Some (referent.Variable v)) = slot_of parts v
slot_by parts r = None

-- the slot of the variable that a name names
abbrev pub slot_named : Program → Parts → ℕ → Option ℕ
slot_named p parts n = slot_by parts (names p n)

abbrev pub access : ℕ → ℕ → ℕ → Access
access point slot occurrence = record { point = point; slot = slot; occurrence = occurrence }

abbrev pub read_by : ℕ → Option ℕ → Option ℕ → Source
read_by n (Some point) (Some slot) = source.Read (access point slot n)
read_by n point slot = source.Missing

-- what is handed over by an expression that is this name of a variable, or none
abbrev pub source_of : Program → Graph → Parts → Option ℕ → Source
source_of p g parts (Some n) = read_by n (number g.rows (After n)) (slot_named p parts n)
source_of p g parts None = source.Itself
