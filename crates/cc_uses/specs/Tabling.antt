-- What is known of the slots and of the nodes of a program.
use Rattle.std.specs.Prelude.{ℕ, ◌+◌, Bool, true, false, if◌then◌else◌, List, [], ◌∷◌, map, length, Option, Some, None, slice_get}
use Rattle.cc_arena_rules.specs.Surroundings.{surroundings}
use Rattle.cc_arena_rules.specs.Variables.{taken}
use Rattle.cc_listed.specs.declared.table.Kind.{Kind}
use Rattle.cc_listed.specs.declared.table.Kind.TheVariants as kind
use Rattle.cc_listed.specs.declared.table.Occurrence.{Occurrence}
use Rattle.cc_listed.specs.declared.table.Slot.{Slot}
use Rattle.cc_listed.specs.declared.table.Tables.{Tables}
use Rattle.cc_parts.specs.declared.part.Part.{Part}
use Rattle.cc_parts.specs.declared.parts.Object.{Object}
use Rattle.cc_parts.specs.declared.parts.Parts.{Parts}
use Rattle.cc_program.specs.declared.program.Program.{Program}
use Rattle.cc_program.specs.declared.variable.Variable.{Variable}
use Rattle.cc_program.specs.Programs.{component_with, file_of, or_none}
use Rattle.cc_symbols.specs.declared.declared.Life.{Life}
use Rattle.cc_symbols.specs.declared.declared.Life.TheVariants as life
use Rattle.cc_uses.specs.declared.peel.Peeled.{Peeled}
use Rattle.cc_uses.specs.Peeling.{peeled}

abbrev pub is_static : Life → Bool
is_static life.Static = true
is_static l = false

-- of a static object, a slot with an array step is open, and one without is named
abbrev pub static_kind : Bool → Kind
static_kind in_array = if in_array then kind.Open else kind.Named

-- of a local or formal, a slot is open where the address is taken
abbrev pub local_kind : Bool → Kind
local_kind is_taken = if is_taken then kind.Open else kind.Inside

abbrev pub or_false : Option Bool → Bool
or_false (Some b) = b
or_false None = false

abbrev pub is_flagged : List Bool → Option ℕ → Bool
is_flagged flags (Some d) = or_false (slice_get flags d)
is_flagged flags None = false

-- the declaration that a node names
abbrev pub declaration_at : Program → ℕ → Option ℕ
declaration_at p n = or_none (slice_get p.known.symbols.names n)

-- for each declaration whether the address of its variable is taken
abbrev pub all_taken : Program → List Bool
all_taken p = taken p.arena p.known.symbols (surroundings p.arena p.known.symbols p.known.found 0 (length p.arena.nodes)) 0 (length p.arena.nodes)

abbrev pub variable_kind : Program → List Bool → Variable → Bool → Kind
variable_kind p flags v in_array = if is_static v.life then static_kind in_array else local_kind (is_flagged flags (declaration_at p v.declarator))

-- of a variable, or of a string literal, which is a static object
abbrev pub kind_in : Program → List Bool → Option Variable → Bool → Kind
kind_in p flags (Some v) in_array = variable_kind p flags v in_array
kind_in p flags None in_array = static_kind in_array

-- the objects are the variables, by their numbers, and then the string literals
abbrev pub kind_of : Program → List Bool → Part → Kind
kind_of p flags x = kind_in p flags (slice_get p.variables x.object) x.in_array

abbrev pub node_in : Option Object → ℕ
node_in (Some o) = o.node
node_in None = 0

abbrev pub slot_of : Program → List Bool → Parts → Part → Slot
slot_of p flags parts x = record { object = node_in (slice_get parts.objects x.object); kind = kind_of p flags x }

-- a slot has the number of its part
abbrev pub slots_of : Program → List Bool → Parts → List Slot
slots_of p flags parts = map (slot_of p flags parts) parts.parts

abbrev pub occurrence_of : Program → ℕ → Peeled → Occurrence
occurrence_of p n x = record { component = (component_with p (file_of p n)).0; by_name = x.by_name }

-- of these nodes, the first of which is the n-th
abbrev pub occurrences_from : Program → List Peeled → ℕ → List Occurrence
occurrences_from p [] n = []
occurrences_from p (x ∷ xs) n = occurrence_of p n x ∷ occurrences_from p xs (n + 1)

abbrev pub all_occurrences : Program → List Occurrence
all_occurrences p = occurrences_from p (peeled p.arena.nodes 0) 0

-- of a program whose parts are these
abbrev pub tables_of : Program → Parts → Tables
tables_of p parts = record { slots = slots_of p (all_taken p) parts; occurrences = all_occurrences p }
