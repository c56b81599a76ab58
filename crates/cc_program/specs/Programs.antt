-- What a program says of its nodes, files and components.
use Rattle.std.specs.Prelude.{ℕ, ◌+◌, ◌-◌, ◌^◌, Bool, true, false, ◌&&◌, nat_lt, if◌then◌else◌, List, [], ◌∷◌, Option, Some, None, slice_get}
use Rattle.cc_base.specs.declared.place.CompId.{CompId}
use Rattle.cc_base.specs.declared.place.FileId.{FileId}
use Rattle.cc_base.specs.declared.place.Place.{Place}
use Rattle.cc_base.specs.declared.place.Spot.{Spot}
use Rattle.cc_arena.specs.Arenas.{spot_of}
use Rattle.cc_types.specs.declared.measure.Measure.{Measure}
use Rattle.cc_types.specs.declared.shape.TypeId.{TypeId}
use Rattle.cc_types.specs.Interning.{shape_of}
use Rattle.cc_types.specs.Measures as measures
use Rattle.cc_types.specs.Shapes.{built, types_of}
use Rattle.cc_symbols.specs.declared.declared.Life.{Life}
use Rattle.cc_symbols.specs.declared.declared.Life.TheVariants as life
use Rattle.cc_program.specs.declared.file.FileEntry.{FileEntry}
use Rattle.cc_program.specs.declared.function.Function.{Function}
use Rattle.cc_program.specs.declared.function.FunctionKind.{FunctionKind}
use Rattle.cc_program.specs.declared.function.FunctionKind.TheVariants as kinds
use Rattle.cc_program.specs.declared.program.Program.{Program}
use Rattle.cc_program.specs.declared.program.Referent.{Referent}
use Rattle.cc_program.specs.declared.variable.Variable.{Variable}
use Rattle.cc_program.specs.Files.{file_with}

abbrev pub or_none : {A : Type 0} → Option (Option A) → Option A
or_none (Some x) = x
or_none None = None

abbrev pub named_by : Program → Option ℕ → Option Referent
named_by p (Some d) = or_none (slice_get p.referents d)
named_by p None = None

-- what the name at a node names
abbrev pub names : Program → ℕ → Option Referent
names p o = named_by p (or_none (slice_get p.known.symbols.names o))

abbrev pub measure_of : Program → TypeId → Measure
measure_of p t = measures.measure_of p.known.symbols.structs (built (types_of p.known.symbols.types) (shape_of p.known.symbols.types t))

abbrev pub file_of : Program → ℕ → FileId
file_of p o = file_with p.files o

abbrev pub spot_or : Option Spot → Spot
spot_or (Some s) = s
spot_or None = record { line = 0; column = 0 }

abbrev pub placed : FileId → Spot → Place
placed f s = record { file = f; line = s.line; column = s.column }

abbrev pub place : Program → ℕ → Place
place p o = placed (file_of p o) (spot_or (spot_of (slice_get p.arena.nodes o)))

abbrev pub component_number : ℕ → CompId
component_number n = record { 0 = n }

abbrev pub component_or : Option FileEntry → CompId
component_or (Some f) = f.component
component_or None = component_number 0

abbrev pub component_with : Program → FileId → CompId
component_with p f = component_or (slice_get p.files f.0)

abbrev pub name_or : Option FileEntry → List ℕ
name_or (Some f) = f.name
name_or None = []

abbrev pub file_name : Program → FileId → List ℕ
file_name p f = name_or (slice_get p.files f.0)

abbrev pub text_or : Option (List ℕ) → List ℕ
text_or (Some x) = x
text_or None = []

abbrev pub component_name : Program → CompId → List ℕ
component_name p c = text_or (slice_get p.components c.0)

-- 2^32 - 1 stands for that many or more
abbrev pub number_of : ℕ → ℕ
number_of n = if nat_lt n (2 ^ 32 - 1) then n else 2 ^ 32 - 1

abbrev pub counted : ℕ → Bool → ℕ
counted n is_one = if is_one && nat_lt n (2 ^ 32 - 1) then n + 1 else n

abbrev pub is_defined : FunctionKind → Bool
is_defined kinds.Defined = true
is_defined kinds.Environment = false

abbrev pub defined_from : ℕ → List Function → ℕ
defined_from n [] = n
defined_from n (f ∷ fs) = defined_from (counted n (is_defined f.kind)) fs

-- how many of these have a body
abbrev pub defined_in : List Function → ℕ
defined_in fs = defined_from 0 fs

abbrev pub is_static : Life → Bool
is_static life.Static = true
is_static life.Local = false
is_static life.Formal = false
is_static life.Parameter = false

abbrev pub static_from : ℕ → List Variable → ℕ
static_from n [] = n
static_from n (v ∷ vs) = static_from (counted n (is_static v.life)) vs

-- how many of these are objects of the whole run
abbrev pub static_in : List Variable → ℕ
static_in vs = static_from 0 vs
