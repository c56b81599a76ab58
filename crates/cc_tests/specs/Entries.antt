-- The entries of a program, and what they take.
use Rattle.std.specs.Prelude.{ℕ, ℤ, Bool, false, ◌&&◌, int_le, List, [], ◌∷◌, Option, Some, None, slice_get, if◌then◌else◌}
use Rattle.std.specs.Str.{bytes_eq}
use Rattle.cc_arith.specs.Kinds.{least, greatest}
use Rattle.cc_program.specs.declared.function.FuncId.{FuncId}
use Rattle.cc_program.specs.declared.function.Function.{Function}
use Rattle.cc_program.specs.declared.program.Program.{Program}
use Rattle.cc_program.specs.declared.variable.VarId.{VarId}
use Rattle.cc_program.specs.declared.variable.Variable.{Variable}
use Rattle.cc_types.specs.Interning.{shape_of}
use Rattle.cc_types.specs.declared.shape.Shape.{Shape}
use Rattle.cc_types.specs.declared.shape.Shape.TheVariants as shape

abbrev pub has_name : Option Function → List ℕ → Bool
has_name (Some function) name = bytes_eq function.name name
has_name None name = false

-- the function of this number has the name
abbrev pub is_named : Program → FuncId → List ℕ → Bool
is_named program f name = has_name (slice_get program.functions f.0) name

abbrev pub first_named : Program → List FuncId → List ℕ → Option FuncId
first_named program [] name = None
first_named program (f ∷ fs) name = if is_named program f name then Some f else first_named program fs name

-- the first of the entries that has this name
abbrev pub entry_named : Program → List ℕ → Option FuncId
entry_named program name = first_named program program.entries name

abbrev pub formals_in : Option Function → List VarId
formals_in (Some function) = function.formals
formals_in None = []

-- the formals of the function of this number; none where there is none
abbrev pub formals_of : Program → FuncId → List VarId
formals_of program f = formals_in (slice_get program.functions f.0)

-- whether the number is in the range
abbrev pub has : ℤ × ℤ → ℤ → Bool
has range number = int_le range.0 number && int_le number range.1

abbrev pub holds : Shape → ℤ → Bool
holds (shape.Integer k kind) number = has (least kind, greatest kind) number
holds _ number = false

-- whether the number is a value of the variable's type, an integer type
abbrev pub takes : List Shape → Variable → ℤ → Bool
takes types variable number = holds (shape_of types variable.ty) number

abbrev pub taken_by : List Shape → Option Variable → ℤ → Bool
taken_by types (Some variable) number = takes types variable number
taken_by types None number = false

-- whether the number is in the range of this formal
abbrev pub is_in_range : Program → VarId → ℤ → Bool
is_in_range program formal number = taken_by program.known.symbols.types (slice_get program.variables formal.0) number
