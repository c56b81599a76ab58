-- Names and places that tables print.
use Rattle.std.specs.Prelude.{ℕ, List, [], ◌++◌, Option, Some, None, codes, slice_get}
use Rattle.std.specs.Fmt.{decimal}
use Rattle.cc_program.specs.declared.function.FuncId.{FuncId}
use Rattle.cc_program.specs.declared.function.Function.{Function}
use Rattle.cc_program.specs.declared.program.Program.{Program}
use Rattle.cc_program.specs.declared.program.Referent.{Referent}
use Rattle.cc_program.specs.declared.program.Referent.TheVariants as referent
use Rattle.cc_program.specs.declared.variable.Variable.{Variable}
use Rattle.cc_program.specs.Programs.{place, file_name, file_of, component_with, component_name, names}

-- `file:line:column`
abbrev pub place_text : Program → ℕ → List ℕ
place_text p node =
    let at = place p node in
    file_name p at.file ++ (codes ":" ++ (decimal at.line ++ (codes ":" ++ decimal at.column)))

-- the name of a node's component
abbrev pub component_text : Program → ℕ → List ℕ
component_text p node = component_name p (component_with p (file_of p node))

abbrev pub declarator_or : Option Function → ℕ
declarator_or (Some f) = f.declarator
declarator_or None = 0

-- the node at which a function is declared
abbrev pub declarator : Program → FuncId → ℕ
declarator p f = declarator_or (slice_get p.functions f.0)

abbrev pub function_name_or : Option Function → List ℕ
function_name_or (Some f) = f.name
function_name_or None = []

abbrev pub function_name : Program → FuncId → List ℕ
function_name p f = function_name_or (slice_get p.functions f.0)

abbrev pub variable_name_or : Option Variable → List ℕ
variable_name_or (Some v) = v.name
variable_name_or None = codes "<string>"

abbrev pub name_of : Program → Option Referent → List ℕ
name_of p (Some (referent.Variable v)) = variable_name_or (slice_get p.variables v.0)
name_of p (Some (referent.Function f)) = codes "<string>"
name_of p (Some (referent.Constant n)) = codes "<string>"
name_of p None = codes "<string>"

-- the name of an object, by its declarator or string literal
abbrev pub object_name : Program → ℕ → List ℕ
object_name p node = name_of p (names p node)
