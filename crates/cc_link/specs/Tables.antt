-- The tables of a program.
use Rattle.std.specs.Prelude.{ℕ, nat_eq, Bool, true, false, List, [], ◌∷◌, ◌++◌, Option, Some, None, slice_get, if◌then◌else◌}
use Rattle.cc_arena.specs.Arenas.{node_of}
use Rattle.cc_arena.specs.declared.arena.Placed.{Placed}
use Rattle.cc_arena.specs.declared.node.Node.{Node}
use Rattle.cc_arena.specs.declared.node.Node.TheVariants as kinds
use Rattle.cc_program.specs.declared.file.FileEntry.{FileEntry}
use Rattle.cc_program.specs.declared.function.FuncId.{FuncId}
use Rattle.cc_program.specs.declared.program.Referent.{Referent}
use Rattle.cc_program.specs.declared.program.Referent.TheVariants as referents
use Rattle.cc_program.specs.declared.variable.Variable.{Variable}
use Rattle.cc_project.specs.declared.project.ProjectFile.{ProjectFile}
use Rattle.cc_symbols.specs.declared.declared.Declared.{Declared}
use Rattle.cc_symbols.specs.declared.declared.Form.{Form}
use Rattle.cc_symbols.specs.declared.declared.Form.TheVariants.{Object, Function, Typedef, Constant}
use Rattle.cc_symbols.specs.declared.declared.Life.{Life}
use Rattle.cc_symbols.specs.declared.declared.Life.TheVariants.{Static, Local, Formal, Parameter}
use Rattle.cc_symbols.specs.declared.symbols.Symbols.{Symbols}
use Rattle.cc_symbols.specs.declared.unit.CheckedUnit.{CheckedUnit}
use Rattle.cc_types.specs.declared.shape.TypeId.{TypeId}
use Rattle.cc_link.specs.declared.numbers.Numbers.{Numbers}
use Rattle.cc_link.specs.Numbers.{referent}
use Rattle.cc_link_rules.specs.declared.linked.Linked.{Linked}
use Rattle.cc_link_rules.specs.declared.standing.Standing.{Standing}
use Rattle.cc_link_rules.specs.Definitions.{found}
use Rattle.cc_link_rules.specs.Faults.{next}
use Rattle.cc_link_rules.specs.Linked.{LinkedNames, known_of, text_at}
use Rattle.cc_link_rules.specs.Standings.{standing_at}

-- what a node hands to this part of it: a definition its block to its declarator, a form of a declarator what it was handed
abbrev pub block_under : Node → ℕ → Option ℕ → Option ℕ
block_under (kinds.Definition (Some d) b) part own = if nat_eq d part then Some b else None
block_under (kinds.Pointer d) part own = own
block_under (kinds.Array d n) part own = own
block_under (kinds.Function d ps) part own = own
block_under (kinds.Group d) part own = own
block_under _ part own = None

abbrev pub block_by : Option Node → ℕ → Option ℕ → Option ℕ
block_by (Some x) part own = block_under x part own
block_by None part own = None

abbrev pub block_at : List (Option ℕ) → ℕ → Option ℕ
block_at bs n = found (slice_get bs n)

-- the answers for the nodes from number n on, after those that are there; a node's is made of its parent's
abbrev pub blocks_from : List Placed → List Placed → ℕ → List (Option ℕ) → List (Option ℕ)
blocks_from nodes [] n done = done
blocks_from nodes (x ∷ xs) n done =
    blocks_from nodes xs (next n) (done ++ block_by (node_of (slice_get nodes x.parent)) n (block_at done x.parent) ∷ [])

abbrev pub all_blocks : List Placed → List (Option ℕ)
all_blocks nodes = blocks_from nodes nodes 0 []

abbrev pub formal_form : Form → Bool
formal_form (Object Formal) = true
formal_form (Object Static) = false
formal_form (Object Local) = false
formal_form (Object Parameter) = false
formal_form Function = false
formal_form Typedef = false
formal_form (Constant v) = false

abbrev pub formal_in : Option Declared → Bool
formal_in (Some d) = formal_form d.form
formal_in None = false

abbrev pub is_formal : List Declared → ℕ → Bool
is_formal ds d = formal_in (slice_get ds d)

abbrev pub node_in : Option Declared → ℕ
node_in (Some d) = d.node
node_in None = 0

abbrev pub first_node : List Declared → ℕ → ℕ
first_node ds d = node_in (slice_get ds d)

abbrev pub form_life : Form → Life
form_life (Object l) = l
form_life Function = Static
form_life Typedef = Static
form_life (Constant v) = Static

abbrev pub life_in : Option Declared → Life
life_in (Some d) = form_life d.form
life_in None = Static

abbrev pub life_of : List Declared → ℕ → Life
life_of ds d = life_in (slice_get ds d)

abbrev pub number_or : Option ℕ → ℕ → ℕ
number_or (Some n) m = n
number_or None m = m

abbrev pub first_type : TypeId
first_type = record { 0 = 0 }

abbrev pub type_or : Option TypeId → TypeId
type_or (Some t) = t
type_or None = first_type

abbrev pub variable_of : Symbols → List Standing → ℕ → Variable
variable_of s ss d =
    record { name = text_at s.texts d; declarator = number_or (standing_at ss d).definition 0; ty = type_or (standing_at ss d).kind; life = life_of s.declared d }

abbrev pub variables : Symbols → List Standing → List ℕ → List Variable
variables s ss [] = []
variables s ss (d ∷ ds) = variable_of s ss d ∷ variables s ss ds

abbrev pub function_in : Option Referent → Option FuncId
function_in (Some (referents.Function f)) = Some f
function_in (Some (referents.Variable v)) = None
function_in (Some (referents.Constant v)) = None
function_in None = None

abbrev pub entry_as : Option Linked → Numbers → Option FuncId
entry_as (Some l) ns = function_in (referent ns l.first)
entry_as None ns = None

-- the function that an entry names
abbrev pub entry_of : LinkedNames → Numbers → List ℕ → Option FuncId
entry_of ls ns x = entry_as (known_of ls x) ns

abbrev pub with_entry : List FuncId → Option FuncId → List FuncId
with_entry done (Some f) = done ++ f ∷ []
with_entry done None = done

abbrev pub entries_from : LinkedNames → Numbers → List (List ℕ) → List FuncId → List FuncId
entries_from ls ns [] done = done
entries_from ls ns (x ∷ xs) done = entries_from ls ns xs (with_entry done (entry_of ls ns x))

abbrev pub entries : LinkedNames → Numbers → List (List ℕ) → List FuncId
entries ls ns xs = entries_from ls ns xs []

abbrev pub bounds_in : Option CheckedUnit → ℕ × ℕ
bounds_in (Some u) = (u.start, u.«end»)
bounds_in None = (0, 0)

abbrev pub bounds_of : List CheckedUnit → ℕ → ℕ × ℕ
bounds_of us n = bounds_in (slice_get us n)

abbrev pub file_entry : ProjectFile → ℕ × ℕ → FileEntry
file_entry f b = record { name = f.name; component = f.component; start = b.0; «end» = b.1 }

abbrev pub files_from : List CheckedUnit → ℕ → List ProjectFile → List FileEntry → List FileEntry
files_from us n [] done = done
files_from us n (f ∷ fs) done = files_from us (next n) fs (done ++ file_entry f (bounds_of us n) ∷ [])

abbrev pub files : List CheckedUnit → List ProjectFile → List FileEntry
files us fs = files_from us 0 fs []
