-- Numbers of functions and variables: those that are defined or of the environment, from 0, in the order of their first
-- declarators.
use Rattle.std.specs.Prelude.{ℕ, nat_eq, Bool, false, not, ◌&&◌, ◌||◌, List, [], ◌∷◌, ◌++◌, length, Option, Some, None, is_some, slice_get, slice_set, if◌then◌else◌}
use Rattle.cc_arena.specs.declared.arena.Placed.{Placed}
use Rattle.cc_arena.specs.declared.node.Node.{Node}
use Rattle.cc_arena.specs.declared.node.Node.TheVariants as kinds
use Rattle.cc_program.specs.declared.function.FuncId.{FuncId}
use Rattle.cc_program.specs.declared.variable.VarId.{VarId}
use Rattle.cc_program.specs.declared.program.Referent.{Referent}
use Rattle.cc_program.specs.declared.program.Referent.TheVariants as referents
use Rattle.cc_symbols.specs.declared.declared.Declared.{Declared}
use Rattle.cc_symbols.specs.declared.declared.Form.{Form}
use Rattle.cc_symbols.specs.declared.declared.Form.TheVariants.{Object, Function, Typedef, Constant}
use Rattle.cc_link.specs.declared.numbers.Numbers.{Numbers}
use Rattle.cc_link_rules.specs.declared.standing.Standing.{Standing}
use Rattle.cc_link_rules.specs.Faults.{next}
use Rattle.cc_link_rules.specs.Standings.{standing_at}
use Rattle.cc_link_rules.specs.Uses.{named_at}

abbrev pub function_number : ℕ → FuncId
function_number n = record { 0 = n }

abbrev pub variable_number : ℕ → VarId
variable_number n = record { 0 = n }

abbrev pub constant_as : Form → Option Referent
constant_as (Constant v) = Some (referents.Constant v)
constant_as (Object l) = None
constant_as Function = None
constant_as Typedef = None

abbrev pub constant : Declared → Option Referent
constant d = constant_as d.form

abbrev pub constants_from : List Declared → List (Option Referent) → List (Option Referent)
constants_from [] done = done
constants_from (d ∷ ds) done = constants_from ds (done ++ constant d ∷ [])

abbrev pub constants : List Declared → List (Option Referent)
constants ds = constants_from ds []

abbrev pub found : Option (Option Referent) → Option Referent
found (Some r) = r
found None = None

abbrev pub referent : Numbers → ℕ → Option Referent
referent ns d = found (slice_get ns.referents d)

abbrev pub function_added : ℕ → Numbers → Numbers
function_added d ns =
    record { referents = slice_set ns.referents d (Some (referents.Function (function_number (length ns.functions)))); functions = ns.functions ++ d ∷ []; variables = ns.variables }

abbrev pub variable_added : ℕ → Numbers → Numbers
variable_added d ns =
    record { referents = slice_set ns.referents d (Some (referents.Variable (variable_number (length ns.variables)))); functions = ns.functions; variables = ns.variables ++ d ∷ [] }

-- the declaration declares what the first one does
abbrev pub shared : ℕ → ℕ → Numbers → Numbers
shared d first ns = record { referents = slice_set ns.referents d (referent ns first); functions = ns.functions; variables = ns.variables }

abbrev pub added : Form → ℕ → Numbers → Numbers
added Function d ns = function_added d ns
added (Object l) d ns = variable_added d ns
added Typedef d ns = ns
added (Constant v) d ns = ns

abbrev pub is_defined : Standing → Bool
is_defined s = is_some s.kind && (is_some s.definition || s.is_environment)

abbrev pub is_numbered : Form → Standing → Bool
is_numbered Function s = is_defined s
is_numbered (Object l) s = is_defined s
is_numbered Typedef s = false
is_numbered (Constant v) s = false

abbrev pub declared : Form → Standing → ℕ → Numbers → Numbers
declared f s d ns =
    if not (is_numbered f s) then ns
    else (if nat_eq s.first d then added f d ns else shared d s.first ns)

abbrev pub first_as : Option Declared → ℕ → Option Form
first_as (Some d) n = if nat_eq d.node n then Some d.form else None
first_as None n = None

abbrev pub if_first : List Declared → ℕ → ℕ → Option Form
if_first ds d n = first_as (slice_get ds d) n

abbrev pub declared_as : Option Form → List Standing → ℕ → Numbers → Numbers
declared_as (Some f) ss d ns = declared f (standing_at ss d) d ns
declared_as None ss d ns = ns

abbrev pub name_numbered : List Declared → List Standing → ℕ → ℕ → Numbers → Numbers
name_numbered ds ss d n ns = declared_as (if_first ds d n) ss d ns

abbrev pub declared_at : List (Option ℕ) → ℕ → Node → Option ℕ
declared_at names n (kinds.Declared v) = named_at names n
declared_at names n _ = None

abbrev pub numbered_as : Option ℕ → List Declared → List Standing → ℕ → Numbers → Numbers
numbered_as (Some d) ds ss n ns = name_numbered ds ss d n ns
numbered_as None ds ss n ns = ns

abbrev pub node_numbered : List Declared → List (Option ℕ) → List Standing → ℕ → Node → Numbers → Numbers
node_numbered ds names ss n x ns = numbered_as (declared_at names n x) ds ss n ns

abbrev pub nodes_numbered : List Declared → List (Option ℕ) → List Standing → ℕ → List Placed → Numbers → Numbers
nodes_numbered ds names ss n [] ns = ns
nodes_numbered ds names ss n (x ∷ xs) ns = nodes_numbered ds names ss (next n) xs (node_numbered ds names ss n x.node ns)

abbrev pub unnumbered : List Declared → Numbers
unnumbered ds = record { referents = constants ds; functions = []; variables = [] }

abbrev pub all_numbers : List Declared → List (Option ℕ) → List Standing → List Placed → Numbers
all_numbers ds names ss xs = nodes_numbered ds names ss 0 xs (unnumbered ds)
