-- Which calls write and read which devices.
use Rattle.std.specs.Prelude.{ℕ, ◌+◌, List, [], ◌∷◌, ◌++◌, Option, Some, None, slice_get}
use Rattle.cc_arena.specs.declared.arena.Placed.{Placed}
use Rattle.cc_arena.specs.declared.node.Node.{Node}
use Rattle.cc_arena.specs.declared.node.Node.TheVariants as node
use Rattle.cc_arena_rules.specs.Looks.{inside}
use Rattle.cc_graph.specs.declared.graph.Graph.{Graph}
use Rattle.cc_graph.specs.declared.position.Position.TheVariants.{At}
use Rattle.cc_graph.specs.Points.{number}
use Rattle.cc_listed.specs.declared.table.Access.{Access}
use Rattle.cc_program.specs.Programs.{names}
use Rattle.cc_program.specs.declared.function.FuncId.{FuncId}
use Rattle.cc_program.specs.declared.program.Program.{Program}
use Rattle.cc_program.specs.declared.program.Referent.{Referent}
use Rattle.cc_program.specs.declared.program.Referent.TheVariants as referent
use Rattle.cc_device_runs.specs.declared.role.Role.{Role}
use Rattle.cc_device_runs.specs.Roles.{no_role, role_or}

abbrev pub as_function : Option Referent → Option FuncId
as_function (Some (referent.Function f)) = Some f
as_function what = None

-- the function whose name, parentheses aside, a call has as its designator
abbrev pub asked : Program → Node → Option FuncId
asked P (node.Call f es) = as_function (names P (inside P.arena f))
asked P what = None

abbrev pub role_with : List Role → Option FuncId → Role
role_with roles (Some f) = role_or (slice_get roles f.0)
role_with roles None = no_role

-- what the function that a node calls does with devices, where functions do this
abbrev pub node_role : Program → List Role → Node → Role
node_role P roles n = role_with roles (asked P n)

-- an access of the device at the point of the call, if the call is evaluated and there is a device
abbrev pub access_if : Option ℕ → Option ℕ → ℕ → List Access → List Access
access_if (Some p) (Some v) n out = out ++ record { point = p; slot = v; occurrence = n } ∷ []
access_if (Some p) None n out = out
access_if None device n out = out

-- the calls that work so on devices among these nodes, the first of which is number n, behind others: each with the point at
-- which it is made and the device
abbrev pub accesses_in : (Role → Option ℕ) → Program → Graph → List Role → List Placed → ℕ → List Access → List Access
accesses_in work P G roles [] n out = out
accesses_in work P G roles (x ∷ xs) n out =
    accesses_in work P G roles xs (n + 1) (access_if (number G.rows (At n)) (work (node_role P roles x.node)) n out)

abbrev pub writes_by : Role → Option ℕ
writes_by role = role.writes

abbrev pub reads_by : Role → Option ℕ
reads_by role = role.reads

-- the calls of a program that write devices, where its functions do this with devices
abbrev pub writes_of : Program → Graph → List Role → List Access
writes_of P G roles = accesses_in writes_by P G roles P.arena.nodes 0 []

-- the calls that read devices
abbrev pub reads_of : Program → Graph → List Role → List Access
reads_of P G roles = accesses_in reads_by P G roles P.arena.nodes 0 []
