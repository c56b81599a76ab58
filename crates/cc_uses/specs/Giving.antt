-- The definitions that are neither lvalues nor arguments.
use Rattle.std.specs.Prelude.{ℕ, Bool, true, false, if◌then◌else◌, List, [], drop, Option, Some, None, slice_get}
use Rattle.cc_arena.specs.Arenas.{node_of}
use Rattle.cc_arena.specs.declared.node.Node.{Node}
use Rattle.cc_arena.specs.declared.node.Node.TheVariants as node
use Rattle.cc_graph.specs.declared.graph.Graph.{Graph}
use Rattle.cc_graph.specs.declared.position.Position.TheVariants.{Root}
use Rattle.cc_graph.specs.Graphs.{entry_of}
use Rattle.cc_graph.specs.Points.{number}
use Rattle.cc_listed.specs.declared.table.Access.{Access}
use Rattle.cc_parts.specs.declared.parts.Object.{Object}
use Rattle.cc_parts.specs.declared.parts.Parts.{Parts}
use Rattle.cc_program.specs.declared.function.FuncId.{FuncId}
use Rattle.cc_program.specs.declared.function.Function.{Function}
use Rattle.cc_program.specs.declared.program.Program.{Program}
use Rattle.cc_program.specs.declared.variable.VarId.{VarId}
use Rattle.cc_program.specs.declared.variable.Variable.{Variable}
use Rattle.cc_symbols.specs.declared.declared.Life.{Life}
use Rattle.cc_symbols.specs.declared.declared.Life.TheVariants as life
use Rattle.cc_uses.specs.declared.put.Reach.TheVariants.{Inner}
use Rattle.cc_uses.specs.Putting.{put_from}
use Rattle.cc_uses.specs.Accessing.{with_part}
use Rattle.cc_uses.specs.Writing.{after}

-- a declarator with an initialiser
abbrev pub is_initialised : Option Node → Bool
is_initialised (Some (node.Declared (Some e))) = true
is_initialised x = false

-- A static variable is defined at the root, initialised or not; an automatic object after its declarator, if that has an
-- initialiser.
abbrev pub variable_start : Program → Graph → Life → ℕ → Option ℕ
variable_start p g life.Static n = number g.rows Root
variable_start p g life.Local n = if is_initialised (node_of (slice_get p.arena.nodes n)) then after g n else None
variable_start p g life.Formal n = None
variable_start p g life.Parameter n = None

-- a string literal is defined at the root
abbrev pub start_in : Program → Graph → Option Variable → ℕ → Option ℕ
start_in p g (Some v) n = variable_start p g v.life n
start_in p g None n = number g.rows Root

-- Where the object of the number k is defined by its declarator or literal, the node n. The objects are the variables, by
-- their numbers, and then the string literals.
abbrev pub start_of : Program → Graph → ℕ → ℕ → Option ℕ
start_of p g k n = start_in p g (slice_get p.variables k) n

-- with the slots of an object, at a point, if both are there
abbrev pub with_object : Parts → Option Object → Option ℕ → List Access → List Access
with_object parts (Some o) (Some point) out = with_part Inner point o.node (drop o.first parts.parts) o.first out
with_object parts (Some o) None out = out
with_object parts None point out = out

-- with those of the object of the number k, where its declarator or literal defines it
abbrev pub put_object : Program → Graph → Parts → ℕ → Object → List Access → List Access
put_object p g parts k o out = with_object parts (Some o) (start_of p g k o.node) out

-- with those of a formal
abbrev pub put_formal : Parts → Option ℕ → ℕ → VarId → List Access → List Access
put_formal parts point i v out = with_object parts (slice_get parts.objects v.0) point out

-- the formals of a function are defined at its entry, where it has a body
abbrev pub with_function : Graph → Parts → FuncId → Option Function → List Access → List Access
with_function g parts f (Some x) out = put_from (put_formal parts (entry_of g f)) x.formals 0 out
with_function g parts f None out = out

-- with those of the formals of an entry
abbrev pub put_entry : Program → Graph → Parts → ℕ → FuncId → List Access → List Access
put_entry p g parts i f out = with_function g parts f (slice_get p.functions f.0) out

-- of a program whose parts are these
abbrev pub given_of : Program → Graph → Parts → List Access
given_of p g parts = put_from (put_entry p g parts) p.entries 0 (put_from (put_object p g parts) parts.objects 0 [])
