-- Which sites may call which functions, and the formals of functions.
use Rattle.std.specs.Prelude.{ℕ, ◌+◌, List, [], ◌∷◌, ◌++◌, Option, Some, None, slice_get}
use Rattle.std.specs.List.{filter_map}
use Rattle.std.specs.Option.{option_to_list}
use Rattle.cc_graph.specs.Graphs.{entry_of}
use Rattle.cc_graph.specs.Points.{number}
use Rattle.cc_graph.specs.declared.graph.Graph.{Graph}
use Rattle.cc_graph.specs.declared.position.Position.TheVariants.{At}
use Rattle.cc_listed.specs.declared.calls.Call.{Call}
use Rattle.cc_listed.specs.declared.calls.Formal.{Formal}
use Rattle.cc_parts.specs.declared.parts.Parts.{Parts}
use Rattle.cc_program.specs.declared.function.FuncId.{FuncId}
use Rattle.cc_program.specs.declared.function.Function.{Function}
use Rattle.cc_program.specs.declared.program.Program.{Program}
use Rattle.cc_program.specs.declared.variable.VarId.{VarId}
use Rattle.cc_roles.specs.Calls.{is_used}
use Rattle.cc_handing.specs.Reads.{slot_of}
use Rattle.cc_handing.specs.declared.site.Site.{Site}

abbrev pub func : ℕ → FuncId
func f = record { 0 = f }

abbrev pub declarator_of : Option Function → Option ℕ
declarator_of (Some f) = Some f.declarator
declarator_of None = None

-- the node of the function of this number
abbrev pub declarator : Program → ℕ → Option ℕ
declarator p f = declarator_of (slice_get p.functions f)

abbrev pub call_by : Program → ℕ → Option ℕ → Option ℕ → Option Call
call_by p site (Some at) (Some callee) = Some (record { site = site; callee = callee; at = at; used = is_used p site })
call_by p site at callee = None

-- the call that a site may make, if its point and the function are there
abbrev pub call : Program → Graph → Site → Option Call
call p g s = call_by p s.site (number g.rows (At s.site)) (declarator p s.callee)

-- which sites may call which functions
abbrev pub calls : Program → Graph → List Site → List Call
calls p g sites = filter_map (call p g) sites

abbrev pub formal_by : ℕ → ℕ → ℕ → Option ℕ → Option Formal
formal_by callee entry k (Some slot) = Some (record { callee = callee; number = k; slot = slot; entry = entry })
formal_by callee entry k None = None

-- these formals of a function, the first of which is the i-th, counted from 0
abbrev pub formals_from : Parts → ℕ → ℕ → List VarId → ℕ → List Formal
formals_from parts callee entry [] i = []
formals_from parts callee entry (v ∷ vs) i = option_to_list (formal_by callee entry (i + 1) (slot_of parts v)) ++ formals_from parts callee entry vs (i + 1)

-- the formals of a function, if it has an entry
abbrev pub formals_of : Parts → Function → Option ℕ → List Formal
formals_of parts f (Some entry) = formals_from parts f.declarator entry f.formals 0
formals_of parts f None = []

-- the formals of these functions, the first of which is the i-th
abbrev pub formals_in : Graph → Parts → List Function → ℕ → List Formal
formals_in g parts [] i = []
formals_in g parts (f ∷ fs) i = formals_of parts f (entry_of g (func i)) ++ formals_in g parts fs (i + 1)

-- the formals of all functions with a body
abbrev pub formals : Program → Graph → Parts → List Formal
formals p g parts = formals_in g parts p.functions 0
