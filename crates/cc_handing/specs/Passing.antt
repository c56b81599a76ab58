-- Which arguments are passed to which formals.
use Rattle.std.specs.Prelude.{ℕ, ◌+◌, Bool, false, if◌then◌else◌, List, [], ◌∷◌, ◌++◌, Option, Some, None, slice_get}
use Rattle.std.specs.List.{flat_map}
use Rattle.std.specs.Option.{option_to_list}
use Rattle.cc_blocks.specs.declared.block.Block.{Block}
use Rattle.cc_graph.specs.Graphs.{entry_of}
use Rattle.cc_graph.specs.Points.{number}
use Rattle.cc_graph.specs.declared.graph.Graph.{Graph}
use Rattle.cc_graph.specs.declared.position.Position.TheVariants.{At}
use Rattle.cc_listed.specs.declared.table.Access.{Access}
use Rattle.cc_listing_shared.specs.Living.{is_reached}
use Rattle.cc_parts.specs.declared.parts.Parts.{Parts}
use Rattle.cc_program.specs.declared.function.Function.{Function}
use Rattle.cc_program.specs.declared.program.Program.{Program}
use Rattle.cc_program.specs.declared.variable.VarId.{VarId}
use Rattle.cc_roles.specs.Calls.{arguments}
use Rattle.cc_handing.specs.Reads.{slot_of, access}
use Rattle.cc_handing.specs.Sites.{func}
use Rattle.cc_handing.specs.declared.site.Site.{Site}

abbrev pub formals_by : Option Function → List VarId
formals_by (Some f) = f.formals
formals_by None = []

-- the formals of the function of this number
abbrev pub formals_at : Program → ℕ → List VarId
formals_at p f = formals_by (slice_get p.functions f)

abbrev pub slot_by : Parts → Option VarId → Option ℕ
slot_by parts (Some v) = slot_of parts v
slot_by parts None = None

abbrev pub passed_by : ℕ → ℕ → Option ℕ → Option Access
passed_by entry e (Some slot) = Some (access entry slot e)
passed_by entry e None = None

-- these arguments, the first of which is the i-th, passed to the formals of a function, by their places
abbrev pub passed_from : Parts → ℕ → List VarId → List ℕ → ℕ → List Access
passed_from parts entry vs [] i = []
passed_from parts entry vs (e ∷ es) i = option_to_list (passed_by entry e (slot_by parts (slice_get vs i))) ++ passed_from parts entry vs es (i + 1)

-- the same, if the function has an entry
abbrev pub passed_to : Parts → Option ℕ → List VarId → List ℕ → List Access
passed_to parts (Some entry) vs es = passed_from parts entry vs es 0
passed_to parts None vs es = []

abbrev pub is_reached_at : List Block → ℕ → Option ℕ → Bool
is_reached_at reach root (Some at) = is_reached root reach at
is_reached_at reach root None = false

-- what a site passes to the function that it may call, if the call is reached
abbrev pub passed_at : Program → Graph → Parts → List Block → ℕ → Site → List Access
passed_at p g parts reach root s =
    if is_reached_at reach root (number g.rows (At s.site)) then passed_to parts (entry_of g (func s.callee)) (formals_at p s.callee) (arguments p.arena s.site) else []

-- what these sites pass
abbrev pub passed : Program → Graph → Parts → List Block → ℕ → List Site → List Access
passed p g parts reach root sites = flat_map (passed_at p g parts reach root) sites
