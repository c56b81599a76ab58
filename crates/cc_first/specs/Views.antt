-- What the values of the code stand for.
use Rattle.std.specs.Prelude.{◌≡◌, ◌==◌, ◌+◌, ℕ, List, [], ◌∷◌, map, filter}
use Rattle.cc_first_runs.specs.Program as tree
use Rattle.cc_first_runs.specs.Couplings.{Row}
use Rattle.cc_first.specs.Project as project
use Rattle.cc_first.specs.Unit as unit
use Rattle.cc_first.specs.declared.project.Component.{Component}
use Rattle.cc_first.specs.declared.project.Project.{Project}
use Rattle.cc_first.specs.declared.unit.Name.{Name}
use Rattle.cc_first.specs.declared.unit.Part.{Part}
use Rattle.cc_first.specs.declared.unit.Part.TheVariants.{Declaration, Definition}
use Rattle.cc_first.specs.declared.program.Function.{Function}
use Rattle.cc_first.specs.declared.program.Call.{Call}
use Rattle.cc_first.specs.declared.program.Program.{Program}

abbrev pub component_view : Component → project.Component
component_view component = record { name = component.name.now; file = component.file.now }

abbrev pub project_view : Project → project.Project
project_view p = record { entry = p.entry.now; first = component_view p.first; second = component_view p.second }

abbrev pub name_view : Name → tree.Name
name_view name = record { text = name.text.now; spot = name.spot }

abbrev pub part_view : Part → unit.Part
part_view (Declaration head) = unit.Declaration (name_view head)
part_view (Definition head calls) = unit.Definition (name_view head) (map name_view calls.items)

abbrev pub parts_view : List Part → List unit.Part
parts_view parts = map part_view parts

-- the names that function number f calls
abbrev pub calls_view : List Call → ℕ → List tree.Name
calls_view calls f = map (λ call. name_view call.name) (filter (λ call. call.caller == f) calls)

-- the functions, of which the first has number f
abbrev pub functions_view : List Call → ℕ → List Function → tree.Program
functions_view calls f [] = []
functions_view calls f (function ∷ rest) =
    record { head = name_view function.head; file = function.file.0; calls = calls_view calls f } ∷ functions_view calls (f + 1) rest

abbrev pub program_view : Program → tree.Program
program_view program = functions_view program.calls.items 0 program.functions.items

-- the call is the one that the row is for
abbrev pub IsCallOf : tree.Program → Row → Call → Type 0
IsCallOf program row call =
    (site : tree.IsSite program row.f row.i row.g) × (row.f ≡ call.caller) × (row.g ≡ call.callee) × (site.call ≡ name_view call.name)

-- these calls are those of the rows
abbrev pub AreCallsOf : tree.Program → List Row → List Call → Type 0
AreCallsOf program [] [] = Unit {0}
AreCallsOf program [] (call ∷ calls) = ⊥
AreCallsOf program (row ∷ rows) [] = ⊥
AreCallsOf program (row ∷ rows) (call ∷ calls) = IsCallOf program row call × AreCallsOf program rows calls
