-- The table of a program's couplings.
use Rattle.std.specs.Prelude.{◌≡◌, ◌==◌, ◌+◌, ◌++◌, ℕ, List, [], ◌∷◌, codes, if◌then◌else◌}
use Rattle.std.specs.Fmt.{decimal}
use Rattle.cc_base.specs.declared.place.Spot.{Spot}
use Rattle.cc_first_runs.specs.Program.{Name, Function, Program, IsSite}
use Rattle.cc_first_runs.specs.Couplings.{Row, AreCouplings}
use Rattle.cc_first.specs.Linked.{IsLinked}
use Rattle.cc_first.specs.Project.{Component, Project}

-- the first line of the table
abbrev pub header : List ℕ
header = codes "row,kind,from,to,definition,use,name\n"

-- the component that has the file of this number
abbrev pub component_of : Project → ℕ → Component
component_of project file = if file == 0 then project.first else project.second

-- `file:line:column`
abbrev pub place_text : List ℕ → Spot → List ℕ
place_text file spot = file ++ (codes ":" ++ (decimal spot.line ++ (codes ":" ++ decimal spot.column)))

-- the line of a call coupling: its number, the two components, the place of the call, that of the called function's
-- name in its head, and this name
abbrev pub line : Project → ℕ → (caller : Function) (call : Name) (callee : Function) → List ℕ
line project number caller call callee =
    let from = component_of project caller.file in
    let to = component_of project callee.file in
    decimal number ++ (codes ",call," ++ (from.name ++ (codes "," ++ (to.name ++ (codes "," ++ (place_text from.file call.spot ++ (codes ","
    ++ (place_text to.file callee.head.spot ++ (codes "," ++ (callee.head.text ++ codes "\n"))))))))))

-- the lines of these rows, numbered from this number on
abbrev pub AreLines : Project → Program → ℕ → List Row → List ℕ → Type 0
AreLines project program number [] text = text ≡ []
AreLines project program number (row ∷ rows) text =
    (site : IsSite program row.f row.i row.g) × (rest : List ℕ)
    × (text ≡ line project number site.caller site.call site.callee ++ rest) × AreLines project program (number + 1) rows rest

-- the text is the table of the program's call couplings, rows numbered from 1
abbrev pub IsListing : Project → Program → ℕ → List ℕ → Type 0
IsListing project program entry text =
    (rows : List Row) × AreCouplings program entry rows × (lines : List ℕ) × AreLines project program 1 rows lines × (text ≡ header ++ lines)

-- the text is the table of a whole program with the project's entry
abbrev pub IsTable : Project → Program → List ℕ → Type 0
IsTable project program text = (e : ℕ) × IsLinked program project.entry e × IsListing project program e text
