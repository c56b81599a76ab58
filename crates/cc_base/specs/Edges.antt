-- Edges between points, which are numbers from 0.
use Rattle.std.specs.Prelude.{◌≡◌, ◌<◌, ℕ, List, Bool, true, Some, All, Contains, slice_get}
use Rattle.cc_base.specs.declared.reach.Edge.{Edge}

-- an edge leads from a to b
abbrev pub Leads : List Edge → ℕ → ℕ → Type 0
Leads edges a b = Contains edges (record { from = a; to = b })

-- the edges stand between points below this number
abbrev pub AreBelow : ℕ → List Edge → Type 0
AreBelow points edges = All (λ edge. (edge.from < points) × (edge.to < points)) edges

-- this point is marked
abbrev pub IsMarked : List Bool → ℕ → Type 0
IsMarked marks point = slice_get marks point ≡ Some true
