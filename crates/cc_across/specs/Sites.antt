-- Where calls stand.
use Rattle.std.specs.Prelude.{ℕ, ◌+◌, ◌≡◌, ◌<◌, ◌↔◌, Bool, true, false, List, [], ◌∷◌, ◌++◌, Option, Some, None, length, slice_get, Contains}
use Rattle.cc_arena.specs.Arenas.{parent_of}
use Rattle.cc_arena.specs.declared.arena.Arena.{Arena}
use Rattle.cc_arena.specs.declared.arena.Placed.{Placed}
use Rattle.cc_arena.specs.declared.node.Node.{Node}
use Rattle.cc_arena.specs.declared.node.Node.TheVariants as node
use Rattle.cc_program.specs.Programs.{or_none}
use Rattle.cc_graph.specs.declared.graph.Graph.{Graph}
use Rattle.cc_graph.specs.declared.position.Position.TheVariants.{At}
use Rattle.cc_graph.specs.Graphs.{defined_by}
use Rattle.cc_graph.specs.Linking.{row_of}
use Rattle.cc_graph.specs.Points.{number}
use Rattle.cc_across.specs.declared.owners.Owners.{Owners}
use Rattle.cc_across.specs.Pairs.{Pair}

-- the function, by the node that defines it, that the parts of the node n stand in, where n itself stands in `own`
abbrev pub handed : ℕ → Node → Option ℕ → Option ℕ
handed n (node.Definition d block) own = Some n
handed n what own = own

-- those of the parts of the nodes from the n-th on, after those that are there
abbrev pub owners_from : List Placed → ℕ → List (Option ℕ) → List (Option ℕ)
owners_from [] n done = done
owners_from (x ∷ xs) n done = owners_from xs (n + 1) (done ++ handed n x.node (or_none (slice_get done x.parent)) ∷ [])

abbrev pub owners_of : Arena → List (Option ℕ)
owners_of A = owners_from A.nodes 0 []

abbrev pub owner_by : List (Option ℕ) → Option ℕ → Option ℕ
owner_by owners (Some up) = or_none (slice_get owners up)
owner_by owners None = None

-- the function, by the node that defines it, that the node s stands in
abbrev pub owner_of : Arena → List (Option ℕ) → ℕ → Option ℕ
owner_of A owners s = owner_by owners (parent_of (slice_get A.nodes s))

-- the node is a call that is evaluated
abbrev pub IsEvaluated : Graph → ℕ → Type 0
IsEvaluated G s = (point : ℕ) × (number G.rows (At s) ≡ Some point)

abbrev pub is_there : Option ℕ → Bool
is_there (Some k) = true
is_there None = false

-- the node that defines a function
abbrev pub body_of : Graph → ℕ → Option ℕ
body_of G f = defined_by (slice_get G.definitions f)

-- the call at the node s is evaluated and stands in the body of the function f
pub record StandsIn (A : Arena) (G : Graph) (s f : ℕ) : Type 0 where
  pub evaluated : IsEvaluated G s
  pub body : ℕ
  pub stands : owner_of A (owners_of A) s ≡ Some body
  pub defines : body_of G f ≡ Some body

abbrev pub body_pair : Option ℕ → ℕ → List Pair → List Pair
body_pair (Some d) f pairs = pairs ++ (d, f) ∷ []
body_pair None f pairs = pairs

-- the nodes that define functions, each with the function's number, from the number f on
abbrev pub body_pairs : List (Option ℕ) → ℕ → List Pair → List Pair
body_pairs [] f pairs = pairs
body_pairs (d ∷ ds) f pairs = body_pairs ds (f + 1) (body_pair d f pairs)

-- each of so many nodes has the functions that it defines
abbrev pub AreBodies : ℕ → Graph → List (List ℕ) → Type 0
AreBodies n G bodies = (d f : ℕ) → Contains (row_of bodies d) f ↔ ((d < n) × (body_of G f ≡ Some d))

-- what the parts of each node stand in, and the functions that each node defines
pub record AreOwners (A : Arena) (G : Graph) (it : Owners) : Type 0 where
  pub owners : it.owners ≡ owners_of A
  pub bodies : AreBodies (length A.nodes) G it.bodies.items

abbrev pub functions_by : List (List ℕ) → Option ℕ → List ℕ
functions_by bodies (Some d) = row_of bodies d
functions_by bodies None = []

-- the functions in whose body a node stands
abbrev pub functions_of : Arena → Owners → ℕ → List ℕ
functions_of A it s = functions_by it.bodies.items (owner_of A it.owners s)
