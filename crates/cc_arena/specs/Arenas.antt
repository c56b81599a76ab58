-- What an arena says, and how it grows.
use Rattle.std.specs.Prelude.{ℕ, ◌&&◌, cond, nat_le, List, [], ◌∷◌, ◌++◌, Option, Some, None, length, slice_range}
use Rattle.cc_base.specs.declared.place.Spot.{Spot}
use Rattle.cc_arena.specs.declared.node.Node.{Node}
use Rattle.cc_arena.specs.declared.node.Span.{Span}
use Rattle.cc_arena.specs.declared.arena.Arena.{Arena}
use Rattle.cc_arena.specs.declared.arena.Placed.{Placed}

abbrev pub no_nodes : Arena
no_nodes = record { nodes = []; lists = []; bytes = [] }

-- with one more node, a part of the node at `up`
abbrev pub pushed : ℕ → Spot → Node → Arena → Arena
pushed up s n A = record { nodes = A.nodes ++ record { node = n; parent = up; spot = s } ∷ []; lists = A.lists; bytes = A.bytes }

-- with one more list
abbrev pub with_list : List ℕ → Arena → Arena
with_list xs A = record { nodes = A.nodes; lists = A.lists ++ xs; bytes = A.bytes }

-- with the bytes of one more string
abbrev pub with_bytes : List ℕ → Arena → Arena
with_bytes xs A = record { nodes = A.nodes; lists = A.lists; bytes = A.bytes ++ xs }

abbrev pub only : ℕ → List ℕ
only n = n ∷ []

-- the stretch that `xs` has behind `before`
abbrev pub span_after : List ℕ → List ℕ → Span
span_after before xs = record { start = length before; «end» = length (before ++ xs) }

-- what stands in a stretch, and nothing where there is no such stretch
abbrev pub stretch : {A : Type 0} → List A → Span → List A
stretch xs s = cond (nat_le s.start s.end && nat_le s.end (length xs)) (slice_range xs s.start s.end) []

abbrev pub node_of : Option Placed → Option Node
node_of (Some x) = Some x.node
node_of None = None

abbrev pub parent_of : Option Placed → Option ℕ
parent_of (Some x) = Some x.parent
parent_of None = None

abbrev pub spot_of : Option Placed → Option Spot
spot_of (Some x) = Some x.spot
spot_of None = None
