-- The initialisers of pointers.
use Rattle.std.specs.Prelude.{ℕ, ◌+◌, Bool, true, false, not, ◌&&◌, nat_lt, if◌then◌else◌, List, [], ◌∷◌, ◌++◌, Option, Some, None, slice_get}
use Rattle.cc_arena.specs.declared.arena.Placed.{Placed}
use Rattle.cc_arena.specs.declared.node.Node.{Node}
use Rattle.cc_arena.specs.declared.node.Node.TheVariants as node
use Rattle.cc_parts.specs.declared.parts.Parts.{Parts}
use Rattle.cc_parts.specs.PartTables.{count_of, is_pointer}
use Rattle.cc_points_base.specs.declared.view.Class.TheVariants as class
use Rattle.cc_points_base.specs.declared.view.What.TheVariants as what
use Rattle.cc_points_base.specs.declared.view.Seen.{Seen}
use Rattle.cc_points_view.specs.declared.standing.Standing.{Standing}

abbrev pub is_braces : Node → Bool
is_braces (node.Braces s) = true
is_braces x = false

abbrev pub cell_if : Parts → Bool → Option ℕ → Option ℕ
cell_if parts is_expression (Some q) = if is_expression && nat_lt q (count_of parts.parts) && is_pointer parts.parts q then Some q else None
cell_if parts is_expression None = None

-- the pointer that an evaluated expression initialises
abbrev pub pointer_cell : Parts → Node → Option Standing → Option ℕ
pointer_cell parts x (Some standing) = cell_if parts (standing.is_evaluated && not (is_braces x)) standing.cell
pointer_cell parts x None = None

abbrev pub init : ℕ → ℕ → Seen
init q n = record { what = what.Init q n; class = class.Other; used = false }

abbrev pub with_cell : Option ℕ → ℕ → List Seen → List Seen
with_cell (Some q) n nodes = nodes ++ init q n ∷ []
with_cell None n nodes = nodes

-- with the initialiser that the node n is, if it is there
abbrev pub with_one : Parts → List Standing → ℕ → Option Placed → List Seen → List Seen
with_one parts standings n (Some x) nodes = with_cell (pointer_cell parts x.node (slice_get standings n)) n nodes
with_one parts standings n None nodes = nodes

-- with the initialisers among these nodes, the first of which is the n-th
abbrev pub with_initialisers : Parts → List Standing → List Placed → ℕ → List Seen → List Seen
with_initialisers parts standings [] n nodes = nodes
with_initialisers parts standings (x ∷ xs) n nodes =
    with_initialisers parts standings xs (n + 1) (with_cell (pointer_cell parts x.node (slice_get standings n)) n nodes)
