-- The evaluated parts of a node, where they aren't simply its parts: a declaration has no points of its own, and in its place
-- stand its declarators that are evaluated, each by its name.
use Rattle.std.specs.Prelude.{ℕ, if◌then◌else◌, List, [], ◌∷◌, ◌++◌, Option, Some, None, slice_get, drop}
use Rattle.cc_arena.specs.Arenas.{node_of, stretch}
use Rattle.cc_arena.specs.declared.arena.Arena.{Arena}
use Rattle.cc_arena.specs.declared.arena.Placed.{Placed}
use Rattle.cc_arena.specs.declared.node.Node.{Node}
use Rattle.cc_arena.specs.declared.node.Node.TheVariants as node
use Rattle.cc_graph.specs.declared.position.Row.{Row}
use Rattle.cc_graph.specs.Points.{is_evaluated}

-- the declarator inside a form
abbrev pub form_inside : Node → Option ℕ
form_inside (node.Pointer d) = d
form_inside (node.Group d) = d
form_inside (node.Array d e) = d
form_inside (node.Function d ts) = d
form_inside what = None

abbrev pub inside_or : Option ℕ → (ℕ → ℕ) → ℕ → ℕ
inside_or (Some d) more n = more d
inside_or None more n = n

-- the name inside the forms that these nodes begin with, if they begin with any; the first of them is the node n
abbrev pub name_inside : List Placed → ℕ → ℕ
name_inside [] n = n
name_inside (x ∷ xs) n = inside_or (form_inside x.node) (name_inside xs) n

-- the name in the declarator whose outermost node is d; what is inside a form comes next
abbrev pub name_in : Arena → ℕ → ℕ
name_in A d = name_inside (drop d A.nodes) d

-- behind these parts, those of the declarators that are evaluated
abbrev pub with_names : Arena → List Row → List ℕ → List ℕ → List ℕ
with_names A rows [] parts = parts
with_names A rows (d ∷ ds) parts = with_names A rows ds (if is_evaluated rows (name_in A d) then parts ++ name_in A d ∷ [] else parts)

abbrev pub with_node : Arena → List Row → Option Node → ℕ → List ℕ → List ℕ
with_node A rows (Some (node.Declaration ds)) i parts = with_names A rows (stretch A.lists ds) parts
with_node A rows what i parts = parts ++ i ∷ []

-- behind these parts, what is evaluated of an item
abbrev pub with_item : Arena → List Row → ℕ → List ℕ → List ℕ
with_item A rows i parts = with_node A rows (node_of (slice_get A.nodes i)) i parts

abbrev pub with_items : Arena → List Row → List ℕ → List ℕ → List ℕ
with_items A rows [] parts = parts
with_items A rows (i ∷ items) parts = with_items A rows items (with_item A rows i parts)

-- the evaluated parts that the items of a block have, in order
abbrev pub item_parts : Arena → List Row → List ℕ → List ℕ
item_parts A rows items = with_items A rows items []

-- those of the first clause of a `for`
abbrev pub start_parts : Arena → List Row → Option ℕ → List ℕ
start_parts A rows (Some start) = item_parts A rows (start ∷ [])
start_parts A rows None = []
