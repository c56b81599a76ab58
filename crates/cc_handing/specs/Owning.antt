-- In which functions nodes stand.
use Rattle.std.specs.Prelude.{ℕ, ◌+◌, List, [], ◌∷◌, ◌++◌, Option, Some, None, length, replicate, slice_get, slice_index_or, slice_set}
use Rattle.cc_arena.specs.declared.arena.Placed.{Placed}
use Rattle.cc_arena.specs.declared.node.Node.{Node}
use Rattle.cc_arena.specs.declared.node.Node.TheVariants as node
use Rattle.cc_graph.specs.Graphs.{defined_by}
use Rattle.cc_graph.specs.declared.graph.Graph.{Graph}
use Rattle.cc_program.specs.Programs.{or_none}
use Rattle.cc_program.specs.declared.function.Function.{Function}
use Rattle.cc_program.specs.declared.program.Program.{Program}

-- the definition that the parts of the node n stand in, where n itself stands in `own`
abbrev pub handed_on : ℕ → Node → Option ℕ → Option ℕ
handed_on n (node.Definition d block) own = Some n
handed_on n what own = own

abbrev pub definition_at : List (Option ℕ) → ℕ → Option ℕ
definition_at done up = or_none (slice_get done up)

-- those of the parts of these nodes, the first of which is the n-th, after those that are there
abbrev pub definitions_from : List Placed → ℕ → List (Option ℕ) → List (Option ℕ)
definitions_from [] n done = done
definitions_from (x ∷ xs) n done = definitions_from xs (n + 1) (done ++ handed_on n x.node (definition_at done x.parent) ∷ [])

-- by the number of a node the definition that its parts stand in
abbrev pub definitions : Program → List (Option ℕ)
definitions p = definitions_from p.arena.nodes 0 []

abbrev pub row_of : List (List ℕ) → ℕ → List ℕ
row_of rows d = slice_index_or rows d []

abbrev pub with_function : Option ℕ → ℕ → List (List ℕ) → List (List ℕ)
with_function (Some d) f rows = slice_set rows d (row_of rows d ++ f ∷ [])
with_function None f rows = rows

-- with each of these functions, the first of which is the i-th, in the row of the node that defines it
abbrev pub with_functions : Graph → List Function → ℕ → List (List ℕ) → List (List ℕ)
with_functions g [] i rows = rows
with_functions g (f ∷ fs) i rows = with_functions g fs (i + 1) (with_function (defined_by (slice_get g.definitions i)) f.declarator rows)

-- by the number of a node the functions that it defines, by their declarators
abbrev pub functions : Program → Graph → List (List ℕ)
functions p g = with_functions g p.functions 0 (replicate (length p.arena.nodes) [])

abbrev pub row_by : List (List ℕ) → Option ℕ → List ℕ
row_by rows (Some d) = row_of rows d
row_by rows None = []

-- the functions that the parts of a node stand in, by these tables
abbrev pub functions_around : List (Option ℕ) → List (List ℕ) → ℕ → List ℕ
functions_around definitions rows up = row_by rows (definition_at definitions up)
