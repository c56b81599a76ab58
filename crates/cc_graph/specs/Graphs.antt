-- What `lower` answers, and what a graph tells.
use Rattle.std.specs.Prelude.{ℕ, ◌≡◌, ◌≤◌, ◌<◌, List, map, Option, Some, None, slice_get, length}
use Rattle.cc_arena.specs.Arenas.{parent_of}
use Rattle.cc_arena.specs.declared.arena.Arena.{Arena}
use Rattle.cc_program.specs.declared.function.Function.{Function}
use Rattle.cc_program.specs.declared.function.FuncId.{FuncId}
use Rattle.cc_program.specs.declared.program.Program.{Program}
use Rattle.cc_graph.specs.declared.graph.Graph.{Graph}
use Rattle.cc_graph.specs.declared.graph.GraphFault.{GraphFault}
use Rattle.cc_graph.specs.declared.graph.GraphFault.TheVariants as fault
use Rattle.cc_graph.specs.declared.graph.Points.{Points}
use Rattle.cc_graph.specs.declared.position.Position.TheVariants.{Entry, Exit}
use Rattle.cc_graph.specs.declared.position.Row.{Row}
use Rattle.cc_graph.specs.Limit.{most_points}
use Rattle.cc_graph.specs.Linking.{IsSuccession}
use Rattle.cc_graph.specs.Points.{number, rows_of, points_in, IsNaming}
use Rattle.cc_graph.specs.Scopes.{scopes_of}

abbrev pub parent_of_body : Arena → Option ℕ → Option ℕ
parent_of_body A (Some block) = parent_of (slice_get A.nodes block)
parent_of_body A None = None

-- the node that defines a function, of which its body is a part
abbrev pub definition_of : Arena → Function → Option ℕ
definition_of A f = parent_of_body A f.body

abbrev pub definitions_of : Program → List (Option ℕ)
definitions_of p = map (definition_of p.arena) p.functions

abbrev pub defined_by : Option (Option ℕ) → Option ℕ
defined_by (Some d) = d
defined_by None = None

abbrev pub entry_by : List Row → Option ℕ → Option ℕ
entry_by rows (Some d) = number rows (Entry d)
entry_by rows None = None

abbrev pub exit_by : List Row → Option ℕ → Option ℕ
exit_by rows (Some d) = number rows (Exit d)
exit_by rows None = None

-- the entry and the exit of a function
abbrev pub entry_of : Graph → FuncId → Option ℕ
entry_of g f = entry_by g.rows (defined_by (slice_get g.definitions f.0))

abbrev pub exit_of : Graph → FuncId → Option ℕ
exit_of g f = exit_by g.rows (defined_by (slice_get g.definitions f.0))

-- the points of a program, within the limit
pub record ArePoints (P : Program) (it : Points) : Type 0 where
  pub rows : it.rows ≡ rows_of P
  pub points : it.points ≡ points_in P
  pub few : it.points ≤ most_points
  pub counted : length it.positions ≡ it.points
  pub named : IsNaming it.rows it.positions

-- the graph of a program
pub record IsGraph (P : Program) (g : Graph) : Type 0 where
  pub rows : g.rows ≡ rows_of P
  pub points : g.points ≡ points_in P
  pub few : g.points ≤ most_points
  pub counted : length g.positions ≡ g.points
  pub named : IsNaming g.rows g.positions
  pub definitions : g.definitions ≡ definitions_of P
  pub next : IsSuccession P.arena g.rows (scopes_of P.arena) g.points g.next

-- why a program has no graph: it has more points than the limit, and this many; want of memory may come for any program
abbrev pub Refuses : Program → GraphFault → Type 0
Refuses P (fault.TooManyPoints count) = (count ≡ points_in P) × (most_points < count)
Refuses P fault.Memory = Unit {0}
