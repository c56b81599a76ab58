-- The parts of a graph make it the graph of the program.
use Rattle.std.proofs.Common.{◌≡◌, List, length, sym, ap, subst, ◌∙◌}
use Rattle.cc_program.specs.declared.program.Program.{Program}
use Rattle.cc_graph.specs.declared.graph.Graph.{Graph}
use Rattle.cc_graph.specs.declared.graph.Points.{Points}
use Rattle.cc_graph.specs.declared.position.Row.{Row}
use Rattle.cc_graph.specs.Graphs.{definitions_of, ArePoints, IsGraph}
use Rattle.cc_graph.specs.Linking.{IsSuccession}
use Rattle.cc_graph.specs.Scopes.{scopes_of}

pub is_graph : (P : Program) (it : Points) (rows : List Row) (g : Graph) → ArePoints P it → g.rows ≡ it.rows → g.points ≡ it.points → g.positions ≡ it.positions → g.definitions ≡ definitions_of P → rows ≡ it.rows → IsSuccession P.arena rows (scopes_of P.arena) it.points g.next → IsGraph P g
is_graph P it rows g h same_rows same_points same_positions definitions read next = record {
  rows = same_rows ∙ h.rows;
  points = same_points ∙ h.points;
  few = rw same_points h.few;
  counted = ap length same_positions ∙ h.counted ∙ sym same_points;
  named = rw same_rows (rw same_positions h.named);
  definitions = definitions;
  next = rw same_rows (rw same_points (subst (λ rows. IsSuccession P.arena rows (scopes_of P.arena) it.points g.next) read next));
}
