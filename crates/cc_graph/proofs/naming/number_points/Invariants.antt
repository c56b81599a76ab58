use Rattle.std.proofs.Common.{◌≡◌, ◌+◌, ◌*◌, ◌≤◌, length, drop}
use Rattle.cc_graph.specs.Points.{numbered}
use Rattle.cc_graph.proofs.naming.number_points.Given as goal

abbrev pub invariant-loop-n : goal.invariant-loop-n
invariant-loop-n l = record {
  told : numbered l.standings (drop l.n l.nodes) l.n l.rows l.next ≡ numbered l.standings l.nodes 0 l.initial.rows 1;
  small : l.next ≤ 3 * l.n + 1;
  long : length l.rows ≡ l.n;
}
