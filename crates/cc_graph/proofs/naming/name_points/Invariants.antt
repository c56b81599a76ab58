use Rattle.std.proofs.Common.{◌≡◌, drop}
use Rattle.cc_graph.specs.Points.{positions_from, positions_of}
use Rattle.cc_graph.proofs.naming.name_points.Given as goal

abbrev pub invariant-loop-n : goal.invariant-loop-n
invariant-loop-n l = positions_from (drop l.n l.rows) l.n l.positions ≡ positions_of l.rows
