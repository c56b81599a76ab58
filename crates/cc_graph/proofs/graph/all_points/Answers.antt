use Rattle.std.proofs.Common.{rules, ap, ◌∙◌}
use Rattle.cc_graph.specs.Points.{positions_of}
use Rattle.cc_graph.specs.declared.naming.Rows.{Rows}
use Rattle.cc_graph.proofs.PointNames.{are_points}
use Rattle.cc_graph.proofs.graph.all_points.Goals as goal

pub returns-clause-points : goal.returns-clause-points
returns-clause-points c =
    let all = c.in_ok-rows.ensures.all in
    are_points c.args.program.now _ (ap (λ (r : Rows). r.rows) all) (ap (λ (r : Rows). r.points) all) (search rules) (c.in_ok-positions.ensures ∙ ap positions_of c.as_slice.ensures)
