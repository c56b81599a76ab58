use Rattle.std.proofs.Common.{ap, ◌∙◌}
use Rattle.cc_points_solve.specs.Problems.{row_of}
use Rattle.cc_points_solve.specs.Watching.{edges_by}
use Rattle.cc_points_solve.proofs.Watched.{edges_are}
use Rattle.cc_points_solve.proofs.watching.WatchingRules.edges.Goals as goal

pub returns : goal.returns
returns c = edges_are c.args.self.now.view.now c.args.self.now.layout (row_of c.args.self.now.table.now c.args.holder) c.args.target c.args.out.now.items c.add_edges.new.out.items
    (c.in_ok-add_edges.ensures ∙ ap (λ r. edges_by c.args.self.now.view.now c.args.self.now.layout r c.args.target c.args.out.now.items) c.row_of.ensures)
