use Rattle.std.proofs.Common.{ap, ◌∙◌}
use Rattle.cc_points_solve.specs.Problems.{row_of}
use Rattle.cc_points_solve.specs.Watching.{pairs_by}
use Rattle.cc_points_solve.proofs.Watched.{pairs_are}
use Rattle.cc_points_solve.proofs.watching.WatchingRules.pairs.Goals as goal

pub returns : goal.returns
returns c = pairs_are c.args.self.now.view.now (row_of c.args.self.now.table.now c.args.holder) c.args.target c.args.out.now.items c.add_pairs.new.out.items
    (c.in_ok-add_pairs.ensures ∙ ap (λ r. pairs_by c.args.self.now.view.now r c.args.target c.args.out.now.items) c.row_of.ensures)
