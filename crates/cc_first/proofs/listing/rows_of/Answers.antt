use Rattle.std.proofs.Common.{arith}
use Rattle.cc_first.specs.Views.{project_view}
use Rattle.cc_first.proofs.ListingSteps.{rows_more}
use Rattle.cc_first.proofs.listing.rows_of.Goals as goal

pub loop-i-preserved : goal.loop-i-preserved
loop-i-preserved c =
    rows_more (project_view c.args.project.now) c.args.program.now.functions.items c.args.couplings.now c.loop-i.i _ c.loop-i.rows.items c.push.new.self.items _
    (omega arith) c.in_ok-push.ensures.items c.loop-i.invariant c.in_ok-row_of.ensures
