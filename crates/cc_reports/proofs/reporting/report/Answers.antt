use Rattle.cc_reports.proofs.Ascending.{scores_ascend}
use Rattle.cc_reports.proofs.Ordered.{listed_ordered}
use Rattle.cc_reports.proofs.reporting.report.Goals as goal

pub reported-requires-clause-ordered : goal.reported-requires-clause-ordered
reported-requires-clause-ordered c = listed_ordered c.args.program.now c.in-Ok.found.listing c.in-Ok.ensures.found.listed

pub reported-requires-clause-ascending : goal.reported-requires-clause-ascending
reported-requires-clause-ascending c =
    scores_ascend c.args.program.now c.in-Ok.found.listing c.args.tests.now c.in-Ok.found.scores c.in-Ok.ensures.found.scored
