use Rattle.std.specs.Option.{option_copied}
use Rattle.cc_reports.specs.Found.{IsListed}
use Rattle.cc_reports.proofs.Stopped.{refused_with, stopped}
use Rattle.cc_reports.proofs.found.find.Goals as goal

pub returns-in_err-scores-clause-fault : goal.returns-in_err-scores-clause-fault
returns-in_err-scores-clause-fault c =
    let listed : IsListed c.args.program.now c.in_ok-listed.listed.listing = (c.in_ok-listed.listed.graph, c.in_ok-listed.ensures.listed.graph, c.in_ok-listed.ensures.listed.listing) in
    let it = stopped c.args.program.now c.args.tests.now (option_copied c.args.justified) c.in_ok-listed.listed.listing listed c.in_ok-reasons.ensures.known c.in_err-scores.field-0.0
    c.in_err-scores.ensures.lost c.in_err-scores.ensures.unfit in
    refused_with c.args.program.now c.args.tests.now (option_copied c.args.justified) _ c.from_residual-in_err-scores.result c.from_residual-in_err-scores.ensures.1 it
