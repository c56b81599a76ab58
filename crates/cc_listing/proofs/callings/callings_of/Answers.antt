use Rattle.cc_listing.proofs.Joining.{callings_made}
use Rattle.cc_listing.proofs.callings.callings_of.Goals as goal

pub returns : goal.returns
returns c = callings_made c.args.program.now c.args.graph.now c.args.facts.now c.in_ok-calls.calls c.callings_by.result c.in_ok-calls.ensures c.callings_by.ensures
