use Rattle.cc_uses.proofs.GivenBy.{given_by_all, given_by_in}
use Rattle.cc_uses.proofs.given.given_of.Goals as goal

pub returns-clause-each : goal.returns-clause-each
returns-clause-each c = given_by_all c.args.program.now c.args.graph.now c.args.facts.now.parts c.in_ok-out.out.items c.in_ok-out.ensures

pub returns-clause-points : goal.returns-clause-points
returns-clause-points c = given_by_in c.args.program.now c.args.graph.now c.args.facts.now.parts c.in_ok-out.out.items c.in_ok-out.ensures
