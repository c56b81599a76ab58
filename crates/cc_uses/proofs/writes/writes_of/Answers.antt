use Rattle.cc_uses.proofs.Written.{written_all, written_in}
use Rattle.cc_uses.proofs.writes.writes_of.Goals as goal

pub returns-clause-each : goal.returns-clause-each
returns-clause-each c = written_all c.args.program.now c.args.graph.now c.args.facts.now c.in_ok-out.out.items c.in_ok-out.ensures

pub returns-clause-points : goal.returns-clause-points
returns-clause-points c = written_in c.args.program.now c.args.graph.now c.args.facts.now c.in_ok-out.out.items c.in_ok-out.ensures
