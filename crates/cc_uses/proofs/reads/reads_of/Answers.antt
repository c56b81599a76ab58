use Rattle.cc_uses.proofs.ReadBy.{read_by_all, read_by_in}
use Rattle.cc_uses.proofs.reads.reads_of.Goals as goal

pub returns-clause-each : goal.returns-clause-each
returns-clause-each c = read_by_all c.args.program.now c.args.graph.now c.args.facts.now c.in_ok-out.out.items c.in_ok-out.ensures

pub returns-clause-points : goal.returns-clause-points
returns-clause-points c = read_by_in c.args.program.now c.args.graph.now c.args.facts.now c.in_ok-out.out.items c.in_ok-out.ensures
