use Rattle.cc_flows.proofs.Passing.{visits_none}
use Rattle.cc_flows.proofs.sweeping.visit_one.Goals as goal

pub returns-else-point-next : goal.returns-else-point-next
returns-else-point-next c = visits_none c.args.next.now c.args.clears.now c.args.reach.now.items c.args.dirty.now.items
