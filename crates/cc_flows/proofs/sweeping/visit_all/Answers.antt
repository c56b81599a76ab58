use Rattle.cc_flows.proofs.Passing.{visited_none, visited_more, visited_all, fits_still}
use Rattle.cc_flows.proofs.sweeping.visit_all.Goals as goal

pub loop-point-init : goal.loop-point-init
loop-point-init c = visited_none c.args.next.now c.args.clears.now c.args.reach.now.items c.args.dirty.now.items

pub visit-grew-requires-clause-fits : goal.visit-grew-requires-clause-fits
visit-grew-requires-clause-fits c = fits_still c.args.next.now c.args.clears.now c.args.reach.now.items c.loop-point.reach.items c.args.dirty.now.items c.loop-point.dirty.items c.requires c.loop-point.invariant.visits

pub loop-point-preserved : goal.loop-point-preserved
loop-point-preserved c = visited_more c.args.next.now c.args.clears.now c.loop-point.any c.visit-grew.result c.either-any.result c.loop-point.point
    c.args.reach.now.items c.loop-point.reach.items c.visit-grew.new.reach.items c.args.dirty.now.items c.loop-point.dirty.items c.visit-grew.new.dirty.items
    c.either-any.ensures c.loop-point.invariant c.visit-grew.ensures.visits c.visit-grew.ensures.grew c.visit-grew.ensures.idle

pub returns-clause-visits : goal.returns-clause-visits
returns-clause-visits c = c.loop-point.invariant.visits

pub returns-clause-grew : goal.returns-clause-grew
returns-clause-grew c = c.loop-point.invariant.grew

pub returns-clause-idle : goal.returns-clause-idle
returns-clause-idle c = visited_all c.args.next.now c.args.clears.now c.loop-point.any c.loop-point.point c.args.reach.now.items c.loop-point.reach.items c.args.dirty.now.items c.loop-point.dirty.items c.requires c.loop-point-test.false c.loop-point.invariant
