use Rattle.cc_flows.proofs.Passing.{visits_none, visits_then, fits_still}
use Rattle.cc_flows.proofs.sweeping.visit_these.Goals as goal

pub loop-point-init : goal.loop-point-init
loop-point-init c = visits_none c.args.next.now c.args.clears.now c.args.reach.now.items c.args.dirty.now.items

pub visit_one-requires : goal.visit_one-requires
visit_one-requires c = fits_still c.args.next.now c.args.clears.now c.args.reach.now.items c.loop-point.reach.items c.args.dirty.now.items c.loop-point.dirty.items c.requires c.loop-point.invariant

pub loop-point-preserved : goal.loop-point-preserved
loop-point-preserved c = visits_then c.args.next.now c.args.clears.now c.args.reach.now.items c.loop-point.reach.items c.visit_one.new.reach.items c.args.dirty.now.items c.loop-point.dirty.items c.visit_one.new.dirty.items c.loop-point.invariant c.visit_one.ensures
