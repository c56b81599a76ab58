use Rattle.std.proofs.Common.{◌≡◌, true, false}
use Rattle.cc_flows.proofs.Passing.{visits_none, visits_then, fits_still, settles_less}
use Rattle.cc_flows.proofs.sweeping.settle.Goals as goal

pub loop-busy-init : goal.loop-busy-init
loop-busy-init c = record { visits = visits_none c.args.next.now c.args.clears.now c.args.reach.now.items c.args.dirty.now.items; idle = λ e. absurd (let h = e in cc) }

pub visit_these-requires : goal.visit_these-requires
visit_these-requires c = fits_still c.args.next.now c.args.clears.now c.args.reach.now.items c.loop-busy.reach.items c.args.dirty.now.items c.loop-busy.dirty.items c.requires c.loop-busy.invariant.visits

pub visit_all-busy-requires : goal.visit_all-busy-requires
visit_all-busy-requires c = fits_still c.args.next.now c.args.clears.now c.args.reach.now.items c.visit_these.new.reach.items c.args.dirty.now.items c.visit_these.new.dirty.items c.requires
    (visits_then c.args.next.now c.args.clears.now c.args.reach.now.items c.loop-busy.reach.items c.visit_these.new.reach.items c.args.dirty.now.items c.loop-busy.dirty.items c.visit_these.new.dirty.items c.loop-busy.invariant.visits c.visit_these.ensures)

pub loop-busy-preserved : goal.loop-busy-preserved
loop-busy-preserved c = record {
  visits = visits_then c.args.next.now c.args.clears.now c.args.reach.now.items c.visit_these.new.reach.items c.visit_all-busy.new.reach.items c.args.dirty.now.items c.visit_these.new.dirty.items c.visit_all-busy.new.dirty.items
      (visits_then c.args.next.now c.args.clears.now c.args.reach.now.items c.loop-busy.reach.items c.visit_these.new.reach.items c.args.dirty.now.items c.loop-busy.dirty.items c.visit_these.new.dirty.items c.loop-busy.invariant.visits c.visit_these.ensures)
      c.visit_all-busy.ensures.visits;
  idle = c.visit_all-busy.ensures.idle;
}

pub loop-busy-smaller : goal.loop-busy-smaller
loop-busy-smaller c = settles_less c.args.next.now c.args.clears.now c.loop-busy.busy c.visit_all-busy.result c.loop-busy.reach.items c.visit_these.new.reach.items c.visit_all-busy.new.reach.items c.loop-busy.dirty.items c.visit_these.new.dirty.items c.visit_all-busy.new.dirty.items
    c.loop-busy-test.true c.visit_these.ensures c.visit_all-busy.ensures.visits c.visit_all-busy.ensures.grew
