use Rattle.std.proofs.Common.{◌≡◌, sym, ◌∙◌}
use Rattle.cc_lanes.proofs.Joining.{joined, picked_within}
use Rattle.cc_lanes.specs.Picking.{stays, crosses}
use Rattle.cc_lanes.proofs.joined.join.Goals as goal

pub returns : goal.returns
returns c = joined c.args.roads.next.now c.args.roads.within.now c.args.tables.now c.args.inner.now c.args.outer.now c.args.starts.now c.args.targets.now
    c.in_ok-held.held.items c.as_slice.result.now c.in_ok-free.free.items c.as_slice-2.result.now c.new-found.result.items c.connect_all.new.found.items c.connect_all-2.new.found.items
    c.in_ok-held.ensures c.as_slice.ensures.value c.in_ok-free.ensures c.as_slice-2.ensures.value c.new-found.ensures.items c.in_ok-connect_all.ensures c.in_ok-connect_all-2.ensures

pub connect_all-requires-clause-starts : goal.connect_all-requires-clause-starts
connect_all-requires-clause-starts c = λ a is. rw c.requires.points (picked_within (stays c.args.tables.now) c.args.starts.now c.as_slice.result.now _ (c.as_slice.ensures.value ∙ c.in_ok-held.ensures) c.requires.starts a is)

pub connect_all-requires-2-clause-starts : goal.connect_all-requires-2-clause-starts
connect_all-requires-2-clause-starts c = picked_within (crosses c.args.tables.now) c.args.starts.now c.as_slice-2.result.now _ (c.as_slice-2.ensures.value ∙ c.in_ok-free.ensures) c.requires.starts
