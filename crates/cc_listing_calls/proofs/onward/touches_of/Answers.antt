use Rattle.cc_listing_calls.proofs.Leading.{touches_are}
use Rattle.cc_listing_calls.proofs.onward.touches_of.Goals as goal

pub returns : goal.returns
returns c = touches_are c.args.points.now c.in_ok-pairs.pairs.items c.as_slice.result.now c.in_ok-touched.field-0.items c.in_ok-pairs.ensures c.as_slice.ensures.value c.in_ok-touched.ensures
