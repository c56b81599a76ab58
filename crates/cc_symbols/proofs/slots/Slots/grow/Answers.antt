use Rattle.cc_symbols.proofs.GrownPlaces.{one_more}
use Rattle.cc_symbols.proofs.slots.Slots.grow.Goals as goal

pub loop-preserved : goal.loop-preserved
loop-preserved g c = one_more _ _ _ _ _ _ c.loop-test.true c.in_ok-push.ensures.items c.loop.invariant
