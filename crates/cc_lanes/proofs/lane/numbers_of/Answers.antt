use Rattle.std.proofs.Common.{slice_index_or, subst}
use Rattle.std.proofs.lemmas.Option.{slice_get-get_or}
use Rattle.std.proofs.lemmas.List.{take_all}
use Rattle.cc_lanes.specs.Rows.{Pair}
use Rattle.cc_lanes.specs.Lanes.{AreNumbered}
use Rattle.cc_lanes.proofs.Pairing.{numbered_next}
use Rattle.cc_lanes.proofs.lane.numbers_of.Goals as goal

pub loop-i-preserved : goal.loop-i-preserved
loop-i-preserved c =
    let lanes = c.args.lanes.now in
    let k = c.loop-i.i in
    let lane : Pair = slice_index_or lanes k (0, 0) in
    rw c.in_ok-push.ensures.items (numbered_next lanes k c.in-Some.number lane c.loop-i.out.items (slice_get-get_or lanes k (0, 0) c.loop-i-test.true) c.in-Some.ensures c.loop-i.invariant)

pub returns : goal.returns
returns c = subst (λ xs. AreNumbered xs c.loop-i.out.items) (take_all c.loop-i.i c.args.lanes.now c.loop-i-test.false) c.loop-i.invariant
