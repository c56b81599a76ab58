use Rattle.std.proofs.Common.{◌∙◌}
use Rattle.cc_listing_shared.proofs.Wiping.{cut_by}
use Rattle.cc_listing_shared.proofs.cut.cut_pairs.Goals as goal

pub returns : goal.returns
returns c = cut_by c.args.tables.now c.args.lanes.now c.args.whose c.args.accesses.now c.as_slice.result.now c.in_ok-touches.touches.items c.as_slice-2.result.now c.in_ok-point_pairs.field-0.items
    (c.as_slice.ensures.value ∙ c.in_ok-kept.ensures) c.in_ok-touches.ensures c.as_slice-2.ensures.value c.in_ok-point_pairs.ensures
