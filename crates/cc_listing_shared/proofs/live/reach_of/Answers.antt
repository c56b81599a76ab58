use Rattle.std.proofs.Common.{◌∷◌, [], refl}
use Rattle.cc_listing_shared.proofs.Reaching.{reach_ok}
use Rattle.cc_listing_shared.proofs.live.reach_of.Goals as goal

pub returns : goal.returns
returns c = reach_ok c.args.routes.next.now c.args.routes.root c.in_ok-clears.clears.items c.as_slice.result.now (c.args.routes.root ∷ []) c.sweep.result
    c.as_slice.ensures.value c.in_ok-clears.ensures.none refl c.sweep.ensures.exact
