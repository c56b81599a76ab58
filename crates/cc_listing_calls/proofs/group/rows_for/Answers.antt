use Rattle.std.proofs.Common.{◌<◌, List, take, slice_index_or, subst, arith}
use Rattle.std.specs.Prelude.{Contains}
use Rattle.std.proofs.lemmas.Option.{slice_get-get_or}
use Rattle.std.proofs.lemmas.List.{take_all}
use Rattle.cc_lanes.specs.Rows.{Pair}
use Rattle.cc_lanes.proofs.Listing.{none}
use Rattle.cc_listing_calls.proofs.Grouping.{bound_next}
use Rattle.cc_listing_calls.proofs.group.rows_for.Goals as goal

pub loop-pair-init : goal.loop-pair-init
loop-pair-init c = λ p is. absurd (none p is)

pub loop-pair-preserved : goal.loop-pair-preserved
loop-pair-preserved c =
    let items = c.args.pairs.now in
    let k = c.loop-pair.pair-index in
    let y : Pair = slice_index_or items k (0, 0) in
    bound_next items k y c.loop-pair.count c.max-count.result (slice_get-get_or items k (0, 0) c.loop-pair-test.true) (omega arith) (omega arith) c.loop-pair.invariant

pub returns : goal.returns
returns c = subst (λ (ps : List Pair). (p : Pair) → Contains ps p → p.0 < c.loop-pair.count) (take_all c.loop-pair.pair-index c.args.pairs.now c.loop-pair-test.false) c.loop-pair.invariant
