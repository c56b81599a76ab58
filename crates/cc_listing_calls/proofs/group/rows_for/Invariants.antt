use Rattle.std.proofs.Common.{◌<◌, take}
use Rattle.std.specs.Prelude.{Contains}
use Rattle.cc_lanes.specs.Rows.{Pair}
use Rattle.cc_listing_calls.proofs.group.rows_for.Given as goal

abbrev pub invariant-loop-pair : goal.invariant-loop-pair
invariant-loop-pair l = (p : Pair) → Contains (take l.pair-index l.pairs) p → p.0 < l.count
