use Rattle.std.proofs.Common.{List, ap, ◌++◌, ◌∙◌}
use Rattle.cc_lanes.specs.Rows.{Pair}
use Rattle.cc_listing_shared.proofs.Wiping.{wipes_ok}
use Rattle.cc_listing_shared.proofs.cut.wipes_of.Goals as goal

pub returns-clause-exact : goal.returns-clause-exact
returns-clause-exact c = wipes_ok c.args.tables.now c.args.lanes.now c.args.points c.args.writes.now c.args.reads.now c.in_ok-pairs.pairs.items c.in_ok-more.more.items c.extend_from_slice.new.self.items c.as_slice-2.result.now c.table_of.result
    (c.in_ok-extend_from_slice.ensures.items ∙ ap (λ (xs : List Pair). c.in_ok-pairs.pairs.items ++ xs) c.as_slice.ensures.value) c.as_slice-2.ensures.value c.in_ok-pairs.ensures c.in_ok-more.ensures c.table_of.ensures.long c.table_of.ensures.exact
