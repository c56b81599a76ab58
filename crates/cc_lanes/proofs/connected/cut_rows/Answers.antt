use Rattle.std.proofs.Common.{◌∙◌}
use Rattle.cc_lanes.proofs.Connecting.{cuts_ok}
use Rattle.cc_lanes.proofs.connected.cut_rows.Goals as goal

pub returns-clause-exact : goal.returns-clause-exact
returns-clause-exact c = cuts_ok c.args.tables.now c.args.lanes.now c.args.points c.args.cutters.now c.in_ok-touches.touches.items c.as_slice.result.now c.in_ok-pairs.pairs.items c.as_slice-2.result.now c.table_of.result
    c.in_ok-touches.ensures c.as_slice.ensures.value c.in_ok-pairs.ensures c.as_slice-2.ensures.value c.table_of.ensures.long c.table_of.ensures.exact
