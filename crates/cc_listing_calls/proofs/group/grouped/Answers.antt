use Rattle.cc_listing_calls.proofs.Grouping.{if_grouped}
use Rattle.cc_listing_calls.proofs.group.grouped.Goals as goal

pub returns : goal.returns
returns c = if_grouped c.args.pairs.now c.rows_for.result c.table_of.result c.rows_for.ensures c.table_of.ensures.long c.table_of.ensures.exact
