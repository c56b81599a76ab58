use Rattle.cc_listing_calls.proofs.Grouping.{if_indexed}
use Rattle.cc_listing_calls.proofs.group.indexed.Goals as goal

pub returns : goal.returns
returns c = if_indexed c.args.keys.now c.in_ok-pairs.pairs.items c.as_slice.result.now c.grouped.result c.in_ok-pairs.ensures c.as_slice.ensures.value c.grouped.ensures
