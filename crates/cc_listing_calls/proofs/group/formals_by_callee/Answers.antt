use Rattle.cc_listing_calls.specs.Groups.{taker_of}
use Rattle.cc_listing_calls.proofs.Grouping.{if_by}
use Rattle.cc_listing_calls.proofs.group.formals_by_callee.Goals as goal

pub returns : goal.returns
returns c = if_by taker_of c.args.formals.now c.in_ok-keys.keys.items c.as_slice.result.now c.indexed.result c.in_ok-keys.ensures c.as_slice.ensures.value c.indexed.ensures
