use Rattle.cc_listing_calls.proofs.Calling.{if_calls, more_calls}
use Rattle.cc_listing_calls.proofs.listed.call_rows.Goals as goal

pub returns-clause-rows : goal.returns-clause-rows
returns-clause-rows c = if_calls c.add_calls.result c.args.root c.args.tables.now c.args.reach.now c.args.calls.now c.in_ok-live.live.items c.as_slice.result.now c.args.rows.now.items c.add_calls.new.rows.items c.in_ok-live.ensures c.as_slice.ensures.value c.add_calls.ensures.rows

pub returns-clause-many : goal.returns-clause-many
returns-clause-many c = λ is. more_calls c.args.root c.args.tables.now c.args.reach.now c.args.calls.now c.in_ok-live.live.items c.as_slice.result.now c.args.rows.now.items c.args.most c.in_ok-live.ensures c.as_slice.ensures.value (c.add_calls.ensures.many is)
