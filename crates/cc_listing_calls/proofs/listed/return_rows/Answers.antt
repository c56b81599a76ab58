use Rattle.cc_listing_calls.specs.declared.giving.Giving.{Giving}
use Rattle.cc_listing_calls.proofs.Givens.{if_returns, more_returns}
use Rattle.cc_listing_calls.proofs.listed.return_rows.Goals as goal

pub returns-clause-rows : goal.returns-clause-rows
returns-clause-rows c =
    let P : Giving = record { returns = c.as_slice-reached.result; by_callee = c.as_slice.result; sources = c.args.sources } in
    if_returns c.args.root c.args.tables.now c.args.reach.now c.args.calls.now c.in_ok-asking.asking.items c.as_slice-2.result.now c.in_ok-given.given.items c.args.returns.now P c.args.rows.now.items c.add_returns.new.rows.items
    c.in_ok-asking.ensures c.as_slice-2.ensures.value c.in_ok-given.ensures c.as_slice-reached.ensures.value c.in_ok-by_callee.by_callee.items c.in_ok-by_callee.ensures c.as_slice.ensures.value
    c.add_returns.result c.add_returns.ensures.rows

pub returns-clause-many : goal.returns-clause-many
returns-clause-many c = λ is.
    let P : Giving = record { returns = c.as_slice-reached.result; by_callee = c.as_slice.result; sources = c.args.sources } in
    more_returns c.args.root c.args.tables.now c.args.reach.now c.args.calls.now c.in_ok-asking.asking.items c.as_slice-2.result.now c.in_ok-given.given.items c.args.returns.now P c.args.rows.now.items c.add_returns.new.rows.items
    c.in_ok-asking.ensures c.as_slice-2.ensures.value c.in_ok-given.ensures c.as_slice-reached.ensures.value c.in_ok-by_callee.by_callee.items c.in_ok-by_callee.ensures c.as_slice.ensures.value
    c.args.most (c.add_returns.ensures.many is)
