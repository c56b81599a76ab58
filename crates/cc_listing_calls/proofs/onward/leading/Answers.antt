use Rattle.std.proofs.Common.{length, refl}
use Rattle.cc_listing_calls.proofs.Leading.{leading_all, starts_within}
use Rattle.cc_listing_calls.proofs.onward.leading.Goals as goal

pub flow_all-requires-clause-definitions : goal.flow_all-requires-clause-definitions
flow_all-requires-clause-definitions c = λ d is. starts_within c.args.named.now c.args.arguments.now c.in_ok-starts.starts.items c.as_slice.result.now c.in_ok-begins.begins.items c.as_slice-5.result.now (length c.args.roads.next.now) (length c.args.arguments.now)
    refl c.in_ok-starts.ensures c.as_slice.ensures.value c.in_ok-begins.ensures c.as_slice-5.ensures.value d is

pub returns : goal.returns
returns c = leading_all c.args.roads.next.now c.args.named.now c.args.arguments.now c.in_ok-wipes.wipes.items c.as_slice-3.result.now c.in_ok-starts.starts.items c.as_slice.result.now c.in_ok-ends.ends.items c.as_slice-2.result.now
    c.in_ok-begins.begins.items c.as_slice-5.result.now c.in_ok-stops.stops.items c.as_slice-4.result.now (length c.args.roads.next.now) c.new-found.result.items c.flow_all.new.found.items
    refl c.in_ok-starts.ensures c.as_slice.ensures.value c.in_ok-begins.ensures c.as_slice-5.ensures.value c.in_ok-ends.ensures c.as_slice-2.ensures.value c.in_ok-stops.ensures c.as_slice-4.ensures.value
    c.in_ok-wipes.ensures.exact c.as_slice-3.ensures.value c.new-found.ensures.items c.in_ok-flow_all.ensures
