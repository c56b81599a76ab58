use Rattle.cc_listing_calls.proofs.Leading.{handing_are}
use Rattle.cc_listing_calls.proofs.onward.handing.Goals as goal

pub returns : goal.returns
returns c = handing_are c.args.roads.next.now c.args.named.now c.args.arguments.now c.in_ok-out.out.items c.in_ok-more.more.items c.as_slice-2.result.now c.extend_from_slice.new.self.items c.in_ok-found.found.items c.as_slice.result.now
    c.in_ok-found.ensures c.as_slice.ensures.value c.in_ok-out.ensures c.in_ok-more.ensures c.as_slice-2.ensures.value c.in_ok-extend_from_slice.ensures.items
