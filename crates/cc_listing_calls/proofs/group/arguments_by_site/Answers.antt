use Rattle.cc_listing_calls.specs.Groups.{site_of}
use Rattle.cc_listing_calls.proofs.Grouping.{if_by}
use Rattle.cc_listing_calls.proofs.group.arguments_by_site.Goals as goal

pub returns : goal.returns
returns c = if_by site_of c.args.arguments.now c.in_ok-keys.keys.items c.as_slice.result.now c.indexed.result c.in_ok-keys.ensures c.as_slice.ensures.value c.indexed.ensures
