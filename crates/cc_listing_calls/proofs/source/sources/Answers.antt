use Rattle.std.proofs.Common.{◌∙◌}
use Rattle.cc_listing_calls.proofs.Sourcing.{if_sources, reached_within}
use Rattle.cc_listing_calls.proofs.source.sources.Goals as goal

pub join-requires-clause-starts : goal.join-requires-clause-starts
join-requires-clause-starts c = λ a is. reached_within c.args.roads.next.now c.args.root c.args.reach.now c.as_slice.result.now c.as_slice-4.result.now c.requires.next c.requires.root c.requires.reach (c.as_slice-4.ensures.value ∙ c.in_ok-starts.ensures) a is

pub returns : goal.returns
returns c =
    let u = c.args.uses in
    if_sources c.args.roads.next.now c.args.roads.within.now c.args.root c.args.tables.now c.args.reach.now u.writes.now u.given.now u.passed.now u.reads.now
    c.in_ok-all.all.items c.as_slice.result.now c.as_slice-2.result.now c.in_ok-cutters.cutters.items c.as_slice-3.result.now c.in_ok-starts.starts.items c.as_slice-4.result.now c.args.named.now c.in_ok-targets.targets.items c.as_slice-5.result.now c.join.result
    c.requires.reach c.in_ok-all.ensures c.as_slice.ensures.value c.as_slice-2.ensures.value c.in_ok-cutters.ensures c.as_slice-3.ensures.value c.in_ok-starts.ensures c.as_slice-4.ensures.value c.in_ok-targets.ensures c.as_slice-5.ensures.value c.join.ensures
