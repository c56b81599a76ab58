use Rattle.std.proofs.Common.{◌∙◌}
use Rattle.cc_listing_calls.proofs.Firsts.{if_firsts, starts_within}
use Rattle.cc_listing_calls.proofs.first.first_readers.Goals as goal

pub join-requires-clause-starts : goal.join-requires-clause-starts
join-requires-clause-starts c = λ a is. starts_within c.as_slice.result.now c.in_ok-starts.starts.items c.args.formals.now _ (c.as_slice.ensures.value ∙ c.in_ok-entries.ensures) c.in_ok-starts.ensures c.requires.formals a (rw c.as_slice-3.ensures.value at is)

pub returns : goal.returns
returns c =
    let u = c.args.uses in
    if_firsts c.args.roads.next.now c.args.roads.within.now c.args.root c.args.tables.now u.writes.now u.given.now u.passed.now u.reads.now
    c.in_ok-cutters.cutters.items c.as_slice-2.result.now c.in_ok-entries.entries.items c.as_slice.result.now c.in_ok-starts.starts.items c.as_slice-3.result.now c.args.formals.now c.join.result
    c.in_ok-cutters.ensures c.as_slice-2.ensures.value c.in_ok-entries.ensures c.as_slice.ensures.value c.in_ok-starts.ensures c.as_slice-3.ensures.value c.join.ensures
