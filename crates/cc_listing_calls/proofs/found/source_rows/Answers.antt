use Rattle.cc_listing_calls.specs.Views.{steps_of, accesses_of}
use Rattle.cc_listing_calls.proofs.Finding.{if_sources}
use Rattle.cc_listing_calls.proofs.found.source_rows.Goals as goal

pub returns : goal.returns
returns c = if_sources (steps_of c.args.roads c.args.root) c.args.tables.now (accesses_of c.args.uses) c.in_ok-found.found.items c.as_slice.result.now c.in_ok-pairs.pairs.items c.as_slice-2.result.now
    c.as_slice.ensures.value c.as_slice-2.ensures.value c.args.named.now c.grouped.result c.in_ok-pairs.ensures c.in_ok-found.ensures c.grouped.ensures
