use Rattle.std.proofs.Common.{refl}
use Rattle.cc_across.proofs.Living.{calls_ok}
use Rattle.cc_across.proofs.calls.calls_of.Goals as goal

pub returns : goal.returns
returns c = calls_ok c.args.program.now c.args.graph.now c.args.facts.now c.arena-arena.result.now c.arena-arena.ensures c.entries.result.now c.entries.ensures c.in_ok-owners.owners c.in_ok-owners.ensures
    c.in_ok-all.all.items c.as_slice.result.now c.as_slice-3.result.now c.as_slice.ensures.value c.as_slice-3.ensures.value c.in_ok-live.live.items c.as_slice-2.result.now c.as_slice-4.result.now c.as_slice-2.ensures.value c.as_slice-4.ensures.value
    c.in_ok-nodes.nodes c.in_ok-nodes.ensures c.in_ok-all.ensures c.in_ok-functions.functions c.in_ok-functions.ensures c.in_ok-live.ensures
    _ c.in_ok-kept.kept.items refl c.in_ok-sites.ensures.exact c.in_ok-sites.ensures.ascends c.in_ok-kept.ensures c.in_ok-callees.ensures.exact c.in_ok-callees.ensures.ascends
