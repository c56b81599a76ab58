use Rattle.std.proofs.Common.{List, map, ap, ◌∙◌}
use Rattle.cc_across.specs.Pairs.{Pair}
use Rattle.cc_across.specs.Reaching.{edge_of}
use Rattle.cc_across.proofs.Reaching.{edges_below, are_live}
use Rattle.cc_across.proofs.reach.live_of.Goals as goal

pub reachable-requires-clause-edges : goal.reachable-requires-clause-edges
reachable-requires-clause-edges c = edges_below c.args.arena.now c.args.owners.now c.args.functions c.args.entries.now c.args.calls.now c.as_slice-2.result.now
    (c.as_slice-2.ensures.value ∙ c.in_ok-edges.ensures ∙ ap (λ (ps : List Pair). map edge_of ps) (c.as_slice.ensures.value ∙ c.in_ok-pairs.ensures))

pub returns : goal.returns
returns c = rw c.truncate.ensures.items (are_live c.args.arena.now c.args.owners.now c.args.functions c.args.entries.now c.args.calls.now c.as_slice-2.result.now
    (c.as_slice-2.ensures.value ∙ c.in_ok-edges.ensures ∙ ap (λ (ps : List Pair). map edge_of ps) (c.as_slice.ensures.value ∙ c.in_ok-pairs.ensures)) c.in_ok-live.live.items c.in_ok-live.ensures.exact)
