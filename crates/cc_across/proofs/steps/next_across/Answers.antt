use Rattle.cc_across.proofs.Stepped.{are_next, next_stays}
use Rattle.cc_across.proofs.steps.next_across.Goals as goal

pub returns-clause-stays : goal.returns-clause-stays
returns-clause-stays c = next_stays c.args.program.now c.args.graph.now c.args.calls.now c.in_ok-pairs.pairs.items c.in_ok-next.next.items c.in_ok-pairs.ensures c.len.result c.len.ensures
    c.in_ok-next.ensures.long c.in_ok-next.ensures.exact c.in_ok-next.ensures.ascends

pub returns-clause-next : goal.returns-clause-next
returns-clause-next c = are_next c.args.program.now c.args.graph.now c.args.calls.now c.in_ok-pairs.pairs.items c.in_ok-next.next.items c.in_ok-pairs.ensures c.len.result c.len.ensures
    c.in_ok-next.ensures.long c.in_ok-next.ensures.exact c.in_ok-next.ensures.ascends
