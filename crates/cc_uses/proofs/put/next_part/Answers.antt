use Rattle.std.proofs.Common.{◌<◌, ◌≤◌, arith}
use Rattle.cc_uses.proofs.NextParts
use Rattle.cc_uses.proofs.put.next_part.Goals as goal

pub returns-then-q-count : goal.returns-then-q-count
returns-then-q-count c =
    let low : c.in-Some.q < c.args.count = omega arith in
    NextParts.found c.args.facts.now c.args.count c.args.l c.args.from c.in-Some.q c.next_part.result c.in-Some.is c.next_part.ensures.inside c.next_part.ensures.outside low

pub returns-else-q-count : goal.returns-else-q-count
returns-else-q-count c =
    let high : c.args.count ≤ c.in-Some.q = omega arith in
    NextParts.past c.args.facts.now c.args.count c.args.l c.args.from c.in-Some.q c.next_part.result c.in-Some.is c.next_part.ensures.inside high

pub returns-in-None : goal.returns-in-None
returns-in-None c = NextParts.none c.args.facts.now c.args.count c.args.l c.args.from c.next_part.result c.in-None.is c.next_part.ensures.inside
