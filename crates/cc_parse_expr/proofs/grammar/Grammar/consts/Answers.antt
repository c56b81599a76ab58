use Rattle.std.proofs.Common.{arith}
use Rattle.cc_grammar.specs.Reading as spec
use Rattle.cc_parse_expr.specs.Modes.{inner_at}
use Rattle.cc_parse_expr.proofs.Counting.{counts, stops, ends, starting}
use Rattle.cc_parse_expr.proofs.grammar.Grammar.consts.Goals as goal

pub loop-round-init : goal.loop-round-init
loop-round-init g c =
    let names = c.args.self.now.names.now in
    let d = c.args.self.now.depth in
    record { small = omega arith; reads = starting names (inner_at names d) d c.args.tokens.now c.len-round-end.result c.len-round-end.ensures.value }

pub returns-then-not-next_is_keyword : goal.returns-then-not-next_is_keyword
returns-then-not-next_is_keyword g c =
    let names = c.args.self.now.names.now in
    let d = c.args.self.now.depth in
    stops names (inner_at names d) d (spec.consts names (inner_at names d) d c.args.tokens.now) c.loop-round.count c.len-round-end.result c.loop-round._round c.loop-round.tokens c.loop-round-test.true c.loop-round.invariant.reads c.if-not-next_is_keyword.ensures

pub loop-round-preserved : goal.loop-round-preserved
loop-round-preserved g c =
    let names = c.args.self.now.names.now in
    let d = c.args.self.now.depth in
    record {
      small = omega (arith, c.loop-round.invariant.small);
      reads = rw c.skip.ensures (counts names (inner_at names d) d (spec.consts names (inner_at names d) d c.args.tokens.now) c.loop-round.count c.len-round-end.result c.loop-round._round c.loop-round.tokens c.loop-round-test.true c.loop-round.invariant.reads c.if-not-next_is_keyword.ensures);
    }

pub returns : goal.returns
returns g c =
    let names = c.args.self.now.names.now in
    let d = c.args.self.now.depth in
    ends names (inner_at names d) d (spec.consts names (inner_at names d) d c.args.tokens.now) c.loop-round.count c.len-round-end.result c.loop-round._round c.loop-round.tokens c.loop-round-test.false c.loop-round.invariant.reads
