use Rattle.std.proofs.Common.{refl, arith}
use Rattle.std.proofs.lemmas.Result.{err_from_is_err_and}
use Rattle.cc_grammar.specs.Reading as spec
use Rattle.cc_tree.specs.Views.{view}
use Rattle.cc_parse_expr.specs.Modes.{inner_at}
use Rattle.cc_parse_expr.proofs.Climbing.{climb_goes, climb_fails, climb_ends, climb_deeper}
use Rattle.cc_parse_expr.proofs.grammar.Grammar.climb.Goals as goal

pub loop-tokens-init : goal.loop-tokens-init
loop-tokens-init g c = record { rounds = c.args.self.now.depth; enough = omega arith; same = refl }

pub returns-in_err-left : goal.returns-in_err-left
returns-in_err-left g c =
    let names = c.args.self.now.names.now in
    let inner = inner_at names c.args.self.now.depth in
    let p = err_from_is_err_and c.from_residual.result c.from_residual.ensures.1 in
    rw (p.1, p.2) (λ s. climb_fails names inner c.args.self.now.depth c.args.least (spec.climb names inner c.args.self.now.depth c.args.least c.args.self.now.depth (view c.args.first) c.args.tokens.now) (view c.loop-tokens.left) c.loop-tokens.tokens c.loop-tokens.invariant (rw c.get.ensures at c.loop-tokens-test.ensures.answer) c.go_on.new.tokens
    (rw (c.tail-tail.ensures, c.spot-note.ensures, c.skip.ensures, c.goes_on.ensures.stays) at (c.in_err-left.ensures s)))

pub loop-tokens-smaller : goal.loop-tokens-smaller
loop-tokens-smaller g c =
    let names = c.args.self.now.names.now in
    let inner = inner_at names c.args.self.now.depth in
    climb_deeper names inner c.args.self.now.depth c.args.least (spec.climb names inner c.args.self.now.depth c.args.least c.args.self.now.depth (view c.args.first) c.args.tokens.now) (view c.loop-tokens.left) c.loop-tokens.tokens (rw c.get.ensures at c.loop-tokens-test.ensures.answer) (view c.in_ok-left.left) c.go_on.new.tokens
    (rw (c.tail-tail.ensures, c.spot-note.ensures, c.skip.ensures, c.goes_on.ensures.stays) at c.in_ok-left.ensures)

pub loop-tokens-preserved : goal.loop-tokens-preserved
loop-tokens-preserved g c =
    let names = c.args.self.now.names.now in
    let inner = inner_at names c.args.self.now.depth in
    climb_goes names inner c.args.self.now.depth c.args.least (spec.climb names inner c.args.self.now.depth c.args.least c.args.self.now.depth (view c.args.first) c.args.tokens.now) (view c.loop-tokens.left) c.loop-tokens.tokens c.loop-tokens.invariant (rw c.get.ensures at c.loop-tokens-test.ensures.answer) (view c.in_ok-left.left) c.go_on.new.tokens
    (rw (c.tail-tail.ensures, c.spot-note.ensures, c.skip.ensures, c.goes_on.ensures.stays) at c.in_ok-left.ensures)

pub returns : goal.returns
returns g c =
    let names = c.args.self.now.names.now in
    let inner = inner_at names c.args.self.now.depth in
    rw c.goes_on.ensures.stays (climb_ends names inner c.args.self.now.depth c.args.least (spec.climb names inner c.args.self.now.depth c.args.least c.args.self.now.depth (view c.args.first) c.args.tokens.now) (view c.loop-tokens.left) c.loop-tokens.tokens c.loop-tokens.invariant (rw c.get.ensures at c.loop-tokens-test.ensures.answer))
