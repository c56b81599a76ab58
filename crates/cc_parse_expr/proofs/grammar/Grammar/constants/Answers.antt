use Rattle.std.proofs.lemmas.Result.{err_from_is_err_and}
use Rattle.cc_tree.specs.Views.{view_constant}
use Rattle.cc_grammar.specs.Reading as spec
use Rattle.cc_parse_expr.specs.Modes.{inner_at}
use Rattle.cc_parse_expr.specs.Parts as part
use Rattle.cc_parse_expr.proofs.EnclosedLoops.{enclosing, enclosed_fails, enclosed_refused, enclosed_ends, enclosed_trails, enclosed_goes, enclosed_over}
use Rattle.cc_parse_expr.proofs.grammar.Grammar.constants.Goals as goal

pub loop-round-init : goal.loop-round-init
loop-round-init g c =
    let names = c.args.self.now.names.now in
    let d = c.args.self.now.depth in
    let one = spec.one_constant names (inner_at names d) d in
    rw c.new-found.ensures (enclosing view_constant one c.args.tokens.now c.len-round-end.result c.len-round-end.ensures.value)

pub returns-in_err-one_constant : goal.returns-in_err-one_constant
returns-in_err-one_constant g c =
    let names = c.args.self.now.names.now in
    let d = c.args.self.now.depth in
    let one = spec.one_constant names (inner_at names d) d in
    let total = part.constants names (inner_at names d) d c.args.tokens.now in
    let p = err_from_is_err_and c.from_residual.result c.from_residual.ensures.1 in
    rw (p.1, p.2) (λ s. enclosed_fails view_constant one total c.len-round-end.result c.loop-round._round c.loop-round.found c.loop-round.tokens c.loop-round-test.true c.loop-round.invariant c.one_constant.new.tokens (c.in_err-one_constant.ensures s))

pub returns-in_err-take : goal.returns-in_err-take
returns-in_err-take g c =
    let names = c.args.self.now.names.now in
    let d = c.args.self.now.depth in
    let one = spec.one_constant names (inner_at names d) d in
    let total = part.constants names (inner_at names d) d c.args.tokens.now in
    let p = err_from_is_err_and c.from_residual-in_err-take.result c.from_residual-in_err-take.ensures.1 in
    rw (p.1, p.2) (λ s. enclosed_refused view_constant one total c.len-round-end.result c.loop-round._round c.loop-round.found c.loop-round.tokens c.loop-round-test.true c.loop-round.invariant c.in_ok-one_constant.field-0 c.one_constant.new.tokens c.take.new.self c.in_ok-one_constant.ensures c.if-not-next_is.ensures (c.in_err-take.ensures.gives s))

pub returns-then-not-next_is : goal.returns-then-not-next_is
returns-then-not-next_is g c =
    let names = c.args.self.now.names.now in
    let d = c.args.self.now.depth in
    let one = spec.one_constant names (inner_at names d) d in
    let total = part.constants names (inner_at names d) d c.args.tokens.now in
    rw c.in_ok-push.ensures.ok (enclosed_ends view_constant one total c.len-round-end.result c.loop-round._round c.loop-round.found c.loop-round.tokens c.loop-round-test.true c.loop-round.invariant c.in_ok-one_constant.field-0 c.one_constant.new.tokens c.take.new.self c.in_ok-one_constant.ensures c.if-not-next_is.ensures c.in_ok-take.ensures.gives)

pub returns-then-next_is : goal.returns-then-next_is
returns-then-next_is g c =
    let names = c.args.self.now.names.now in
    let d = c.args.self.now.depth in
    let one = spec.one_constant names (inner_at names d) d in
    let total = part.constants names (inner_at names d) d c.args.tokens.now in
    rw (c.in_ok-push.ensures.ok, c.skip-then-next_is.ensures, c.skip.ensures) (enclosed_trails view_constant one total c.len-round-end.result c.loop-round._round c.loop-round.found c.loop-round.tokens c.loop-round-test.true c.loop-round.invariant c.in_ok-one_constant.field-0 c.one_constant.new.tokens c.in_ok-one_constant.ensures c.if-not-next_is.ensures
    (rw c.skip.ensures at c.if-next_is.ensures))

pub loop-round-preserved : goal.loop-round-preserved
loop-round-preserved g c =
    let names = c.args.self.now.names.now in
    let d = c.args.self.now.depth in
    let one = spec.one_constant names (inner_at names d) d in
    let total = part.constants names (inner_at names d) d c.args.tokens.now in
    rw (c.in_ok-push.ensures.ok, c.skip.ensures) (enclosed_goes view_constant one total c.len-round-end.result c.loop-round._round c.loop-round.found c.loop-round.tokens c.loop-round-test.true c.loop-round.invariant c.in_ok-one_constant.field-0 c.one_constant.new.tokens c.in_ok-one_constant.ensures c.if-not-next_is.ensures
    (rw c.skip.ensures at c.if-next_is.ensures))

pub returns : goal.returns
returns g c =
    let names = c.args.self.now.names.now in
    let d = c.args.self.now.depth in
    let one = spec.one_constant names (inner_at names d) d in
    let total = part.constants names (inner_at names d) d c.args.tokens.now in
    λ _. enclosed_over view_constant one total c.len-round-end.result c.loop-round._round c.loop-round.found c.loop-round.tokens c.loop-round-test.false c.loop-round.invariant
