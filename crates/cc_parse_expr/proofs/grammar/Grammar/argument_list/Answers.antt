use Rattle.std.proofs.lemmas.Result.{err_from_is_err_and}
use Rattle.cc_tree.specs.Views.{view}
use Rattle.cc_grammar.specs.Reading as spec
use Rattle.cc_parse_expr.specs.Modes.{inner_at}
use Rattle.cc_parse_expr.proofs.ListLoops.{separating, separated_fails, separated_ends, separated_goes, separated_over}
use Rattle.cc_parse_expr.proofs.grammar.Grammar.argument_list.Goals as goal

pub loop-round-init : goal.loop-round-init
loop-round-init g c =
    let one = (inner_at c.args.self.now.names.now c.args.self.now.depth).expr 2 in
    rw c.new-found.ensures (separating view one c.args.tokens.now c.len-round-end.result c.len-round-end.ensures.value)

pub returns-in_err-inner_expr : goal.returns-in_err-inner_expr
returns-in_err-inner_expr g c =
    let one = (inner_at c.args.self.now.names.now c.args.self.now.depth).expr 2 in
    let p = err_from_is_err_and c.from_residual.result c.from_residual.ensures.1 in
    rw (p.1, p.2) (λ s. separated_fails view one (spec.separated one c.args.tokens.now) c.len-round-end.result c.loop-round._round c.loop-round.found c.loop-round.tokens c.loop-round-test.true c.loop-round.invariant c.inner_expr.new.tokens (c.in_err-inner_expr.ensures s))

pub returns-then-not-next_is : goal.returns-then-not-next_is
returns-then-not-next_is g c =
    let one = (inner_at c.args.self.now.names.now c.args.self.now.depth).expr 2 in
    rw (c.in_ok-push.ensures.ok, c.into_inner.ensures) (separated_ends view one (spec.separated one c.args.tokens.now) c.len-round-end.result c.loop-round._round c.loop-round.found c.loop-round.tokens c.loop-round-test.true c.loop-round.invariant c.in_ok-inner_expr.field-0 c.inner_expr.new.tokens c.in_ok-inner_expr.ensures c.if-not-next_is.ensures)

pub loop-round-preserved : goal.loop-round-preserved
loop-round-preserved g c =
    let one = (inner_at c.args.self.now.names.now c.args.self.now.depth).expr 2 in
    rw (c.in_ok-push.ensures.ok, c.into_inner.ensures, c.skip.ensures) (separated_goes view one (spec.separated one c.args.tokens.now) c.len-round-end.result c.loop-round._round c.loop-round.found c.loop-round.tokens c.loop-round-test.true c.loop-round.invariant c.in_ok-inner_expr.field-0 c.inner_expr.new.tokens c.in_ok-inner_expr.ensures c.if-not-next_is.ensures)

pub returns : goal.returns
returns g c =
    let one = (inner_at c.args.self.now.names.now c.args.self.now.depth).expr 2 in
    λ _. separated_over view one (spec.separated one c.args.tokens.now) c.len-round-end.result c.loop-round._round c.loop-round.found c.loop-round.tokens c.loop-round-test.false c.loop-round.invariant
