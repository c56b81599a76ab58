use Rattle.std.proofs.lemmas.Result.{err_from_is_err_and}
use Rattle.cc_tree.specs.Views.{view_declarator}
use Rattle.cc_grammar.specs.Reading as spec
use Rattle.cc_parse_expr.specs.Modes.{inner_at}
use Rattle.cc_parse_expr.proofs.ListLoops.{separating, separated_fails, separated_ends, separated_goes, separated_over}
use Rattle.cc_parse_expr.proofs.grammar.Grammar.member_declarators.Goals as goal

pub loop-round-init : goal.loop-round-init
loop-round-init g c =
    let one = (inner_at c.args.self.now.names.now c.args.self.now.depth).declarator spec.with_name in
    rw c.new-found.ensures (separating view_declarator one c.args.tokens.now c.len-round-end.result c.len-round-end.ensures.value)

pub returns-in_err-inner_declarator : goal.returns-in_err-inner_declarator
returns-in_err-inner_declarator g c =
    let one = (inner_at c.args.self.now.names.now c.args.self.now.depth).declarator spec.with_name in
    let p = err_from_is_err_and c.from_residual.result c.from_residual.ensures.1 in
    rw (p.1, p.2) (λ s. separated_fails view_declarator one (spec.separated one c.args.tokens.now) c.len-round-end.result c.loop-round._round c.loop-round.found c.loop-round.tokens c.loop-round-test.true c.loop-round.invariant c.inner_declarator.new.tokens (c.in_err-inner_declarator.ensures s))

pub returns-then-not-next_is : goal.returns-then-not-next_is
returns-then-not-next_is g c =
    let one = (inner_at c.args.self.now.names.now c.args.self.now.depth).declarator spec.with_name in
    rw (c.in_ok-push.ensures.ok, c.into_inner.ensures) (separated_ends view_declarator one (spec.separated one c.args.tokens.now) c.len-round-end.result c.loop-round._round c.loop-round.found c.loop-round.tokens c.loop-round-test.true c.loop-round.invariant c.in_ok-inner_declarator.field-0 c.inner_declarator.new.tokens c.in_ok-inner_declarator.ensures c.if-not-next_is.ensures)

pub loop-round-preserved : goal.loop-round-preserved
loop-round-preserved g c =
    let one = (inner_at c.args.self.now.names.now c.args.self.now.depth).declarator spec.with_name in
    rw (c.in_ok-push.ensures.ok, c.into_inner.ensures, c.skip.ensures) (separated_goes view_declarator one (spec.separated one c.args.tokens.now) c.len-round-end.result c.loop-round._round c.loop-round.found c.loop-round.tokens c.loop-round-test.true c.loop-round.invariant c.in_ok-inner_declarator.field-0 c.inner_declarator.new.tokens c.in_ok-inner_declarator.ensures c.if-not-next_is.ensures)

pub returns : goal.returns
returns g c =
    let one = (inner_at c.args.self.now.names.now c.args.self.now.depth).declarator spec.with_name in
    λ _. separated_over view_declarator one (spec.separated one c.args.tokens.now) c.len-round-end.result c.loop-round._round c.loop-round.found c.loop-round.tokens c.loop-round-test.false c.loop-round.invariant
