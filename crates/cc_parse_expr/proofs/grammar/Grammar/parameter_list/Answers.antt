use Rattle.std.proofs.lemmas.Result.{err_from_is_err_and}
use Rattle.cc_tree.specs.Views.{view_type}
use Rattle.cc_grammar.specs.Reading as spec
use Rattle.cc_parse_expr.specs.Modes.{inner_at}
use Rattle.cc_parse_expr.proofs.ListLoops.{separating, separated_fails, separated_ends, separated_goes, separated_over}
use Rattle.cc_parse_expr.proofs.grammar.Grammar.parameter_list.Goals as goal

pub loop-round-init : goal.loop-round-init
loop-round-init g c =
    let one = spec.typed c.args.self.now.names.now (inner_at c.args.self.now.names.now c.args.self.now.depth) c.args.self.now.depth spec.with_or_without in
    rw c.new-found.ensures (separating view_type one c.args.tokens.now c.len-round-end.result c.len-round-end.ensures.value)

pub returns-in_err-typed : goal.returns-in_err-typed
returns-in_err-typed g c =
    let one = spec.typed c.args.self.now.names.now (inner_at c.args.self.now.names.now c.args.self.now.depth) c.args.self.now.depth spec.with_or_without in
    let p = err_from_is_err_and c.from_residual.result c.from_residual.ensures.1 in
    rw (p.1, p.2) (λ s. separated_fails view_type one (spec.separated one c.args.tokens.now) c.len-round-end.result c.loop-round._round c.loop-round.found c.loop-round.tokens c.loop-round-test.true c.loop-round.invariant c.typed.new.tokens (c.in_err-typed.ensures s))

pub returns-then-not-next_is : goal.returns-then-not-next_is
returns-then-not-next_is g c =
    let one = spec.typed c.args.self.now.names.now (inner_at c.args.self.now.names.now c.args.self.now.depth) c.args.self.now.depth spec.with_or_without in
    rw (c.in_ok-push.ensures.ok, c.into_inner.ensures) (separated_ends view_type one (spec.separated one c.args.tokens.now) c.len-round-end.result c.loop-round._round c.loop-round.found c.loop-round.tokens c.loop-round-test.true c.loop-round.invariant c.in_ok-typed.field-0 c.typed.new.tokens c.in_ok-typed.ensures c.if-not-next_is.ensures)

pub loop-round-preserved : goal.loop-round-preserved
loop-round-preserved g c =
    let one = spec.typed c.args.self.now.names.now (inner_at c.args.self.now.names.now c.args.self.now.depth) c.args.self.now.depth spec.with_or_without in
    rw (c.in_ok-push.ensures.ok, c.into_inner.ensures, c.skip.ensures) (separated_goes view_type one (spec.separated one c.args.tokens.now) c.len-round-end.result c.loop-round._round c.loop-round.found c.loop-round.tokens c.loop-round-test.true c.loop-round.invariant c.in_ok-typed.field-0 c.typed.new.tokens c.in_ok-typed.ensures c.if-not-next_is.ensures)

pub returns : goal.returns
returns g c =
    let one = spec.typed c.args.self.now.names.now (inner_at c.args.self.now.names.now c.args.self.now.depth) c.args.self.now.depth spec.with_or_without in
    λ _. separated_over view_type one (spec.separated one c.args.tokens.now) c.len-round-end.result c.loop-round._round c.loop-round.found c.loop-round.tokens c.loop-round-test.false c.loop-round.invariant
