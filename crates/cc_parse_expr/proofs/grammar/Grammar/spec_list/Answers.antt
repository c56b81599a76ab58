use Rattle.std.proofs.lemmas.Result.{err_from_is_err_and}
use Rattle.cc_tree.specs.Views.{view_spec}
use Rattle.cc_grammar.specs.Reading as spec
use Rattle.cc_grammar.specs.Classes.{starts_spec}
use Rattle.cc_parse_expr.specs.Parts as part
use Rattle.cc_parse_expr.specs.Modes.{inner_at}
use Rattle.cc_parse_expr.proofs.ListLoops.{repeating, repeated_fails, repeated_ends, repeated_goes, repeated_over}
use Rattle.cc_parse_expr.proofs.grammar.Grammar.spec_list.Goals as goal

pub loop-round-init : goal.loop-round-init
loop-round-init g c =
    let names = c.args.self.now.names.now in
    let d = c.args.self.now.depth in
    rw c.new-found.ensures (repeating view_spec (starts_spec names) (part.spec names (inner_at names d) d) c.args.tokens.now c.len-round-end.result c.len-round-end.ensures.value)

pub returns-in_err-spec : goal.returns-in_err-spec
returns-in_err-spec g c =
    let names = c.args.self.now.names.now in
    let d = c.args.self.now.depth in
    let p = err_from_is_err_and c.from_residual.result c.from_residual.ensures.1 in
    rw (p.1, p.2) (λ s. repeated_fails view_spec (starts_spec names) (part.spec names (inner_at names d) d) (spec.repeated (starts_spec names) (part.spec names (inner_at names d) d) c.args.tokens.now) c.len-round-end.result c.loop-round._round c.loop-round.found c.loop-round.tokens c.loop-round-test.true c.loop-round.invariant c.spec.new.tokens (c.in_err-spec.ensures s))

pub returns-then-not-starts_spec : goal.returns-then-not-starts_spec
returns-then-not-starts_spec g c =
    let names = c.args.self.now.names.now in
    let d = c.args.self.now.depth in
    rw c.in_ok-push.ensures.ok (repeated_ends view_spec (starts_spec names) (part.spec names (inner_at names d) d) (spec.repeated (starts_spec names) (part.spec names (inner_at names d) d) c.args.tokens.now) c.len-round-end.result c.loop-round._round c.loop-round.found c.loop-round.tokens c.loop-round-test.true c.loop-round.invariant c.in_ok-spec.field-0 c.spec.new.tokens c.in_ok-spec.ensures c.if-not-starts_spec.ensures)

pub loop-round-preserved : goal.loop-round-preserved
loop-round-preserved g c =
    let names = c.args.self.now.names.now in
    let d = c.args.self.now.depth in
    rw c.in_ok-push.ensures.ok (repeated_goes view_spec (starts_spec names) (part.spec names (inner_at names d) d) (spec.repeated (starts_spec names) (part.spec names (inner_at names d) d) c.args.tokens.now) c.len-round-end.result c.loop-round._round c.loop-round.found c.loop-round.tokens c.loop-round-test.true c.loop-round.invariant c.in_ok-spec.field-0 c.spec.new.tokens c.in_ok-spec.ensures c.if-not-starts_spec.ensures)

pub returns : goal.returns
returns g c =
    let names = c.args.self.now.names.now in
    let d = c.args.self.now.depth in
    λ _. repeated_over view_spec (starts_spec names) (part.spec names (inner_at names d) d) (spec.repeated (starts_spec names) (part.spec names (inner_at names d) d) c.args.tokens.now) c.len-round-end.result c.loop-round._round c.loop-round.found c.loop-round.tokens c.loop-round-test.false c.loop-round.invariant
