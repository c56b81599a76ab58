use Rattle.std.proofs.Common.{ap}
use Rattle.std.proofs.lemmas.Result.{err_from_is_err_and}
use Rattle.cc_tree.specs.Views.{view_member}
use Rattle.cc_grammar.specs.Reading as spec
use Rattle.cc_parse_expr.specs.Modes.{inner_at}
use Rattle.cc_parse_expr.proofs.ListLoops.{repeating, repeated_fails, repeated_ends, repeated_goes, repeated_over}
use Rattle.cc_parse_expr.proofs.grammar.Grammar.member_lines.Goals as goal

pub loop-round-init : goal.loop-round-init
loop-round-init g c =
    let names = c.args.self.now.names.now in
    let d = c.args.self.now.depth in
    rw c.new-found.ensures (repeating view_member (spec.goes_on_members names (inner_at names d) d) (spec.member_line names (inner_at names d) d) c.args.tokens.now c.len-round-end.result c.len-round-end.ensures.value)

pub returns-in_err-member_line : goal.returns-in_err-member_line
returns-in_err-member_line g c =
    let names = c.args.self.now.names.now in
    let d = c.args.self.now.depth in
    let p = err_from_is_err_and c.from_residual.result c.from_residual.ensures.1 in
    rw (p.1, p.2) (λ s. repeated_fails view_member (spec.goes_on_members names (inner_at names d) d) (spec.member_line names (inner_at names d) d) (spec.repeated (spec.goes_on_members names (inner_at names d) d) (spec.member_line names (inner_at names d) d) c.args.tokens.now) c.len-round-end.result c.loop-round._round c.loop-round.found c.loop-round.tokens c.loop-round-test.true c.loop-round.invariant c.member_line.new.tokens (c.in_err-member_line.ensures s))

pub returns-then-next_is : goal.returns-then-next_is
returns-then-next_is g c =
    let names = c.args.self.now.names.now in
    let d = c.args.self.now.depth in
    rw c.in_ok-push.ensures.ok (repeated_ends view_member (spec.goes_on_members names (inner_at names d) d) (spec.member_line names (inner_at names d) d) (spec.repeated (spec.goes_on_members names (inner_at names d) d) (spec.member_line names (inner_at names d) d) c.args.tokens.now) c.len-round-end.result c.loop-round._round c.loop-round.found c.loop-round.tokens c.loop-round-test.true c.loop-round.invariant c.in_ok-member_line.field-0 c.member_line.new.tokens c.in_ok-member_line.ensures (ap spec.opposite c.if-next_is.ensures))

pub loop-round-preserved : goal.loop-round-preserved
loop-round-preserved g c =
    let names = c.args.self.now.names.now in
    let d = c.args.self.now.depth in
    rw c.in_ok-push.ensures.ok (repeated_goes view_member (spec.goes_on_members names (inner_at names d) d) (spec.member_line names (inner_at names d) d) (spec.repeated (spec.goes_on_members names (inner_at names d) d) (spec.member_line names (inner_at names d) d) c.args.tokens.now) c.len-round-end.result c.loop-round._round c.loop-round.found c.loop-round.tokens c.loop-round-test.true c.loop-round.invariant c.in_ok-member_line.field-0 c.member_line.new.tokens c.in_ok-member_line.ensures (ap spec.opposite c.if-next_is.ensures))

pub returns : goal.returns
returns g c =
    let names = c.args.self.now.names.now in
    let d = c.args.self.now.depth in
    λ _. repeated_over view_member (spec.goes_on_members names (inner_at names d) d) (spec.member_line names (inner_at names d) d) (spec.repeated (spec.goes_on_members names (inner_at names d) d) (spec.member_line names (inner_at names d) d) c.args.tokens.now) c.len-round-end.result c.loop-round._round c.loop-round.found c.loop-round.tokens c.loop-round-test.false c.loop-round.invariant
