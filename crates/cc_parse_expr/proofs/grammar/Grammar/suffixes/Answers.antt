use Rattle.std.proofs.lemmas.Result.{err_from_is_err_and}
use Rattle.cc_tree.specs.Views.{view_declarator}
use Rattle.cc_grammar.specs.Reading as spec
use Rattle.cc_parse_expr.specs.Modes.{inner_at}
use Rattle.cc_parse_expr.proofs.Suffixes.{suffix_fails, suffix_goes, suffix_ends}
use Rattle.cc_parse_expr.proofs.grammar.Grammar.suffixes.Goals as goal

pub returns-in_err-left : goal.returns-in_err-left
returns-in_err-left g c =
    let names = c.args.self.now.names.now in
    let d = c.args.self.now.depth in
    let total = spec.suffixes names (inner_at names d) d d (view_declarator c.args.first) c.args.tokens.now in
    let p = err_from_is_err_and c.from_residual.result c.from_residual.ensures.1 in
    rw (p.1, p.2) (λ s. suffix_fails names (inner_at names d) d total d c.loop-round._round (view_declarator c.loop-round.left) c.loop-round.tokens c.loop-round-test.true c.loop-round.invariant (rw c.get.ensures at c.if-not-has_suffix.ensures.answer) c.suffix.new.tokens
    (rw c.has_suffix.ensures.stays at (c.in_err-left.ensures s)))

pub loop-round-preserved : goal.loop-round-preserved
loop-round-preserved g c =
    let names = c.args.self.now.names.now in
    let d = c.args.self.now.depth in
    let total = spec.suffixes names (inner_at names d) d d (view_declarator c.args.first) c.args.tokens.now in
    suffix_goes names (inner_at names d) d total d c.loop-round._round (view_declarator c.loop-round.left) c.loop-round.tokens c.loop-round-test.true c.loop-round.invariant (rw c.get.ensures at c.if-not-has_suffix.ensures.answer) (view_declarator c.in_ok-left.left) c.suffix.new.tokens
    (rw c.has_suffix.ensures.stays at c.in_ok-left.ensures)

pub returns-then-not-has_suffix : goal.returns-then-not-has_suffix
returns-then-not-has_suffix g c =
    let names = c.args.self.now.names.now in
    let d = c.args.self.now.depth in
    let total = spec.suffixes names (inner_at names d) d d (view_declarator c.args.first) c.args.tokens.now in
    rw c.has_suffix.ensures.stays (suffix_ends names (inner_at names d) d total d c.loop-round._round (view_declarator c.loop-round.left) c.loop-round.tokens c.loop-round-test.true c.loop-round.invariant
    (rw c.get.ensures at c.if-not-has_suffix.ensures.answer))
