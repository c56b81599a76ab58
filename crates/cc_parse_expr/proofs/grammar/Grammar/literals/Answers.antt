use Rattle.std.proofs.Common.{ℕ, List, [], ◌∷◌, ◌++◌, ◌∙◌}
use Rattle.std.proofs.lemmas.Result.{err_from_is_err_and}
use Rattle.cc_lex.specs.declared.token.Token.{Token}
use Rattle.cc_grammar.specs.Classes.{next_literal}
use Rattle.cc_grammar.specs.Reading as spec
use Rattle.cc_parse_expr.specs.Modes.{inner_at}
use Rattle.cc_parse_expr.proofs.ListLoops.{unmapped, repeating, repeated_fails, repeated_ends, repeated_goes, repeated_over}
use Rattle.cc_parse_expr.proofs.grammar.Grammar.literals.Goals as goal

pub loop-round-init : goal.loop-round-init
loop-round-init g c =
    let names = c.args.self.now.names.now in
    let d = c.args.self.now.depth in
    let inner = inner_at names d in
    let one = λ (ts : List Token). spec.literal_by names inner d (next_literal ts) ts in
    let more = λ (ts : List Token). spec.is_literal names inner d (next_literal ts) in
    rw c.new-found.ensures (repeating (λ (x : List ℕ). x) more one c.args.tokens.now c.len-round-end.result c.len-round-end.ensures.value)

pub returns-in_err-literal : goal.returns-in_err-literal
returns-in_err-literal g c =
    let names = c.args.self.now.names.now in
    let d = c.args.self.now.depth in
    let inner = inner_at names d in
    let one = λ (ts : List Token). spec.literal_by names inner d (next_literal ts) ts in
    let more = λ (ts : List Token). spec.is_literal names inner d (next_literal ts) in
    let p = err_from_is_err_and c.from_residual.result c.from_residual.ensures.1 in
    rw (p.1, p.2) (λ s. repeated_fails (λ (x : List ℕ). x) more one (spec.literals names inner d c.args.tokens.now) c.len-round-end.result c.loop-round._round c.loop-round.found c.loop-round.tokens c.loop-round-test.true c.loop-round.invariant c.literal.new.tokens (c.in_err-literal.ensures s))

pub returns-then-not-has_literal : goal.returns-then-not-has_literal
returns-then-not-has_literal g c =
    let names = c.args.self.now.names.now in
    let d = c.args.self.now.depth in
    let inner = inner_at names d in
    let one = λ (ts : List Token). spec.literal_by names inner d (next_literal ts) ts in
    let more = λ (ts : List Token). spec.is_literal names inner d (next_literal ts) in
    rw c.in_ok-push.ensures.ok (repeated_ends (λ (x : List ℕ). x) more one (spec.literals names inner d c.args.tokens.now) c.len-round-end.result c.loop-round._round c.loop-round.found c.loop-round.tokens c.loop-round-test.true c.loop-round.invariant c.in_ok-literal.field-0 c.literal.new.tokens c.in_ok-literal.ensures c.if-not-has_literal.ensures ∙ unmapped (c.loop-round.found ++ c.in_ok-literal.field-0 ∷ []) c.literal.new.tokens)

pub loop-round-preserved : goal.loop-round-preserved
loop-round-preserved g c =
    let names = c.args.self.now.names.now in
    let d = c.args.self.now.depth in
    let inner = inner_at names d in
    let one = λ (ts : List Token). spec.literal_by names inner d (next_literal ts) ts in
    let more = λ (ts : List Token). spec.is_literal names inner d (next_literal ts) in
    rw c.in_ok-push.ensures.ok (repeated_goes (λ (x : List ℕ). x) more one (spec.literals names inner d c.args.tokens.now) c.len-round-end.result c.loop-round._round c.loop-round.found c.loop-round.tokens c.loop-round-test.true c.loop-round.invariant c.in_ok-literal.field-0 c.literal.new.tokens c.in_ok-literal.ensures c.if-not-has_literal.ensures)

pub returns : goal.returns
returns g c =
    let names = c.args.self.now.names.now in
    let d = c.args.self.now.depth in
    let inner = inner_at names d in
    let one = λ (ts : List Token). spec.literal_by names inner d (next_literal ts) ts in
    let more = λ (ts : List Token). spec.is_literal names inner d (next_literal ts) in
    λ _. repeated_over (λ (x : List ℕ). x) more one (spec.literals names inner d c.args.tokens.now) c.len-round-end.result c.loop-round._round c.loop-round.found c.loop-round.tokens c.loop-round-test.false c.loop-round.invariant
