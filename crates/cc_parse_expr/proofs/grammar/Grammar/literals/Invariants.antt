use Rattle.std.proofs.Common.{ℕ, List}
use Rattle.cc_lex.specs.declared.token.Token.{Token}
use Rattle.cc_grammar.specs.Classes.{next_literal}
use Rattle.cc_grammar.specs.Reading as spec
use Rattle.cc_parse_expr.specs.Modes.{inner_at}
use Rattle.cc_parse_expr.proofs.ListLoops.{Repeating}
use Rattle.cc_parse_expr.proofs.grammar.Grammar.literals.Given as goal

abbrev pub invariant-loop-round : goal.invariant-loop-round
invariant-loop-round g l =
    let names = l.fn.self.names.now in
    let d = l.fn.self.depth in
    let inner = inner_at names d in
    let one = λ (ts : List Token). spec.literal_by names inner d (next_literal ts) ts in
    let more = λ (ts : List Token). spec.is_literal names inner d (next_literal ts) in
    Repeating (λ (x : List ℕ). x) more one (spec.literals names inner d l.initial.tokens) l._round-end l._round l.found l.tokens
