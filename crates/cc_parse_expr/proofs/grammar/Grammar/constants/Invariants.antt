use Rattle.cc_tree.specs.Views.{view_constant}
use Rattle.cc_grammar.specs.Reading as spec
use Rattle.cc_parse_expr.specs.Modes.{inner_at}
use Rattle.cc_parse_expr.specs.Parts as part
use Rattle.cc_parse_expr.proofs.EnclosedLoops.{Enclosing}
use Rattle.cc_parse_expr.proofs.grammar.Grammar.constants.Given as goal

abbrev pub invariant-loop-round : goal.invariant-loop-round
invariant-loop-round g l =
    let names = l.fn.self.names.now in
    let d = l.fn.self.depth in
    Enclosing view_constant (spec.one_constant names (inner_at names d) d) (part.constants names (inner_at names d) d l.initial.tokens) l._round-end l._round l.found l.tokens
