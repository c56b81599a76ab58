use Rattle.cc_tree.specs.Views.{view_spec}
use Rattle.cc_grammar.specs.Reading as spec
use Rattle.cc_grammar.specs.Classes.{starts_spec}
use Rattle.cc_parse_expr.specs.Parts as part
use Rattle.cc_parse_expr.specs.Modes.{inner_at}
use Rattle.cc_parse_expr.proofs.ListLoops.{Repeating}
use Rattle.cc_parse_expr.proofs.grammar.Grammar.spec_list.Given as goal

abbrev pub invariant-loop-round : goal.invariant-loop-round
invariant-loop-round g l =
    let names = l.fn.self.names.now in
    let d = l.fn.self.depth in
    Repeating view_spec (starts_spec names) (part.spec names (inner_at names d) d) (spec.repeated (starts_spec names) (part.spec names (inner_at names d) d) l.initial.tokens) l._round-end l._round l.found l.tokens
