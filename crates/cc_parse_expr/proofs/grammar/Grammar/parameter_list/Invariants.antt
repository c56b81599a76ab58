use Rattle.cc_tree.specs.Views.{view_type}
use Rattle.cc_grammar.specs.Reading as spec
use Rattle.cc_parse_expr.specs.Modes.{inner_at}
use Rattle.cc_parse_expr.proofs.ListLoops.{Separating}
use Rattle.cc_parse_expr.proofs.grammar.Grammar.parameter_list.Given as goal

abbrev pub invariant-loop-round : goal.invariant-loop-round
invariant-loop-round g l =
    let one = spec.typed l.fn.self.names.now (inner_at l.fn.self.names.now l.fn.self.depth) l.fn.self.depth spec.with_or_without in
    Separating view_type one (spec.separated one l.initial.tokens) l._round-end l._round l.found l.tokens
