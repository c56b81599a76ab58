use Rattle.cc_tree.specs.Views.{view}
use Rattle.cc_grammar.specs.Reading as spec
use Rattle.cc_parse_expr.specs.Modes.{inner_at}
use Rattle.cc_parse_expr.proofs.ListLoops.{Separating}
use Rattle.cc_parse_expr.proofs.grammar.Grammar.argument_list.Given as goal

abbrev pub invariant-loop-round : goal.invariant-loop-round
invariant-loop-round g l =
    let one = (inner_at l.fn.self.names.now l.fn.self.depth).expr 2 in
    Separating view one (spec.separated one l.initial.tokens) l._round-end l._round l.found l.tokens
