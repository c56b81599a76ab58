use Rattle.cc_tree.specs.Views.{view_declarator}
use Rattle.cc_grammar.specs.Reading as spec
use Rattle.cc_parse_expr.specs.Modes.{inner_at}
use Rattle.cc_parse_expr.proofs.Suffixes.{Suffixing}
use Rattle.cc_parse_expr.proofs.grammar.Grammar.suffixes.Given as goal

abbrev pub invariant-loop-round : goal.invariant-loop-round
invariant-loop-round g l =
    let names = l.fn.self.names.now in
    let d = l.fn.self.depth in
    Suffixing names (inner_at names d) d (spec.suffixes names (inner_at names d) d d (view_declarator l.fn.first) l.initial.tokens) l._round-end l._round (view_declarator l.left) l.tokens
