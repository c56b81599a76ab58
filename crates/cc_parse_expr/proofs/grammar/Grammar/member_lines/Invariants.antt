use Rattle.cc_tree.specs.Views.{view_member}
use Rattle.cc_grammar.specs.Reading as spec
use Rattle.cc_parse_expr.specs.Modes.{inner_at}
use Rattle.cc_parse_expr.proofs.ListLoops.{Repeating}
use Rattle.cc_parse_expr.proofs.grammar.Grammar.member_lines.Given as goal

abbrev pub invariant-loop-round : goal.invariant-loop-round
invariant-loop-round g l =
    let names = l.fn.self.names.now in
    let d = l.fn.self.depth in
    Repeating view_member (spec.goes_on_members names (inner_at names d) d) (spec.member_line names (inner_at names d) d) (spec.repeated (spec.goes_on_members names (inner_at names d) d) (spec.member_line names (inner_at names d) d) l.initial.tokens) l._round-end l._round l.found l.tokens
