use Rattle.std.proofs.Common.{◌≤◌, ◌-◌}
use Rattle.cc_grammar.specs.Reading as spec
use Rattle.cc_parse_expr.specs.Modes.{inner_at}
use Rattle.cc_parse_expr.proofs.Counting.{Counting}
use Rattle.cc_parse_expr.proofs.grammar.Grammar.consts.Given as goal

abbrev pub invariant-loop-round : goal.invariant-loop-round
invariant-loop-round g l = record {
  small : l.count ≤ l._round;
  reads : Counting l.self.names.now (inner_at l.self.names.now l.self.depth) l.self.depth (spec.consts l.self.names.now (inner_at l.self.names.now l.self.depth) l.self.depth l.fn.tokens) l.count (l._round-end - l._round) l.tokens;
}
