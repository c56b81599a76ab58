use Rattle.std.proofs.Common.{◌-◌}
use Rattle.cc_grammar.specs.Reading as spec
use Rattle.cc_tree.specs.Depth.{expr_depth}
use Rattle.cc_tree.specs.Views.{view}
use Rattle.cc_parse_expr.specs.Modes.{inner_at}
use Rattle.cc_parse_expr.proofs.Climbing.{Climbing}
use Rattle.cc_parse_expr.proofs.grammar.Grammar.climb.Given as goal

abbrev pub invariant-loop-tokens : goal.invariant-loop-tokens
invariant-loop-tokens g l =
    let inner = inner_at l.fn.self.names.now l.fn.self.depth in
    Climbing l.fn.self.names.now inner l.fn.self.depth l.fn.least (spec.climb l.fn.self.names.now inner l.fn.self.depth l.fn.least l.fn.self.depth (view l.fn.first) l.fn.tokens) (view l.left) l.tokens

abbrev pub decreases-loop-tokens : goal.decreases-loop-tokens
decreases-loop-tokens g l = l.fn.self.depth - expr_depth (view l.left)
