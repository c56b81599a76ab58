use Rattle.std.proofs.Common.{◌≡◌, ◌-◌, ◌+◌, ◌*◌, length, map}
use Rattle.cc_grammar.specs.Reading as spec
use Rattle.cc_tree.specs.Views.{view_value}
use Rattle.cc_parse_tokens.specs.Rounds.{enclosed_from}
use Rattle.cc_parse_files.proofs.initialiser.+value.Given as goal

abbrev pub decreases-value : goal.decreases-value
decreases-value l = 2 * l.depth

abbrev pub decreases-values : goal.decreases-values
decreases-values l = 2 * l.depth + 1

abbrev pub invariant-values-loop-round : goal.invariant-values-loop-round
invariant-values-loop-round l =
    spec.enclosed_by (spec.value l.names l.depth) (length l.fn.tokens) l.fn.tokens ≡ enclosed_from (spec.value l.names l.depth) (l._round-end - l._round) (map view_value l.values) l.tokens
