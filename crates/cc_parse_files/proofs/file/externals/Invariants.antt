use Rattle.std.proofs.Common.{◌≡◌, ◌-◌, suc, length, map}
use Rattle.cc_grammar.specs.Reading as spec
use Rattle.cc_tree.specs.Views.{view_external}
use Rattle.cc_parse_files.specs.Rounds.{externals_from}
use Rattle.cc_parse_files.proofs.file.externals.Given as goal

abbrev pub invariant-loop-round : goal.invariant-loop-round
invariant-loop-round l =
    spec.externals_by l.fn.depth (suc (length l.fn.tokens)) l.fn.names l.fn.tokens
    ≡ externals_from l.fn.depth (l._round-end - l._round) l.names (map view_external l.found) l.tokens
