use Rattle.std.proofs.Common.{◌≡◌, ◌-◌, map}
use Rattle.cc_grammar.specs.Names as typedefs
use Rattle.cc_grammar.specs.Reading as spec
use Rattle.cc_tree.specs.Views.{view_item, gathered_items}
use Rattle.cc_parse_files.specs.Rounds.{items_from}
use Rattle.cc_parse_files.proofs.statement.Statements.items.Given as goal

abbrev pub invariant-loop-round : goal.invariant-loop-round
invariant-loop-round g l = record {
  reads : spec.items (spec.stmt l.fn.self.depth) l.fn.self.depth l.fn.names l.fn.tokens
      ≡ items_from (spec.stmt l.fn.self.depth) l.fn.self.depth (l._round-end - l._round) l.names (map view_item l.found) l.tokens;
  names : l.names ≡ typedefs.after_items (gathered_items (map view_item l.found)) l.fn.names;
}
