use Rattle.std.proofs.Common.{◌≡◌, ◌-◌, map}
use Rattle.cc_grammar.specs.Names as typedefs
use Rattle.cc_grammar.specs.Reading as spec
use Rattle.cc_tree.specs.Views.{view_declarator, view_init}
use Rattle.cc_parse_files.specs.Rounds.{inits_from}
use Rattle.cc_parse_files.proofs.declaration.inits.Given as goal

abbrev pub invariant-loop-round : goal.invariant-loop-round
invariant-loop-round l = record {
  reads : spec.inits l.fn.depth l.fn.typedef l.fn.names (view_declarator l.fn.first) l.fn.tokens
      ≡ inits_from l.fn.depth l.fn.typedef (l._round-end - l._round) l.names (view_declarator l.next) (map view_init l.found) l.tokens;
  names : l.names ≡ typedefs.after_inits l.fn.typedef (map view_init l.found) l.fn.names;
}
