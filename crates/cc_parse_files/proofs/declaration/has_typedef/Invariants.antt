use Rattle.std.proofs.Common.{◌≡◌, drop}
use Rattle.cc_grammar.specs.Names as typedefs
use Rattle.cc_tree.specs.Views.{specs_of}
use Rattle.cc_parse_files.proofs.declaration.has_typedef.Given as goal

abbrev pub invariant-loop-spec : goal.invariant-loop-spec
invariant-loop-spec l = typedefs.has_typedef (specs_of (drop l.spec-index l.specs)) ≡ typedefs.has_typedef (specs_of l.specs)
