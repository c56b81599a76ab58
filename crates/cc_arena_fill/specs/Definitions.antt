-- A function with its body as the external that it is.
use Rattle.cc_tree.specs.Trees.{ExternalTree, definition}
use Rattle.cc_tree.specs.Views.{specs_of, view_declarator, view_block}
use Rattle.cc_tree.specs.declared.stmt.Function.{Function}
use Rattle.cc_tree_notes.specs.declared.note.Counted.{Counted}

abbrev pub definition_of : Function Counted → ExternalTree Counted
definition_of f = definition f.note (specs_of f.specs) (view_declarator f.declarator) (view_block f.body)
