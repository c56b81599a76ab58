-- Files.
use Rattle.std.specs.Prelude.{List, [], ◌∷◌}
use Rattle.cc_tree.specs.Trees.{ExternalTree, outer_declaration, definition}
use Rattle.cc_tree_notes.specs.declared.note.Counted.{Counted}
use Rattle.cc_check.specs.declared.statements.Walk.{Walk}
use Rattle.cc_check.specs.declared.storage.Region.TheVariants.{File}
use Rattle.cc_check.specs.Statements.{on_checker, placed}
use Rattle.cc_check.specs.Functions.{function_walked}

abbrev pub external_walked : ExternalTree Counted → Walk → Walk
external_walked (outer_declaration d) w = on_checker (placed File d) w
external_walked (definition n ss d b) w = function_walked n ss d b w

abbrev pub file_walked : List (ExternalTree Counted) → Walk → Walk
file_walked [] w = w
file_walked (x ∷ xs) w = file_walked xs (external_walked x w)
