use Rattle.std.proofs.Common.{◌≡◌, ◌++◌, drop}
use Rattle.cc_project.specs.Project.{files_in}
use Rattle.cc_project.specs.Views.{texts_of}
use Rattle.cc_project.proofs.content.add_files.Given as goal

abbrev pub invariant-loop-item : goal.invariant-loop-item
invariant-loop-item l = l.list ++ files_in l.i (texts_of (drop l.item-index l.items)) ≡ l.initial.list ++ files_in l.i (texts_of l.items)
