use Rattle.std.proofs.Common.{◌≡◌, ◌++◌, drop}
use Rattle.cc_project.specs.Project.{files_from}
use Rattle.cc_project.specs.Views.{all_data}
use Rattle.cc_project.proofs.content.files.Given as goal

abbrev pub invariant-loop-i : goal.invariant-loop-i
invariant-loop-i l = l.list ++ files_from l.i (all_data (drop l.i l.items)) ≡ files_from 0 (all_data l.items)
