use Rattle.std.proofs.Common.{◌≡◌, ◌++◌, map, drop}
use Rattle.cc_project.specs.Views.{all_data}
use Rattle.cc_project.specs.Project.{justified_of}
use Rattle.cc_project.proofs.content.justifications.Given as goal

abbrev pub invariant-loop-item : goal.invariant-loop-item
invariant-loop-item l = l.list ++ map justified_of (all_data (drop l.item-index l.items)) ≡ map justified_of (all_data l.items)
