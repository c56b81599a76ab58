use Rattle.std.proofs.Common.{◌≡◌, ◌++◌, map, drop}
use Rattle.cc_project.specs.Views.{all_data}
use Rattle.cc_project.specs.Order.{name_of}
use Rattle.cc_project.proofs.content.names.Given as goal

abbrev pub invariant-loop-item : goal.invariant-loop-item
invariant-loop-item l = l.list ++ map name_of (all_data (drop l.item-index l.items)) ≡ map name_of (all_data l.items)
