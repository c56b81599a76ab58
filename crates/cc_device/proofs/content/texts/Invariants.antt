use Rattle.std.proofs.Common.{◌≡◌, ◌++◌, map, drop}
use Rattle.cc_project.specs.Views.{all_data}
use Rattle.cc_project.specs.Values.{text_of}
use Rattle.cc_device.proofs.content.texts.Given as goal

abbrev pub invariant-loop-item : goal.invariant-loop-item
invariant-loop-item l = l.list ++ map text_of (all_data (drop l.item-index l.items)) ≡ map text_of (all_data l.items)
