use Rattle.std.proofs.Common.{◌≡◌, ◌++◌, map, drop}
use Rattle.cc_project.specs.Views.{all_data}
use Rattle.cc_device.specs.Devices.{device_of}
use Rattle.cc_device.proofs.content.listed.Given as goal

abbrev pub invariant-loop-item : goal.invariant-loop-item
invariant-loop-item l = l.list ++ map device_of (all_data (drop l.item-index l.items)) ≡ map device_of (all_data l.items)
