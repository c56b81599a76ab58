use Rattle.std.proofs.Common.{◌≡◌, drop, []}
use Rattle.cc_project.specs.Order.{first_failing}
use Rattle.cc_project.specs.Views.{all_data}
use Rattle.cc_device.specs.Order.{devices_rules}
use Rattle.cc_device.proofs.shape.check_devices.Given as goal

abbrev pub invariant-loop-i : goal.invariant-loop-i
invariant-loop-i l =
    first_failing (devices_rules l.environment l.i l.names l.functions (all_data (drop l.i l.devices)))
    ≡ first_failing (devices_rules l.environment 0 [] [] (all_data l.devices))
