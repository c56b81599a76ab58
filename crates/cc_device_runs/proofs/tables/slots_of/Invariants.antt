use Rattle.std.proofs.Common.{◌≡◌}
use Rattle.cc_device_runs.specs.Tabling.{slots_to}
use Rattle.cc_device_runs.proofs.tables.slots_of.Given as goal

abbrev pub invariant-loop-object : goal.invariant-loop-object
invariant-loop-object l = l.slots ≡ slots_to l.object
