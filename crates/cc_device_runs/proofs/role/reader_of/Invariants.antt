use Rattle.std.proofs.Common.{◌≡◌, drop}
use Rattle.cc_device_runs.specs.Roles.{reader_from}
use Rattle.cc_device_runs.proofs.role.reader_of.Given as goal

abbrev pub invariant-loop-v : goal.invariant-loop-v
invariant-loop-v l = reader_from l.v (drop l.v l.devices) l.name ≡ reader_from 0 l.devices l.name
