use Rattle.std.proofs.Common.{◌≡◌, drop}
use Rattle.cc_device_runs.specs.Roles.{writer_from}
use Rattle.cc_device_runs.proofs.role.writer_of.Given as goal

abbrev pub invariant-loop-v : goal.invariant-loop-v
invariant-loop-v l = writer_from l.v (drop l.v l.devices) l.name ≡ writer_from 0 l.devices l.name
