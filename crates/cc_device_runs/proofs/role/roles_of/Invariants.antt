use Rattle.std.proofs.Common.{◌≡◌, ◌++◌, map, drop}
use Rattle.cc_device_runs.specs.Roles.{role_of}
use Rattle.cc_device_runs.proofs.role.roles_of.Given as goal

abbrev pub invariant-loop-function : goal.invariant-loop-function
invariant-loop-function l = l.roles.items ++ map (role_of l.devices) (drop l.function-index l.functions) ≡ map (role_of l.devices) l.functions
