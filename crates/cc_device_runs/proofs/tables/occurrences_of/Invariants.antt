use Rattle.std.proofs.Common.{◌≡◌}
use Rattle.cc_device_runs.specs.Tabling.{occurrences_to}
use Rattle.cc_device_runs.proofs.tables.occurrences_of.Given as goal

abbrev pub invariant-loop-n : goal.invariant-loop-n
invariant-loop-n l = l.all ≡ occurrences_to l.program l.n
