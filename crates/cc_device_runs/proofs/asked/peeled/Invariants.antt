use Rattle.std.proofs.Common.{◌≡◌, drop}
use Rattle.cc_arena_rules.specs.Looks.{peeled}
use Rattle.cc_device_runs.proofs.asked.peeled.Given as goal

abbrev pub invariant-loop-placed : goal.invariant-loop-placed
invariant-loop-placed l = peeled (drop l.placed-index l.nodes) l.inner ≡ peeled l.nodes l.initial.inner
