use Rattle.std.proofs.Common.{◌≡◌, drop}
use Rattle.cc_acts.specs.Steps.{chosen}
use Rattle.cc_interp_step.proofs.acts.chosen.Given as goal

abbrev pub invariant-loop-case : goal.invariant-loop-case
invariant-loop-case l = chosen l.z l.other (drop l.case-index l.cases) ≡ chosen l.z l.other l.cases
