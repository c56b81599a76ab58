use Rattle.std.proofs.Common.{◌≡◌, drop}
use Rattle.cc_across.specs.Stepping.{asked_steps}
use Rattle.cc_across.proofs.steps.push_all_asked.Given as goal

abbrev pub invariant-loop-n : goal.invariant-loop-n
invariant-loop-n l = asked_steps l.program l.graph (drop l.n l.nodes) l.n l.pairs.items ≡ asked_steps l.program l.graph l.nodes 0 l.initial.pairs.items
