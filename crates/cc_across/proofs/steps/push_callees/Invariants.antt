use Rattle.std.proofs.Common.{◌≡◌, drop}
use Rattle.cc_across.specs.Stepping.{callee_steps}
use Rattle.cc_across.proofs.steps.push_callees.Given as goal

abbrev pub invariant-loop-g : goal.invariant-loop-g
invariant-loop-g l = callee_steps l.graph l.site (drop l.g-index l.callees) l.pairs.items ≡ callee_steps l.graph l.site l.callees l.initial.pairs.items
