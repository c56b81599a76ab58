use Rattle.std.proofs.Common.{◌≡◌, drop}
use Rattle.cc_across.specs.Stepping.{inner_steps}
use Rattle.cc_across.proofs.steps.push_inner.Given as goal

abbrev pub invariant-loop-p : goal.invariant-loop-p
invariant-loop-p l = inner_steps l.graph (drop l.p l.rows) l.p l.pairs.items ≡ inner_steps l.graph l.rows 0 l.initial.pairs.items
