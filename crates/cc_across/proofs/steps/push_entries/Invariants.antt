use Rattle.std.proofs.Common.{◌≡◌, drop}
use Rattle.cc_across.specs.Stepping.{entry_steps}
use Rattle.cc_across.proofs.steps.push_entries.Given as goal

abbrev pub invariant-loop-f : goal.invariant-loop-f
invariant-loop-f l = entry_steps l.graph (drop l.f-index l.entries) l.pairs.items ≡ entry_steps l.graph l.entries l.initial.pairs.items
