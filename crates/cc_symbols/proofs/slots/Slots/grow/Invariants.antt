use Rattle.std.proofs.Common.{◌≡◌, ◌++◌, ◌-◌, replicate}
use Rattle.cc_symbols.specs.Places.{grown}
use Rattle.cc_symbols.proofs.slots.Slots.grow.Given as goal

abbrev pub invariant-loop : goal.invariant-loop
invariant-loop g l = l.self-inside.items.items ++ replicate (l.end - l.counter) l.x ≡ grown l.initial.self-inside.items.items l.count l.x
