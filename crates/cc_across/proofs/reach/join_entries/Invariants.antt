use Rattle.std.proofs.Common.{◌≡◌, drop}
use Rattle.cc_across.specs.Reaching.{entries_joined}
use Rattle.cc_across.proofs.reach.join_entries.Given as goal

abbrev pub invariant-loop-f : goal.invariant-loop-f
invariant-loop-f l = entries_joined l.count l.root (drop l.f-index l.entries) l.pairs.items ≡ entries_joined l.count l.root l.entries l.initial.pairs.items
