use Rattle.std.proofs.Common.{◌≡◌}
use Rattle.cc_tables.specs.Pairs.{reaching_to}
use Rattle.cc_tables.proofs.pairs.reaching.Given as goal

abbrev pub invariant-loop-i : goal.invariant-loop-i
invariant-loop-i l = l.some ≡ reaching_to l.to l.spans l.i
