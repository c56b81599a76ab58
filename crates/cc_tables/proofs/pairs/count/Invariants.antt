use Rattle.std.proofs.Common.{◌≡◌, ◌≤◌}
use Rattle.cc_tables.specs.Pairs.{count_to}
use Rattle.cc_tables.proofs.pairs.count.Given as goal

abbrev pub invariant-loop-i : goal.invariant-loop-i
invariant-loop-i l = (l.n ≡ count_to l.kind l.covered l.spans l.i) × (l.n ≤ l.i)
