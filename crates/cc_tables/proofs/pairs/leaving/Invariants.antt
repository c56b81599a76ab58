use Rattle.std.proofs.Common.{◌≡◌}
use Rattle.cc_tables.specs.Pairs.{leaving_to}
use Rattle.cc_tables.proofs.pairs.leaving.Given as goal

abbrev pub invariant-loop-i : goal.invariant-loop-i
invariant-loop-i l = l.some ≡ leaving_to l.from l.spans l.i
