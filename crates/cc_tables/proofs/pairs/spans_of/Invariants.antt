use Rattle.std.proofs.Common.{◌≡◌}
use Rattle.cc_tables.specs.Pairs.{spans_to}
use Rattle.cc_tables.proofs.pairs.spans_of.Given as goal

abbrev pub invariant-loop-i : goal.invariant-loop-i
invariant-loop-i l = l.spans ≡ spans_to l.program l.listing l.scores.marks l.i
