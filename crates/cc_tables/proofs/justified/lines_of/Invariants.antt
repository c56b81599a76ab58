use Rattle.std.proofs.Common.{◌≡◌}
use Rattle.cc_tables.specs.Justifying.{lines_to}
use Rattle.cc_tables.proofs.justified.lines_of.Given as goal

abbrev pub invariant-loop-i : goal.invariant-loop-i
invariant-loop-i l = l.lines ≡ lines_to l.list l.i
