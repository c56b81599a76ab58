use Rattle.std.proofs.Common.{◌≡◌}
use Rattle.cc_tables.specs.Justifying.{reasons_to}
use Rattle.cc_tables.proofs.justified.reasons_of.Given as goal

abbrev pub invariant-loop-i : goal.invariant-loop-i
invariant-loop-i l = l.reasons ≡ reasons_to l.lines l.list l.texts l.i
