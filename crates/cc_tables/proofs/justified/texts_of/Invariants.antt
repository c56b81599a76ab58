use Rattle.std.proofs.Common.{◌≡◌}
use Rattle.cc_tables.specs.Justifying.{texts_to}
use Rattle.cc_tables.proofs.justified.texts_of.Given as goal

abbrev pub invariant-loop-i : goal.invariant-loop-i
invariant-loop-i l = l.texts ≡ texts_to l.program l.listing l.i
