use Rattle.std.proofs.Common.{◌≡◌, drop}
use Rattle.cc_tables.specs.Justifying.{unknown_from}
use Rattle.cc_tables.proofs.justified.unknown_in.Given as goal

abbrev pub invariant-loop-i : goal.invariant-loop-i
invariant-loop-i l = unknown_from l.i (drop l.i l.lines) l.texts ≡ unknown_from 0 l.lines l.texts
