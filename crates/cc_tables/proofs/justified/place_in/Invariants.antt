use Rattle.std.proofs.Common.{◌≡◌, drop}
use Rattle.cc_tables.specs.Justifying.{place_from}
use Rattle.cc_tables.proofs.justified.place_in.Given as goal

abbrev pub invariant-loop-i : goal.invariant-loop-i
invariant-loop-i l = place_from l.i (drop l.i l.texts) l.text ≡ place_from 0 l.texts l.text
