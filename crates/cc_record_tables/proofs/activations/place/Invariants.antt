use Rattle.std.proofs.Common.{◌≡◌, drop}
use Rattle.cc_record_tables.specs.ActivationTable.{place_from}
use Rattle.cc_record_tables.proofs.activations.place.Given as goal

abbrev pub invariant-loop-i : goal.invariant-loop-i
invariant-loop-i l = place_from l.i (drop l.i l.reads) l.occ ≡ place_from 0 l.reads l.occ
