use Rattle.std.proofs.Common.{◌≡◌, drop}
use Rattle.cc_record_tables.specs.Opened.{place_from}
use Rattle.cc_record_tables.proofs.opened.place.Given as goal

abbrev pub invariant-loop-i : goal.invariant-loop-i
invariant-loop-i l = place_from l.i (drop l.i l.acts) l.act ≡ place_from 0 l.acts l.act
