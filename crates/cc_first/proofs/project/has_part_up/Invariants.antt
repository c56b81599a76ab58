use Rattle.std.proofs.Common.{◌≡◌, true, drop}
use Rattle.cc_first.specs.Names.{has_part_up}
use Rattle.cc_first.proofs.project.has_part_up.Given as goal

abbrev pub invariant-loop-i : goal.invariant-loop-i
invariant-loop-i l = has_part_up true l.text ≡ has_part_up l.begins (drop l.i l.text)
