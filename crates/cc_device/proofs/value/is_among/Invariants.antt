use Rattle.std.proofs.Common.{◌≡◌, length}
use Rattle.cc_project.specs.Names.{is_among}
use Rattle.cc_device.proofs.value.is_among.Given as goal

abbrev pub invariant-loop-texts : goal.invariant-loop-texts
invariant-loop-texts l = is_among l.texts l.text ≡ is_among l.initial.texts l.text

abbrev pub decreases-loop-texts : goal.decreases-loop-texts
decreases-loop-texts l = length l.texts
