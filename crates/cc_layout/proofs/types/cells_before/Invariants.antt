use Rattle.std.proofs.Common.{◌≡◌, drop}
use Rattle.cc_layout.specs.Sizes.{cells_before}
use Rattle.cc_layout.proofs.types.cells_before.Given as goal

abbrev pub invariant-loop-member : goal.invariant-loop-member
invariant-loop-member l = cells_before l.program l.cells (drop l.member-index l.members) l.left ≡ cells_before l.program 0 l.members l.k
