use Rattle.std.proofs.Common.{◌≡◌, ◌+◌, drop}
use Rattle.cc_points_base.specs.Layouts as spec
use Rattle.cc_points_base.proofs.layout.all_copies.Given as goal

abbrev pub invariant-loop-place : goal.invariant-loop-place
invariant-loop-place l = l.copies + spec.all_copies l.lists (drop l.place-index l.nodes) ≡ spec.all_copies l.lists l.nodes
