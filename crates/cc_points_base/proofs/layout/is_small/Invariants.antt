use Rattle.std.proofs.Common.{◌≡◌, ◌+◌, ◌<◌, drop}
use Rattle.cc_points_base.specs.Layouts as spec
use Rattle.cc_points_base.proofs.layout.is_small.Given as goal

abbrev pub invariant-loop-place : goal.invariant-loop-place
invariant-loop-place l = record {
  counted : l.copies + spec.all_copies l.view.lists (drop l.place-index l.view.nodes) ≡ spec.all_copies l.view.lists l.view.nodes;
  small : l.copies < 536870912;
}
