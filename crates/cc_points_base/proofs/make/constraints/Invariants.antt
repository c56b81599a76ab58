use Rattle.std.proofs.Common.{◌≡◌, ◌+◌, drop, []}
use Rattle.cc_points_base.specs.Layouts.{layout_of, all_copies}
use Rattle.cc_points_base.specs.Saying as spec
use Rattle.cc_points_base.proofs.make.constraints.Given as goal

abbrev pub invariant-loop-n : goal.invariant-loop-n
invariant-loop-n l = record {
  made : spec.all_asked (layout_of l.view) l.view.lists (drop l.n l.view.nodes) l.n l.k l.out.items ≡ spec.all_asked (layout_of l.view) l.view.lists l.view.nodes 0 0 [];
  counted : l.k + all_copies l.view.lists (drop l.n l.view.nodes) ≡ all_copies l.view.lists l.view.nodes;
}
