use Rattle.std.proofs.Common.{◌≡◌, drop}
use Rattle.cc_points_view.specs.Views.{all_below}
use Rattle.cc_points_view.proofs.make.all_below.Given as goal

abbrev pub invariant-loop-n : goal.invariant-loop-n
invariant-loop-n l = all_below l.count (drop l.n-index l.list) ≡ all_below l.count l.list
