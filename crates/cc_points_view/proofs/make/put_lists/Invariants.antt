use Rattle.std.proofs.Common.{◌≡◌, drop}
use Rattle.cc_points_view.specs.Views.{copied}
use Rattle.cc_points_view.proofs.make.put_lists.Given as goal

abbrev pub invariant-loop-number : goal.invariant-loop-number
invariant-loop-number l = copied (drop l.number-index l.old) l.lists ≡ copied l.old l.initial.lists
