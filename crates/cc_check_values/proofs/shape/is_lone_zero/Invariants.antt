use Rattle.std.proofs.Common.{◌≡◌, drop}
use Rattle.cc_tree.specs.Views.{values_of}
use Rattle.cc_check_values.specs.Shaping.{is_lone_zero}
use Rattle.cc_check_values.proofs.shape.is_lone_zero.Given as goal

abbrev pub invariant-loop-number : goal.invariant-loop-number
invariant-loop-number l = is_lone_zero l.number (values_of (drop l.number l.vs)) ≡ is_lone_zero 0 (values_of l.vs)
