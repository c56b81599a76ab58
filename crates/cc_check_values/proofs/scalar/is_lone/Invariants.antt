use Rattle.std.proofs.Common.{◌≡◌, drop}
use Rattle.cc_tree.specs.Views.{values_of}
use Rattle.cc_check_values.specs.Scalars.{is_lone}
use Rattle.cc_check_values.proofs.scalar.is_lone.Given as goal

abbrev pub invariant-loop-number : goal.invariant-loop-number
invariant-loop-number l = is_lone l.number (values_of (drop l.number l.vs)) ≡ is_lone 0 (values_of l.vs)
