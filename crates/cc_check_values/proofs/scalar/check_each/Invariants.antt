use Rattle.std.proofs.Common.{◌≡◌, drop}
use Rattle.cc_tree.specs.Views.{values_of}
use Rattle.cc_check_values.specs.Scalars.{each_checked}
use Rattle.cc_check_values.proofs.scalar.check_each.Given as goal

abbrev pub invariant-loop-v : goal.invariant-loop-v
invariant-loop-v l = each_checked l.symbols l.life l.target (values_of (drop l.v-index l.vs)) l.found ≡ each_checked l.symbols l.life l.target (values_of l.vs) l.initial.found
