use Rattle.std.proofs.Common.{◌≡◌, drop}
use Rattle.cc_tree.specs.Views.{values_of}
use Rattle.cc_check_values.specs.Typed.{are_typed}
use Rattle.cc_check_values.proofs.typed.+typed.Given as goal

abbrev pub invariant-are_typed-loop-v : goal.invariant-are_typed-loop-v
invariant-are_typed-loop-v l = are_typed l.found (values_of (drop l.v-index l.vs)) ≡ are_typed l.found (values_of l.vs)
