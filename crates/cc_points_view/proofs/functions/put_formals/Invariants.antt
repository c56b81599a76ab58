use Rattle.std.proofs.Common.{◌≡◌, drop}
use Rattle.cc_points_view.specs.Functions.{with_formals}
use Rattle.cc_points_view.proofs.functions.put_formals.Given as goal

abbrev pub invariant-loop-v : goal.invariant-loop-v
invariant-loop-v l = with_formals l.parts (drop l.v-index l.formals) l.lists ≡ with_formals l.parts l.formals l.initial.lists
