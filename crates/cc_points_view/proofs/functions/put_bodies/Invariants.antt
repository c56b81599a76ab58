use Rattle.std.proofs.Common.{◌≡◌, drop}
use Rattle.cc_points_view.specs.Functions.{with_bodies}
use Rattle.cc_points_view.proofs.functions.put_bodies.Given as goal

abbrev pub invariant-loop-function : goal.invariant-loop-function
invariant-loop-function l = record {
  put : with_bodies (drop l.function-index l.functions) l.i l.bodies ≡ with_bodies l.functions 0 l.initial.bodies;
  counted : l.i ≡ l.function-index;
}
