use Rattle.std.proofs.Common.{◌≡◌, drop}
use Rattle.cc_points_view.specs.Functions.{with_functions}
use Rattle.cc_points_view.proofs.functions.put_functions.Given as goal

abbrev pub invariant-loop-function : goal.invariant-loop-function
invariant-loop-function l = with_functions l.parts (drop l.function-index l.functions) l.tables ≡ with_functions l.parts l.functions l.initial.tables
