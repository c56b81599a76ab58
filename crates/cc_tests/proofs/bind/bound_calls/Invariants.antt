use Rattle.std.proofs.Common.{◌≡◌, ◌++◌, drop, map}
use Rattle.cc_tests.specs.Bound as spec
use Rattle.cc_tests.proofs.bind.bound_calls.Given as goal

abbrev pub invariant-loop-call : goal.invariant-loop-call
invariant-loop-call l = l.list ++ map (spec.bound_call l.program) (drop l.call-index l.calls) ≡ map (spec.bound_call l.program) l.calls
