use Rattle.std.proofs.Common.{◌≡◌, ◌++◌, drop, map}
use Rattle.cc_tests.specs.Bound as spec
use Rattle.cc_tests.proofs.bind.bound_tests.Given as goal

abbrev pub invariant-loop-test : goal.invariant-loop-test
invariant-loop-test l = l.list ++ map (spec.bound_test l.program) (drop l.test-index l.tests) ≡ map (spec.bound_test l.program) l.tests
