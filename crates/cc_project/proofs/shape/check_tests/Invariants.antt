use Rattle.std.proofs.Common.{◌≡◌, drop, []}
use Rattle.cc_project.specs.Order.{tests_rules, first_failing}
use Rattle.cc_project.specs.Views.{all_data}
use Rattle.cc_project.proofs.shape.check_tests.Given as goal

abbrev pub invariant-loop-i : goal.invariant-loop-i
invariant-loop-i l = first_failing (tests_rules l.i l.names (all_data (drop l.i l.tests))) ≡ first_failing (tests_rules 0 [] (all_data l.tests))
