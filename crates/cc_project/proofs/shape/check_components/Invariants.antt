use Rattle.std.proofs.Common.{◌≡◌, drop, []}
use Rattle.cc_project.specs.Order.{components_rules, first_failing}
use Rattle.cc_project.specs.Views.{all_data}
use Rattle.cc_project.proofs.shape.check_components.Given as goal

abbrev pub invariant-loop-i : goal.invariant-loop-i
invariant-loop-i l = first_failing (components_rules l.i l.names l.files (all_data (drop l.i l.components))) ≡ first_failing (components_rules 0 [] [] (all_data l.components))
