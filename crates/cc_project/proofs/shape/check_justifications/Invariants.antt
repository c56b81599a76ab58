use Rattle.std.proofs.Common.{◌≡◌, drop, []}
use Rattle.cc_project.specs.Order.{justifications_rules, first_failing}
use Rattle.cc_project.specs.Views.{all_data}
use Rattle.cc_project.proofs.shape.check_justifications.Given as goal

abbrev pub invariant-loop-i : goal.invariant-loop-i
invariant-loop-i l =
    first_failing (justifications_rules l.i l.lines (all_data (drop l.i l.items))) ≡ first_failing (justifications_rules 0 [] (all_data l.items))
