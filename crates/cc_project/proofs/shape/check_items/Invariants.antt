use Rattle.std.proofs.Common.{◌≡◌, drop}
use Rattle.cc_project.specs.Keys.{field_text}
use Rattle.cc_project.specs.Order.{at_each, first_failing}
use Rattle.cc_project.specs.Views.{all_data, test_of}
use Rattle.cc_project.proofs.shape.check_items.Given as goal

abbrev pub invariant-loop-k : goal.invariant-loop-k
invariant-loop-k l =
    first_failing (at_each (field_text l.field) l.rule (test_of l.kind) l.k (all_data (drop l.k l.items)))
    ≡ first_failing (at_each (field_text l.field) l.rule (test_of l.kind) 0 (all_data l.items))
