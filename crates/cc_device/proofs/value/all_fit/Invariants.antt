use Rattle.std.proofs.Common.{◌≡◌, length}
use Rattle.std.specs.List.{list_all}
use Rattle.cc_project.specs.Views.{all_data}
use Rattle.cc_device.specs.Views.{test_of}
use Rattle.cc_device.proofs.value.all_fit.Given as goal

abbrev pub invariant-loop-values : goal.invariant-loop-values
invariant-loop-values l = list_all (test_of l.kind) (all_data l.values) ≡ list_all (test_of l.kind) (all_data l.initial.values)

abbrev pub decreases-loop-values : goal.decreases-loop-values
decreases-loop-values l = length l.values
