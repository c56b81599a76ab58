use Rattle.std.proofs.Common.{◌≡◌, length}
use Rattle.std.specs.List.{list_all}
use Rattle.cc_project.specs.Views.{all_data}
use Rattle.cc_project.specs.Values.{is_integer}
use Rattle.cc_project.proofs.value.are_integers.Given as goal

abbrev pub invariant-loop-values : goal.invariant-loop-values
invariant-loop-values l = list_all is_integer (all_data l.values) ≡ list_all is_integer (all_data l.initial.values)

abbrev pub decreases-loop-values : goal.decreases-loop-values
decreases-loop-values l = length l.values
