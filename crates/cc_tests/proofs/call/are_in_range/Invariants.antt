use Rattle.std.proofs.Common.{◌≡◌, drop}
use Rattle.cc_tests.specs.Rules as spec
use Rattle.cc_tests.proofs.call.are_in_range.Given as goal

abbrev pub invariant-loop-number : goal.invariant-loop-number
invariant-loop-number l = spec.are_in_range l.program l.others (drop l.number-index l.args) ≡ spec.are_in_range l.program l.formals l.args
