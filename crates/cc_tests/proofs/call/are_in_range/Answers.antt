use Rattle.std.proofs.Common.{◌∙◌, drop}
use Rattle.cc_tests.proofs.Ranges.{none_left}
use Rattle.cc_tests.proofs.call.are_in_range.Goals as goal

-- src/call.rt:17:13
pub returns-in_default : goal.returns-in_default
returns-in_default c = none_left c.args.program.now c.loop-number.others.now (drop c.loop-number.number-index c.args.args.now) c.in_default.len_below ∙ c.loop-number.invariant
