use Rattle.std.proofs.Common.{take}
use Rattle.cc_rows.specs.Gains.{Gains, Each}
use Rattle.cc_listing_calls.specs.Rows.{OfArgument}
use Rattle.cc_listing_calls.proofs.rows.add_arguments.Given as goal

abbrev pub invariant-loop-argument : goal.invariant-loop-argument
invariant-loop-argument l = Gains l.initial.rows.items l.rows.items (Each (take l.argument-index l.arguments) (OfArgument l.passing l.call))
