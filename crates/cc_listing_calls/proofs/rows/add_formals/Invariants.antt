use Rattle.std.proofs.Common.{take}
use Rattle.cc_rows.specs.Gains.{Gains, Each}
use Rattle.cc_listing_calls.specs.Rows.{OfFormal}
use Rattle.cc_listing_calls.proofs.rows.add_formals.Given as goal

abbrev pub invariant-loop-formal : goal.invariant-loop-formal
invariant-loop-formal l = Gains l.initial.rows.items l.rows.items (Each (take l.formal-index l.formals) (OfFormal l.passing l.call l.argument))
